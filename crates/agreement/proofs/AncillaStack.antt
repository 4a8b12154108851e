-- The emission takes its ancillas like a stack: each ancilla taken is the next wire, and giving back returns to an earlier next wire. So the
-- ancillas in use are always those from n + 1 to below the next wire, and the highest wire taken is n plus the most ancillas in use.
use mathlib.Core.Path.{◌≡◌, refl, sym, ap, ◌∙◌, subst}
use mathlib.Core.Logic.{◌⊎◌, inl, inr}
use mathlib.Core.Bool.{Bool, true, false}
use mathlib.Core.List.{List, [], ◌∷◌, ◌++◌, map, reverse, reverse-cons}
use Prim.Native.Nat.{ℕ, zero, suc, ◌+◌, ◌-◌, ◌≤◌, ◌<◌, max}
use native.Mathlib.Nat.{not-suc-le-zero}
use native.Mathlib.Omega.{arith}
use borrow.Author.Tests.{lt-ltb, le-ltb}
use lib.ListN.{length, length-append}
use lib.Dec.{eqb}
use Rattle.model.specs.Syntax.{Statement, skip, NOT, sequence, if, qcase, call, Program, count, body}
use Rattle.model.specs.Lists.{qubits, remaining, touched, holds}
use Rattle.model.specs.Reach.{recursive}
use Rattle.model.specs.Gates.{Controls, no_controls, with_control, flip, exchange}
use Rattle.model.specs.Emission.{
  Event,
  takes,
  places,
  frees,
  Chains,
  start_chain,
  whole,
  Invocation,
  invocation,
  invoked,
  is_wide,
  invocations,
  invokes,
  returns,
  left,
  right,
  under,
  swaps,
  entry_gates,
  all_entry_gates,
  Key,
  keys,
  calls_to,
  Emitted,
  body_invocations,
  around,
  shared,
  bodies,
  bodies_from,
  chains_within,
  emission,
  below,
  in_use,
  peak,
}
use Rattle.model.proofs.BooleanLaws.{by_bool, by_lt}
use Rattle.agreement.proofs.EmissionClauses.{
  whole_yes,
  whole_no,
  invocations_wide,
  invocations_thin,
  invocations_yes,
  invocations_no,
  invocations_recursive,
  invocations_other,
  left_wide,
  left_thin,
  left_yes,
  left_no,
  left_recursive,
  left_other,
  right_wide,
  right_thin,
  right_yes,
  right_no,
  right_recursive,
  right_other,
}

module _ (n : ℕ) where
  -- the events take and give back ancillas above n like a stack, from next wire a to next wire b
  abbrev pub Stacked : ℕ → List Event → ℕ → Type 0
  Stacked a [] b = a ≡ b
  Stacked a (takes w ∷ es) b = (w ≡ a) × Stacked (suc a) es b
  Stacked a (places g ∷ es) b = Stacked a es b
  Stacked a (frees c ∷ es) b = (n < c) × (c ≤ a) × Stacked c es b

  -- events one after the other
  stacked_append : (a b c : ℕ) (xs ys : List Event) → Stacked a xs b → Stacked b ys c → Stacked a (xs ++ ys) c
  stacked_append a b c [] ys x y = subst (λ (v : ℕ). Stacked v ys c) (sym x) y
  stacked_append a b c (takes w ∷ xs) ys x y = (x.0, stacked_append (suc a) b c xs ys x.1 y)
  stacked_append a b c (places g ∷ xs) ys x y = stacked_append a b c xs ys x y
  stacked_append a b c (frees d ∷ xs) ys x y = (x.0, x.1, stacked_append d b c xs ys x.2 y)

  -- from next wire a the events rise to some next wire
  pub record Rises (a : ℕ) (es : List Event) : Type 0 where
    pub top : ℕ
    pub over : a ≤ top
    pub runs : Stacked a es top

  -- every chain takes its ancillas like a stack, from the wire behind the ancilla that it starts with
  abbrev pub StackedChains : Chains → Type 0
  StackedChains chains = (f : ℕ) (l : List ℕ) (a : ℕ) → n < a → Rises (suc a) (chains f l a)

  module _ (chains : Chains) (C : StackedChains chains) where
    start_chain_stacked : (f : ℕ) (l : List ℕ) (cs : Controls) (next : ℕ) → n < next → Stacked next (start_chain chains f l cs next) next
    unfolding start_chain
    start_chain_stacked f [] cs next h = refl
    start_chain_stacked f (q ∷ l) cs next h =
        let R = C f (q ∷ l) next h in
        let o = R.over in (
          refl,
          stacked_append (suc next) R.top next (chains f (q ∷ l) next) (places (flip cs next) ∷ frees next ∷ []) R.runs
              (h, omega arith, refl),
        )

    -- a statement emitted whole gives back all that it takes
    pub whole_stacked : (s : Statement) (l : List ℕ) (cs : Controls) (next : ℕ) → n < next → Stacked next (whole chains s l cs next) next
    unfolding whole
    whole_stacked skip l cs next h = refl
    whole_stacked (NOT rs a) l cs next h = refl
    whole_stacked (sequence s t) l cs next h =
        stacked_append next next next (whole chains s l cs next) (whole chains t l cs next) (whole_stacked s l cs next h) (whole_stacked t l cs next h)
    whole_stacked (if c s t) l cs next h = by_bool (holds c l)
        (λ e. rw (whole_yes chains l cs next c s t e) (whole_stacked s l cs next h))
        (λ e. rw (whole_no chains l cs next c s t e) (whole_stacked t l cs next h))
    whole_stacked (qcase rs a s t) l cs next h =
        let zero_side = with_control (touched rs a l) false cs in
        let one_side = with_control (touched rs a l) true cs in
        stacked_append next next next (whole chains s l zero_side next) (whole chains t l one_side next)
        (whole_stacked s l zero_side next h) (whole_stacked t l one_side next h)
    whole_stacked (call rs f) l cs next h = start_chain_stacked f (remaining rs l) cs next h

    invokes_stacked : (f : ℕ) (l : List ℕ) (cs : Controls) (next : ℕ) → Stacked next (invokes l cs next) (next + length (invoked f l next))
    unfolding invokes invoked
    invokes_stacked f [] cs next = omega arith
    invokes_stacked f (q ∷ l) cs next = (refl, omega arith)

    -- the left part of a body takes one ancilla for each of its invocations
    pub left_stacked : (r : ℕ → Bool) (s : Statement) (l : List ℕ) (cs : Controls) (next : ℕ) → n < next →
        Stacked next (left chains r s l cs next) (next + length (invocations r s l next))
    unfolding left invocations
    left_stacked r skip l cs next h = omega arith
    left_stacked r (NOT rs a) l cs next h = omega arith
    left_stacked r (sequence s t) l cs next h = by_bool (is_wide r s)
        (λ e. rw (left_wide chains r l cs next s t e, invocations_wide r l next s t e) (left_stacked r s l cs next h))
        (λ e. rw (left_thin chains r l cs next s t e, invocations_thin r l next s t e)
        (stacked_append next next (next + length (invocations r t l next)) (whole chains s l cs next) (left chains r t l cs next)
        (whole_stacked s l cs next h) (left_stacked r t l cs next h)))
    left_stacked r (if c s t) l cs next h = by_bool (holds c l)
        (λ e. rw (left_yes chains r l cs next c s t e, invocations_yes r l next c s t e) (left_stacked r s l cs next h))
        (λ e. rw (left_no chains r l cs next c s t e, invocations_no r l next c s t e) (left_stacked r t l cs next h))
    left_stacked r (qcase rs a s t) l cs next h =
        let m = next + length (invocations r s l next) in
        let zero_side = with_control (touched rs a l) false cs in
        let one_side = with_control (touched rs a l) true cs in
        let k = length (invocations r t l m) in
        let e : next + length (invocations r s l next ++ invocations r t l m) ≡ m + k = rw length-append (omega arith) in
        rw e (stacked_append next m (m + k) (left chains r s l zero_side next) (left chains r t l one_side m)
        (left_stacked r s l zero_side next h) (left_stacked r t l one_side m (omega arith)))
    left_stacked r (call rs f) l cs next h = by_bool (r f)
        (λ e. rw (left_recursive chains r l cs next rs f e, invocations_recursive r l next rs f e) (invokes_stacked f (remaining rs l) cs next))
        (λ e. rw (left_other chains r l cs next rs f e, invocations_other r l next rs f e)
        (subst (λ (v : ℕ). Stacked next (start_chain chains f (remaining rs l) cs next) v) (none next)
        (start_chain_stacked f (remaining rs l) cs next h)))
      where
        none : (next : ℕ) → next ≡ next + 0
        none next = omega arith

    returns_stacked : (l : List ℕ) (cs : Controls) (a top : ℕ) → Stacked top (returns l cs a) top
    unfolding returns
    returns_stacked [] cs a top = refl
    returns_stacked (q ∷ l) cs a top = refl

    -- the right part of a body gives back all that it takes, from `top` on
    pub right_stacked : (r : ℕ → Bool) (s : Statement) (l : List ℕ) (cs : Controls) (next top : ℕ) → n < top →
        Stacked top (right chains r s l cs next top) top
    unfolding right
    right_stacked r skip l cs next top h = refl
    right_stacked r (NOT rs a) l cs next top h = refl
    right_stacked r (sequence s t) l cs next top h = by_bool (is_wide r s)
        (λ e. rw (right_wide chains r l cs next s t top e) (stacked_append top top top (right chains r s l cs next top) (whole chains t l cs top)
        (right_stacked r s l cs next top h) (whole_stacked t l cs top h)))
        (λ e. rw (right_thin chains r l cs next s t top e) (right_stacked r t l cs next top h))
    right_stacked r (if c s t) l cs next top h = by_bool (holds c l)
        (λ e. rw (right_yes chains r l cs next c s t top e) (right_stacked r s l cs next top h))
        (λ e. rw (right_no chains r l cs next c s t top e) (right_stacked r t l cs next top h))
    right_stacked r (qcase rs a s t) l cs next top h =
        let m = next + length (invocations r s l next) in
        let zero_side = with_control (touched rs a l) false cs in
        let one_side = with_control (touched rs a l) true cs in
        stacked_append top top top (right chains r t l one_side m top) (right chains r s l zero_side next top)
        (right_stacked r t l one_side m top h) (right_stacked r s l zero_side next top h)
    right_stacked r (call rs f) l cs next top h = by_bool (r f)
        (λ e. rw (right_recursive chains r l cs next rs f top e) (returns_stacked (remaining rs l) cs next top))
        (λ e. rw (right_other chains r l cs next rs f top e) refl)

-- events that only place gates
abbrev pub OnlyGates : List Event → Type 0
OnlyGates [] = Unit {0}
OnlyGates (takes w ∷ es) = ⊥
OnlyGates (places g ∷ es) = OnlyGates es
OnlyGates (frees a ∷ es) = ⊥

only_append : (xs ys : List Event) → OnlyGates xs → OnlyGates ys → OnlyGates (xs ++ ys)
only_append [] ys x y = y
only_append (takes w ∷ xs) ys x y = x
only_append (places g ∷ xs) ys x y = only_append xs ys x y
only_append (frees a ∷ xs) ys x y = x

pub only_reverse : (es : List Event) → OnlyGates es → OnlyGates (reverse es)
only_reverse [] x = tt
only_reverse (takes w ∷ es) x = absurd x
only_reverse (places g ∷ es) x = rw (reverse-cons (places g) es) (only_append (reverse es) (places g ∷ []) (only_reverse es x) tt)
only_reverse (frees a ∷ es) x = absurd x

only_stacked : (n a : ℕ) (es : List Event) → OnlyGates es → Stacked n a es a
only_stacked n a [] x = refl
only_stacked n a (takes w ∷ es) x = absurd x
only_stacked n a (places g ∷ es) x = only_stacked n a es x
only_stacked n a (frees b ∷ es) x = absurd x

swaps_only : (e : ℕ) (ks ws : List ℕ) → OnlyGates (swaps e ks ws)
unfolding swaps
swaps_only e [] ws = tt
swaps_only e (k ∷ ks) [] = tt
swaps_only e (k ∷ ks) (w ∷ ws) = by_bool (eqb w k)
    (λ q. rw (q, swaps) (swaps_only e ks ws))
    (λ q. rw (q, swaps) (swaps_only e ks (map (exchange w k) ws)))

pub entries_only : (d : Invocation) (later : List Invocation) → OnlyGates (all_entry_gates d later)
unfolding all_entry_gates entry_gates
entries_only d [] = tt
entries_only d (e ∷ later) =
    only_append (entry_gates d e) (all_entry_gates d later) (swaps_only e.ancilla d.list e.list) (entries_only d later)

module _ (n : ℕ) (P : Program) (chains : Chains) (C : StackedChains n chains) where
  -- what is emitted rises from one next wire to the other
  abbrev pub RisesTo : ℕ → Emitted → Type 0
  RisesTo next out = Stacked n next out.events out.next × (next ≤ out.next)

  -- so does all that emits bodies
  abbrev pub AllRise : (List Invocation → ℕ → Emitted) → Type 0
  AllRise shorter = (all : List Invocation) (next : ℕ) → n < next → RisesTo next (shorter all next)

  around_stacked : (d : Invocation) (later : List Invocation) (next : ℕ) (inner : Emitted) → n < next →
      RisesTo (next + length (body_invocations P chains d next)) inner → RisesTo next (around P chains d later next inner)
  unfolding around
  around_stacked d later next inner h i =
      let b = next + length (body_invocations P chains d next) in
      let t = inner.next in
      let up : b ≤ t = i.1 in
      let r = recursive P d.procedure in
      let s = body P d.procedure in
      let E = all_entry_gates d later in
      let L = left chains r s d.list (under d.ancilla) next in
      let R = right chains r s d.list (under d.ancilla) next t in
      let only = entries_only d later in (
        stacked_append n next next t E (L ++ (inner.events ++ (R ++ reverse E))) (only_stacked n next E only)
            (stacked_append n next b t L (inner.events ++ (R ++ reverse E)) (left_stacked n chains C r s d.list (under d.ancilla) next h)
            (stacked_append n b t t inner.events (R ++ reverse E) i.0
            (stacked_append n t t t R (reverse E) (right_stacked n chains C r s d.list (under d.ancilla) next t (omega arith))
            (only_stacked n t (reverse E) (only_reverse E only))))),
        omega arith,
      )

  -- a body that calls share, around those that follow
  shared_stacked : (C : List Invocation) (following : List Invocation → ℕ → Emitted) → AllRise following → AllRise (shared P chains C following)
  unfolding shared
  shared_stacked [] following A all next h = A all next h
  shared_stacked (d ∷ later) following A all next h =
      let new = body_invocations P chains d next in
      around_stacked d later next (following (all ++ new) (next + length new)) h (A (all ++ new) (next + length new) (omega arith))

  -- the bodies of one list length, around those of shorter lists
  pub bodies_stacked : (m : ℕ) (shorter : List Invocation → ℕ → Emitted) → AllRise shorter →
      (ks : List Key) (calls : List Invocation) → AllRise (bodies P chains m shorter ks calls)
  unfolding bodies
  bodies_stacked m shorter A [] calls = A
  bodies_stacked m shorter A (k ∷ ks) calls =
      shared_stacked (calls_to m k calls) (bodies P chains m shorter ks calls) (bodies_stacked m shorter A ks calls)

  -- all bodies of a chain, the longest list first
  pub bodies_from_stacked : (m : ℕ) → AllRise (bodies_from P chains m)
  unfolding bodies_from
  bodies_from_stacked zero all next h = (refl, omega arith)
  bodies_from_stacked (suc m) all next h =
      bodies_stacked (suc m) (bodies_from P chains m) (bodies_from_stacked m) (keys (suc m) all) all all next h

-- chains within chains
pub chains_stacked : (n : ℕ) (P : Program) (k : ℕ) → StackedChains n (chains_within P k)
unfolding chains_within
chains_stacked n P zero f l a h = record { top = suc a; over = omega arith; runs = refl }
chains_stacked n P (suc k) f l a h =
    let out = bodies_from P (chains_within P k) (length l) (invocation f l a ∷ []) (suc a) in
    let R = bodies_from_stacked n P (chains_within P k) (chains_stacked n P k) (length l) (invocation f l a ∷ []) (suc a) (omega arith) in
    record { top = out.next; over = R.1; runs = R.0 }

-- the emission takes its ancillas like a stack, from wire n + 1 on, and gives them all back
pub emission_stacked : (P : Program) (n : ℕ) → Stacked n (suc n) (emission P n) (suc n)
unfolding emission
emission_stacked P n =
    whole_stacked n (chains_within P (count P)) (chains_stacked n P (count P)) P.main (qubits n) no_controls (suc n) (omega arith)

emission_from : (P : Program) (n : ℕ) → Stacked n (suc (n + 0)) (emission P n) (suc n)
emission_from P n = let z : suc n ≡ suc (n + 0) = omega arith in subst (λ (v : ℕ). Stacked n v (emission P n) (suc n)) z (emission_stacked P n)

-- the largest wire taken, n if none
unfoldable pub highest : ℕ → List Event → ℕ
highest n [] = n
highest n (takes w ∷ es) = max w (highest n es)
highest n (places g ∷ es) = highest n es
highest n (frees a ∷ es) = highest n es

-- the k ancillas n + k down to n + 1
unfoldable pub ancillas_from : ℕ → ℕ → List ℕ
ancillas_from n zero = []
ancillas_from n (suc k) = suc (n + k) ∷ ancillas_from n k

ancillas_length : (n k : ℕ) → length (ancillas_from n k) ≡ k
unfolding ancillas_from
ancillas_length n zero = refl
ancillas_length n (suc k) = rw (ancillas_length n k)

ancillas_stay : (n k a : ℕ) → n + k < a → below a (ancillas_from n k) ≡ ancillas_from n k
unfolding ancillas_from below
ancillas_stay n zero a h = refl
ancillas_stay n (suc k) a h = rw (lt-ltb (suc (n + k)) a (omega arith), below) (ap (λ l. suc (n + k) ∷ l) (ancillas_stay n k a (omega arith)))

-- giving back from n + j + 1 on leaves the first j
ancillas_below : (n k j : ℕ) → j ≤ k → below (suc (n + j)) (ancillas_from n k) ≡ ancillas_from n j
unfolding ancillas_from below
ancillas_below n zero zero h = refl
ancillas_below n zero (suc j) h = absurd (not-suc-le-zero h)
ancillas_below n (suc k) j h = by_lt k j
    (λ lt. let e : j ≡ suc k = omega arith in rw e (ancillas_stay n (suc k) (suc (n + suc k)) (omega arith)))
    (λ ge. rw (le-ltb (suc (n + k)) (suc (n + j)) (omega arith), below) (ancillas_below n k j ge))

-- an event on k ancillas in use: the next one is taken, or all from one on are given back
module _ (n k : ℕ) where
  takes_used : (w : ℕ) → w ≡ suc (n + k) → w ∷ ancillas_from n k ≡ ancillas_from n (suc k)
  unfolding ancillas_from
  takes_used w e = rw e

  frees_used : (c : ℕ) → n < c → c ≤ suc (n + k) → below c (ancillas_from n k) ≡ ancillas_from n (c - suc n)
  frees_used c lo hi =
      let j = c - suc n in
      let e : c ≡ suc (n + j) = omega arith in
      subst (λ (v : ℕ). below v (ancillas_from n k) ≡ ancillas_from n j) (sym e) (ancillas_below n k j (omega arith))

module _ (n k b : ℕ) (es : List Event) where
  takes_next : Stacked n (suc (suc (n + k))) es b → Stacked n (suc (n + suc k)) es b
  takes_next x = let e : suc (suc (n + k)) ≡ suc (n + suc k) = omega arith in subst (λ (v : ℕ). Stacked n v es b) e x

  frees_next : (c : ℕ) → n < c → Stacked n c es b → Stacked n (suc (n + (c - suc n))) es b
  frees_next c lo x = let e : c ≡ suc (n + (c - suc n)) = omega arith in subst (λ (v : ℕ). Stacked n v es b) e x

-- the ancillas in use after some events
unfoldable pub used_after : List Event → List ℕ → List ℕ
used_after [] used = used
used_after (e ∷ es) used = used_after es (in_use e used)

-- the ancillas in use are always those from n + 1 to below the next wire
stacked_used : (n k b : ℕ) (es : List Event) → Stacked n (suc (n + k)) es b → used_after es (ancillas_from n k) ≡ ancillas_from n (b - suc n)
unfolding used_after in_use
stacked_used n k b [] x = let e : k ≡ b - suc n = omega arith in ap (ancillas_from n) e
stacked_used n k b (takes w ∷ es) x = rw (takes_used n k w x.0) (stacked_used n (suc k) b es (takes_next n k b es x.1))
stacked_used n k b (places g ∷ es) x = stacked_used n k b es x
stacked_used n k b (frees c ∷ es) x =
    rw (frees_used n k c x.0 x.1) (stacked_used n (c - suc n) b es (frees_next n k b es c x.0 x.2))

-- the emission gives back all that it takes
pub emission_returns : (P : Program) (n : ℕ) → used_after (emission P n) [] ≡ []
unfolding ancillas_from
emission_returns P n =
    let z : suc n - suc n ≡ 0 = omega arith in
    stacked_used n 0 (suc n) (emission P n) (emission_from P n) ∙ ap (ancillas_from n) z

-- with k ancillas in use: n plus the most in use from here on is the highest wire in use or taken
stacked_peak : (n k b : ℕ) (es : List Event) → Stacked n (suc (n + k)) es b → n + peak (ancillas_from n k) es ≡ max (n + k) (highest n es)
unfolding peak in_use highest
stacked_peak n k b [] x = rw (ancillas_length n k) (omega arith)
stacked_peak n k b (takes w ∷ es) x =
    let e : w ≡ suc (n + k) = x.0 in
    let ih = stacked_peak n (suc k) b es (takes_next n k b es x.1) in
    rw (ancillas_length n k, takes_used n k w e) (omega arith)
stacked_peak n k b (places g ∷ es) x = let ih = stacked_peak n k b es x in rw (ancillas_length n k) (omega arith)
stacked_peak n k b (frees c ∷ es) x =
    let lo : n < c = x.0 in
    let hi : c ≤ suc (n + k) = x.1 in
    let ih = stacked_peak n (c - suc n) b es (frees_next n k b es c lo x.2) in
    rw (ancillas_length n k, frees_used n k c lo hi) (omega arith)

highest_over : (n : ℕ) (es : List Event) → n ≤ highest n es
unfolding highest
highest_over n [] = omega arith
highest_over n (takes w ∷ es) = let ih = highest_over n es in omega arith
highest_over n (places g ∷ es) = highest_over n es
highest_over n (frees a ∷ es) = highest_over n es

-- n plus the most ancillas in use is the highest wire taken, n if none
pub peak_highest : (P : Program) (n : ℕ) → n + peak [] (emission P n) ≡ highest n (emission P n)
unfolding ancillas_from
peak_highest P n =
    let o = highest_over n (emission P n) in
    let e = stacked_peak n 0 (suc n) (emission P n) (emission_from P n) in
    omega arith

-- w is one of the wires that the events take
abbrev pub Taken : ℕ → List Event → Type 0
Taken w [] = ⊥
Taken w (takes v ∷ es) = (w ≡ v) ⊎ Taken w es
Taken w (places g ∷ es) = Taken w es
Taken w (frees a ∷ es) = Taken w es

-- what the first part of the events takes, the whole takes
pub taken_left : (w : ℕ) (xs ys : List Event) → Taken w xs → Taken w (xs ++ ys)
taken_left w [] ys t = absurd t
taken_left w (takes v ∷ xs) ys (inl e) = inl e
taken_left w (takes v ∷ xs) ys (inr t) = inr (taken_left w xs ys t)
taken_left w (places g ∷ xs) ys t = taken_left w xs ys t
taken_left w (frees a ∷ xs) ys t = taken_left w xs ys t

-- and what the second part takes
pub taken_right : (w : ℕ) (xs ys : List Event) → Taken w ys → Taken w (xs ++ ys)
taken_right w [] ys t = t
taken_right w (takes v ∷ xs) ys t = inr (taken_right w xs ys t)
taken_right w (places g ∷ xs) ys t = taken_right w xs ys t
taken_right w (frees a ∷ xs) ys t = taken_right w xs ys t

-- no wire taken lies above `most`
abbrev pub TakenTo : ℕ → List Event → Type 0
TakenTo most es = (w : ℕ) → Taken w es → w ≤ most

-- then the next wire is at most the one behind
pub stacked_to : (n most a b : ℕ) (es : List Event) → Stacked n a es b → a ≤ suc most → TakenTo most es → b ≤ suc most
stacked_to n most a b [] x h t = rw (sym x) h
stacked_to n most a b (takes w ∷ es) x h t =
    let e : w ≡ a = x.0 in
    let le = t w (inl refl) in
    stacked_to n most (suc a) b es x.1 (omega arith) (λ v m. t v (inr m))
stacked_to n most a b (places g ∷ es) x h t = stacked_to n most a b es x h t
stacked_to n most a b (frees c ∷ es) x h t = let le : c ≤ a = x.1 in stacked_to n most c b es x.2 (omega arith) t

taken_above : (n a b : ℕ) (es : List Event) → n < a → Stacked n a es b → (w : ℕ) → Taken w es → n < w
taken_above n a b [] h x w t = absurd t
taken_above n a b (takes v ∷ es) h x w (inl e) = rw (e, x.0) h
taken_above n a b (takes v ∷ es) h x w (inr t) = taken_above n (suc a) b es (omega arith) x.1 w t
taken_above n a b (places g ∷ es) h x w t = taken_above n a b es h x w t
taken_above n a b (frees c ∷ es) h x w t = taken_above n c b es x.0 x.2 w t

taken_highest : (n w : ℕ) (es : List Event) → Taken w es → w ≤ highest n es
unfolding highest
taken_highest n w [] t = absurd t
taken_highest n w (takes v ∷ es) (inl e) = omega arith
taken_highest n w (takes v ∷ es) (inr t) = let ih = taken_highest n w es t in omega arith
taken_highest n w (places g ∷ es) t = taken_highest n w es t
taken_highest n w (frees a ∷ es) t = taken_highest n w es t

-- every wire taken is one of the circuit's ancillas: n + 1 to n plus the most in use
pub taken_wires : (P : Program) (n w : ℕ) → Taken w (emission P n) → (n < w) × (w ≤ n + peak [] (emission P n))
taken_wires P n w t =
    let e = peak_highest P n in
    let h = taken_highest n w (emission P n) t in
    (taken_above n (suc n) (suc n) (emission P n) (omega arith) (emission_stacked P n) w t, omega arith)
