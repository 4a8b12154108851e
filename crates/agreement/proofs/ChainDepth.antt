-- The emission follows chains inside chains deep enough: more depth changes nothing. Where refusal 11 has passed, no recursive call starts a chain,
-- for what stands behind the width-1 part of a body has width 0. So rank falls from a chain to each chain inside it, and a procedure's rank is at
-- most p. Refusal 10 plays no part in this: within one chain the bodies come by falling length.
use mathlib.Core.Path.{◌≡◌, refl, ap}
use mathlib.Core.Bool.{Bool, true, false}
use mathlib.Core.List.{List, [], ◌∷◌, ◌++◌}
use Prim.Native.Nat.{ℕ, zero, suc, ◌+◌, ◌≤◌, ◌<◌}
use native.Mathlib.Omega.{arith}
use lib.ListN.{length}
use Rattle.model.specs.Syntax.{Statement, skip, NOT, sequence, if, qcase, call, Program, count, body}
use Rattle.model.specs.Lists.{qubits, remaining, touched, holds}
use Rattle.model.specs.Reach.{recursive, width, any_too_wide}
use Rattle.model.specs.Gates.{Controls, no_controls, with_control}
use Rattle.model.specs.Emission.{Chains, start_chain, whole, Invocation, invocation, invoked, is_wide, invocations, left, right, under, Key, keys, calls_to}
use Rattle.model.specs.Emission.{Emitted, body_invocations, around, shared, bodies, bodies_from, chains_within, emission}
use Rattle.model.proofs.BooleanLaws.{by_bool, not_zero}
use Rattle.model.proofs.ReachAndRank.{Named, reach_call, rank, rank_positive, rank_most, rank_reach, rank_falls, all_narrow}
use Rattle.agreement.proofs.InvocationsOfABody.{AllOf, all_append}
use Rattle.agreement.proofs.KeysOfALength.{calls_keep}
use Rattle.agreement.proofs.EmissionClauses.{whole_yes, whole_no, invocations_wide, invocations_thin, invocations_yes, invocations_no}
use Rattle.agreement.proofs.EmissionClauses.{invocations_recursive, invocations_other, left_wide, left_thin, left_yes, left_no, left_recursive}
use Rattle.agreement.proofs.EmissionClauses.{left_other, right_wide, right_thin, right_yes, right_no, width_sequence}
use Rattle.agreement.proofs.EmissionClauses.{width_if, width_qcase, thin_width, wide_width}
use Rattle.agreement.proofs.ClassesOnALine.{Each, each_call}

-- two accounts of chains agree on the procedures of which Q holds
abbrev Agree : (ℕ → Type 0) → Chains → Chains → Type 0
Agree Q chains chains' = (f : ℕ) (l : List ℕ) (a : ℕ) → Q f → chains f l a ≡ chains' f l a

-- Q holds of the procedure of every call that is not recursive
abbrev Others : (ℕ → Type 0) → (ℕ → Bool) → Statement → Type 0
Others Q r s = Each (λ f. r f ≡ false → Q f) s

-- in a part of width 0 no call is recursive, so Q holds of all
thin_others : (Q : ℕ → Type 0) (r : ℕ → Bool) (s : Statement) → Others Q r s → width r s ≡ 0 → Each Q s
unfolding width
thin_others Q r skip o h = tt
thin_others Q r (NOT rs a) o h = tt
thin_others Q r (sequence s t) o h = (thin_others Q r s o.0 (omega arith), thin_others Q r t o.1 (omega arith))
thin_others Q r (if c s t) o h = (thin_others Q r s o.0 (omega arith), thin_others Q r t o.1 (omega arith))
thin_others Q r (qcase rs a s t) o h = (thin_others Q r s o.0 (omega arith), thin_others Q r t o.1 (omega arith))
thin_others Q r (call rs f) o h = by_bool (r f) (λ e. absurd (not_zero 0 (rw (e, width) at h))) o

-- where two accounts of chains agree on the procedures that start them, what is emitted is the same
module _ (Q : ℕ → Type 0) (chains chains' : Chains) (A : Agree Q chains chains') where
  -- a call that starts a chain
  start_agree : (f : ℕ) (l : List ℕ) (cs : Controls) (next : ℕ) → Q f → start_chain chains f l cs next ≡ start_chain chains' f l cs next
  unfolding start_chain
  start_agree f [] cs next q = refl
  start_agree f (x ∷ l) cs next q = rw (A f (x ∷ l) next q)

  -- a statement emitted whole: each of its calls starts a chain
  whole_agree : (s : Statement) (l : List ℕ) (cs : Controls) (next : ℕ) → Each Q s → whole chains s l cs next ≡ whole chains' s l cs next
  unfolding whole
  whole_agree skip l cs next q = refl
  whole_agree (NOT rs a) l cs next q = refl
  whole_agree (sequence s t) l cs next q = rw (whole_agree s l cs next q.0, whole_agree t l cs next q.1)
  whole_agree (if c s t) l cs next q = by_bool (holds c l)
      (λ e. rw (whole_yes chains l cs next c s t e, whole_yes chains' l cs next c s t e) (whole_agree s l cs next q.0))
      (λ e. rw (whole_no chains l cs next c s t e, whole_no chains' l cs next c s t e) (whole_agree t l cs next q.1))
  whole_agree (qcase rs a s t) l cs next q =
      rw (whole_agree s l (with_control (touched rs a l) false cs) next q.0, whole_agree t l (with_control (touched rs a l) true cs) next q.1)
  whole_agree (call rs f) l cs next q = start_agree f (remaining rs l) cs next q

  -- the parts of a body: its recursive calls start no chain
  module _ (r : ℕ → Bool) where
    left_agree : (s : Statement) (l : List ℕ) (cs : Controls) (next : ℕ) → Others Q r s → left chains r s l cs next ≡ left chains' r s l cs next
    unfolding left
    left_agree skip l cs next o = refl
    left_agree (NOT rs a) l cs next o = refl
    left_agree (sequence s t) l cs next o = by_bool (is_wide r s)
        (λ e. rw (left_wide chains r l cs next s t e, left_wide chains' r l cs next s t e) (left_agree s l cs next o.0))
        (λ e. rw (
          left_thin chains r l cs next s t e,
          left_thin chains' r l cs next s t e,
          whole_agree s l cs next (thin_others Q r s o.0 (thin_width r s e)),
          left_agree t l cs next o.1,
        ))
    left_agree (if c s t) l cs next o = by_bool (holds c l)
        (λ e. rw (left_yes chains r l cs next c s t e, left_yes chains' r l cs next c s t e) (left_agree s l cs next o.0))
        (λ e. rw (left_no chains r l cs next c s t e, left_no chains' r l cs next c s t e) (left_agree t l cs next o.1))
    left_agree (qcase rs a s t) l cs next o =
        rw (
          left_agree s l (with_control (touched rs a l) false cs) next o.0,
          left_agree t l (with_control (touched rs a l) true cs) (next + length (invocations r s l next)) o.1,
        )
    left_agree (call rs f) l cs next o = by_bool (r f)
        (λ e. rw (left_recursive chains r l cs next rs f e, left_recursive chains' r l cs next rs f e))
        (λ e. rw (left_other chains r l cs next rs f e, left_other chains' r l cs next rs f e) (start_agree f (remaining rs l) cs next (o e)))

    -- the right part, at width 1: what stands behind a wide part has no recursive call
    right_agree : (s : Statement) (l : List ℕ) (cs : Controls) (next top : ℕ) → Others Q r s → width r s ≤ 1 →
        right chains r s l cs next top ≡ right chains' r s l cs next top
    unfolding right
    right_agree skip l cs next top o w = refl
    right_agree (NOT rs a) l cs next top o w = refl
    right_agree (sequence s t) l cs next top o w =
        let parts = width_sequence r s t w in
        by_bool (is_wide r s)
        (λ e. rw (
          right_wide chains r l cs next s t top e,
          right_wide chains' r l cs next s t top e,
          right_agree s l cs next top o.0 parts.0,
          whole_agree t l cs top (thin_others Q r t o.1 (parts.2 (wide_width r s e))),
        ))
        (λ e. rw (right_thin chains r l cs next s t top e, right_thin chains' r l cs next s t top e) (right_agree t l cs next top o.1 parts.1))
    right_agree (if c s t) l cs next top o w = by_bool (holds c l)
        (λ e. rw (right_yes chains r l cs next c s t top e, right_yes chains' r l cs next c s t top e)
        (right_agree s l cs next top o.0 (width_if r c s t w).0))
        (λ e. rw (right_no chains r l cs next c s t top e, right_no chains' r l cs next c s t top e)
        (right_agree t l cs next top o.1 (width_if r c s t w).1))
    right_agree (qcase rs a s t) l cs next top o w =
        rw (
          right_agree t l (with_control (touched rs a l) true cs) (next + length (invocations r s l next)) top o.1 (width_qcase r rs a s t w).1,
          right_agree s l (with_control (touched rs a l) false cs) next top o.0 (width_qcase r rs a s t w).0,
        )
    right_agree (call rs f) l cs next top o w = refl

-- Q holds of the procedure of every invocation
abbrev Members : (ℕ → Type 0) → List Invocation → Type 0
Members Q = AllOf (λ (d : Invocation). Q d.procedure)

-- a call names its own procedure
invoked_members : (Q : ℕ → Type 0) (f : ℕ) (l : List ℕ) (next : ℕ) → Q f → Members Q (invoked f l next)
unfolding invoked
invoked_members Q f [] next q = tt
invoked_members Q f (x ∷ l) next q = (q, tt)

-- what holds of the procedures that a body calls holds of its invocations
invocations_members : (Q : ℕ → Type 0) (r : ℕ → Bool) (s : Statement) (l : List ℕ) (next : ℕ) → Each Q s → Members Q (invocations r s l next)
unfolding invocations
invocations_members Q r skip l next q = tt
invocations_members Q r (NOT rs a) l next q = tt
invocations_members Q r (sequence s t) l next q = by_bool (is_wide r s)
    (λ e. rw (invocations_wide r l next s t e) (invocations_members Q r s l next q.0))
    (λ e. rw (invocations_thin r l next s t e) (invocations_members Q r t l next q.1))
invocations_members Q r (if c s t) l next q = by_bool (holds c l)
    (λ e. rw (invocations_yes r l next c s t e) (invocations_members Q r s l next q.0))
    (λ e. rw (invocations_no r l next c s t e) (invocations_members Q r t l next q.1))
invocations_members Q r (qcase rs a s t) l next q =
    let m = next + length (invocations r s l next) in
    all_append (λ (d : Invocation). Q d.procedure) (invocations r s l next) (invocations r t l m) (invocations_members Q r s l next q.0) (invocations_members Q r t l m q.1)
invocations_members Q r (call rs f) l next q = by_bool (r f)
    (λ e. rw (invocations_recursive r l next rs f e) (invoked_members Q f (remaining rs l) next q))
    (λ e. rw (invocations_other r l next rs f e) tt)

-- a chain: the procedures of which Own holds call only such procedures, and where the call is not recursive only those of which Q holds
module _ (P : Program) (narrow : (f : ℕ) → width (recursive P f) (body P f) ≤ 1) (Own Q : ℕ → Type 0)
    (own : (f : ℕ) → Own f → Each Own (body P f)) (others : (f : ℕ) → Own f → Others Q (recursive P f) (body P f))
    (chains chains' : Chains) (A : Agree Q chains chains') where
  -- one body around what follows it
  around_agree : (d : Invocation) (later : List Invocation) (next : ℕ) (inner : Emitted) → Own d.procedure →
      around P chains d later next inner ≡ around P chains' d later next inner
  unfolding around
  around_agree d later next inner q =
      let r = recursive P d.procedure in
      let s = body P d.procedure in
      let o = others d.procedure q in
      rw (
        left_agree Q chains chains' A r s d.list (under d.ancilla) next o,
        right_agree Q chains chains' A r s d.list (under d.ancilla) next inner.next o (narrow d.procedure),
      )

  -- two ways to emit bodies do the same for invocations of such procedures
  abbrev Alike : (List Invocation → ℕ → Emitted) → (List Invocation → ℕ → Emitted) → Type 0
  Alike shorter shorter' = (all : List Invocation) (next : ℕ) → Members Own all → shorter all next ≡ shorter' all next

  -- a body that calls share, around those that follow
  shared_agree : (C : List Invocation) (following following' : List Invocation → ℕ → Emitted) → Members Own C → Alike following following' →
      Alike (shared P chains C following) (shared P chains' C following')
  unfolding shared
  shared_agree [] following following' c F all next a = F all next a
  shared_agree (d ∷ later) following following' c F all next a =
      let new = body_invocations P chains d next in
      let more = all_append (λ (x : Invocation). Own x.procedure) all new a
      (invocations_members Own (recursive P d.procedure) (body P d.procedure) d.list next (own d.procedure c.0)) in
      rw (F (all ++ new) (next + length new) more) (around_agree d later next (following' (all ++ new) (next + length new)) c.0)

  -- the bodies of one list length, around those of shorter lists
  bodies_agree : (m : ℕ) (shorter shorter' : List Invocation → ℕ → Emitted) → Alike shorter shorter' →
      (ks : List Key) (calls : List Invocation) → Members Own calls →
      Alike (bodies P chains m shorter ks calls) (bodies P chains' m shorter' ks calls)
  unfolding bodies
  bodies_agree m shorter shorter' S [] calls c = S
  bodies_agree m shorter shorter' S (k ∷ ks) calls c =
      shared_agree (calls_to m k calls) (bodies P chains m shorter ks calls) (bodies P chains' m shorter' ks calls)
      (calls_keep m (λ (d : Invocation). Own d.procedure) k calls c) (bodies_agree m shorter shorter' S ks calls c)

  -- all bodies of a chain
  bodies_from_agree : (m : ℕ) → Alike (bodies_from P chains m) (bodies_from P chains' m)
  unfolding bodies_from
  bodies_from_agree zero all next a = refl
  bodies_from_agree (suc m) all next a =
      bodies_agree (suc m) (bodies_from P chains m) (bodies_from P chains' m) (bodies_from_agree m) (keys (suc m) all) all a all next a

module _ (P : Program) (N : Named P) (passes11 : any_too_wide P ≡ false) where
  -- a procedure of rank at most k, and one of rank below k
  abbrev UpTo : ℕ → ℕ → Type 0
  UpTo k f = (f ≤ count P) × (rank P f ≤ k)

  abbrev Lower : ℕ → ℕ → Type 0
  Lower k f = (f ≤ count P) × (rank P f < k)

  -- rank does not rise at a call ..
  own_rank : (k f : ℕ) → UpTo k f → Each (UpTo k) (body P f)
  own_rank k f u = each_call (UpTo k) (body P f) (λ g c.
      let lg = (N f g c).1 in
      let low = rank_reach P f g lg (reach_call P f g c) in
      let top : rank P f ≤ k = u.1 in
      (lg, omega arith))

  -- .. and falls at one that is not recursive
  others_rank : (k f : ℕ) → UpTo k f → Others (Lower k) (recursive P f) (body P f)
  others_rank k f u = each_call (λ g. recursive P f g ≡ false → Lower k g) (body P f) (λ g c e.
      let lg = (N f g c).1 in
      let low = rank_falls P f g u.0 lg (reach_call P f g c) e in
      let top : rank P f ≤ k = u.1 in
      (lg, omega arith))

  -- no procedure has rank 0
  rank_not_zero : (f : ℕ) → f ≤ count P → rank P f ≤ 0 → ⊥
  rank_not_zero f h z = let p = rank_positive P f h in omega arith

  -- all depths from a procedure's rank on emit the same chain
  depth_same : (a b f : ℕ) (l : List ℕ) (w : ℕ) → f ≤ count P → rank P f ≤ a → rank P f ≤ b → chains_within P a f l w ≡ chains_within P b f l w
  unfolding chains_within
  depth_same zero b f l w h ha hb = absurd (rank_not_zero f h ha)
  depth_same (suc a) zero f l w h ha hb = absurd (rank_not_zero f h hb)
  depth_same (suc a) (suc b) f l w h ha hb = ap (λ (x : Emitted). x.events)
      (bodies_from_agree P (all_narrow P passes11) (UpTo (rank P f)) (Lower (rank P f)) (own_rank (rank P f)) (others_rank (rank P f))
      (chains_within P a) (chains_within P b)
      (λ g l' w' q. let low : rank P g < rank P f = q.1 in depth_same a b g l' w' q.0 (omega arith) (omega arith))
      (length l) (invocation f l w ∷ []) (suc w) ((h, omega arith), tt))

  -- The emission is followed to the depth p, and every greater depth gives the same events.
  pub enough_depth : (n depth : ℕ) → count P ≤ depth → whole (chains_within P depth) P.main (qubits n) no_controls (suc n) ≡ emission P n
  unfolding emission
  enough_depth n depth more = whole_agree (λ f. (0 < f) × (f ≤ count P)) (chains_within P depth) (chains_within P (count P))
      (λ f l w q. let top = rank_most P N f q.0 in depth_same depth (count P) f l w q.1 (omega arith) top)
      P.main (qubits n) no_controls (suc n) (each_call (λ f. (0 < f) × (f ≤ count P)) P.main (λ g c. N 0 g c))
