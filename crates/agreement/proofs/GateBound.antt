-- "Bound on gates". How the charge goes:
-- 1. Every NOT and call record of a body is charged 4 + 2n gates: a NOT places 1, a call flips its ancilla twice, which leaves 2 + 2n of a call.
-- 2. A recursive call keeps these 2 + 2n for its entry gates: a flip and at most n swaps, placed before and again behind the body that it shares.
-- 3. A chain has one body per procedure and length, so the bodies of one length come to the charge of all records once, and there are n lengths.
-- 4. A non-recursive call adds the chain that it starts, which has one class less: with c calls and n lengths that is at most a factor c × n.
-- 5. There are r classes on a line from main, so the chains come to at most s × (4 + 2n) × r × (c × n)^r, and main's own records to s × (4 + 2n).
use mathlib.Core.Path.{◌≡◌, refl, sym, ap, subst}
use mathlib.Core.Logic.{inl}
use mathlib.Core.Bool.{Bool, true, false, ◌&&◌}
use mathlib.Core.List.{List, [], ◌∷◌, ◌++◌, map, reverse, reverse-cons}
use Prim.Native.Nat.{ℕ, zero, suc, ◌+◌, ◌*◌, ◌^◌, ◌≤◌, ◌<◌, zero-le, suc-le-suc}
use native.Mathlib.Nat.{not-suc-le-zero, mul-le-mul_right, mul-le-mul_left, pow-suc, pow-zero}
use native.Mathlib.Omega.{arith}
use borrow.Author.Tests.{eq-eqb, eqb-true, ltb-true, lt-ltb, le-ltb}
use lib.ListN.{length, length-append}
use lib.Dec.{eqb, ltb}
use Rattle.model.specs.Syntax.{Statement, skip, NOT, sequence, if, qcase, call, Program, count, body}
use Rattle.model.specs.Lists.{qubits, remaining, touched, holds, member}
use Rattle.model.specs.Reach.{calls, recursive, width, any_lacks_removal, any_too_wide}
use Rattle.model.specs.Gates.{Controls, no_controls, with_control, exchange}
use Rattle.model.specs.Emission.{Event, takes, places, frees, Chains, start_chain, whole, Invocation, invocation, invoked, is_wide, invocations}
use Rattle.model.specs.Emission.{invokes, returns, left, right, under, swaps, entry_gates, all_entry_gates, Key, key_of, keys, is_of, calls_to, Emitted}
use Rattle.model.specs.Emission.{body_invocations, around, shared, bodies, bodies_from, chains_within, emission, gates}
use Rattle.model.specs.Bound.{not_records, call_records, sum_bodies, s_of, c_of, r_of, gate_bound}
use Rattle.model.proofs.BooleanLaws.{by_bool, by_eq, not_true_false, and_left, and_right, and_both, and_false_right}
use Rattle.model.proofs.ListLaws.{Distinct, member_head, member_tail, member_nil, member_skip, member_differs, not_tail, remaining_no_longer, range_length}
use Rattle.model.proofs.ReachAndRank.{Named, Ranked, all_narrow}
use Rattle.agreement.proofs.EmissionClauses.{whole_yes, whole_no, invocations_wide, invocations_thin, invocations_yes, invocations_no}
use Rattle.agreement.proofs.EmissionClauses.{invocations_recursive, invocations_other, left_wide, left_thin, left_yes, left_no, left_recursive}
use Rattle.agreement.proofs.EmissionClauses.{left_other, right_wide, right_thin, right_yes, right_no, right_recursive, right_other, width_sequence}
use Rattle.agreement.proofs.EmissionClauses.{width_if, width_qcase, thin_width, wide_width, Low, thin_low}
use Rattle.agreement.proofs.ProgramFacts.{ranked_up}
use Rattle.agreement.proofs.InvocationsOfABody.{Mem, AllOf, all_append}
use Rattle.agreement.proofs.KeysOfALength.{CallTo, is_of_lem, calls_here, calls_past, calls_are, calls_keep, keys_order}
use Rattle.agreement.proofs.ClassesOnALine.{Each, each_call, classes, classes_positive, classes_ranked, main_low, r_none}

-- how many gates events place
abbrev size : List Event → ℕ
size es = length (gates es)

size_append : (a b : List Event) → size (a ++ b) ≡ size a + size b
unfolding gates
size_append [] b = omega arith
size_append (takes w ∷ a) b = size_append a b
size_append (places g ∷ a) b = let ih = size_append a b in omega arith
size_append (frees w ∷ a) b = size_append a b

size_reverse : (a : List Event) → size (reverse a) ≡ size a
unfolding gates
size_reverse [] = refl
size_reverse (takes w ∷ a) = rw (reverse-cons (takes w) a, size_append (reverse a) (takes w ∷ []), size_reverse a) (omega arith)
size_reverse (places g ∷ a) = rw (reverse-cons (places g) a, size_append (reverse a) (places g ∷ []), size_reverse a) (omega arith)
size_reverse (frees w ∷ a) = rw (reverse-cons (frees w) a, size_append (reverse a) (frees w ∷ []), size_reverse a) (omega arith)

-- the records that are charged
abbrev records : Statement → ℕ
records s = not_records s + call_records s

-- every call names a procedure, 1 to p
abbrev NamedIn : ℕ → Statement → Type 0
NamedIn p s = Each (λ f. (0 < f) × (f ≤ p)) s

-- how many invocations pass a test
unfoldable passing : (Invocation → Bool) → List Invocation → ℕ
passing test [] = 0
passing test (d ∷ ds) = elim (test d) [ true ↦ suc (passing test ds) | false ↦ passing test ds ]

passing_yes : (test : Invocation → Bool) (d : Invocation) (ds : List Invocation) → test d ≡ true → passing test (d ∷ ds) ≡ suc (passing test ds)
unfolding passing
passing_yes test d ds e = rw (e, passing)

passing_no : (test : Invocation → Bool) (d : Invocation) (ds : List Invocation) → test d ≡ false → passing test (d ∷ ds) ≡ passing test ds
unfolding passing
passing_no test d ds e = rw (e, passing)

-- at most all of them pass
passing_all : (test : Invocation → Bool) (ds : List Invocation) → passing test ds ≤ length ds
unfolding passing
passing_all test [] = zero-le
passing_all test (d ∷ ds) = let ih = passing_all test ds in by_bool (test d)
    (λ e. rw (passing_yes test d ds e) (omega arith))
    (λ e. rw (passing_no test d ds e) (omega arith))

passing_append : (test : Invocation → Bool) (ds es : List Invocation) → passing test (ds ++ es) ≤ passing test ds + length es
unfolding passing
passing_append test [] es = let h = passing_all test es in omega arith
passing_append test (d ∷ ds) es = let ih = passing_append test ds es in by_bool (test d)
    (λ e. rw (passing_yes test d (ds ++ es) e, passing_yes test d ds e) (omega arith))
    (λ e. rw (passing_no test d (ds ++ es) e, passing_no test d ds e) ih)

-- two tests that exclude one another, within a third
passing_split : (a b c : Invocation → Bool) → ((x : Invocation) → a x ≡ true → (c x ≡ true) × (b x ≡ false)) →
    ((x : Invocation) → b x ≡ true → c x ≡ true) → (ds : List Invocation) → passing a ds + passing b ds ≤ passing c ds
unfolding passing
passing_split a b c f g [] = zero-le
passing_split a b c f g (d ∷ ds) = let ih = passing_split a b c f g ds in by_bool (a d)
    (λ e. let q = f d e in rw (passing_yes a d ds e, passing_no b d ds q.1, passing_yes c d ds q.0) (omega arith))
    (λ e. by_bool (b d)
    (λ h. rw (passing_no a d ds e, passing_yes b d ds h, passing_yes c d ds (g d h)) (omega arith))
    (λ h. by_bool (c d)
    (λ i. rw (passing_no a d ds e, passing_no b d ds h, passing_yes c d ds i) (omega arith))
    (λ i. rw (passing_no a d ds e, passing_no b d ds h, passing_no c d ds i) ih)))

-- the sum of v over the procedures 1 to p that are not seen
unfoldable total : (ℕ → ℕ) → List ℕ → ℕ → ℕ
total v seen zero = 0
total v seen (suc p) = elim (member (suc p) seen) [ true ↦ total v seen p | false ↦ v (suc p) + total v seen p ]

total_done : (v : ℕ → ℕ) (seen : List ℕ) (p : ℕ) → member (suc p) seen ≡ true → total v seen (suc p) ≡ total v seen p
unfolding total
total_done v seen p e = rw (e, total)

total_new : (v : ℕ → ℕ) (seen : List ℕ) (p : ℕ) → member (suc p) seen ≡ false → total v seen (suc p) ≡ v (suc p) + total v seen p
unfolding total
total_new v seen p e = rw (e, total)

-- the more are seen, the less is left
total_fewer : (v : ℕ → ℕ) (seen : List ℕ) (f p : ℕ) → total v (f ∷ seen) p ≤ total v seen p
unfolding total
total_fewer v seen f zero = zero-le
total_fewer v seen f (suc p) = let ih = total_fewer v seen f p in by_bool (member (suc p) (f ∷ seen))
    (λ e. by_bool (member (suc p) seen)
    (λ h. rw (total_done v (f ∷ seen) p e, total_done v seen p h) ih)
    (λ h. rw (total_done v (f ∷ seen) p e, total_new v seen p h) (omega arith)))
    (λ e. rw (total_new v (f ∷ seen) p e, total_new v seen p (not_tail (suc p) f seen e)) (omega arith))

-- one procedure more is seen
total_take : (v : ℕ → ℕ) (seen : List ℕ) (f p : ℕ) → 0 < f → f ≤ p → member f seen ≡ false → v f + total v (f ∷ seen) p ≤ total v seen p
unfolding total
total_take v seen f zero pos le new = absurd (not-suc-le-zero (below pos le))
  where
    below : 0 < f → f ≤ 0 → 0 < 0
    below pos le = omega arith
total_take v seen f (suc p) pos le new = by_eq (suc p) f
    (λ e. let o = total_fewer v seen f p in
    let z : v f ≡ v (suc p) = ap v (sym e) in
    rw (total_done v (f ∷ seen) p (rw e (member_head f seen)), total_new v seen p (rw e new)) (omega arith))
    (λ ne. let ih = total_take v seen f p pos (omega arith) new in by_bool (member (suc p) seen)
    (λ h. rw (total_done v (f ∷ seen) p (member_tail (suc p) f seen h), total_done v seen p h) ih)
    (λ h. rw (total_new v (f ∷ seen) p (member_skip (suc p) f seen ne h), total_new v seen p h) (omega arith)))

-- the sum over main and the procedures 1 to p
sum_total : (v : ℕ → ℕ) (p : ℕ) → sum_bodies v (suc p) ≡ v 0 + total v [] p
unfolding total sum_bodies member
sum_total v zero = omega arith
sum_total v (suc p) = let ih = sum_total v p in omega arith

-- entry gates: a flip and at most a swap for each entry of the list
swaps_size : (e : ℕ) (ks ws : List ℕ) → size (swaps e ks ws) ≤ length ks
unfolding swaps gates
swaps_size e [] ws = zero-le
swaps_size e (k ∷ ks) [] = zero-le
swaps_size e (k ∷ ks) (w ∷ ws) = by_bool (eqb w k)
    (λ h. rw (h, swaps) (let ih = swaps_size e ks ws in omega arith))
    (λ h. rw (h, swaps) (let ih = swaps_size e ks (map (exchange w k) ws) in omega arith))

entry_gates_size : (d e : Invocation) → size (entry_gates d e) ≤ suc (length d.list)
unfolding entry_gates gates
entry_gates_size d e = suc-le-suc (swaps_size e.ancilla d.list e.list)

all_entry_gates_size : (d : Invocation) (later : List Invocation) → size (all_entry_gates d later) ≤ suc (length d.list) * length later
unfolding all_entry_gates gates
all_entry_gates_size d [] = zero-le
all_entry_gates_size d (e ∷ later) =
    let ih = all_entry_gates_size d later in
    let g = entry_gates_size d e in
    rw (size_append (entry_gates d e) (all_entry_gates d later)) (omega arith)

-- a procedure, 1 to p, of rank at most j, called with at most n qubits
abbrev Callable : ℕ → (ℕ → ℕ) → ℕ → ℕ → Invocation → Type 0
Callable p rank n j d = (0 < d.procedure) × (d.procedure ≤ p) × (rank d.procedure ≤ j) × (length d.list ≤ n)

abbrev AllCallable : ℕ → (ℕ → ℕ) → ℕ → ℕ → List Invocation → Type 0
AllCallable p rank n j = AllOf (Callable p rank n j)

-- the chains that calls of procedures of rank below j start place at most so many gates each
abbrev ChainsBelow : ℕ → (ℕ → ℕ) → ℕ → ℕ → ℕ → Chains → Type 0
ChainsBelow p rank n j most chains =
    (f : ℕ) (l : List ℕ) (a : ℕ) → (0 < f) × (f ≤ p) → rank f < j → length l ≤ n → size (chains f l a) ≤ most

-- what a statement comes to: U for each record, and T more for each call
abbrev charge : ℕ → ℕ → Statement → ℕ
charge U T s = U * records s + T * call_records s

module _ (p : ℕ) (rank : ℕ → ℕ) (n j : ℕ) where
  abbrev All : List Invocation → Type 0
  All = AllCallable p rank n j

  invoked_callable : (f : ℕ) (l : List ℕ) (a : ℕ) → (0 < f) × (f ≤ p) → rank f ≤ j → length l ≤ n → All (invoked f l a)
  unfolding invoked
  invoked_callable f [] a i k h = tt
  invoked_callable f (x ∷ l) a i k h = ((i.0, i.1, k, h), tt)

  invocations_callable : (r : ℕ → Bool) (s : Statement) (l : List ℕ) (next : ℕ) → NamedIn p s → Ranked rank r j s → length l ≤ n →
      All (invocations r s l next)
  unfolding invocations
  invocations_callable r skip l next i q h = tt
  invocations_callable r (NOT rs a) l next i q h = tt
  invocations_callable r (sequence s t) l next i q h = by_bool (is_wide r s)
      (λ e. rw (invocations_wide r l next s t e) (invocations_callable r s l next i.0 q.0 h))
      (λ e. rw (invocations_thin r l next s t e) (invocations_callable r t l next i.1 q.1 h))
  invocations_callable r (if c s t) l next i q h = by_bool (holds c l)
      (λ e. rw (invocations_yes r l next c s t e) (invocations_callable r s l next i.0 q.0 h))
      (λ e. rw (invocations_no r l next c s t e) (invocations_callable r t l next i.1 q.1 h))
  invocations_callable r (qcase rs a s t) l next i q h =
      all_append (Callable p rank n j) (invocations r s l next) (invocations r t l (next + length (invocations r s l next)))
      (invocations_callable r s l next i.0 q.0 h) (invocations_callable r t l (next + length (invocations r s l next)) i.1 q.1 h)
  invocations_callable r (call rs f) l next i q h = by_bool (r f)
      (λ e. rw (invocations_recursive r l next rs f e)
      (invoked_callable f (remaining rs l) next i (q.0 e).0 (let z = remaining_no_longer rs l in omega arith)))
      (λ e. rw (invocations_other r l next rs f e) tt)

-- a recursive call flips its ancilla in the left part and in the right one, and is one invocation
invokes_size : (l : List ℕ) (cs : Controls) (a : ℕ) → size (invokes l cs a) ≤ 1
unfolding invokes gates
invokes_size [] cs a = zero-le
invokes_size (x ∷ l) cs a = omega arith

returns_size : (l : List ℕ) (cs : Controls) (a : ℕ) → size (returns l cs a) ≤ 1
unfolding returns gates
returns_size [] cs a = zero-le
returns_size (x ∷ l) cs a = omega arith

invoked_length : (f : ℕ) (l : List ℕ) (a : ℕ) → length (invoked f l a) ≤ 1
unfolding invoked
invoked_length f [] a = zero-le
invoked_length f (x ∷ l) a = omega arith

module _ (p : ℕ) (rank : ℕ → ℕ) (n u j T : ℕ) (chains : Chains) (CB : ChainsBelow p rank n j (u + T) chains) where
  start_chain_size : (f : ℕ) (l : List ℕ) (cs : Controls) (next : ℕ) → (0 < f) × (f ≤ p) → rank f < j → length l ≤ n →
      size (start_chain chains f l cs next) ≤ 2 + u + T
  unfolding start_chain gates
  start_chain_size f [] cs next i r h = zero-le
  start_chain_size f (x ∷ l) cs next i r h = rw size_append (let b = CB f (x ∷ l) next i r h in omega arith)

  -- a statement emitted whole comes to its charge
  whole_size : (s : Statement) (l : List ℕ) (cs : Controls) (next : ℕ) → NamedIn p s → Low rank j s → length l ≤ n →
      size (whole chains s l cs next) ≤ charge (2 + u) T s
  unfolding whole not_records call_records gates
  whole_size skip l cs next i r h = zero-le
  whole_size (NOT rs a) l cs next i r h = omega arith
  whole_size (sequence s t) l cs next i r h = rw size_append
      (let x = whole_size s l cs next i.0 r.0 h in let y = whole_size t l cs next i.1 r.1 h in omega arith)
  whole_size (if c s t) l cs next i r h = by_bool (holds c l)
      (λ e. rw (whole_yes chains l cs next c s t e) (let x = whole_size s l cs next i.0 r.0 h in omega arith))
      (λ e. rw (whole_no chains l cs next c s t e) (let y = whole_size t l cs next i.1 r.1 h in omega arith))
  whole_size (qcase rs a s t) l cs next i r h = rw size_append
      (let x = whole_size s l (with_control (touched rs a l) false cs) next i.0 r.0 h in
      let y = whole_size t l (with_control (touched rs a l) true cs) next i.1 r.1 h in omega arith)
  whole_size (call rs f) l cs next i r h =
      let x = start_chain_size f (remaining rs l) cs next i r (let z = remaining_no_longer rs l in omega arith) in omega arith

  -- a body's two parts come to its charge, with u left for each invocation
  parts_size : (r : ℕ → Bool) (s : Statement) (l : List ℕ) (cs : Controls) (next top : ℕ) →
      NamedIn p s → Ranked rank r j s → width r s ≤ 1 → length l ≤ n →
      size (left chains r s l cs next) + size (right chains r s l cs next top) + u * length (invocations r s l next) ≤ charge (2 + u) T s
  unfolding left right invocations not_records call_records gates
  parts_size r skip l cs next top i q w h = omega arith
  parts_size r (NOT rs a) l cs next top i q w h = omega arith
  parts_size r (sequence s t) l cs next top i q w h = by_bool (is_wide r s)
      (λ e. rw (left_wide chains r l cs next s t e, right_wide chains r l cs next s t top e, invocations_wide r l next s t e, size_append)
      (let x = parts_size r s l cs next top i.0 q.0 (width_sequence r s t w).0 h in
      let y = whole_size t l cs top i.1 (thin_low rank r j t q.1 ((width_sequence r s t w).2 (wide_width r s e))) h in omega arith))
      (λ e. rw (left_thin chains r l cs next s t e, right_thin chains r l cs next s t top e, invocations_thin r l next s t e, size_append)
      (let x = whole_size s l cs next i.0 (thin_low rank r j s q.0 (thin_width r s e)) h in
      let y = parts_size r t l cs next top i.1 q.1 (width_sequence r s t w).1 h in omega arith))
  parts_size r (if c s t) l cs next top i q w h = by_bool (holds c l)
      (λ e. rw (left_yes chains r l cs next c s t e, right_yes chains r l cs next c s t top e, invocations_yes r l next c s t e)
      (let x = parts_size r s l cs next top i.0 q.0 (width_if r c s t w).0 h in omega arith))
      (λ e. rw (left_no chains r l cs next c s t e, right_no chains r l cs next c s t top e, invocations_no r l next c s t e)
      (let x = parts_size r t l cs next top i.1 q.1 (width_if r c s t w).1 h in omega arith))
  parts_size r (qcase rs a s t) l cs next top i q w h =
      let m = next + length (invocations r s l next) in
      let x = parts_size r s l (with_control (touched rs a l) false cs) next top i.0 q.0 (width_qcase r rs a s t w).0 h in
      let y = parts_size r t l (with_control (touched rs a l) true cs) m top i.1 q.1 (width_qcase r rs a s t w).1 h in
      simp (length-append, size_append) (omega arith)
  parts_size r (call rs f) l cs next top i q w h = by_bool (r f)
      (λ e. rw (left_recursive chains r l cs next rs f e, right_recursive chains r l cs next rs f top e, invocations_recursive r l next rs f e)
      (let x = invokes_size (remaining rs l) cs next in
      let y = returns_size (remaining rs l) cs next in
      let z = mul-le-mul_left u (invoked_length f (remaining rs l) next) in omega arith))
      (λ e. rw (left_other chains r l cs next rs f e, right_other chains r l cs next rs f top e, invocations_other r l next rs f e)
      (let x = start_chain_size f (remaining rs l) cs next i (q.1 e) (let z = remaining_no_longer rs l in omega arith) in omega arith))

-- an invocation whose body comes later than those of length m, since its list is shorter
abbrev is_shorter : ℕ → Invocation → Bool
is_shorter m d = ltb (length d.list) m

-- an invocation of length m whose key is among those to come
abbrev is_to_come : ℕ → List Key → Invocation → Bool
is_to_come m ks d = eqb (length d.list) m && member (key_of d) ks

-- the calls to a pair, counted
calls_count : (m : ℕ) (k : Key) (ds : List Invocation) → length (calls_to m k ds) ≡ passing (is_of m k) ds
unfolding calls_to passing
calls_count m k [] = refl
calls_count m k (d ∷ ds) = let ih = calls_count m k ds in by_bool (is_of m k d)
    (λ h. rw (calls_here m k d ds h, passing_yes (is_of m k) d ds h) (omega arith))
    (λ h. rw (calls_past m k d ds h, passing_no (is_of m k) d ds h) ih)

-- what a chain comes to beside the call that starts it, where at most k classes lie on a line from its procedure on: n lengths, each procedure once
unfoldable deep : Program → ℕ → ℕ → ℕ → ℕ
deep P n U zero = 0
deep P n U (suc k) = n * total (λ f. charge U (deep P n U k) (body P f)) [] (count P)

module _ (P : Program) (rank : ℕ → ℕ) (n u : ℕ) (enough : 2 + 2 * n ≤ u) (positive : (f : ℕ) → 0 < rank f)
    (named : (f : ℕ) → NamedIn (count P) (body P f)) (ranked : (f : ℕ) → Ranked rank (recursive P f) (rank f) (body P f))
    (narrow : (f : ℕ) → width (recursive P f) (body P f) ≤ 1) where
  module _ (j T : ℕ) (chains : Chains) (CB : ChainsBelow (count P) rank n j (u + T) chains) where
    -- what the body of a procedure comes to
    abbrev B : ℕ → ℕ
    B f = charge (2 + u) T (body P f)

    abbrev Fit : List Invocation → Type 0
    Fit = AllCallable (count P) rank n j

    abbrev left_of : Invocation → ℕ → List Event
    left_of d next = left chains (recursive P d.procedure) (body P d.procedure) d.list (under d.ancilla) next

    abbrev right_of : Invocation → ℕ → ℕ → List Event
    right_of d next top = right chains (recursive P d.procedure) (body P d.procedure) d.list (under d.ancilla) next top

    body_ranked : (d : Invocation) → Callable (count P) rank n j d → Ranked rank (recursive P d.procedure) j (body P d.procedure)
    body_ranked d i = ranked_up rank (recursive P d.procedure) (rank d.procedure) j (body P d.procedure) i.2 (ranked d.procedure)

    body_size : (d : Invocation) (next top : ℕ) → Callable (count P) rank n j d →
        size (left_of d next) + size (right_of d next top) + u * length (body_invocations P chains d next) ≤ B d.procedure
    body_size d next top i = parts_size (count P) rank n u j T chains CB (recursive P d.procedure) (body P d.procedure) d.list
        (under d.ancilla) next top (named d.procedure) (body_ranked d i) (narrow d.procedure) i.3

    body_fit : (d : Invocation) (next : ℕ) → Callable (count P) rank n j d → Fit (body_invocations P chains d next)
    body_fit d next i = invocations_callable (count P) rank n j (recursive P d.procedure) (body P d.procedure) d.list next
        (named d.procedure) (body_ranked d i) i.3

    -- the calls to a pair, and those whose keys come behind, were to come before
    pair_split : (m : ℕ) (κ : Key) (ks : List Key) (ds : List Invocation) → member κ ks ≡ false →
        length (calls_to m κ ds) + passing (is_to_come m ks) ds ≤ passing (is_to_come m (κ ∷ ks)) ds
    pair_split m κ ks ds new = rw (calls_count m κ ds) (passing_split (is_of m κ) (is_to_come m ks) (is_to_come m (κ ∷ ks))
        (λ x h.
        let t = is_of_lem m κ x h in (
          and_both (eqb (length x.list) m) (member (key_of x) (κ ∷ ks)) (eq-eqb (length x.list) m t.0) (rw t.1 (member_head κ ks)),
          and_false_right (eqb (length x.list) m) (member (key_of x) ks) (rw t.1 new),
        ))
        (λ x h. and_both (eqb (length x.list) m) (member (key_of x) (κ ∷ ks)) (and_left (eqb (length x.list) m) (member (key_of x) ks) h)
        (member_tail (key_of x) κ ks (and_right (eqb (length x.list) m) (member (key_of x) ks) h))) ds)

    -- a body around all that follow it
    around_size : (d : Invocation) (later : List Invocation) (next : ℕ) (inner : Emitted) → size (around P chains d later next inner).events ≡
        size (all_entry_gates d later) + (size (left_of d next) + (size inner.events + (size (right_of d next inner.next)
        + size (all_entry_gates d later))))
    unfolding around
    around_size d later next inner = simp (size_append, size_reverse) refl

    -- one body around the others: its entry gates twice, its two parts, and what the others come to
    sums : (entry lefts rights inner later now then short short' new v rest all R : ℕ) → 2 * entry ≤ u * later → suc later + then ≤ now →
        short' ≤ short + new → lefts + rights + u * new ≤ v → v + rest ≤ all → inner ≤ u * (then + short') + rest + R →
        entry + (lefts + (inner + (rights + entry))) ≤ u * (now + short) + all + R
    sums entry lefts rights inner later now then short short' new v rest all R a b c d e f =
        let b' = mul-le-mul_left u b in
        let c' = mul-le-mul_left u c in
        omega arith

    -- u pays for an invocation's entry gates, twice
    twice : (entry len later : ℕ) → entry ≤ suc len * later → len ≤ n → 2 * entry ≤ u * later
    twice entry len later h k = let z : 2 * suc len ≤ u = omega arith in let y = mul-le-mul_right later z in omega arith

    module _ (m R : ℕ) (level : List Invocation) (fit : Fit level) where
      -- what emits bodies for the keys ks of length m, and shorter ones: u for each invocation that is still to come, and the charge of every
      -- procedure whose body of this length has not come
      abbrev Comes : List Key → List ℕ → (List Invocation → ℕ → Emitted) → Type 0
      Comes ks come following = (all : List Invocation) (next : ℕ) → Fit all →
          size (following all next).events ≤ u * (passing (is_to_come m ks) level + passing (is_shorter m) all) + total B come (count P) + R

      -- one key more, that of the calls C
      shared_size : (κ : Key) (ks : List Key) (come : List ℕ) (following : List Invocation → ℕ → Emitted) → member κ ks ≡ false →
          member κ come ≡ false → Comes ks come following → Comes ks (κ ∷ come) following → (C : List Invocation) → calls_to m κ level ≡ C →
          Comes (κ ∷ ks) come (shared P chains C following)
      unfolding shared
      shared_size κ ks come following new first F G [] e all next fa =
          let b = pair_split m κ ks level new in
          let b' : passing (is_to_come m ks) level ≤ passing (is_to_come m (κ ∷ ks)) level = omega arith in
          let c = mul-le-mul_left u b' in
          let ih = F all next fa in
          omega arith
      shared_size κ ks come following new first F G (d ∷ later) e all next fa =
          let own = body_invocations P chains d next in
          let inner = following (all ++ own) (next + length own) in
          let of : CallTo m κ level d = calls_are m κ level d (subst (λ (l : List Invocation). Mem d l) (sym e) (inl refl)) in
          let f : d.procedure ≡ κ = of.key in
          let call : Callable (count P) rank n j d = (subst (λ (l : List Invocation). Fit l) e (calls_keep m (Callable (count P) rank n j) κ level fit)).0 in
          let b : suc (length later) + passing (is_to_come m ks) level ≤ passing (is_to_come m (κ ∷ ks)) level = rw e at (pair_split m κ ks level new) in
          rw (around_size d later next inner)
          (sums (size (all_entry_gates d later)) (size (left_of d next)) (size (right_of d next inner.next)) (size inner.events) (length later)
          (passing (is_to_come m (κ ∷ ks)) level) (passing (is_to_come m ks) level) (passing (is_shorter m) all) (passing (is_shorter m) (all ++ own)) (length own)
          (B d.procedure) (total B (κ ∷ come) (count P)) (total B come (count P)) R
          (twice (size (all_entry_gates d later)) (length d.list) (length later) (all_entry_gates_size d later) call.3) b
          (passing_append (is_shorter m) all own) (body_size d next inner.next call)
          (rw f (total_take B come κ (count P) (rw f at call.0) (rw f at call.1) first))
          (G (all ++ own) (next + length own) (all_append (Callable (count P) rank n j) all own fa (body_fit d next call))))

      -- the bodies of length m, in whatever order their keys come, each once
      bodies_size : (shorter : List Invocation → ℕ → Emitted) →
          ((all : List Invocation) (next : ℕ) → Fit all → size (shorter all next).events ≤ u * passing (is_shorter m) all + R) →
          (ks : List Key) → Distinct ks → (come : List ℕ) → ((k : Key) → member k ks ≡ true → member k come ≡ false) →
          Comes ks come (bodies P chains m shorter ks level)
      unfolding bodies
      bodies_size shorter SB [] once come apart all next fa =
          let h = SB all next fa in
          let c = mul-le-mul_left u (le_add (passing (is_to_come m []) level) (passing (is_shorter m) all)) in
          omega arith
        where
          le_add : (a b : ℕ) → b ≤ a + b
          le_add a b = omega arith
      bodies_size shorter SB (κ ∷ ks) once come apart all next fa =
          shared_size κ ks come (bodies P chains m shorter ks level) once.0 (apart κ (member_head κ ks))
          (bodies_size shorter SB ks once.1 come (λ k b. apart k (member_tail k κ ks b)))
          (bodies_size shorter SB ks once.1 (κ ∷ come)
          (λ k b. member_skip k κ come (member_differs k κ ks b once.0) (apart k (member_tail k κ ks b))))
          (calls_to m κ level) refl all next fa

    -- the bodies of lists of length m and less
    bodies_from_size : (m : ℕ) (all : List Invocation) (next : ℕ) → Fit all →
        size (bodies_from P chains m all next).events ≤ u * passing (is_shorter (suc m)) all + m * total B [] (count P)
    unfolding bodies_from gates
    bodies_from_size zero all next f = zero-le
    bodies_from_size (suc m) all next f =
        let S = total B [] (count P) in
        let ks = keys (suc m) all in
        let a = bodies_size (suc m) (m * S) all f (bodies_from P chains m) (λ ds next' fit. bodies_from_size m ds next' fit) ks
        (keys_order (suc m) all).once [] (λ k b. member_nil k) all next f in
        let b = passing_split (is_to_come (suc m) ks) (is_shorter (suc m)) (is_shorter (suc (suc m))) (longest ks) shorter all in
        let c = mul-le-mul_left u b in
        omega arith
      where
        longest : (ks : List Key) (x : Invocation) → is_to_come (suc m) ks x ≡ true → (is_shorter (suc (suc m)) x ≡ true) × (is_shorter (suc m) x ≡ false)
        longest ks x h =
            let l : length x.list ≡ suc m =
            eqb-true (length x.list) (suc m) (and_left (eqb (length x.list) (suc m)) (member (key_of x) ks) h) in
            (lt-ltb (length x.list) (suc (suc m)) (omega arith), le-ltb (length x.list) (suc m) (omega arith))

        shorter : (x : Invocation) → is_shorter (suc m) x ≡ true → is_shorter (suc (suc m)) x ≡ true
        shorter x h = let l = ltb-true (length x.list) (suc m) h in lt-ltb (length x.list) (suc (suc m)) (omega arith)

  -- a chain: u for the call that starts it, and what its bodies come to
  chain_size : (fuel k : ℕ) → ChainsBelow (count P) rank n (suc k) (u + deep P n (2 + u) k) (chains_within P fuel)
  unfolding chains_within deep gates
  chain_size zero k f l a i r h = zero-le
  chain_size (suc fuel) zero f l a i r h = absurd (none r (positive f))
    where
      none : rank f < 1 → 0 < rank f → ⊥
      none x y = omega arith
  chain_size (suc fuel) (suc k) f l a i r h =
      let start = invocation f l a ∷ [] in
      let T = deep P n (2 + u) k in
      let c = bodies_from_size (suc k) T (chains_within P fuel) (chain_size fuel k) (length l) start (suc a) ((i.0, i.1, omega arith, h), tt) in
      let one = mul-le-mul_left u (passing_all (is_shorter (suc (length l))) start) in
      let g = mul-le-mul_right (total (λ x. charge (2 + u) T (body P x)) [] (count P)) h in
      omega arith

-- the closed form: sums of multiples, and powers
total_linear : (U T : ℕ) (v w : ℕ → ℕ) (p : ℕ) → total (λ f. U * v f + T * w f) [] p ≡ U * total v [] p + T * total w [] p
unfolding total member
total_linear U T v w zero = omega arith
total_linear U T v w (suc p) = let ih = total_linear U T v w p in omega arith

power_grows : (x k : ℕ) → x ≤ x ^ suc k
power_grows x zero = rw (pow-suc, pow-zero) (omega arith)
power_grows zero (suc k) = zero-le
power_grows (suc x) (suc k) = rw pow-suc (let ih = power_grows (suc x) k in let z = mul-le-mul_right (suc x) ih in omega arith)

-- the records of the procedures, without main's
abbrev procedure_records : Program → ℕ
procedure_records P = total (λ f. records (body P f)) [] (count P)

abbrev procedure_calls : Program → ℕ
procedure_calls P = total (λ f. call_records (body P f)) [] (count P)

-- what a chain comes to, times c, in closed form
deep_closed : (P : Program) (n U c : ℕ) → procedure_calls P ≤ c → (k : ℕ) → deep P n U k * c ≤ U * procedure_records P * (k * (c * n) ^ k)
unfolding deep
deep_closed P n U c h zero = omega arith
deep_closed P n U c h (suc k) =
    rw (total_linear U (deep P n U k) (λ f. records (body P f)) (λ f. call_records (body P f)) (count P))
    (step (deep P n U k) (procedure_records P) (procedure_calls P) ((c * n) ^ k) (deep_closed P n U c h k) (pow-suc (c * n) k)
    (power_grows (c * n) k) h)
  where
    step : (D S C X : ℕ) → D * c ≤ U * S * (k * X) → (c * n) ^ suc k ≡ X * (c * n) → c * n ≤ (c * n) ^ suc k → C ≤ c →
        n * (U * S + D * C) * c ≤ U * S * (suc k * (c * n) ^ suc k)
    step D S C X ih e b less =
        let less' = mul-le-mul_left D less in
        let a : U * S + D * C ≤ U * S + U * S * (k * X) = omega arith in
        let a' = mul-le-mul_left (n * c) a in
        let b' = mul-le-mul_left (U * S) b in
        rw e (omega (arith, rw e at b'))

-- the charge needs no factor p, and p loses nothing: a program without procedures calls none, so its r is 0
with_p : (P : Program) → Named P → (x : ℕ) → r_of P * x ≤ count P * r_of P * x
with_p P N x = by_eq (count P) 0
    (λ none. let r : r_of P ≡ 0 = r_none P (λ g. not_true_false (calls P.main g) (λ c. nowhere g (N 0 g c) none)) in rw r (omega arith))
    (λ some. let a : 1 ≤ count P = omega arith in let b = mul-le-mul_right (r_of P * x) a in omega arith)
  where
    nowhere : (g : ℕ) → (0 < g) × (g ≤ count P) → count P ≡ 0 → ⊥
    nowhere g i e = let a = i.0 in let b : g ≤ count P = i.1 in omega arith

-- the gates of a program's circuit are at most s × (4 + 2n) × (1 + p × r × (c × n)^r)
pub gate_bound_lem : (P : Program) → Named P → any_lacks_removal P ≡ false → any_too_wide P ≡ false → (n : ℕ) →
    length (gates (emission P n)) ≤ gate_bound P n
unfolding emission gate_bound s_of c_of
gate_bound_lem P N passes10 passes11 n =
    let u = 2 + 2 * n in
    let r = r_of P in
    let c = c_of P in
    let D = deep P n (2 + u) r in
    let len : length (qubits n) ≡ n = range_length n 1 in
    let named : (f : ℕ) → NamedIn (count P) (body P f) = λ f. each_call (λ g. (0 < g) × (g ≤ count P)) (body P f) (N f) in
    let chains = chain_size P (classes P) n u (omega arith) (classes_positive P) named
    (classes_ranked P N passes10) (all_narrow P passes11) (count P) r in
    let main = whole_size (count P) (classes P) n u (suc r) D (chains_within P (count P)) chains P.main (qubits n) no_controls (suc n)
    (named 0) (main_low P N) (omega arith) in
    let es : s_of P ≡ records P.main + procedure_records P = sum_total (λ f. records (body P f)) (count P) in
    let ec : c ≡ call_records P.main + procedure_calls P = sum_total (λ f. call_records (body P f)) (count P) in
    last (length (gates (emission P n))) (records P.main) (procedure_records P) (call_records P.main) (procedure_calls P) D (2 + u) (4 + 2 * n)
    (s_of P) c (r * (c * n) ^ r) (count P * r * (c * n) ^ r) (omega arith) main (deep_closed P n (2 + u) c (omega arith) r) es ec
    (with_p P N ((c * n) ^ r))
  where
    last : (g sm sp cm cp D U W s c X Y : ℕ) → U ≡ W → g ≤ U * sm + D * cm → D * c ≤ U * sp * X → s ≡ sm + sp → c ≡ cm + cp → X ≤ Y →
        g ≤ s * W * (1 + Y)
    last g sm sp cm cp D U W s c X Y uv a b es ec xy =
        let d : cm ≤ c = omega arith in
        let d' = mul-le-mul_left D d in
        let y = mul-le-mul_left (U * sp) xy in
        rw (es, ← uv) (omega arith)
