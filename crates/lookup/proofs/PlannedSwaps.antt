-- The plan of an entry's swaps, made by one loop over k: its pairs are the definition's swaps.
use mathlib.Core.Path.{◌≡◌, refl, sym, ap, ◌∙◌}
use mathlib.Core.Logic.{◌≢◌}
use mathlib.Core.List.{List, [], ◌∷◌, ◌++◌, map, append-nil}
use Prim.Native.Nat.{ℕ, zero, suc, ◌+◌, ◌*◌, ◌≤◌, min}
use native.Mathlib.Omega.{arith}
use mir.Syntax.{w8}
use mir.Val.{Fits}
use borrow.Author.Tests.{eq-eqb, ne_eqb}
use lib.ListN.{length, length-append, take}
use Rattle.std.proofs.lemmas.List.{take_all}
use lib.Seq.{append_snoc}
use Rattle.std.specs.Prelude.{Option, Some, None}
use Rattle.limits.specs.Sizes.{set_length}
use Rattle.model.specs.Limits.{most_wires}
use Rattle.model.specs.Gates.{swap_of, exchange}
use Rattle.model.specs.Emission.{Event, places, under, swaps}
use Rattle.model.proofs.BooleanLaws.{by_eq, by_lt}
use Rattle.model.proofs.ListLaws.{member_head, member_tail}
use Rattle.sets.specs.Sets.{members_of}
use Rattle.sets.proofs.Members.{members_length}
use Rattle.lookup.specs.declared.Lookup.{Lookup}
use Rattle.lookup.specs.declared.plan.Plan.{Plan}
use Rattle.lookup.specs.Entries.{counted, wire_at, kept, empty, built, moved, tracked, accesses}
use Rattle.lookup.specs.Plans.{pairs_of, swaps_along, Within, PlansSwaps, same_swaps, holder, Names, pair_of, PlansSwap, names_again, swap_count}
use Rattle.lookup.proofs.CountedEntries.{counted_sum, goes_from, stays_there, tracked_count}
use Rattle.lookup.proofs.TrackedWires.{holder_next, names_begun, names_stays, names_goes}

along_next : (e : ℕ) (ps : List (ℕ × ℕ)) (u v : ℕ) → swaps_along e (ps ++ ((u, v) ∷ [])) ≡ swaps_along e ps ++ (places (swap_of (under e) u v) ∷ [])
unfolding swaps_along
along_next e [] u v = refl
along_next e (p ∷ ps) u v = ap (λ (t : List Event). places (swap_of (under e) p.0 p.1) ∷ t) (along_next e ps u v)

-- the definition's tracking is by the wires that hold the qubits
holders_none : (l : List ℕ) → map (holder []) l ≡ l
unfolding holder
holders_none [] = refl
holders_none (q ∷ l) = ap (λ (t : List ℕ). q ∷ t) (holders_none l)

holders_next : (ps : List (ℕ × ℕ)) (u v : ℕ) (l : List ℕ) → map (exchange u v) (map (holder ps) l) ≡ map (holder (ps ++ ((u, v) ∷ []))) l
holders_next ps u v [] = refl
holders_next ps u v (q ∷ l) = rw (holder_next ps u v q, holders_next ps u v l)

-- the clauses of the definition's swaps
swaps_nil : (e : ℕ) (ks : List ℕ) → swaps e ks [] ≡ []
unfolding swaps
swaps_nil e [] = refl
swaps_nil e (k ∷ ks) = refl

swaps_equal : (e k w : ℕ) (ks ws : List ℕ) → w ≡ k → swaps e (k ∷ ks) (w ∷ ws) ≡ swaps e ks ws
unfolding swaps
swaps_equal e k w ks ws h = rw (eq-eqb w k h, swaps)

swaps_apart : (e k w : ℕ) (ks ws : List ℕ) → (w ≡ k → ⊥) →
    swaps e (k ∷ ks) (w ∷ ws) ≡ places (swap_of (under e) w k) ∷ swaps e ks (map (exchange w k) ws)
unfolding swaps
swaps_apart e k w ks ws h = rw (ne_eqb w k h, swaps)

-- the ways out of `plan_swap`: a pair more where the qubit goes, none where it stays
module _ (l l₁ : Lookup) (q to : ℕ) (ps ps₁ : List (ℕ × ℕ)) (r : Option ℕ) (is : r ≡ moved l q to) (next : l₁ ≡ tracked l q to) where
  pub swap_counted : l₁.count ≡ counted l.count (accesses l q to)
  swap_counted = rw next (tracked_count l q to)

  module _ (from : ℕ) (some : r ≡ Some from) (more : ps₁ ≡ ps ++ ((from, to) ∷ [])) where
    goes : (wire_at l q ≢ to) × (from ≡ wire_at l q)
    goes = goes_from l q to from (sym is ∙ some)

    pub swap_planned : PlansSwap q to l ps l₁ ps₁
    swap_planned = names_again (λ n few hq ht N.
        let there : wire_at l q ≡ holder ps q = N.wires q hq in
        (rw (more, ← there, ne_eqb (wire_at l q) to goes.0, goes.1), rw (more, next, goes.1) (names_goes n l ps q to few N hq ht goes.0)))

    pub one_more : length ps₁ ≡ length ps + swap_count (wire_at l q) to
    unfolding swap_count
    one_more = rw (ne_eqb (wire_at l q) to goes.0, more, length-append ps ((from, to) ∷ []))

  module _ (none : r ≡ None) where
    stays : wire_at l q ≡ to
    stays = stays_there l q to (sym is ∙ none)

    pub swap_spared : PlansSwap q to l ps l₁ ps
    swap_spared = names_again (λ n few hq ht N.
        let there : wire_at l q ≡ holder ps q = N.wires q hq in
        (rw (← there, eq-eqb (wire_at l q) to stays) (sym (append-nil ps)), rw next (names_stays n l ps q to few N hq ht stays)))

    pub none_more : length ps ≡ length ps + swap_count (wire_at l q) to
    unfolding swap_count
    none_more = rw (eq-eqb (wire_at l q) to stays) (omega arith)

-- a list of qubits 1 to n without its first
within_first : (n x : ℕ) (l : List ℕ) → Within n (x ∷ l) → x ≤ n
within_first n x l W = (W x (member_head x l)).1

within_rest : (n x : ℕ) (l : List ℕ) → Within n (x ∷ l) → Within n l
within_rest n x l W w m = W w (member_tail w x l m)

-- before each k, ks being what is left of the first list and ws of the later one: the lookup names the wire that holds each qubit, and the pairs so far with what
-- the definition still has to swap, the later list's qubits where they are now, are all its swaps
pub record BeforeK (n : ℕ) (first later : List ℕ) (l : Lookup) (ps : List (ℕ × ℕ)) (ks ws : List ℕ) : Type 0 where
  pub names : Names n l ps
  pub wires : Within n ks
  pub qubits : Within n ws
  pub tracking : (e : ℕ) → swaps e first later ≡ swaps_along e ps ++ swaps e ks (map (holder ps) ws)

-- one k more, by what is promised of it
module _ (n : ℕ) (first later : List ℕ) (l l₁ : Lookup) (ps ps₁ : List (ℕ × ℕ)) (q to : ℕ) (ks ws : List ℕ) where
  -- with its pair, unless equal, come those behind it
  next_swaps : (e : ℕ) → ps₁ ≡ ps ++ pair_of (holder ps q) to →
      swaps_along e ps ++ swaps e (to ∷ ks) (holder ps q ∷ map (holder ps) ws) ≡ swaps_along e ps₁ ++ swaps e ks (map (holder ps₁) ws)
  next_swaps e is = by_eq (holder ps q) to
      (λ s.
      let same : ps₁ ≡ ps = is ∙ rw (eq-eqb (holder ps q) to s) (append-nil ps) in
      rw (same, swaps_equal e to (holder ps q) ks (map (holder ps) ws) s))
      (λ s.
      let u = holder ps q in
      let rest = map (holder ps) ws in
      let more : ps₁ ≡ ps ++ ((u, to) ∷ []) = is ∙ rw (ne_eqb u to s) in
      rw (more, swaps_apart e to u ks rest s, holders_next ps u to ws, along_next e ps u to)
      (sym (append_snoc (swaps_along e ps) (places (swap_of (under e) u to)) (swaps e ks (map (holder (ps ++ ((u, to) ∷ []))) ws)))))

  before_next : n ≤ most_wires → PlansSwap q to l ps l₁ ps₁ → BeforeK n first later l ps (to ∷ ks) (q ∷ ws) → BeforeK n first later l₁ ps₁ ks ws
  before_next few (names_again step) B =
      let both = step n few (within_first n q ws B.qubits) (within_first n to ks B.wires) B.names in
      record {
        names = both.1;
        wires = within_rest n to ks B.wires;
        qubits = within_rest n q ws B.qubits;
        tracking = λ e. B.tracking e ∙ next_swaps e both.0;
      }

-- that is so for lists of qubits 1 to n; and as many entries were touched as the definition says, of so many k
pub record Planning (n : ℕ) (first later : List ℕ) (l : Lookup) (ps : List (ℕ × ℕ)) (ks ws : List ℕ) : Type 0 where
  pub before_k : Within n first → Within n later → BeforeK n first later l ps ks ws
  pub few : n ≤ most_wires
  pub short : min (length first) (length later) ≤ set_length
  pub pairs : length ps + min (length ks) (length ws) ≤ min (length first) (length later)
  pub count : l.count + min (length ks) (length ws) ≡ 2 * n + min (length first) (length later) + 5 * length ps

built_count : (n : ℕ) → n ≤ most_wires → (built empty n).count ≡ 2 * n
unfolding built empty kept
built_count zero h = refl
built_count (suc n) h =
    let c : (built empty n).count ≡ 2 * n = built_count n (omega arith) in
    let d = counted_sum (built empty n).count 2 (omega (arith, c)) in
    d ∙ omega (arith, c)

-- the ways out of `plan_swaps`
pub plan_starts : (n f t : ℕ) (l : Lookup) (ps : List (ℕ × ℕ)) (ks ws : List ℕ) → Fits w8 n → l ≡ built empty n → ps ≡ [] → ks ≡ members_of f → ws ≡ members_of t →
    Planning n (members_of f) (members_of t) l ps ks ws
unfolding swaps_along
plan_starts n f t l ps ks ws fits e p fk fw = rw (fk, fw)
    (let few : n ≤ most_wires = omega (arith, fits.fits) in
    let none : length ps ≡ 0 = rw p in
    let count : l.count ≡ 2 * n = rw e (built_count n few) in
    record {
      before_k = λ df dl. record { names = rw (e, p) (names_begun n few); wires = df; qubits = dl; tracking = λ a. rw (p, holders_none (members_of t)) };
      few = few;
      short = omega (arith, members_length f);
      pairs = omega arith;
      count = omega arith;
    })

pub plan_next : (n : ℕ) (first later : List ℕ) (l l₁ : Lookup) (ps ps₁ : List (ℕ × ℕ)) (q to : ℕ) (ks₀ ks ws₀ ws : List ℕ) → ks₀ ≡ to ∷ ks → ws₀ ≡ q ∷ ws →
    PlansSwap q to l ps l₁ ps₁ → length ps₁ ≡ length ps + swap_count (wire_at l q) to → l₁.count ≡ counted l.count (accesses l q to) →
    Planning n first later l ps ks₀ ws₀ → Planning n first later l₁ ps₁ ks ws
unfolding swap_count accesses
plan_next n first later l l₁ ps ps₁ q to ks₀ ks ws₀ ws is_k is_w S p c P =
    let P₀ : Planning n first later l ps (to ∷ ks) (q ∷ ws) = rw (← is_k, ← is_w) P in
    let few = P₀.few in
    let short = P₀.short in
    let pairs = P₀.pairs in
    let count = P₀.count in
    let known : (length ps₁ + min (length ks) (length ws) ≤ min (length first) (length later))
    × (l₁.count + min (length ks) (length ws) ≡ 2 * n + min (length first) (length later) + 5 * length ps₁) = by_eq (wire_at l q) to
    (λ e.
    let c₁ : l₁.count ≡ l.count + 1 = c ∙ rw (eq-eqb (wire_at l q) to e) (counted_sum l.count 1 (omega arith)) in
    let p₁ : length ps₁ ≡ length ps + 0 = p ∙ rw (eq-eqb (wire_at l q) to e) in
    (omega arith, omega arith))
    (λ e.
    let c₁ : l₁.count ≡ l.count + 6 = c ∙ rw (ne_eqb (wire_at l q) to e) (counted_sum l.count 6 (omega arith)) in
    let p₁ : length ps₁ ≡ length ps + 1 = p ∙ rw (ne_eqb (wire_at l q) to e) in
    (omega arith, omega arith))
    in
    record {
      before_k = λ df dl. before_next n first later l l₁ ps ps₁ q to ks ws few S (P₀.before_k df dl);
      few = few;
      short = short;
      pairs = known.0;
      count = known.1;
    }

-- at the end one of the lists has nothing left, and the definition has nothing left to swap
nothing_left : (e : ℕ) (ps : List (ℕ × ℕ)) (ks ws : List ℕ) → min (length ks) (length ws) ≡ 0 → swaps e ks (map (holder ps) ws) ≡ []
unfolding swaps
nothing_left e ps [] ws h = refl
nothing_left e ps (k ∷ ks) [] h = refl
nothing_left e ps (k ∷ ks) (w ∷ ws) h = absurd (omega arith)

module _ (n : ℕ) (first later : List ℕ) (l : Lookup) (r : Plan) (ks ws : List ℕ) (P : Planning n first later l (pairs_of r) ks ws)
    (none : min (length ks) (length ws) ≡ 0) where
  pub plan_ends : PlansSwaps n first later r
  plan_ends = same_swaps (λ df dl e. let B = P.before_k df dl in sym (B.tracking e ∙ rw (nothing_left e (pairs_of r) ks ws none) (append-nil (swaps_along e (pairs_of r)))))

-- where there is room for no more, the first of them are all
pub few_pairs : (xs : List (ℕ × ℕ)) (n k : ℕ) → length xs ≡ n → take (min n k) xs ≡ take k xs
few_pairs xs n k e = by_lt k n
    (λ l. let m : min n k ≡ k = omega arith in rw m)
    (λ l. let m : min n k ≡ n = omega arith in rw m (take_all n xs (omega arith) ∙ sym (take_all k xs (omega arith))))
