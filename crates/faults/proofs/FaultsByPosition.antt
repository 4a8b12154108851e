-- The positions touched tell the faults: the check by positions is document 01's, and its table can be filled by length, and by rank within a length.
use mathlib.Core.Path.{◌≡◌, refl, sym, ap, ◌∙◌, subst}
use mathlib.Core.Bool.{Bool, true, false, ◌&&◌, ◌||◌, false≢true}
use mathlib.Core.List.{List, [], ◌∷◌, map}
use Prim.Native.Nat.{ℕ, zero, suc, ◌+◌, ◌-◌, ◌≤◌, ◌<◌, zero-le, suc-le-suc}
use native.Mathlib.Nat.{not-suc-le-zero, le_of_suc-le-suc}
use native.Mathlib.Omega.{arith}
use borrow.Author.Tests.{eqb-true, eq-eqb, ne_eqb}
use lib.ListN.{get_or, length, length-map, get_or-map}
use lib.Dec.{eqb}
use Rattle.model.specs.Syntax.{Number, Condition, Statement, skip, NOT, sequence, if, qcase, call, Program, count, body}
use Rattle.model.specs.Lists.{range, qubits, remaining, entry, touched, holds, member}
use Rattle.model.specs.Faults.{CallFaults, call_faults, faults, call_faults_within, enough, program_faults}
use Rattle.model.specs.Reach.{calls, recursive, any_below, any_lacks_removal}
use Rattle.model.proofs.BooleanLaws.{by_bool, by_eq, eqb_same, clash, same_test, not_true_false, any_here, any_cases, any_same}
use Rattle.model.proofs.BooleanLaws.{and_left, and_right, and_both, or_left, or_right, or_cases, or-false}
use Rattle.model.proofs.ListLaws.{member_head, member_tail, not_in_nil, member_cases, Distinct, subset_out, range_distinct, range_length, holds_same}
use Rattle.model.proofs.ListLaws.{remaining_map, remaining_subset, remaining_distinct, remaining_no_longer, touched_map}
use Rattle.model.proofs.ListLaws.{Data, data_zero, data_remaining, data_touched, qubits_data}
use Rattle.model.proofs.SizeOfWhatIsLeft.{remaining_length}
use Rattle.model.proofs.ReachAndRank.{Named, Ranked, rank, rank_all, all_ranked}
use Rattle.model.proofs.EnoughFuel.{faults_yes, faults_no, call_falls}
use Rattle.faults.specs.TouchedPositions.{Touched, CallTouches, joined, closes, carried, call_touches, touches, touches_within}
use Rattle.faults.specs.CallLengths.{removal_counts}

-- is one of the positions touched among those that c tells?
abbrev meets : ℕ → Touched → (ℕ → Bool) → Bool
meets k b c = any_below (suc k) (λ t. b t && c t)

module _ (k : ℕ) (c : ℕ → Bool) where
  meets_here : (b : Touched) (t : ℕ) → t ≤ k → b t ≡ true → c t ≡ true → meets k b c ≡ true
  meets_here b t le x y = any_here (suc k) (λ t. b t && c t) t (suc-le-suc le) (and_both (b t) (c t) x y)

  meets_cases {ℓ} : {A : Type ℓ} (b : Touched) → meets k b c ≡ true → ((t : ℕ) → t ≤ k → b t ≡ true → c t ≡ true → A) → A
  meets_cases b h f = any_cases (suc k) (λ t. b t && c t) h (λ t lt e. f t (le_of_suc-le-suc lt) (and_left (b t) (c t) e) (and_right (b t) (c t) e))

  meets_none : meets k (λ t. false) c ≡ false
  meets_none = not_true_false (meets k (λ t. false) c) (λ h. meets_cases (λ t. false) h (λ t le x y. false≢true x))

  meets_one : (q : ℕ) → q ≤ k → meets k (λ t. eqb t q) c ≡ c q
  meets_one q le = same_test (meets k (λ t. eqb t q) c) (c q)
      (λ h. meets_cases (λ t. eqb t q) h (λ t le x y. subst (λ (v : ℕ). c v ≡ true) (eqb-true t q x) y))
      (λ h. meets_here (λ t. eqb t q) q le (eqb_same q) h)

  meets_joined : (a b : Touched) → meets k (joined a b) c ≡ meets k a c || meets k b c
  meets_joined a b = same_test (meets k (joined a b) c) (meets k a c || meets k b c)
      (λ h. meets_cases (joined a b) h (λ t le x y. or_cases (a t) (b t) x
      (λ i. or_left (meets k a c) (meets k b c) (meets_here a t le i y))
      (λ i. or_right (meets k a c) (meets k b c) (meets_here b t le i y))))
      (λ h. or_cases (meets k a c) (meets k b c) h
      (λ i. meets_cases a i (λ t le x y. meets_here (joined a b) t le (or_left (a t) (b t) x) y))
      (λ i. meets_cases b i (λ t le x y. meets_here (joined a b) t le (or_right (a t) (b t) x) y)))

  -- positions carried to the caller, asked there or at the callee
  meets_carried : (l : List ℕ) (b : Touched) → ((u : ℕ) → u ≤ length l → entry l u ≤ k) →
      meets k (carried l b) c ≡ meets (length l) b (λ u. c (entry l u))
  meets_carried l b into = same_test (meets k (carried l b) c) (meets (length l) b (λ u. c (entry l u)))
      (λ h. meets_cases (carried l b) h (λ t le x y. any_cases (suc (length l)) (λ u. b u && eqb (entry l u) t) x
      (λ u lu e. any_here (suc (length l)) (λ u. b u && c (entry l u)) u lu
      (and_both (b u) (c (entry l u)) (and_left (b u) (eqb (entry l u) t) e)
      (subst (λ (v : ℕ). c v ≡ true) (sym (eqb-true (entry l u) t (and_right (b u) (eqb (entry l u) t) e))) y)))))
      (λ h. any_cases (suc (length l)) (λ u. b u && c (entry l u)) h (λ u lu e.
      meets_here (carried l b) (entry l u) (into u (le_of_suc-le-suc lu))
      (any_here (suc (length l)) (λ v. b v && eqb (entry l v) (entry l u)) u lu
      (and_both (b u) (eqb (entry l u) (entry l u)) (and_left (b u) (c (entry l u)) e) (eqb_same (entry l u))))
      (and_right (b u) (c (entry l u)) e)))

-- the entries of a list stand at its places, and at different places where none stands twice
place_member : (l : List ℕ) (i : ℕ) → i < length l → member (get_or l i 0) l ≡ true
place_member [] i h = absurd (not-suc-le-zero h)
place_member (x ∷ l) zero h = member_head x l
place_member (x ∷ l) (suc i) h = member_tail (get_or l i 0) x l (place_member l i (le_of_suc-le-suc h))

place_apart : (l : List ℕ) → Distinct l → (i j : ℕ) → i < length l → j < length l → get_or l i 0 ≡ get_or l j 0 → i ≡ j
place_apart [] d i j hi hj e = absurd (not-suc-le-zero hi)
place_apart (x ∷ l) d zero zero hi hj e = refl
place_apart (x ∷ l) d zero (suc j) hi hj e =
    clash (place_member l j (le_of_suc-le-suc hj)) (subst (λ (v : ℕ). member v l ≡ false) e d.0)
place_apart (x ∷ l) d (suc i) zero hi hj e =
    clash (place_member l i (le_of_suc-le-suc hi)) (subst (λ (v : ℕ). member v l ≡ false) (sym e) d.0)
place_apart (x ∷ l) d (suc i) (suc j) hi hj e = ap suc (place_apart l d.1 i j (le_of_suc-le-suc hi) (le_of_suc-le-suc hj) e)

-- the entries at the positions of a list of data wires are data wires, or 0
entry_data : (n : ℕ) (l : List ℕ) → Data n l → (t : ℕ) → t ≤ length l → entry l t ≤ n
entry_data n l D t h = member_cases (entry l t) 0 l (place_member (0 ∷ l) t (suc-le-suc h)) (λ e. rw e zero-le) (λ m. (D (entry l t) m).1)

-- a list is the list 1 to its length, each position renamed to its entry
range_map : (l : List ℕ) (π : ℕ → ℕ) (a : ℕ) → ((i : ℕ) → i < length l → π (a + i) ≡ get_or l i 0) → map π (range (length l) a) ≡ l
unfolding range
range_map [] π a h = refl
range_map (x ∷ l) π a h =
    let here : π a ≡ x = ap π (plus a) ∙ h 0 (suc-le-suc zero-le) in
    rw (here, range_map l π (suc a) (λ i k. ap π (shift a i) ∙ h (suc i) (suc-le-suc k)))
  where
    plus : (a : ℕ) → a ≡ a + 0
    plus a = omega arith

    shift : (a i : ℕ) → suc a + i ≡ a + suc i
    shift a i = omega arith

entries : (l : List ℕ) → map (entry l) (qubits (length l)) ≡ l
entries l = range_map l (entry l) 1 (λ i h. ap (entry l) (plus i))
  where
    plus : (i : ℕ) → 1 + i ≡ suc i
    plus i = omega arith

-- the qubit touched and the remaining list, by position
touched_entry : (rs : List Number) (a : Number) (l : List ℕ) → touched rs a l ≡ entry l (touched rs a (qubits (length l)))
touched_entry rs a l = ap (touched rs a) (sym (entries l)) ∙ touched_map (entry l) refl rs a (qubits (length l))

remaining_entry : (rs : List Number) (l : List ℕ) → remaining rs l ≡ map (entry l) (remaining rs (qubits (length l)))
remaining_entry rs l = ap (remaining rs) (sym (entries l)) ∙ sym (remaining_map (entry l) rs (qubits (length l)))

touched_inside : (rs : List Number) (a : Number) (m : ℕ) → touched rs a (qubits m) ≤ m
touched_inside rs a m = data_touched m rs a (qubits m) (qubits_data m)

remaining_inside : (rs : List Number) (m : ℕ) → Data m (remaining rs (qubits m))
remaining_inside rs m = data_remaining m rs (qubits m) (qubits_data m)

-- the clauses of `touches` at a condition
module _ (o : CallTouches) (c : Condition) (s t : Statement) (m : ℕ) where
  pub touches_yes : holds c (qubits m) ≡ true → touches o (if c s t) m ≡ touches o s m
  unfolding touches
  touches_yes e = rw (e, touches)

  pub touches_no : holds c (qubits m) ≡ false → touches o (if c s t) m ≡ touches o t m
  unfolding touches
  touches_no e = rw (e, touches)

-- a position above m is none that m bounds
apart : (t q m : ℕ) → q ≤ m → m < t → eqb t q ≡ false
apart t q m le lt = ne_eqb t q (λ e. above (subst (λ (v : ℕ). m < v) e lt))
  where
    above : m < q → ⊥
    above x = omega arith

call_touches_inside : (o : CallTouches) (f : ℕ) (l : List ℕ) (m t : ℕ) → Data m l → m < t → call_touches o f l t ≡ false
unfolding call_touches
call_touches_inside o f [] m t D h = refl
call_touches_inside o f (x ∷ l) m t D h =
    not_true_false (call_touches o f (x ∷ l) t) (λ e. any_cases (suc (length (x ∷ l))) (λ u. o f (length (x ∷ l)) u && eqb (entry (x ∷ l) u) t) e
    (λ u lu i. above (entry (x ∷ l) u)
    (eqb-true (entry (x ∷ l) u) t (and_right (o f (length (x ∷ l)) u) (eqb (entry (x ∷ l) u) t) i)) (entry_data m (x ∷ l) D u (le_of_suc-le-suc lu))))
  where
    above : (w : ℕ) → w ≡ t → w ≤ m → ⊥
    above w e le = omega arith

-- all positions touched lie in 0 to the length: m + 1 places hold them
pub touches_inside : (o : CallTouches) (s : Statement) (m t : ℕ) → m < t → touches o s m t ≡ false
unfolding touches
touches_inside o skip m t h = refl
touches_inside o (NOT rs a) m t h = apart t (touched rs a (qubits m)) m (touched_inside rs a m) h
touches_inside o (sequence s u) m t h = or-false (touches o s m t) (touches o u m t) (touches_inside o s m t h) (touches_inside o u m t h)
touches_inside o (if c s u) m t h = by_bool (holds c (qubits m))
    (λ e. rw (touches_yes o c s u m e) (touches_inside o s m t h))
    (λ e. rw (touches_no o c s u m e) (touches_inside o u m t h))
touches_inside o (qcase rs a s u) m t h =
    rw (apart t (touched rs a (qubits m)) m (touched_inside rs a m) h, touches_inside o s m t h, touches_inside o u m t h, apart t 0 m zero-le h)
touches_inside o (call rs f) m t h = call_touches_inside o f (remaining rs (qubits m)) m t (remaining_inside rs m) h

-- does position t of a list hold a closed qubit? Position 0, which stands for a fault, counts as closed
abbrev pub closed_at : List ℕ → List ℕ → ℕ → Bool
closed_at l closed t = member (entry l t) (0 ∷ closed)

-- does it fault to touch these positions of a list, where some qubits are closed?
abbrev pub position_faults : Touched → List ℕ → List ℕ → Bool
position_faults b l closed = any_below (suc (length l)) (λ t. b t && closed_at l closed t)

-- calls fault as the positions that they touch say, on lists of qubits without repetition
abbrev Tells : CallTouches → CallFaults → Type 0
Tells v o = (f : ℕ) (l closed : List ℕ) → Distinct (0 ∷ l) → o f l closed ≡ position_faults (v f (length l)) l closed

-- a qcase on position q of a list: its qubit is closed already, or its branches fault with that qubit closed too
module _ (l : List ℕ) (d : Distinct (0 ∷ l)) (q : ℕ) (lq : q ≤ length l) (b : Touched) (closed : List ℕ) where
  abbrev before : ℕ → Bool
  before = closed_at l closed

  abbrev inside : ℕ → Bool
  inside = closed_at l (entry l q ∷ closed)

  inside_before : (t : ℕ) → before t ≡ true → inside t ≡ true
  inside_before t h = member_cases (entry l t) 0 closed h
      (λ e. rw e (member_head 0 (entry l q ∷ closed)))
      (λ k. member_tail (entry l t) 0 (entry l q ∷ closed) (member_tail (entry l t) (entry l q) closed k))

  -- what is closed inside and was not before stands at q
  inside_cases {ℓ} : {A : Type ℓ} (t : ℕ) → t ≤ length l → inside t ≡ true → (before t ≡ true → A) → (t ≡ q → A) → A
  inside_cases t lt h f g = member_cases (entry l t) 0 (entry l q ∷ closed) h
      (λ e. f (rw e (member_head 0 closed)))
      (λ k. member_cases (entry l t) (entry l q) closed k
      (λ e. g (place_apart (0 ∷ l) d t q (suc-le-suc lt) (suc-le-suc lq) e))
      (λ j. f (member_tail (entry l t) 0 closed j)))

  closes_at : closes q b q ≡ true
  closes_at = or_left (eqb q q || b q) (eqb q 0 && b q) (or_left (eqb q q) (b q) (eqb_same q))

  closes_inside : (t : ℕ) → b t ≡ true → closes q b t ≡ true
  closes_inside t x = or_left (eqb t q || b t) (eqb t 0 && b q) (or_right (eqb t q) (b t) x)

  closes_again : b q ≡ true → closes q b 0 ≡ true
  closes_again x = or_right (eqb 0 q || b 0) (b q) x

  closes_faults : before q || position_faults b l (entry l q ∷ closed) ≡ position_faults (closes q b) l closed
  closes_faults = same_test (before q || meets (length l) b inside) (meets (length l) (closes q b) before)
      (λ h. or_cases (before q) (meets (length l) b inside) h
      (λ e. meets_here (length l) before (closes q b) q lq closes_at e)
      (λ i. meets_cases (length l) inside b i (λ t lt x y. inside_cases t lt y
      (λ k. meets_here (length l) before (closes q b) t lt (closes_inside t x) k)
      (λ e. meets_here (length l) before (closes q b) 0 zero-le (closes_again (subst (λ (u : ℕ). b u ≡ true) e x)) (member_head 0 closed)))))
      (λ h. meets_cases (length l) before (closes q b) h (λ t lt x y. or_cases (eqb t q || b t) (eqb t 0 && b q) x
      (λ i. or_cases (eqb t q) (b t) i
      (λ e. or_left (before q) (meets (length l) b inside) (subst (λ (u : ℕ). before u ≡ true) (eqb-true t q e) y))
      (λ e. or_right (before q) (meets (length l) b inside) (meets_here (length l) inside b t lt e (inside_before t y))))
      (λ i. or_right (before q) (meets (length l) b inside) (meets_here (length l) inside b q lq (and_right (eqb t 0) (b q) i)
      (member_tail (entry l q) 0 (entry l q ∷ closed) (member_head (entry l q) closed))))))

module _ (v : CallTouches) (o : CallFaults) (T : Tells v o) (l : List ℕ) (d : Distinct (0 ∷ l)) where
  -- a call on what the removals leave, given by the positions k of l
  call_faults_lem : (f : ℕ) (k closed : List ℕ) → Data (length l) k → Distinct (0 ∷ map (entry l) k) →
      call_faults o f (map (entry l) k) closed ≡ position_faults (call_touches v f k) l closed
  unfolding call_faults call_touches
  call_faults_lem f [] closed D e = sym (meets_none (length l) (closed_at l closed))
  call_faults_lem f (x ∷ k) closed D e =
      T f (map (entry l) (x ∷ k)) closed e ∙
      ap (λ (n : ℕ). meets n (v f n) (closed_at (map (entry l) (x ∷ k)) closed)) (length-map (x ∷ k) (entry l)) ∙
      any_same (suc (length (x ∷ k))) (λ u. v f (length (x ∷ k)) u && closed_at (map (entry l) (x ∷ k)) closed u)
      (λ u. v f (length (x ∷ k)) u && closed_at l closed (entry (x ∷ k) u))
      (λ u lu. ap (λ (w : ℕ). v f (length (x ∷ k)) u && member w (0 ∷ closed)) (get_or-map (entry l) (0 ∷ x ∷ k) u 0)) ∙
      sym (meets_carried (length l) (closed_at l closed) (x ∷ k) (v f (length (x ∷ k))) (entry_data (length l) (x ∷ k) D))

  statement_faults : (s : Statement) (closed : List ℕ) → faults o s l closed ≡ position_faults (touches v s (length l)) l closed
  unfolding faults touches
  statement_faults skip closed = sym (meets_none (length l) (closed_at l closed))
  statement_faults (NOT rs a) closed = rw (touched_entry rs a l)
      (sym (meets_one (length l) (closed_at l closed) (touched rs a (qubits (length l))) (touched_inside rs a (length l))))
  statement_faults (sequence s t) closed = rw (statement_faults s closed, statement_faults t closed)
      (sym (meets_joined (length l) (closed_at l closed) (touches v s (length l)) (touches v t (length l))))
  statement_faults (if c s t) closed =
      let by_position = holds_same c (qubits (length l)) l (range_length (length l) 1) in
      by_bool (holds c l)
      (λ e. rw (faults_yes o c s t l closed e, touches_yes v c s t (length l) (by_position ∙ e)) (statement_faults s closed))
      (λ e. rw (faults_no o c s t l closed e, touches_no v c s t (length l) (by_position ∙ e)) (statement_faults t closed))
  statement_faults (qcase rs a s t) closed =
      let q : ℕ = touched rs a (qubits (length l)) in
      rw (
        touched_entry rs a l,
        statement_faults s (entry l q ∷ closed),
        statement_faults t (entry l q ∷ closed),
        ← meets_joined (length l) (closed_at l (entry l q ∷ closed)) (touches v s (length l)) (touches v t (length l)),
      )
      (closes_faults l d q (touched_inside rs a (length l)) (joined (touches v s (length l)) (touches v t (length l))) closed)
  statement_faults (call rs f) closed =
      let e = remaining_entry rs l in
      let zero_out = subset_out (remaining rs l) l (remaining_subset rs l) 0 d.0 in
      ap (λ (k : List ℕ). call_faults o f k closed) e ∙
      call_faults_lem f (remaining rs (qubits (length l))) closed (remaining_inside rs (length l))
      (subst (λ (k : List ℕ). Distinct (0 ∷ k)) e (zero_out, remaining_distinct rs l d.1))

within_faults : (P : Program) (fuel : ℕ) → Tells (touches_within P fuel) (call_faults_within P fuel)
unfolding touches_within call_faults_within
within_faults P zero f l closed d =
    sym (meets_one (length l) (closed_at l closed) 0 zero-le ∙ member_head 0 closed)
within_faults P (suc fuel) f l closed d = statement_faults (touches_within P fuel) (call_faults_within P fuel) (within_faults P fuel) l d (body P f) closed

-- the faults of a statement by the positions that it touches: it faults inside, or touches a position that holds a closed qubit
pub touches_faults : (P : Program) (n fuel : ℕ) (s : Statement) (l closed : List ℕ) → Distinct l → Data n l →
    faults (call_faults_within P fuel) s l closed ≡ position_faults (touches (touches_within P fuel) s (length l)) l closed
touches_faults P n fuel s l closed d D =
    statement_faults (touches_within P fuel) (call_faults_within P fuel) (within_faults P fuel) l (data_zero n l D, d) s closed

-- refusal 12: a fault inside main, where nothing is closed
pub main_faults : (P : Program) (n : ℕ) → program_faults P n ≡ touches (touches_within P (enough P n)) P.main n 0
unfolding program_faults
main_faults P n =
    let b : Touched = touches (touches_within P (enough P n)) P.main n in
    touches_faults P n (enough P n) P.main (qubits n) [] (range_distinct n 1) (qubits_data n) ∙
    ap (λ (m : ℕ). meets m (touches (touches_within P (enough P n)) P.main m) (closed_at (qubits n) [])) (range_length n 1) ∙
    same_test (meets n b (closed_at (qubits n) [])) (b 0)
    (λ h. meets_cases n (closed_at (qubits n) []) b h (λ t lt x y. member_cases (entry (qubits n) t) 0 [] y
    (λ e. subst (λ (u : ℕ). b u ≡ true) (place_apart (0 ∷ qubits n) (data_zero n (qubits n) (qubits_data n), range_distinct n 1) t 0
    (rw (range_length n 1) (suc-le-suc lt)) (suc-le-suc zero-le) e) x)
    (λ k. not_in_nil (entry (qubits n) t) k)))
    (λ h. meets_here n (closed_at (qubits n) []) b 0 zero-le h (member_head 0 []))

-- two accounts of calls agree for procedure g on lists of length m, at the positions of such a list
abbrev pub SameTouches : CallTouches → CallTouches → ℕ → ℕ → Type 0
SameTouches o v g m = (t : ℕ) → t ≤ m → o g m t ≡ v g m t

call_touches_agree : (o v : CallTouches) (f : ℕ) (l : List ℕ) → (0 < length l → SameTouches o v f (length l)) → (t : ℕ) →
    call_touches o f l t ≡ call_touches v f l t
unfolding call_touches
call_touches_agree o v f [] A t = refl
call_touches_agree o v f (x ∷ l) A t =
    any_same (suc (length (x ∷ l))) (λ u. o f (length (x ∷ l)) u && eqb (entry (x ∷ l) u) t) (λ u. v f (length (x ∷ l)) u && eqb (entry (x ∷ l) u) t)
    (λ u lu. ap (λ (w : Bool). w && eqb (entry (x ∷ l) u) t) (A (suc-le-suc zero-le) u (le_of_suc-le-suc lu)))

-- a procedure of rank k on m qubits calls g on m': on no more qubits and of no higher rank, and not both the same
abbrev Falls : (ℕ → ℕ) → ℕ → ℕ → ℕ → ℕ → Type 0
Falls rank k m g m' = (rank g ≤ k) × (m' ≤ m) × (rank g + m' < k + m)

module _ (rank : ℕ → ℕ) (r : ℕ → Bool) (k m : ℕ) where
  call_before : (rs : List Number) (g : ℕ) → Ranked rank r k (call rs g) → 0 < length (remaining rs (qubits m)) →
      Falls rank k m g (length (remaining rs (qubits m)))
  call_before rs g q some =
      let len : length (qubits m) ≡ m = range_length m 1 in
      let less = remaining_no_longer rs (qubits m) in
      let sum = call_falls rank r k (qubits m) (omega arith) rs g q in
      (by_bool (r g) (λ e. (q.0 e).0) (λ e. let low : rank g < k = q.1 e in omega arith), omega arith, omega arith)

  -- and on as many qubits less as the call carries removals
  call_length : (rs : List Number) (g : ℕ) → 0 < length (remaining rs (qubits m)) →
      removal_counts (call rs g) (m - length (remaining rs (qubits m))) ≡ true
  unfolding removal_counts
  call_length rs g some =
      let len : length (qubits m) ≡ m = range_length m 1 in
      let sum = remaining_length rs (qubits m) some in
      eq-eqb (m - length (remaining rs (qubits m))) (length rs) (omega arith)

  -- two accounts agree on the calls that s can make
  abbrev Agree : CallTouches → CallTouches → Statement → Type 0
  Agree o v s = (g m' : ℕ) → calls s g ≡ true → removal_counts s (m - m') ≡ true → 0 < m' → Falls rank k m g m' → SameTouches o v g m'

  -- they agree on the calls that s or t can make, and so on those of each
  abbrev Both : CallTouches → CallTouches → Statement → Statement → Type 0
  Both o v s t = (g m' : ℕ) → calls s g || calls t g ≡ true → removal_counts s (m - m') || removal_counts t (m - m') ≡ true →
      0 < m' → Falls rank k m g m' → SameTouches o v g m'

  first : {o v : CallTouches} (s t : Statement) → Both o v s t → Agree o v s
  first s t A g m' c n = A g m' (or_left (calls s g) (calls t g) c) (or_left (removal_counts s (m - m')) (removal_counts t (m - m')) n)

  second : {o v : CallTouches} (s t : Statement) → Both o v s t → Agree o v t
  second s t A g m' c n = A g m' (or_right (calls s g) (calls t g) c) (or_right (removal_counts s (m - m')) (removal_counts t (m - m')) n)

  -- what a statement touches, by any two accounts that agree on the calls it can make
  touches_agree : (o v : CallTouches) (s : Statement) → Ranked rank r k s → Agree o v s → (t : ℕ) → touches o s m t ≡ touches v s m t
  unfolding touches calls removal_counts
  touches_agree o v skip q A u = refl
  touches_agree o v (NOT rs a) q A u = refl
  touches_agree o v (sequence s t) q A u =
      rw (touches_agree o v s q.0 (first s t A) u, touches_agree o v t q.1 (second s t A) u)
  touches_agree o v (if c s t) q A u = by_bool (holds c (qubits m))
      (λ e. rw (touches_yes o c s t m e, touches_yes v c s t m e) (touches_agree o v s q.0 (first s t A) u))
      (λ e. rw (touches_no o c s t m e, touches_no v c s t m e) (touches_agree o v t q.1 (second s t A) u))
  touches_agree o v (qcase rs a s t) q A u =
      let x = touched rs a (qubits m) in
      let S : (u : ℕ) → touches o s m u ≡ touches v s m u = touches_agree o v s q.0 (first s t A) in
      let T : (u : ℕ) → touches o t m u ≡ touches v t m u = touches_agree o v t q.1 (second s t A) in
      rw (S u, T u, S x, T x)
  touches_agree o v (call rs f) q A u = call_touches_agree o v f (remaining rs (qubits m))
      (λ some. A f (length (remaining rs (qubits m))) (eqb_same f) (call_length rs f some) some (call_before rs f q some)) u

-- what procedure f touches of a list of length m, followed to its end
abbrev pub touches_of : Program → CallTouches
touches_of P f m = touches_within P (rank P f + m) f m

-- a table that passes refusal 10
module _ (P : Program) (N : Named P) (passes10 : any_lacks_removal P ≡ false) where
  -- all fuel from rank + length on is the same
  enough_touches : (a b f m : ℕ) → 0 < m → rank P f + m ≤ a → rank P f + m ≤ b → (t : ℕ) → touches_within P a f m t ≡ touches_within P b f m t
  unfolding touches_within
  enough_touches zero b f m some ha hb t = absurd (nothing some ha)
    where
      nothing : 0 < m → rank P f + m ≤ 0 → ⊥
      nothing x y = omega arith
  enough_touches (suc a) zero f m some ha hb t = absurd (nothing some hb)
    where
      nothing : 0 < m → rank P f + m ≤ 0 → ⊥
      nothing x y = omega arith
  enough_touches (suc a) (suc b) f m some ha hb t =
      touches_agree (rank P) (recursive P f) (rank P f) m (touches_within P a) (touches_within P b) (body P f) (all_ranked P N passes10 f)
      (λ g m' c n some' h u lu. let x : rank P g + m' < rank P f + m = h.2 in enough_touches a b g m' some' (omega arith) (omega arith) u) t

  -- what a body touches, by a table that has what it can call
  module _ (o : CallTouches) (f m fuel : ℕ) (deep : rank P f + m ≤ suc fuel)
      (A : (g m' : ℕ) → 0 < g → g ≤ count P → removal_counts (body P f) (m - m') ≡ true → 0 < m' →
      Falls (rank P) (rank P f) m g m' → SameTouches o (touches_of P) g m') where
    body_touches : (t : ℕ) → touches o (body P f) m t ≡ touches (touches_within P fuel) (body P f) m t
    body_touches = touches_agree (rank P) (recursive P f) (rank P f) m o (touches_within P fuel) (body P f) (all_ranked P N passes10 f)
        (λ g m' c n some h u lu.
        let x : rank P g + m' < rank P f + m = h.2 in
        A g m' (N f g c).0 (N f g c).1 n some h u lu ∙ enough_touches (rank P g + m') fuel g m' some (omega arith) (omega arith) u)

  -- a table filled in the order of lengths, and of ranks within a length: all that a body can call is there before it
  pub fill_touches : (o : CallTouches) (f m : ℕ) → 0 < m →
      ((g m' : ℕ) → 0 < g → g ≤ count P → removal_counts (body P f) (m - m') ≡ true → 0 < m' → m' < m → SameTouches o (touches_of P) g m') →
      ((g : ℕ) → 0 < g → g ≤ count P → rank P g < rank P f → SameTouches o (touches_of P) g m) →
      (t : ℕ) → touches o (body P f) m t ≡ touches_of P f m t
  unfolding touches_within
  fill_touches o f m some shorter lower t =
      body_touches o f m (rank P f + m) (omega arith)
      (λ g m' hg hc n some' h.
      let x : m' ≤ m = h.1 in
      let y : rank P g + m' < rank P f + m = h.2 in
      by_eq m' m
      (λ e. subst (SameTouches o (touches_of P) g) (sym e) (lower g hg hc (omega arith)))
      (λ ne. shorter g m' hg hc n some' (omega arith))) t ∙
      enough_touches (suc (rank P f + m)) (rank P f + m) f m some (omega arith) (omega arith) t

  -- refusal 12 by a table that has every procedure at every length that main's calls lead to
  pub main_touches : (o : CallTouches) (n : ℕ) →
      ((g m : ℕ) → 0 < g → g ≤ count P → removal_counts P.main (n - m) ≡ true → 0 < m → m ≤ n → SameTouches o (touches_of P) g m) →
      program_faults P n ≡ touches o P.main n 0
  main_touches o n A = main_faults P n ∙
      sym (body_touches o 0 n (enough P n) (let top = rank_all P 0 in omega arith) (λ g m hg hc c some h. A g m hg hc c some h.1) 0)
