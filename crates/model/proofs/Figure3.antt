-- Figure 3 of source 000: the rules derive ⊤ with the end state where a program has no fault, ⊥ where it has one, and nothing else.
use mathlib.Core.Path.{◌≡◌, refl, sym, ap, ◌∙◌, subst}
use mathlib.Core.Logic.{◌≢◌}
use mathlib.Core.Bool.{Bool, true, false, not, ◌||◌, cond, true≢false, false≢true}
use mathlib.Core.List.{List, [], ◌∷◌, cons≢nil}
use Prim.Native.Nat.{ℕ, zero, suc, ◌+◌, ◌≤◌, ◌<◌, zero-le, suc-le-suc}
use native.Mathlib.Omega.{arith}
use borrow.Author.Tests.{eqb-true, eqb-false, ne_eqb}
use lib.ListN.{length}
use lib.Dec.{eqb}
use Rattle.model.specs.Syntax.{Number, Condition, Statement, skip, NOT, sequence, if, qcase, call, Program, body}
use Rattle.model.specs.Lists.{qubits, remaining, touched, holds, member}
use Rattle.model.specs.Faults.{CallFaults, call_faults, touch_faults, faults, call_faults_within, enough, program_faults}
use Rattle.model.specs.Meaning.{State, flipped, state_of, word_of, CallDoes, call_does, does, call_does_within, end_state, end_word}
use Rattle.model.specs.Reach.{recursive, any_lacks_removal}
use Rattle.model.specs.Rules.{ConditionIs, SetIs, QubitIs, Ending, top, bottom, without, any_bottom, Derives, RunDerives}
use Rattle.model.specs.Rules.{skips, asg_bottom, asg_top, seq, seq_bottom, if_yes, if_no, case_top, case_bottom, case_out, calls, calls_nil}
use Rattle.model.proofs.BooleanLaws.{by_bool, by_eq, clash}
use Rattle.model.proofs.ListLaws.{member_head, member_tail, member_nil, member_cases, member_skip, member_differs, Subset, remaining_subset}
use Rattle.model.proofs.ListLaws.{touched_member, Data, data_zero, qubits_data, range_length}
use Rattle.model.proofs.GateLaws.{flipped_other}
use Rattle.model.proofs.ReachAndRank.{Named, Ranked, rank, rank_all, all_ranked}
use Rattle.model.proofs.EnoughFuel.{does_yes, does_no, does_zero, does_one, faults_yes, faults_no, call_falls, no_fuel}
use Rattle.model.proofs.Figure2.{condition_is, set_derived, qubit_derived, condition_one, set_one, qubit_one}

-- A \ {q}: the clauses of `without` by their test
without_hit : (q x : ℕ) (A : List ℕ) → eqb q x ≡ true → without q (x ∷ A) ≡ without q A
unfolding without
without_hit q x A e = rw (e, without)

without_miss : (q x : ℕ) (A : List ℕ) → eqb q x ≡ false → without q (x ∷ A) ≡ x ∷ without q A
unfolding without
without_miss q x A e = rw (e, without)

-- it does not hold q, and of the others what A holds
without_same : (q : ℕ) (A : List ℕ) → member q (without q A) ≡ false
unfolding without
without_same q [] = member_nil q
without_same q (x ∷ A) = by_bool (eqb q x)
    (λ e. rw (without_hit q x A e) (without_same q A))
    (λ e. rw (without_miss q x A e) (member_skip q x (without q A) (eqb-false q x e) (without_same q A)))

without_other : (w q : ℕ) → w ≢ q → (A : List ℕ) → member w (without q A) ≡ member w A
unfolding without member
without_other w q n [] = refl
without_other w q n (x ∷ A) = by_bool (eqb q x)
    (λ e. rw (without_hit q x A e, ne_eqb w x (λ i. n (i ∙ sym (eqb-true q x e)))) (without_other w q n A))
    (λ e. rw (without_miss q x A e, without_other w q n A))

-- the open qubits of the rules are those of the list that are not closed; 0 is not open
abbrev Opens : List ℕ → List ℕ → List ℕ → Type 0
Opens l A closed = (w : ℕ) → member w (0 ∷ l) ≡ true → member w A ≡ not (touch_faults w closed)

-- at the start, where nothing is closed; inside the branches of a qcase; in a call
opens_start : (n : ℕ) (l : List ℕ) → Data n l → Opens l l []
opens_start n l d w m = member_cases w 0 l m
    (λ e. rw (e, data_zero n l d, member_head 0 []))
    (λ i. rw (i, member_skip w 0 [] (member_differs w 0 l i (data_zero n l d)) (member_nil w)))

skip_closed : (w q : ℕ) (closed : List ℕ) → w ≢ q → member w (0 ∷ q ∷ closed) ≡ member w (0 ∷ closed)
unfolding member
skip_closed w q closed n = ap (λ x. eqb w 0 || (x || member w closed)) (ne_eqb w q n)

opens_case : (l A closed : List ℕ) (q : ℕ) → Opens l A closed → Opens l (without q A) (q ∷ closed)
opens_case l A closed q h w m = by_eq w q
    (λ e. rw (e, without_same q A, member_tail q 0 (q ∷ closed) (member_head q closed)))
    (λ n. rw (without_other w q n A, h w m) (ap not (sym (skip_closed w q closed n))))

opens_subset : (l m A closed : List ℕ) → Subset m l → Opens l A closed → Opens m A closed
opens_subset l m A closed i h w o = h w (member_cases w 0 m o (λ e. rw e (member_head 0 l)) (λ j. member_tail w 0 l (i w j)))

-- what the rules derive, by whether there is a fault: ⊤ with the given end state, or ⊥
data Ends (P : Program) (t : Statement) (s : State) (A l : List ℕ) (end : State) : Bool → Type 0 where
  safe : Derives P t s A l top end → Ends P t s A l end false
  faulty : {s' : State} → Derives P t s A l bottom s' → Ends P t s A l end true

-- the rules, each with what it says of both endings
module _ {P : Program} where
  ends_NOT : {rs : List Number} {a : Number} {s : State} {A l : List ℕ} {q : ℕ} (b : Bool) → QubitIs l rs a q → member q A ≡ not b →
      Ends P (NOT rs a) s A l (flipped q s) b
  ends_NOT true x m = faulty (asg_bottom x m)
  ends_NOT false x m = safe (asg_top x m)

  ends_sequence : {t u : Statement} {s s' s'' : State} {A l : List ℕ} {b c : Bool} → Ends P t s A l s' b → Ends P u s' A l s'' c →
      Ends P (sequence t u) s A l s'' (b || c)
  ends_sequence (faulty x) y = faulty (seq_bottom x)
  ends_sequence (safe x) (faulty y) = faulty (seq x y)
  ends_sequence (safe x) (safe y) = safe (seq x y)

  ends_yes : {c : Condition} {t u : Statement} {s s' : State} {A l : List ℕ} {b : Bool} → ConditionIs l c true → Ends P t s A l s' b →
      Ends P (if c t u) s A l s' b
  ends_yes c (faulty x) = faulty (if_yes c x)
  ends_yes c (safe x) = safe (if_yes c x)

  ends_no : {c : Condition} {t u : Statement} {s s' : State} {A l : List ℕ} {b : Bool} → ConditionIs l c false → Ends P u s A l s' b →
      Ends P (if c t u) s A l s' b
  ends_no c (faulty x) = faulty (if_no c x)
  ends_no c (safe x) = safe (if_no c x)

  ends_qcase : {rs : List Number} {a : Number} {t u : Statement} {s s₀ s₁ : State} {A l : List ℕ} {q : ℕ} (b : Bool) {b₀ b₁ : Bool} →
      QubitIs l rs a q → member q A ≡ not b → Ends P t s (without q A) l s₀ b₀ → Ends P u s (without q A) l s₁ b₁ →
      Ends P (qcase rs a t u) s A l (cond (s q) s₁ s₀) (b || (b₀ || b₁))
  unfolding any_bottom
  ends_qcase true q m x y = faulty (case_out q m)
  ends_qcase false q m (faulty x) (faulty y) = faulty (case_bottom q m x y refl)
  ends_qcase false q m (faulty x) (safe y) = faulty (case_bottom q m x y refl)
  ends_qcase false q m (safe x) (faulty y) = faulty (case_bottom q m x y refl)
  ends_qcase false q m (safe x) (safe y) = safe (case_top q m x y)

  ends_body : {rs : List Number} {f x : ℕ} {s s' : State} {A l m : List ℕ} {b : Bool} → SetIs l l rs (x ∷ m) →
      Ends P (body P f) s A (x ∷ m) s' b → Ends P (call rs f) s A l s' b
  ends_body i (faulty y) = faulty (calls i y)
  ends_body i (safe y) = safe (calls i y)

-- a call, where the rules derive of the body what o and o' say of it
ends_call : {P : Program} (o : CallDoes) (o' : CallFaults) (rs : List Number) (f : ℕ) (s : State) (A l closed m : List ℕ) → SetIs l l rs m →
    (0 < length m → Ends P (body P f) s A m (o f m s) (o' f m closed)) → Ends P (call rs f) s A l (call_does o f m s) (call_faults o' f m closed)
unfolding call_does call_faults
ends_call o o' rs f s A l closed [] i h = safe (calls_nil i)
ends_call o o' rs f s A l closed (x ∷ m) i h = ends_body i (h (suc-le-suc zero-le))

-- the state after a qcase is that of the branch of the bit
does_qcase : (o : CallDoes) (rs : List Number) (a : Number) (t u : Statement) (l : List ℕ) (s : State) →
    does o (qcase rs a t u) l s ≡ cond (s (touched rs a l)) (does o u l s) (does o t l s)
does_qcase o rs a t u l s = by_bool (s (touched rs a l))
    (λ e. rw (does_one o rs a t u l s e, e))
    (λ e. rw (does_zero o rs a t u l s e, e))

-- the rules derive of every ranked statement what `does` and `faults` say of it, if they do so of the bodies that it calls
module _ (P : Program) (rank : ℕ → ℕ) (o : CallDoes) (o' : CallFaults) where
  -- the bodies of rank + length below m
  abbrev Served : ℕ → Type 0
  Served m = (f : ℕ) (l : List ℕ) (s : State) (A closed : List ℕ) → 0 < length l → rank f + length l < m → Opens l A closed →
      Ends P (body P f) s A l (o f l s) (o' f l closed)

  module _ (r : ℕ → Bool) (k : ℕ) (l : List ℕ) (some : 0 < length l) (served : Served (k + length l)) where
    ends : (t : Statement) → Ranked rank r k t → (s : State) (A closed : List ℕ) → Opens l A closed →
        Ends P t s A l (does o t l s) (faults o' t l closed)
    unfolding does faults
    ends skip q s A closed h = safe skips
    ends (NOT rs a) q s A closed h =
        let w = touched rs a l in ends_NOT (touch_faults w closed) (qubit_derived l rs a) (h w (touched_member rs a l))
    ends (sequence t u) q s A closed h = ends_sequence (ends t q.0 s A closed h) (ends u q.1 (does o t l s) A closed h)
    ends (if c t u) q s A closed h = by_bool (holds c l)
        (λ e. rw (does_yes o c t u l s e, faults_yes o' c t u l closed e)
        (ends_yes ((condition_is l c true).1 (sym e)) (ends t q.0 s A closed h)))
        (λ e. rw (does_no o c t u l s e, faults_no o' c t u l closed e)
        (ends_no ((condition_is l c false).1 (sym e)) (ends u q.1 s A closed h)))
    ends (qcase rs a t u) q s A closed h =
        let w = touched rs a l in
        let within = opens_case l A closed w h in
        rw (does_qcase o rs a t u l s)
        (ends_qcase (touch_faults w closed) (qubit_derived l rs a) (h w (touched_member rs a l))
        (ends t q.0 s (without w A) (w ∷ closed) within) (ends u q.1 s (without w A) (w ∷ closed) within))
    ends (call rs f) q s A closed h = ends_call o o' rs f s A l closed (remaining rs l) (set_derived l rs l)
        (λ some'. served f (remaining rs l) s A closed some' (call_falls rank r k l some rs f q)
        (opens_subset l (remaining rs l) A closed (remaining_subset rs l) h))

module _ (P : Program) (rank : ℕ → ℕ) (R : (f : ℕ) → Ranked rank (recursive P f) (rank f) (body P f)) where
  -- with enough fuel they do so of every body
  body_ends : (fuel f : ℕ) (l : List ℕ) (s : State) (A closed : List ℕ) → 0 < length l → rank f + length l ≤ fuel → Opens l A closed →
      Ends P (body P f) s A l (call_does_within P fuel f l s) (call_faults_within P fuel f l closed)
  unfolding call_does_within call_faults_within
  body_ends zero f l s A closed some le h = absurd (no_fuel rank f l some le)
  body_ends (suc fuel) f l s A closed some le h =
      ends P rank (call_does_within P fuel) (call_faults_within P fuel) (recursive P f) (rank f) l some
      (λ g l' s' A' closed' some' lt h'. body_ends fuel g l' s' A' closed' some' (omega arith) h') (body P f) (R f) s A closed h

-- ⊤ is not ⊥
abbrev IsTop : Ending → Type 0
IsTop top = Unit {0}
IsTop bottom = ⊥

top≢bottom : top ≢ bottom
top≢bottom e = subst IsTop e tt

both_top : {e e' : Ending} → e ≡ top → e' ≡ top → any_bottom e e' ≡ false
unfolding any_bottom
both_top x y = rw (x, y, any_bottom)

module _ {P : Program} where
  -- the rules derive one ending and one end state, of any program, open qubits and list
  pub derives_one : {t : Statement} {s s' s'' : State} {A l : List ℕ} {e e' : Ending} → Derives P t s A l e s' → Derives P t s A l e' s'' →
      (e ≡ e') × (s' ≡ s'')
  derives_one skips skips = (refl, refl)
  derives_one (asg_bottom q m) (asg_bottom q' m') = (refl, refl)
  derives_one (asg_bottom q m) (asg_top q' m') = clash (rw (qubit_one q' q) at m') m
  derives_one (asg_top q m) (asg_bottom q' m') = clash (rw (qubit_one q q') at m) m'
  derives_one (asg_top q m) (asg_top q' m') = (refl, rw (qubit_one q q'))
  derives_one (seq x y) (seq x' y') = derives_one y (rw (sym (derives_one x x').1) at y')
  derives_one (seq x y) (seq_bottom x') = absurd (top≢bottom (derives_one x x').0)
  derives_one (seq_bottom x) (seq x' y') = absurd (top≢bottom (sym (derives_one x x').0))
  derives_one (seq_bottom x) (seq_bottom x') = derives_one x x'
  derives_one (if_yes c x) (if_yes c' x') = derives_one x x'
  derives_one (if_yes c x) (if_no c' x') = absurd (true≢false (condition_one c c'))
  derives_one (if_no c x) (if_yes c' x') = absurd (true≢false (condition_one c' c))
  derives_one (if_no c x) (if_no c' x') = derives_one x x'
  derives_one (case_top q m x y) (case_top q' m' x' y') =
      let e = qubit_one q' q in (refl, rw (e, (derives_one x (rw e at x')).1, (derives_one y (rw e at y')).1))
  derives_one (case_top q m x y) (case_bottom q' m' x' y' h') =
      let e = qubit_one q' q in clash h' (both_top (sym (derives_one x (rw e at x')).0) (sym (derives_one y (rw e at y')).0))
  derives_one (case_top q m x y) (case_out q' m') = clash (rw (qubit_one q q') at m) m'
  derives_one (case_bottom q m x y h) (case_top q' m' x' y') =
      let e = qubit_one q' q in clash h (both_top (derives_one x (rw e at x')).0 (derives_one y (rw e at y')).0)
  derives_one (case_bottom q m x y h) (case_bottom q' m' x' y' h') = (refl, refl)
  derives_one (case_bottom q m x y h) (case_out q' m') = (refl, refl)
  derives_one (case_out q m) (case_top q' m' x' y') = clash (rw (qubit_one q' q) at m') m
  derives_one (case_out q m) (case_bottom q' m' x' y' h') = (refl, refl)
  derives_one (case_out q m) (case_out q' m') = (refl, refl)
  derives_one (calls i x) (calls i' x') = derives_one x (rw (set_one i' i) at x')
  derives_one (calls i x) (calls_nil i') = absurd (cons≢nil (set_one i i'))
  derives_one (calls_nil i) (calls i' x') = absurd (cons≢nil (set_one i' i))
  derives_one (calls_nil i) (calls_nil i') = (refl, refl)

-- A \ {q} is a part of A
without_out : (w q : ℕ) (A : List ℕ) → member w A ≡ false → member w (without q A) ≡ false
without_out w q A h = by_eq w q (λ e. rw e (without_same q A)) (λ n. rw (without_other w q n A) h)

module _ {P : Program} where
  -- a qubit that is not open keeps its bit
  kept : {t : Statement} {s s' : State} {A l : List ℕ} {e : Ending} → Derives P t s A l e s' → (w : ℕ) → member w A ≡ false → s' w ≡ s w
  kept skips w h = refl
  kept (asg_bottom q m) w h = refl
  kept (asg_top {s = s} {A = A} {q = v} q m) w h = flipped_other s v w (λ e. member_differs v w A m h (sym e))
  kept (seq x y) w h = kept y w h ∙ kept x w h
  kept (seq_bottom x) w h = kept x w h
  kept (if_yes c x) w h = kept x w h
  kept (if_no c x) w h = kept x w h
  kept (case_top {s = s} {A = A} {q = v} q m x y) w h = by_bool (s v)
      (λ e. rw e (kept y w (without_out w v A h)))
      (λ e. rw e (kept x w (without_out w v A h)))
  kept (case_bottom q m x y b) w h = refl
  kept (case_out q m) w h = refl
  kept (calls i x) w h = kept x w h
  kept (calls_nil i) w h = refl

  -- so the branches of a qcase keep the bit of its qubit q: of the sum in (Case⊤) one term is left, the one that caseTop names
  pub branch_keeps : {t : Statement} {s s' : State} {l : List ℕ} {e : Ending} (q : ℕ) (A : List ℕ) → Derives P t s (without q A) l e s' →
      s' q ≡ s q
  branch_keeps q A x = kept x q (without_same q A)

module _ {P : Program} {t : Statement} {s : State} {A l : List ℕ} {end : State} where
  -- what `Ends` says, read off
  ends_top : {b : Bool} → Ends P t s A l end b → b ≡ false → Derives P t s A l top end
  ends_top (safe d) e = d
  ends_top (faulty d) e = absurd (true≢false e)

  ends_bottom : {b : Bool} → Ends P t s A l end b → b ≡ true → (s' : State) × Derives P t s A l bottom s'
  ends_bottom (safe d) e = absurd (false≢true e)
  ends_bottom (faulty {s' = s'} d) e = (s', d)

  top_safe : {s' : State} {b : Bool} → Ends P t s A l end b → Derives P t s A l top s' → (b ≡ false) × (s' ≡ end)
  top_safe (safe d) x = (refl, (derives_one x d).1)
  top_safe (faulty d) x = absurd (top≢bottom (derives_one x d).0)

  bottom_faulty : {s' : State} {b : Bool} → Ends P t s A l end b → Derives P t s A l bottom s' → b ≡ true
  bottom_faulty (safe d) x = absurd (top≢bottom (derives_one d x).0)
  bottom_faulty (faulty d) x = refl

-- a table that passes refusal 10, on n qubits
module _ (P : Program) (N : Named P) (passes10 : any_lacks_removal P ≡ false) (n : ℕ) (some : 0 < n) where
  -- the rules derive of the run what `end_state` and `program_faults` say of it
  run_ends : (s : State) → Ends P P.main s (qubits n) (qubits n) (end_state P n s) (program_faults P n)
  unfolding end_state program_faults
  run_ends s =
      let R = all_ranked P N passes10 in
      let len : length (qubits n) ≡ n = range_length n 1 in
      let most = rank_all P 0 in
      ends P (rank P) (call_does_within P (enough P n)) (call_faults_within P (enough P n)) (recursive P 0) (rank P 0) (qubits n) (omega arith)
      (λ f l s' A closed some' lt h. body_ends P (rank P) R (enough P n) f l s' A closed some' (omega arith) h) P.main (R 0) s
      (qubits n) [] (opens_start n (qubits n) (qubits_data n))

  -- no fault: the rules derive ⊤ with the end state
  pub derives_top : program_faults P n ≡ false → (s : State) → RunDerives P n s top (end_state P n s)
  derives_top e s = ends_top (run_ends s) e

  -- a fault: the rules derive ⊥
  pub derives_bottom : program_faults P n ≡ true → (s : State) → (s' : State) × RunDerives P n s bottom s'
  derives_bottom e s = ends_bottom (run_ends s) e

  -- where the rules derive ⊤ there is no fault, and the state is the end state
  pub top_exactly : {s s' : State} → RunDerives P n s top s' → (program_faults P n ≡ false) × (s' ≡ end_state P n s)
  top_exactly {s} d = top_safe (run_ends s) d

  -- where the rules derive ⊥ there is a fault
  pub bottom_exactly : {s s' : State} → RunDerives P n s bottom s' → program_faults P n ≡ true
  bottom_exactly {s} d = bottom_faulty (run_ends s) d

  -- in words: where there is no fault, from every start word the rules derive ⊤ with a state whose word is the end word
  pub derives_word : program_faults P n ≡ false → (word : ℕ) →
      (s' : State) × RunDerives P n (state_of word) top s' × (word_of n s' ≡ end_word P n word)
  unfolding end_word
  derives_word e word = (end_state P n (state_of word), derives_top e (state_of word), refl)
