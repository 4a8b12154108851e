-- The bound's r is the most classes of mutually reaching procedures on one line of falling calls from main. The classes on a line from a
-- procedure on are fewer at each non-recursive call and not more at a recursive one, so they rank the calls as its rank does.
use mathlib.Core.Path.{◌≡◌, refl, sym, subst}
use mathlib.Core.Bool.{Bool, true, false, not}
use Prim.Native.Nat.{ℕ, zero, suc, ◌≤◌, ◌<◌, max, zero-le, suc-le-suc}
use native.Mathlib.Nat.{not-suc-le-zero}
use native.Mathlib.Omega.{arith}
use borrow.Author.Tests.{not-true}
use Rattle.model.specs.Syntax.{Statement, skip, NOT, sequence, if, qcase, call, Program, count, body}
use Rattle.model.specs.Reach.{calls, reaches, recursive, any_lacks_removal}
use Rattle.model.specs.Bound.{largest, falls_to, classes_within, r_of}
use Rattle.model.proofs.BooleanLaws.{by_bool, by_eq, by_lt, eqb_same, clash, not_true_false, and_left, and_right, and_both, or_left, or_right}
use Rattle.model.proofs.ReachAndRank.{
  Named,
  Ranked,
  rank,
  rank_positive,
  rank_all,
  rank_falls,
  all_ranked,
  body_out,
  reach_sound,
  reached_named,
  reach_call,
  reach_trans,
}
use Rattle.agreement.proofs.EmissionClauses.{Low}

-- the clauses of `largest` by its test
largest_yes : (test : ℕ → Bool) (v : ℕ → ℕ) (k : ℕ) → test k ≡ true → largest test v (suc k) ≡ max (v k) (largest test v k)
unfolding largest
largest_yes test v k e = rw (e, largest)

largest_no : (test : ℕ → Bool) (v : ℕ → ℕ) (k : ℕ) → test k ≡ false → largest test v (suc k) ≡ largest test v k
unfolding largest
largest_no test v k e = rw (e, largest)

-- no value of those that pass is larger
largest_in : (test : ℕ → Bool) (v : ℕ → ℕ) (k x : ℕ) → x < k → test x ≡ true → v x ≤ largest test v k
largest_in test v zero x lt h = absurd (not-suc-le-zero lt)
largest_in test v (suc k) x lt h = by_eq x k
    (λ e. rw (largest_yes test v k (subst (λ (y : ℕ). test y ≡ true) e h), e) (omega arith))
    (λ ne. let ih = largest_in test v k x (omega arith) h in by_bool (test k)
    (λ e. rw (largest_yes test v k e) (omega arith))
    (λ e. rw (largest_no test v k e) ih))

-- it is 0, or the value of one that passes
largest_cases {ℓ} : {A : Type ℓ} (test : ℕ → Bool) (v : ℕ → ℕ) (k : ℕ) → (largest test v k ≡ 0 → A) →
    ((x : ℕ) → test x ≡ true → largest test v k ≡ v x → A) → A
unfolding largest
largest_cases test v zero none one = none refl
largest_cases test v (suc k) none one = by_bool (test k)
    (λ e. let y = largest_yes test v k e in by_lt (v k) (largest test v k)
    (λ lt. largest_cases test v k (λ z. absurd (not-suc-le-zero (subst (λ (m : ℕ). v k < m) z lt))) (λ x h z. one x h (omega arith)))
    (λ ge. one k e (omega arith)))
    (λ e. let y = largest_no test v k e in largest_cases test v k (λ z. none (omega arith)) (λ x h z. one x h (omega arith)))

-- every call of a statement goes to a procedure of which Q holds
abbrev pub Each : (ℕ → Type 0) → Statement → Type 0
Each Q skip = Unit {0}
Each Q (NOT rs a) = Unit {0}
Each Q (sequence s t) = Each Q s × Each Q t
Each Q (if c s t) = Each Q s × Each Q t
Each Q (qcase rs a s t) = Each Q s × Each Q t
Each Q (call rs f) = Q f

-- what holds of every g that a statement calls holds of each of its calls
pub each_call : (Q : ℕ → Type 0) (s : Statement) → ((g : ℕ) → calls s g ≡ true → Q g) → Each Q s
unfolding calls
each_call Q skip h = tt
each_call Q (NOT rs a) h = tt
each_call Q (sequence s t) h =
    (each_call Q s (λ g e. h g (or_left (calls s g) (calls t g) e)), each_call Q t (λ g e. h g (or_right (calls s g) (calls t g) e)))
each_call Q (if c s t) h =
    (each_call Q s (λ g e. h g (or_left (calls s g) (calls t g) e)), each_call Q t (λ g e. h g (or_right (calls s g) (calls t g) e)))
each_call Q (qcase rs a s t) h =
    (each_call Q s (λ g e. h g (or_left (calls s g) (calls t g) e)), each_call Q t (λ g e. h g (or_right (calls s g) (calls t g) e)))
each_call Q (call rs f) h = h f (eqb_same f)

low_each : (rank : ℕ → ℕ) (k : ℕ) (s : Statement) → Each (λ f. rank f < k) s → Low rank k s
low_each rank k skip h = tt
low_each rank k (NOT rs a) h = tt
low_each rank k (sequence s t) h = (low_each rank k s h.0, low_each rank k t h.1)
low_each rank k (if c s t) h = (low_each rank k s h.0, low_each rank k t h.1)
low_each rank k (qcase rs a s t) h = (low_each rank k s h.0, low_each rank k t h.1)
low_each rank k (call rs f) h = h

-- a line of falling calls from f on with k classes: each next procedure is reached and does not reach back
pub data Line (P : Program) : ℕ → ℕ → Type 0 where
  ends : {f : ℕ} → Line P f 1
  falls : {f g k : ℕ} → falls_to P f g ≡ true → Line P g k → Line P f (suc k)

-- a line has a class, its first procedure's
line_positive : {P : Program} {f k : ℕ} → Line P f k → 0 < k
line_positive ends = suc-le-suc zero-le
line_positive (falls h l) = suc-le-suc zero-le

-- from f on there is a line of as many classes as are counted
line_longest : (P : Program) (fuel f : ℕ) → Line P f (classes_within P fuel f)
unfolding classes_within
line_longest P zero f = ends
line_longest P (suc fuel) f = largest_cases (falls_to P f) (classes_within P fuel) (suc (count P))
    (λ e. rw e ends)
    (λ g h e. rw e (falls h (line_longest P fuel g)))

-- the most classes on one line of falling calls from f on, f's own counted
abbrev pub classes : Program → ℕ → ℕ
classes P f = classes_within P (suc (count P)) f

-- f's own class counts
pub classes_positive : (P : Program) (f : ℕ) → 0 < classes P f
classes_positive P f = line_positive (line_longest P (suc (count P)) f)

module _ (P : Program) (N : Named P) where
  -- what falling says of reach
  falls_reach : (f g : ℕ) → falls_to P f g ≡ true → reaches P f g ≡ true
  unfolding falls_to
  falls_reach f g h = and_left (reaches P f g) (not (reaches P g f)) h

  falls_back : (f g : ℕ) → falls_to P f g ≡ true → reaches P g f ≡ false
  unfolding falls_to
  falls_back f g h = not-true (reaches P g f) (and_right (reaches P f g) (not (reaches P g f)) h)

  falls_of : (f g : ℕ) → reaches P f g ≡ true → reaches P g f ≡ false → falls_to P f g ≡ true
  unfolding falls_to
  falls_of f g h n = and_both (reaches P f g) (not (reaches P g f)) h (rw n)

  falls_named : (f g : ℕ) → falls_to P f g ≡ true → g ≤ count P
  falls_named f g h = (reached_named P N (reach_sound P f g (falls_reach f g h))).1

  -- a line is no longer than the rank of its first procedure
  line_rank : {f k : ℕ} → f ≤ count P → Line P f k → k ≤ rank P f
  line_rank lf (ends {f = f}) = rank_positive P f lf
  line_rank lf (falls {f = f} {g = g} h l) =
      let lg = falls_named f g h in
      let ih = line_rank lg l in
      let lt = rank_falls P f g lf lg (falls_reach f g h) (falls_back f g h) in omega arith

  -- counting as far as the line goes finds it
  line_within : (fuel : ℕ) {f k : ℕ} → Line P f k → k ≤ suc fuel → k ≤ classes_within P fuel f
  unfolding classes_within
  line_within zero l h = h
  line_within (suc fuel) ends h = suc-le-suc zero-le
  line_within (suc fuel) (falls {f = f} {g = g} {k = k} c l) h =
      let ih = line_within fuel l (omega arith) in
      let in_it = largest_in (falls_to P f) (classes_within P fuel) (suc (count P)) g (suc-le-suc (falls_named f g c)) c in omega arith

  -- no line from f on has more classes than are counted
  line_most : {f k : ℕ} → f ≤ count P → Line P f k → k ≤ classes P f
  line_most {f} {k} lf l = let h = line_rank lf l in let r = rank_all P f in line_within (suc (count P)) l (omega arith)

  -- the next class has fewer
  classes_fall : (f g : ℕ) → f ≤ count P → falls_to P f g ≡ true → classes P g < classes P f
  classes_fall f g lf h = line_most lf (falls h (line_longest P (suc (count P)) g))

  -- what f reaches has no longer line: f can stand in place of its first procedure
  line_reach : {f g k : ℕ} → f ≤ count P → g ≤ count P → reaches P f g ≡ true → Line P g k → Line P f k
  line_reach lf lg a ends = ends
  line_reach {f} {g} lf lg a (falls {g = x} h l) = falls (falls_of f x (reach_trans P f g x lg a (falls_reach g x h)) back) l
    where
      back : reaches P x f ≡ false
      back = not_true_false (reaches P x f) (λ xf. clash (reach_trans P x f g lf xf a) (falls_back g x h))

  classes_reach : (f g : ℕ) → f ≤ count P → g ≤ count P → reaches P f g ≡ true → classes P g ≤ classes P f
  classes_reach f g lf lg a = line_most lf (line_reach lf lg a (line_longest P (suc (count P)) g))

  ranked_part : (f : ℕ) → f ≤ count P → (s : Statement) → Each (λ g. calls (body P f) g ≡ true) s → Ranked (rank P) (recursive P f) (rank P f) s →
      Ranked (classes P) (recursive P f) (classes P f) s
  ranked_part f lf skip h q = tt
  ranked_part f lf (NOT rs a) h q = tt
  ranked_part f lf (sequence s t) h q = (ranked_part f lf s h.0 q.0, ranked_part f lf t h.1 q.1)
  ranked_part f lf (if c s t) h q = (ranked_part f lf s h.0 q.0, ranked_part f lf t h.1 q.1)
  ranked_part f lf (qcase rs a s t) h q = (ranked_part f lf s h.0 q.0, ranked_part f lf t h.1 q.1)
  ranked_part f lf (call rs g) h q =
      let r = reach_call P f g h in
      ((λ e. (classes_reach f g lf (N f g h).1 r, (q.0 e).1)), (λ e. classes_fall f g lf (falls_of f g r e)))

  -- refusal 10 passed: every body's calls are ranked by classes too
  pub classes_ranked : any_lacks_removal P ≡ false → (f : ℕ) → Ranked (classes P) (recursive P f) (classes P f) (body P f)
  classes_ranked passes10 f = by_lt f (suc (count P))
      (λ lt. ranked_part f (omega arith) (body P f) (each_call (λ g. calls (body P f) g ≡ true) (body P f) (λ g e. e)) (all_ranked P N passes10 f))
      (λ ge. subst (λ (s : Statement). Ranked (classes P) (recursive P f) (classes P f) s) (sym (body_out P f ge)) tt)

  -- what main calls has at most r classes
  called_within : (g : ℕ) → calls P.main g ≡ true → classes P g ≤ r_of P
  unfolding r_of
  called_within g c = largest_in (calls P.main) (classes P) (suc (count P)) g (suc-le-suc (N 0 g c).1) c

  -- main's calls go to procedures of at most r classes
  pub main_low : Low (classes P) (suc (r_of P)) P.main
  main_low = low_each (classes P) (suc (r_of P)) P.main
      (each_call (λ g. classes P g < suc (r_of P)) P.main (λ g c. suc-le-suc (called_within g c)))

-- a line of falling calls from main: it starts at a procedure that main calls
pub record MainLine (P : Program) (k : ℕ) : Type 0 where
  pub first : ℕ
  pub called : calls P.main first ≡ true
  pub line : Line P first k

-- no line from main has more than r classes
pub r_most : (P : Program) → Named P → (k : ℕ) → MainLine P k → k ≤ r_of P
r_most P N k m =
    let a = line_most P N (N 0 m.first m.called).1 m.line in
    let b = called_within P N m.first m.called in omega arith

-- where main calls a procedure, one has r
pub r_reached : (P : Program) → Named P → (g : ℕ) → calls P.main g ≡ true → MainLine P (r_of P)
r_reached P N g c = unfold r_of in largest_cases (calls P.main) (classes P) (suc (count P))
    (λ e. absurd (none e))
    (λ f h e. record { first = f; called = h; line = rw e (line_longest P (suc (count P)) f) })
  where
    none : largest (calls P.main) (classes P) (suc (count P)) ≡ 0 → ⊥
    none e =
        let a = largest_in (calls P.main) (classes P) (suc (count P)) g (suc-le-suc (N 0 g c).1) c in
        let b = classes_positive P g in omega arith

-- where it calls none, r is 0
pub r_none : (P : Program) → ((g : ℕ) → calls P.main g ≡ false) → r_of P ≡ 0
unfolding r_of
r_none P none = largest_cases (calls P.main) (classes P) (suc (count P)) (λ e. e) (λ g h e. clash h (none g))
