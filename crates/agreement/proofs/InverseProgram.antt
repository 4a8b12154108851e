-- Document 02, S-5: the inverse of a program passes refusals 10, 11 and 12 exactly where the program does, and its run takes the end of the program's run
-- back to the start.
use mathlib.Core.Path.{◌≡◌, refl, sym, ap, ◌∙◌, fun_ext}
use mathlib.Core.Bool.{Bool, true, false, ◌||◌}
use mathlib.Core.List.{List, [], ◌∷◌}
use Prim.Native.Nat.{ℕ, zero, suc, ◌+◌, ◌^◌, ◌≤◌, ◌<◌}
use native.Mathlib.Omega.{arith}
use lib.ListN.{length-map, get_or-map}
use lib.Dec.{ltb}
use Rattle.model.specs.Syntax.{Statement, skip, NOT, sequence, if, qcase, call, Program, count, body}
use Rattle.model.specs.Lists.{qubits, remaining, touched, holds}
use Rattle.model.specs.Faults.{CallFaults, call_faults, faults, call_faults_within, enough, program_faults}
use Rattle.model.specs.Meaning.{State, state_of, word_of, CallDoes, call_does, does, call_does_within, end_state, end_word}
use Rattle.model.specs.Reach.{calls, reaches_below, recursive, lacks_removal, width, any_lacks_removal, any_too_wide}
use Rattle.model.specs.Inverse.{inverse, inverse_program}
use Rattle.model.proofs.BooleanLaws.{by_bool, any_same}
use Rattle.model.proofs.ListLaws.{member_head, member_cases, data_off, qubits_data}
use Rattle.model.proofs.GateLaws.{flipped_twice}
use Rattle.model.proofs.WordBits.{word_zero, word_wire, word_is}
use Rattle.model.proofs.EnoughFuel.{does_yes, does_no, does_zero, does_one, faults_yes, faults_no}
use Rattle.agreement.proofs.ProgramFacts.{Safely, SafeCall, Safe, Keeps}
use Rattle.agreement.proofs.FrameAndRenaming.{NoFault, safe_of, does_keeps, keeps_within, does_stays, stays_within, safe_weaken, weakens_within}

-- it has as many procedures, and each body is the inverse of the program's
same_count : (P : Program) → count (inverse_program P) ≡ count P
unfolding inverse_program
same_count P = length-map P.procedures inverse

inverse_body : (P : Program) (f : ℕ) → body (inverse_program P) f ≡ inverse (body P f)
unfolding inverse_program inverse
inverse_body P f = get_or-map inverse (P.main ∷ P.procedures) f skip

-- which of two comes first is not seen in "one or the other"
or_turned : (a b : Bool) → b || a ≡ a || b
or_turned true true = refl
or_turned true false = refl
or_turned false true = refl
or_turned false false = refl

-- a statement's inverse has the same calls
same_calls : (s : Statement) (g : ℕ) → calls (inverse s) g ≡ calls s g
unfolding calls inverse
same_calls skip g = refl
same_calls (NOT rs a) g = refl
same_calls (sequence s t) g = rw (same_calls s g, same_calls t g) (or_turned (calls s g) (calls t g))
same_calls (if c s t) g = rw (same_calls s g, same_calls t g)
same_calls (qcase rs a s t) g = rw (same_calls s g, same_calls t g)
same_calls (call rs f) g = refl

-- so the same procedures reach each other, and the same calls are recursive
same_reach : (P : Program) (v f g : ℕ) → reaches_below (inverse_program P) v f g ≡ reaches_below P v f g
unfolding reaches_below
same_reach P zero f g = rw (inverse_body P f) (same_calls (body P f) g)
same_reach P (suc v) f g = rw (same_reach P v f g, same_reach P v f v, same_reach P v v g)

same_recursive : (P : Program) (f g : ℕ) → recursive (inverse_program P) f g ≡ recursive P f g
same_recursive P f g = rw (same_count P) (same_reach P (suc (count P)) g f)

-- a statement's inverse lacks removals, and is as wide, as the statement
module _ (r q : ℕ → Bool) (same : (g : ℕ) → r g ≡ q g) where
  same_lacks : (s : Statement) → lacks_removal r (inverse s) ≡ lacks_removal q s
  unfolding lacks_removal inverse
  same_lacks skip = refl
  same_lacks (NOT rs a) = refl
  same_lacks (sequence s t) = rw (same_lacks s, same_lacks t) (or_turned (lacks_removal q s) (lacks_removal q t))
  same_lacks (if c s t) = rw (same_lacks s, same_lacks t)
  same_lacks (qcase rs a s t) = rw (same_lacks s, same_lacks t)
  same_lacks (call rs f) = rw (same f)

  same_width : (s : Statement) → width r (inverse s) ≡ width q s
  unfolding width inverse
  same_width skip = refl
  same_width (NOT rs a) = refl
  same_width (sequence s t) = rw (same_width s, same_width t) (omega arith)
  same_width (if c s t) = rw (same_width s, same_width t)
  same_width (qcase rs a s t) = rw (same_width s, same_width t)
  same_width (call rs f) = rw (same f, width)

-- refusals 10 and 11
pub same_ten : (P : Program) → any_lacks_removal (inverse_program P) ≡ any_lacks_removal P
unfolding any_lacks_removal
same_ten P = rw (same_count P) (any_same (suc (count P)) _ _ (λ f l.
    rw (inverse_body P f) (same_lacks (recursive (inverse_program P) f) (recursive P f) (same_recursive P f) (body P f))))

pub same_eleven : (P : Program) → any_too_wide (inverse_program P) ≡ any_too_wide P
unfolding any_too_wide
same_eleven P = rw (same_count P) (any_same (suc (count P)) _ _ (λ f l.
    rw (inverse_body P f) (ap (ltb 1) (same_width (recursive (inverse_program P) f) (recursive P f) (same_recursive P f) (body P f)))))

-- a statement's inverse faults where the statement does
module _ (o q : CallFaults) (same : (f : ℕ) (l closed : List ℕ) → o f l closed ≡ q f l closed) where
  same_call_faults : (f : ℕ) (l closed : List ℕ) → call_faults o f l closed ≡ call_faults q f l closed
  unfolding call_faults
  same_call_faults f [] closed = refl
  same_call_faults f (w ∷ l) closed = same f (w ∷ l) closed

  same_faults : (s : Statement) (l closed : List ℕ) → faults o (inverse s) l closed ≡ faults q s l closed
  unfolding faults inverse
  same_faults skip l closed = refl
  same_faults (NOT rs a) l closed = refl
  same_faults (sequence s t) l closed =
      rw (same_faults s l closed, same_faults t l closed) (or_turned (faults q s l closed) (faults q t l closed))
  same_faults (if c s t) l closed = by_bool (holds c l)
      (λ e. rw (faults_yes o c (inverse s) (inverse t) l closed e, faults_yes q c s t l closed e) (same_faults s l closed))
      (λ e. rw (faults_no o c (inverse s) (inverse t) l closed e, faults_no q c s t l closed e) (same_faults t l closed))
  same_faults (qcase rs a s t) l closed =
      rw (same_faults s l (touched rs a l ∷ closed), same_faults t l (touched rs a l ∷ closed))
  same_faults (call rs f) l closed = same_call_faults f (remaining rs l) closed

same_faults_within : (P : Program) (fuel f : ℕ) (l closed : List ℕ) →
    call_faults_within (inverse_program P) fuel f l closed ≡ call_faults_within P fuel f l closed
unfolding call_faults_within
same_faults_within P zero f l closed = refl
same_faults_within P (suc fuel) f l closed =
    rw (inverse_body P f)
    (same_faults (call_faults_within (inverse_program P) fuel) (call_faults_within P fuel) (same_faults_within P fuel) (body P f) l closed)

-- refusal 12
pub same_twelve : (P : Program) (n : ℕ) → program_faults (inverse_program P) n ≡ program_faults P n
unfolding program_faults inverse_program inverse
same_twelve P n =
    rw (same_count P)
    (same_faults (call_faults_within (inverse_program P) (enough P n)) (call_faults_within P (enough P n)) (same_faults_within P (enough P n))
    P.main (qubits n) [])

-- safe calls are taken back
abbrev Undone : CallDoes → CallDoes → Safely → Type 0
Undone o q G = (f : ℕ) (l C : List ℕ) (s : State) → G f l C → q f l (o f l s) ≡ s

module _ (o q : CallDoes) (G : Safely) (K : Keeps o G) (U : Undone o q G) where
  call_undone : (f : ℕ) (l C : List ℕ) (s : State) → SafeCall G f l C → call_does q f l (call_does o f l s) ≡ s
  unfolding call_does
  call_undone f [] C s h = refl
  call_undone f (w ∷ l) C s h = U f (w ∷ l) C s h

  -- a safe statement is taken back by its inverse: a qcase finds its qubit as it was, for its branches leave it alone
  does_undone : (t : Statement) (l C : List ℕ) (s : State) → Safe G t l C → does q (inverse t) l (does o t l s) ≡ s
  unfolding does inverse
  does_undone skip l C s h = refl
  does_undone (NOT rs a) l C s h = flipped_twice s (touched rs a l)
  does_undone (sequence t u) l C s h =
      ap (does q (inverse t) l) (does_undone u l C (does o t l s) h.1) ∙ does_undone t l C s h.0
  does_undone (if c t u) l C s h = by_bool (holds c l)
      (λ e. rw (does_yes o c t u l s e, does_yes q c (inverse t) (inverse u) l (does o t l s) e) (does_undone t l C s (rw e at h)))
      (λ e. rw (does_no o c t u l s e, does_no q c (inverse t) (inverse u) l (does o u l s) e) (does_undone u l C s (rw e at h)))
  does_undone (qcase rs a t u) l C s h =
      let w = touched rs a l in
      by_bool (s w)
      (λ e. rw (
        does_one o rs a t u l s e,
        does_one q rs a (inverse t) (inverse u) l (does o u l s) (does_keeps o G K u l (w ∷ C) s w h.2 (member_head w C) ∙ e),
      )
      (does_undone u l (w ∷ C) s h.2))
      (λ e. rw (
        does_zero o rs a t u l s e,
        does_zero q rs a (inverse t) (inverse u) l (does o t l s) (does_keeps o G K t l (w ∷ C) s w h.1 (member_head w C) ∙ e),
      )
      (does_undone t l (w ∷ C) s h.1))
  does_undone (call rs f) l C s h = call_undone f (remaining rs l) C s h

-- so are calls that do not fault
undone_within : (P : Program) (fuel : ℕ) →
    Undone (call_does_within P fuel) (call_does_within (inverse_program P) fuel) (NoFault (call_faults_within P fuel))
unfolding call_does_within call_faults_within
undone_within P zero f l C s h = refl
undone_within P (suc fuel) f l C s h =
    rw (inverse_body P f)
    (does_undone (call_does_within P fuel) (call_does_within (inverse_program P) fuel) (NoFault (call_faults_within P fuel)) (keeps_within P fuel)
    (undone_within P fuel) (body P f) l C s (safe_of (call_faults_within P fuel) (body P f) l C h))

-- and so is a run
pub run_undone : (P : Program) (n : ℕ) → program_faults P n ≡ false → (s : State) → end_state (inverse_program P) n (end_state P n s) ≡ s
unfolding end_state program_faults inverse_program inverse
run_undone P n h s =
    let fuel = enough P n in
    rw (same_count P)
    (does_undone (call_does_within P fuel) (call_does_within (inverse_program P) fuel) (NoFault (call_faults_within P fuel)) (keeps_within P fuel)
    (undone_within P fuel) P.main (qubits n) [] s (safe_of (call_faults_within P fuel) P.main (qubits n) [] h))

-- wires outside the qubits, wire 0 among them, stay as they are
ends_outside : (P : Program) (n : ℕ) → program_faults P n ≡ false → (s : State) (w : ℕ) → n < w → end_state P n s w ≡ s w
unfolding end_state
ends_outside P n h s w l =
    does_stays (call_does_within P (enough P n)) (stays_within P (enough P n)) P.main (qubits n) s w (data_off n (qubits n) (qubits_data n) w l)

ends_at_zero : (P : Program) (n : ℕ) → program_faults P n ≡ false → (s : State) → end_state P n s 0 ≡ s 0
unfolding end_state program_faults
ends_at_zero P n h s =
    let o = call_faults_within P (enough P n) in
    does_keeps (call_does_within P (enough P n)) (NoFault o) (keeps_within P (enough P n)) P.main (qubits n) (0 ∷ []) s 0
    (safe_weaken (NoFault o) (weakens_within P (enough P n)) P.main (qubits n) [] (0 ∷ [])
    (λ w i m. member_cases w 0 [] m (λ e. let some : 0 < w = (qubits_data n w i).0 in absurd (omega arith)) (λ k. k))
    (safe_of o P.main (qubits n) [] h))
    (member_head 0 [])

-- so the end word says all of the end state
end_state_lem : (P : Program) (n word : ℕ) → program_faults P n ≡ false → word < 2 ^ n → state_of (end_word P n word) ≡ end_state P n (state_of word)
unfolding end_word state_of
end_state_lem P n word h low = fun_ext (λ w. by w)
  where
    past : (w : ℕ) → suc n ≤ w → end_state P n (state_of word) w ≡ false
    past w l = ends_outside P n h (state_of word) w l ∙ word_zero n word low w l

    by : (w : ℕ) → state_of (end_word P n word) w ≡ end_state P n (state_of word) w
    by zero = sym (ends_at_zero P n h (state_of word))
    by (suc k) = word_wire n (end_state P n (state_of word)) past (suc k) (omega arith)

-- and a run from it by the inverse ends with the start word
pub word_undone : (P : Program) (n word : ℕ) → program_faults P n ≡ false → word < 2 ^ n → end_word (inverse_program P) n (end_word P n word) ≡ word
unfolding end_word state_of
word_undone P n word h low =
    ap (λ (s : State). word_of n (end_state (inverse_program P) n s)) (end_state_lem P n word h low)
    ∙ ap (word_of n) (run_undone P n h (state_of word))
    ∙ word_is n 1 (state_of word) word low (λ k l. ap (state_of word) (let e : 1 + k ≡ suc k = omega arith in e))
