-- `model/specs/Faults` and `model/specs/Meaning`, on statements, over ways to value numbers.
use Rattle.std.specs.Prelude.{ℕ, zero, suc, Bool, true, false, ◌||◌, List, [], ◌∷◌}
use Rattle.model.specs.Syntax.{Statement, skip, NOT, sequence, if, qcase, call, Program, body}
use Rattle.model.specs.Lists.{qubits}
use Rattle.model.specs.Faults.{CallFaults, call_faults, touch_faults, enough}
use Rattle.model.specs.Meaning.{State, flipped, state_of, word_of, CallDoes, call_does}
use Rattle.plain.specs.Ways.{Ways}

module _ (W : Ways) where
  unfoldable pub faults_by : CallFaults → Statement → List ℕ → List ℕ → Bool
  faults_by o skip l closed = false
  faults_by o (NOT rs a) l closed = touch_faults (W.touched rs a l) closed
  faults_by o (sequence s t) l closed = faults_by o s l closed || faults_by o t l closed
  faults_by o (if c s t) l closed = elim (W.holds c l) [ true ↦ faults_by o s l closed | false ↦ faults_by o t l closed ]
  faults_by o (qcase rs a s t) l closed =
      touch_faults (W.touched rs a l) closed || (faults_by o s l (W.touched rs a l ∷ closed) || faults_by o t l (W.touched rs a l ∷ closed))
  faults_by o (call rs f) l closed = call_faults o f (W.remaining rs l) closed

  unfoldable pub call_faults_by : Program → ℕ → CallFaults
  call_faults_by P zero = λ f l closed. true
  call_faults_by P (suc fuel) = λ f l closed. faults_by (call_faults_by P fuel) (body P f) l closed

  unfoldable pub program_faults_by : Program → ℕ → Bool
  program_faults_by P n = faults_by (call_faults_by P (enough P n)) P.main (qubits n) []

  unfoldable pub does_by : CallDoes → Statement → List ℕ → State → State
  does_by o skip l s = s
  does_by o (NOT rs a) l s = flipped (W.touched rs a l) s
  does_by o (sequence t u) l s = does_by o u l (does_by o t l s)
  does_by o (if c t u) l s = elim (W.holds c l) [ true ↦ does_by o t l s | false ↦ does_by o u l s ]
  does_by o (qcase rs a t u) l s = elim (s (W.touched rs a l)) [ false ↦ does_by o t l s | true ↦ does_by o u l s ]
  does_by o (call rs f) l s = call_does o f (W.remaining rs l) s

  unfoldable pub call_does_by : Program → ℕ → CallDoes
  call_does_by P zero = λ f l s. s
  call_does_by P (suc fuel) = λ f l s. does_by (call_does_by P fuel) (body P f) l s

  unfoldable pub end_word_by : Program → ℕ → ℕ → ℕ
  end_word_by P n word = word_of n (does_by (call_does_by P (enough P n)) P.main (qubits n) (state_of word))
