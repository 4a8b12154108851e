-- "Meaning", on access faults (refusal 12): closed qubits, both branches of a qcase, the chosen branch of an if, through calls.
use Rattle.std.specs.Prelude.{ℕ, zero, suc, ◌+◌, Bool, true, false, ◌||◌, List, [], ◌∷◌}
use Rattle.model.specs.Syntax.{Statement, skip, NOT, sequence, if, qcase, call, Program, count, body}
use Rattle.model.specs.Lists.{qubits, remaining, touched, holds, member}

-- does a call of procedure f with a nonempty list fault, where some qubits are closed?
abbrev pub CallFaults : Type 0
CallFaults = ℕ → List ℕ → List ℕ → Bool

-- "A call with an empty list does nothing."
unfoldable pub call_faults : CallFaults → ℕ → List ℕ → List ℕ → Bool
call_faults o f [] closed = false
call_faults o f (q ∷ l) closed = o f (q ∷ l) closed

-- what "touches nothing" comes as qubit 0 "and is an access fault"; "touching a closed qubit is a fault"
abbrev pub touch_faults : ℕ → List ℕ → Bool
touch_faults q closed = member q (0 ∷ closed)

-- "Inside its two branches a qcase closes its qubit, through calls too"; "A fault counts in either branch of a qcase, taken or not, but only in
-- the chosen branch of an if, and only where calls from main lead."
unfoldable pub faults : CallFaults → Statement → List ℕ → List ℕ → Bool
faults o skip l closed = false
faults o (NOT rs a) l closed = touch_faults (touched rs a l) closed
faults o (sequence s t) l closed = faults o s l closed || faults o t l closed
faults o (if c s t) l closed = elim (holds c l) [ true ↦ faults o s l closed | false ↦ faults o t l closed ]
faults o (qcase rs a s t) l closed =
    touch_faults (touched rs a l) closed || (faults o s l (touched rs a l ∷ closed) || faults o t l (touched rs a l ∷ closed))
faults o (call rs f) l closed = call_faults o f (remaining rs l) closed

-- a call, followed as deep as `fuel`; one that is still not at its end counts as a fault. No table that passes refusal 10 comes to that.
unfoldable pub call_faults_within : Program → ℕ → CallFaults
call_faults_within P zero = λ f l closed. true
call_faults_within P (suc fuel) = λ f l closed. faults (call_faults_within P fuel) (body P f) l closed

-- how deep calls can go in a table that passes refusal 10
abbrev pub enough : Program → ℕ → ℕ
enough P n = count P + n

-- refusal 12: main faults on its list, with nothing closed
unfoldable pub program_faults : Program → ℕ → Bool
program_faults P n = faults (call_faults_within P (enough P n)) P.main (qubits n) []
