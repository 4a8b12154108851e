-- "Meaning", on words: the end word of a run.
use Rattle.std.specs.Prelude.{ℕ, zero, suc, ◌+◌, ◌*◌, ◌/◌, ◌%◌, ◌^◌, Bool, true, false, not, List, [], ◌∷◌, eqb}
use Rattle.model.specs.Syntax.{Statement, skip, NOT, sequence, if, qcase, call, Program, body}
use Rattle.model.specs.Lists.{qubits, remaining, touched, holds}
use Rattle.model.specs.Faults.{enough}

-- a basis state: the bit of each qubit, and later of each wire. Number 0 is no wire.
abbrev pub State : Type 0
State = ℕ → Bool

unfoldable pub update : State → ℕ → Bool → State
update s w b = λ v. elim (eqb v w) [ true ↦ b | false ↦ s v ]

-- the state with the bit of w flipped
unfoldable pub flipped : ℕ → State → State
flipped w s = update s w (not (s w))

-- "In a word, qubit i is bit i − 1, lowest bit 0."
abbrev pub bit : ℕ → ℕ → Bool
bit word k = eqb (word / 2 ^ k % 2) 1

unfoldable pub state_of : ℕ → State
state_of word = λ w. elim w [ zero ↦ false | suc k ↦ bit word k ]

unfoldable pub digit : Bool → ℕ
digit true = 1
digit false = 0

-- the word of qubits a to a + n − 1, the first of them the lowest bit
unfoldable pub word_from : ℕ → ℕ → State → ℕ
word_from zero a s = 0
word_from (suc n) a s = digit (s a) + 2 * word_from n (suc a) s

abbrev pub word_of : ℕ → State → ℕ
word_of n s = word_from n 1 s

-- what a call of procedure f with a nonempty list does to a state
abbrev pub CallDoes : Type 0
CallDoes = ℕ → List ℕ → State → State

-- "where they left nothing, it gives its word back"
unfoldable pub call_does : CallDoes → ℕ → List ℕ → State → State
call_does o f [] s = s
call_does o f (q ∷ l) s = o f (q ∷ l) s

-- "Each statement takes the whole list of its procedure (or of main) and a word, and gives a word."
unfoldable pub does : CallDoes → Statement → List ℕ → State → State
-- "Skip gives its word back."
does o skip l s = s
-- "NOT flips the bit of the qubit it touches."
does o (NOT rs a) l s = flipped (touched rs a l) s
-- "A sequence hands the first statement's word to the second, with the same list."
does o (sequence t u) l s = does o u l (does o t l s)
-- "If goes on as yes where its condition holds for its numbers, otherwise as no, with the same list and word."
does o (if c t u) l s = elim (holds c l) [ true ↦ does o t l s | false ↦ does o u l s ]
-- "Qcase reads the bit of the qubit it touches and goes on as zero or one, with the same list and word."
does o (qcase rs a t u) l s = elim (s (touched rs a l)) [ false ↦ does o t l s | true ↦ does o u l s ]
-- "A call hands its word to the procedure's body, with what the call's removals left as the whole list"
does o (call rs f) l s = call_does o f (remaining rs l) s

-- a call, followed as deep as `fuel`. A table that passes refusal 10 never goes deeper than `enough`, and more changes nothing.
unfoldable pub call_does_within : Program → ℕ → CallDoes
call_does_within P zero = λ f l s. s
call_does_within P (suc fuel) = λ f l s. does (call_does_within P fuel) (body P f) l s

-- what a run of n qubits does to a state
unfoldable pub end_state : Program → ℕ → State → State
end_state P n s = does (call_does_within P (enough P n)) P.main (qubits n) s

-- "A run's end word is what main gives from its list and the start word."
unfoldable pub end_word : Program → ℕ → ℕ → ℕ
end_word P n word = word_of n (end_state P n (state_of word))
