-- A run on words: what the model's `does` and `call_does_within` say of states, said of the word that holds their bits.
use Rattle.std.specs.Prelude.{ℕ, zero, suc, ◌^◌, Bool, true, false, cond, List, [], ◌∷◌, ltb}
use Rattle.std.specs.Int.Bits.{bit_xor}
use Rattle.model.specs.Limits.{most_qubits}
use Rattle.model.specs.Syntax.{Statement, skip, NOT, sequence, if, qcase, call, Program, body}
use Rattle.model.specs.Lists.{qubits, remaining, touched, holds}
use Rattle.model.specs.Faults.{enough}
use Rattle.model.specs.Meaning.{state_of}
use Rattle.decoded.specs.declared.Program as decoded
use Rattle.decoded.specs.DecodedTable.{statement_at, program_at}

-- qubits have the numbers 1 to the most there can be. Any other number stands for none, as 0 does.
abbrev pub qubit_of : ℕ → ℕ
qubit_of q = cond (ltb most_qubits q) 0 q

-- "In a word, qubit i is bit i − 1": the word with that bit flipped; 0 is no qubit
unfoldable pub bit_flipped : ℕ → ℕ → ℕ
bit_flipped zero word = word
bit_flipped (suc k) word = bit_xor word (2 ^ k)

-- the word with the bit of qubit q flipped
abbrev pub flipped_word : ℕ → ℕ → ℕ
flipped_word q word = bit_flipped (qubit_of q) word

-- the bit of qubit q
abbrev pub bit_of : ℕ → ℕ → Bool
bit_of q word = state_of word (qubit_of q)

-- what a call of procedure f with a nonempty list does to a word
abbrev pub CallWords : Type 0
CallWords = ℕ → List ℕ → ℕ → ℕ

-- "where they left nothing, it gives its word back"
unfoldable pub call_words : CallWords → ℕ → List ℕ → ℕ → ℕ
call_words o f [] word = word
call_words o f (q ∷ l) word = o f (q ∷ l) word

-- "Each statement takes the whole list of its procedure (or of main) and a word, and gives a word."
unfoldable pub word_does : CallWords → Statement → List ℕ → ℕ → ℕ
word_does o skip l word = word
word_does o (NOT rs a) l word = flipped_word (touched rs a l) word
word_does o (sequence t u) l word = word_does o u l (word_does o t l word)
word_does o (if c t u) l word = elim (holds c l) [ true ↦ word_does o t l word | false ↦ word_does o u l word ]
word_does o (qcase rs a t u) l word = elim (bit_of (touched rs a l) word) [ false ↦ word_does o t l word | true ↦ word_does o u l word ]
word_does o (call rs f) l word = call_words o f (remaining rs l) word

-- a call, followed as deep as `fuel`
unfoldable pub call_words_within : Program → ℕ → CallWords
call_words_within P zero = λ f l word. word
call_words_within P (suc fuel) = λ f l word. word_does (call_words_within P fuel) (body P f) l word

-- what a run of n qubits makes of a word
unfoldable pub ran_word : Program → ℕ → ℕ → ℕ
ran_word P n word = word_does (call_words_within P (enough P n)) P.main (qubits n) word

-- what the statement at record i, of at most `depth` records from its root down, makes of a word; calls are followed as deep as `fuel`
abbrev pub walked : decoded.Program → ℕ → ℕ → List ℕ → ℕ → ℕ → ℕ
walked g depth i l fuel word = word_does (call_words_within (program_at g) fuel) (statement_at g depth i) l word

-- what a call of procedure f makes of a word
abbrev pub called : decoded.Program → ℕ → List ℕ → ℕ → ℕ → ℕ
called g f l fuel word = call_words (call_words_within (program_at g) fuel) f l word
