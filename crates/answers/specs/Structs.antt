-- The answers of the model as the structs that C gets: "A refusal gives its number and otherwise zeros."
use Rattle.std.specs.Prelude.{ℕ, ◌≡◌, List, length, take, replicate, Result, Ok, Err}
use Rattle.model.specs.Limits.{success, block_length}
use Rattle.model.specs.Circuit.{Circuit}
use Rattle.model.specs.Answers.{Outcome, gives, refuses, after, Block}
use Rattle.model.specs.Demand.{Demand3}
use Rattle.model.specs.Undoing.{Undoes}
use Rattle.model.specs.Page.{Band}
use Rattle.limits.specs.declared.Refusal.{Refusal}
use Rattle.limits.specs.Refusals.{number_of}
use Rattle.answers.specs.declared.Answer.{Answer}
use Rattle.answers.specs.declared.CircuitHeader.{CircuitHeader}
use Rattle.answers.specs.declared.CircuitBlock.{CircuitBlock}
use Rattle.answers.specs.declared.PageBand.{PageBand}

-- what a function of the library gives, read as the model's outcome: f of what stands in `Ok`, or the number of the one refusal
abbrev pub outcome_as : {A B : Type 0} → (A → B) → Result A Refusal → Outcome B
outcome_as f (Ok a) = gives (f a)
outcome_as f (Err why) = refuses (number_of why)

abbrev pub outcome_of : {A : Type 0} → Result A Refusal → Outcome A
outcome_of r = outcome_as (λ a. a) r

-- "Success is number 0; run adds the end word"
unfoldable pub answer_of : Outcome ℕ → Answer
answer_of (gives value) = record { number = success; value = value }
answer_of (refuses k) = record { number = k; value = 0 }

-- "compile the circuit's length in bytes"; of a listing or an inverse table, its own
abbrev pub given_length : Outcome (List ℕ) → Outcome ℕ
given_length o = after o (λ bytes. gives (length bytes))

abbrev pub length_answer : Outcome (List ℕ) → Answer
length_answer o = answer_of (given_length o)

-- Demand 3: where the number is 0, it holds of "The room's bytes up to the length given"
abbrev pub Delivered : List ℕ → ℕ → Answer → List ℕ → Type 0
Delivered table n answer room = answer.number ≡ success → Demand3 table n (take answer.value room)

-- document 02, S-5: where the number is 0, the room's bytes up to the length given undo the table
abbrev pub Inverted : List ℕ → ℕ → Answer → List ℕ → Type 0
Inverted table n answer room = answer.number ≡ success → Undoes table n (take answer.value room)

-- "the circuit reader n, ancillas and gate count"
abbrev pub refused_header : ℕ → CircuitHeader
refused_header k = record { number = k; qubits = 0; ancillas = 0; gates = 0 }

unfoldable pub header_of : Outcome Circuit → CircuitHeader
header_of (gives c) = record { number = success; qubits = c.data_wires; ancillas = c.ancillas; gates = length c.gates }
header_of (refuses k) = refused_header k

-- "the circuit run its block": "one block of 32 bytes beside n and the ancilla count"
abbrev pub given_block : ℕ → ℕ → List ℕ → CircuitBlock
given_block n ancillas bytes = record { number = success; «data» = n; ancillas = ancillas; bits = bytes }

abbrev pub refused_block : ℕ → CircuitBlock
refused_block k = record { number = k; «data» = 0; ancillas = 0; bits = replicate block_length 0 }

unfoldable pub block_answer : Outcome Block → CircuitBlock
block_answer (gives b) = given_block b.data_wires b.ancillas b.bits
block_answer (refuses k) = refused_block k

-- one band of a page: its length, and the place of the next
abbrev pub refused_band : ℕ → PageBand
refused_band k = record { number = k; length = 0; next = 0 }

unfoldable pub band_answer : Outcome Band → PageBand
band_answer (gives b) = record { number = success; length = length b.text; next = b.next }
band_answer (refuses k) = refused_band k
