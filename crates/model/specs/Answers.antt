-- "Refusals from the input", "Refusals from the state" and their order: the answer of each public operation, for every input.
use Rattle.std.specs.Prelude.{ℕ, zero, suc, ◌+◌, ◌^◌, min, Bool, true, false, not, ◌&&◌, List, [], ◌∷◌, ◌++◌, length, drop, replicate, ltb, leb}
use Rattle.model.specs.Limits.{
  most_qubits,
  most_wires,
  header_length,
  most_circuit,
  least_workspace,
  success,
  wrong_qubits,
  no_removal,
  too_wide,
  access_fault,
  high_bit,
  not_well_formed,
  short_workspace,
  many_wires,
  no_room,
  short_table_room,
}
use Rattle.model.specs.Syntax.{Program}
use Rattle.model.specs.Reading.{Parsed, parsed, refused, read_table}
use Rattle.model.specs.Faults.{program_faults}
use Rattle.model.specs.Meaning.{end_word}
use Rattle.model.specs.Reach.{any_lacks_removal, any_too_wide}
use Rattle.model.specs.Writing.{write_table}
use Rattle.model.specs.Inverse.{inverse_program}
use Rattle.model.specs.Emission.{Event, takes, places, frees, emission, gates, peak}
use Rattle.model.specs.Circuit.{Circuit, encode, write, read_circuit, circuit_block}

-- a result or one numbered refusal
pub data Outcome (A : Type 0) : Type 0 where
  gives : A → Outcome A
  refuses : ℕ → Outcome A

unfoldable pub after : {A B : Type 0} → Outcome A → (A → Outcome B) → Outcome B
after (gives a) f = f a
after (refuses k) f = refuses k

unfoldable pub require : {A : Type 0} → Bool → ℕ → Outcome A → Outcome A
require true k x = x
require false k x = refuses k

unfoldable pub outcome : {A : Type 0} → Parsed A → Outcome A
outcome (parsed a i) = gives a
outcome (refused k) = refuses k

-- "Success is number 0 .. A refusal gives its number and otherwise zeros."
unfoldable pub number : {A : Type 0} → Outcome A → ℕ
number (gives a) = success
number (refuses k) = k

unfoldable pub value_or : {A : Type 0} → A → Outcome A → A
value_or zeros (gives a) = a
value_or zeros (refuses k) = zeros

-- "Order: 9; header 1 .., 2, 3; each record ..; 8; 10 over the whole table, then 11, then 12": the program of a table that is accepted at n
unfoldable pub accepted : List ℕ → ℕ → Outcome Program
accepted table n =
    require (leb 1 n && leb n most_qubits) wrong_qubits
    (after (outcome (read_table table)) (λ P.
    require (not (any_lacks_removal P)) no_removal
    (require (not (any_too_wide P)) too_wide
    (require (not (program_faults P n)) access_fault
    (gives P)))))

-- verdict: the order above, then 21 for a workspace of that length
unfoldable pub verdict : List ℕ → ℕ → ℕ → Outcome Program
verdict table n workspace =
    after (accepted table n) (λ P.
    require (leb least_workspace workspace) short_workspace
    (gives P))

-- run: "13; 21", then the end word
unfoldable pub run : List ℕ → ℕ → ℕ → ℕ → Outcome ℕ
run table n word workspace =
    after (accepted table n) (λ P.
    require (ltb word (2 ^ n)) high_bit
    (require (leb least_workspace workspace) short_workspace
    (gives (end_word P n word))))

-- "Then .. 22 or 23 at the first ancilla or gate that does not fit": scan the events with `used` bytes of the room filled
unfoldable pub fit : ℕ → ℕ → List Event → ℕ
fit room used [] = success
fit room used (takes w ∷ es) = elim (ltb most_wires w) [ true ↦ many_wires | false ↦ fit room used es ]
fit room used (places g ∷ es) = elim (leb (used + length (encode g)) room) [ true ↦ fit room (used + length (encode g)) es | false ↦ no_room ]
fit room used (frees a ∷ es) = fit room used es

unfoldable pub fitted : ℕ → Circuit → Outcome (List ℕ)
fitted zero c = gives (write c)
fitted (suc k) c = refuses (suc k)

-- the circuit of a program: the gates of its emission, and the most ancillas in use
unfoldable pub circuit : Program → ℕ → Circuit
circuit P n = record { data_wires = n; ancillas = peak [] (emission P n); gates = gates (emission P n) }

-- "room past 65,536 bytes is not used"
abbrev pub usable : ℕ → ℕ
usable room = min room most_circuit

-- compile: 21, "Then 23 for the header, then 22 or 23 ..", then the circuit's bytes, for a room and a workspace of those lengths
unfoldable pub compile : List ℕ → ℕ → ℕ → ℕ → Outcome (List ℕ)
compile table n room workspace =
    after (accepted table n) (λ P.
    require (leb least_workspace workspace) short_workspace
    (require (leb header_length (usable room)) no_room
    (fitted (fit (usable room) header_length (emission P n)) (circuit P n))))

-- document 02, S-5, the inverse: "Answers: 24, the table's room is shorter than the source table, after 12", then the bytes of the table whose run undoes
-- this one's
unfoldable pub inverse_table : List ℕ → ℕ → ℕ → Outcome (List ℕ)
inverse_table table n room =
    after (accepted table n) (λ P.
    require (leb (length table) room) short_table_room
    (gives (write_table (inverse_program P))))

-- "14 circuit not well formed", whatever is wrong with it
unfoldable pub well_formed : Parsed Circuit → Outcome Circuit
well_formed (parsed c i) = gives c
well_formed (refused k) = refuses not_well_formed

-- the circuit reader: n, ancillas and gate count of this circuit, or 14
abbrev pub circuit_read : List ℕ → Outcome Circuit
circuit_read bytes = well_formed (read_circuit bytes)

-- "The wires of a running circuit are one block of 32 bytes beside n and the ancilla count."
pub record Block : Type 0 where
  pub data_wires : ℕ
  pub ancillas : ℕ
  pub bits : List ℕ

-- the circuit run: "Reading a circuit gives 14 before 13"
unfoldable pub circuit_run : List ℕ → ℕ → Outcome Block
circuit_run bytes word =
    after (circuit_read bytes) (λ c.
    require (ltb word (2 ^ c.data_wires)) high_bit
    (gives (record { data_wires = c.data_wires; ancillas = c.ancillas; bits = circuit_block c word })))

-- "The room is written only on success, its rest unchanged."
unfoldable pub room_after : Outcome (List ℕ) → List ℕ → List ℕ
room_after (gives bytes) room = bytes ++ drop (length bytes) room
room_after (refuses k) room = room

-- "all of it is zero afterwards, at any length"
abbrev pub workspace_after : List ℕ → List ℕ
workspace_after workspace = replicate (length workspace) 0
