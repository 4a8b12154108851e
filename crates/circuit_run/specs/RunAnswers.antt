-- What the functions of the circuit run answer, in the terms of document 01's definitions.
use Rattle.std.specs.Prelude.{ℕ, ◌^◌, Bool, true, false, List, length, eqb, ltb, Option, None, Some}
use Rattle.model.specs.Limits.{high_bit, not_well_formed}
use Rattle.model.specs.Reading.{Parsed, parsed, refused}
use Rattle.model.specs.Meaning.{State}
use Rattle.model.specs.Gates.{Gate, all_one, all_zero, acts}
use Rattle.model.specs.Answers.{Outcome, gives, refuses}
use Rattle.wires.specs.StateOfABlock.{state_in, in_state}
use Rattle.wires.specs.declared.Wires.{Wires}
use Rattle.answers.specs.declared.CircuitBlock.{CircuitBlock}
use Rattle.answers.specs.Structs.{given_block, refused_block}

-- each wire of a list is asked for 1 (true) or for 0 (false)
abbrev pub all_hold : Bool → List ℕ → State → Bool
all_hold true l s = all_one l s
all_hold false l s = all_zero l s

-- the wires where no byte was left; otherwise "14 circuit not well formed"
abbrev pub ended_as : Bool → Wires → Outcome Wires
ended_as true wires = gives wires
ended_as false wires = refuses not_well_formed

abbrev pub wires_at_end : Option Wires → Outcome Wires
wires_at_end (Some wires) = gives wires
wires_at_end None = refuses not_well_formed

-- gates that were read act on the wires in order; "no byte is left"
unfoldable pub ran_of : Wires → Parsed (List Gate) → Outcome Wires
ran_of wires (parsed gs i) = ended_as (eqb (length i.bytes) 0) (in_state (acts gs (state_in wires.bits)) wires)
ran_of wires (refused k) = refuses not_well_formed

-- "13 a start word with a bit at n or above"
abbrev pub low_answer : Bool → Wires → CircuitBlock
low_answer true wires = given_block wires.«data» wires.ancillas wires.bits
low_answer false wires = refused_block high_bit

-- "Reading a circuit gives 14 before 13."
unfoldable pub end_answer : ℕ → Outcome Wires → CircuitBlock
end_answer word (gives wires) = low_answer (ltb word (2 ^ wires.«data»)) wires
end_answer word (refuses k) = refused_block k
