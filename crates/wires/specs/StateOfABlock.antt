-- The block of bytes that the wires of a running circuit are, read as a state.
use Rattle.std.specs.Prelude.{ℕ, zero, suc, ◌/◌, ◌%◌, Bool, true, false, List, eqb, get_or}
use Rattle.model.specs.Meaning.{State, bit}
use Rattle.model.specs.Circuit.{block_of}
use Rattle.wires.specs.declared.Wires.{Wires}

-- "Wire w is bit (w − 1) mod 8 of byte (w − 1) div 8, counted from 0 and from the lowest bit"; wire 0 and every wire past the bytes hold 0.
unfoldable pub state_in : List ℕ → State
state_in bytes = λ w. elim w [ zero ↦ false | suc k ↦ bit (get_or bytes (k / 8) 0) (k % 8) ]

-- a state as the wires of a running circuit: its block beside the data count and the ancilla count
abbrev pub wires_of : ℕ → ℕ → State → Wires
wires_of n ancillas s = record { bits = block_of s; «data» = n; ancillas = ancillas }

-- the wires in another state, with the same counts
abbrev pub in_state : State → Wires → Wires
in_state s wires = wires_of wires.«data» wires.ancillas s

-- a number where a test holds, otherwise 0
abbrev pub only_if : Bool → ℕ → ℕ
only_if true n = n
only_if false n = 0

-- the bits to flip in byte i, where one bit of one byte is to be flipped
abbrev pub flipped_in : ℕ → ℕ → ℕ → ℕ
flipped_in i byte bit = only_if (eqb i byte) bit
