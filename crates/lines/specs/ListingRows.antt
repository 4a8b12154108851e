-- The listing of a circuit as the code walks it: its header, then the bytes of its gates.
use Rattle.std.specs.Prelude.{ℕ, zero, suc, ◌+◌, List, [], ◌++◌}
use Rattle.model.specs.Reading.{Input, Parsed, parsed, refused}
use Rattle.model.specs.Gates.{Gate}
use Rattle.model.specs.Listing.{first_line, gate_line}
use Rattle.circuit.specs.GatesInBytes.{input_of, gate_written}
use Rattle.circuit.specs.declared.Header.{Header}

-- the line of gate k, if it is one, and what comes of the input behind it
unfoldable pub line_then : ℕ → Parsed Gate → (Input → List ℕ) → List ℕ
line_then k (parsed g i) others = gate_line k g ++ others i
line_then k (refused r) others = []

-- the lines of n gates as they are written, the first of them gate k
unfoldable pub lines_read : ℕ → ℕ → Input → List ℕ
lines_read k zero i = []
lines_read k (suc n) i = line_then k (gate_written i) (lines_read (suc k) n)

-- the first line, of a header
abbrev pub first_read : Header → List ℕ
first_read h = first_line h.qubits h.ancillas (h.gates + h.qubits + h.ancillas)

-- the whole listing, of a header and the bytes behind it
abbrev pub listing_read : Header → List ℕ → List ℕ
listing_read h gates = first_read h ++ lines_read 1 h.gates (input_of gates)
