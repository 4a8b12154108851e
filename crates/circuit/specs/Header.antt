-- The circuit that stands behind a header.
use Rattle.std.specs.Prelude.{ℕ, ◌+◌, Bool, ◌&&◌, leb, List, Option, None, Some}
use Rattle.std.specs.Borrow.{Bor}
use Rattle.model.specs.Limits.{most_qubits, most_wires, success, not_well_formed}
use Rattle.model.specs.Reading.{Parsed}
use Rattle.model.specs.Gates.{Gate}
use Rattle.model.specs.Circuit.{Circuit, read_gates, whole_circuit}
use Rattle.model.specs.Answers.{Outcome, refuses, well_formed}
use Rattle.circuit.specs.GatesInBytes.{input_of}
use Rattle.answers.specs.Structs.{refused_header}
use Rattle.answers.specs.declared.CircuitHeader.{CircuitHeader}
use Rattle.circuit.specs.declared.Header.{Header}

-- "n is 1 to 32", and n plus ancillas "is at most 255"
abbrev pub counts_fit : ℕ → ℕ → Bool
counts_fit n ancillas = leb 1 n && leb n most_qubits && leb (n + ancillas) most_wires

-- the gates behind a header
abbrev pub gates_after : Header → List ℕ → Parsed (List Gate)
gates_after h bs = read_gates h.wires h.gates (input_of bs)

-- the circuit that stands behind a header, if it is well formed
abbrev pub circuit_after : Option (Header × Bor (List ℕ)) → Outcome Circuit
circuit_after (Some p) = well_formed (whole_circuit p.0.qubits p.0.ancillas (gates_after p.0 p.1.now))
circuit_after None = refuses not_well_formed

-- "the circuit reader n, ancillas and gate count", or "14 circuit not well formed"
abbrev pub header_given : Option (Header × Bor (List ℕ)) → CircuitHeader
header_given (Some p) = record { number = success; qubits = p.0.qubits; ancillas = p.0.ancillas; gates = p.0.gates }
header_given None = refused_header not_well_formed
