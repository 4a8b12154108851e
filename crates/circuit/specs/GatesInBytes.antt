-- What the reader gives in the terms of document 01's definitions: the bytes that are left as an input, what was read as `Parsed`.
use Rattle.std.specs.Prelude.{ℕ, Bool, false, List, [], length, eqb, ltb, Option, None, Some}
use Rattle.std.specs.Borrow.{Bor}
use Rattle.model.specs.Limits.{not_well_formed}
use Rattle.model.specs.Reading.{Input, Parsed, parsed, refused, and_then, provided, optional, stands}
use Rattle.model.specs.Reading as reading
use Rattle.model.specs.Gates.{Controls, flip, swap}
use Rattle.model.specs.Gates as model
use Rattle.model.specs.Circuit.{wire_list, gate_of, gate_is_well_formed}
use Rattle.circuit.specs.declared.Action.{Action}
use Rattle.circuit.specs.declared.Action.TheVariants.{Not, Swap}
use Rattle.circuit.specs.declared.Gate.{Gate}

-- what is still to be read
abbrev pub input_of : List ℕ → Input
input_of bs = record { bytes = bs; records = 0 }

-- "14 circuit not well formed", whatever is wrong
unfoldable pub settled : {A : Type 0} → Parsed A → Parsed A
settled (parsed a i) = parsed a i
settled (refused k) = refused not_well_formed

-- "no byte is left"
unfoldable pub fills : {A : Type 0} → Parsed A → Bool
fills (parsed a i) = eqb (length i.bytes) 0
fills (refused k) = false

-- what was read, and the bytes behind it, or "14 circuit not well formed"
abbrev pub read_as : {A B : Type 0} → (A → B) → Option (A × Bor (List ℕ)) → Parsed B
read_as f (Some p) = parsed (f p.0) (input_of p.1.now)
read_as f None = refused not_well_formed

-- a list of wires that was read
abbrev pub list_read : Option (Bor (List ℕ) × Bor (List ℕ)) → Parsed (List ℕ)
list_read r = read_as (λ l. l.now) r

abbrev pub controls_in : Gate → Controls
controls_in g = record { ones = g.ones.now; zeros = g.zeros.now }

-- a NOT or a swap under controls
abbrev pub gate_with : Action → Controls → model.Gate
gate_with (Not u) cs = flip cs u
gate_with (Swap u v) cs = swap cs u v

-- the gate that stands in the bytes
abbrev pub gate_in : Gate → model.Gate
gate_in g = gate_with g.action (controls_in g)

-- a gate that was read
abbrev pub gate_read : Option (Gate × Bor (List ℕ)) → Parsed model.Gate
gate_read r = read_as gate_in r

-- the gate and what is left behind it, if it is well formed
abbrev pub gate_checked : ℕ → model.Gate → Input → Parsed model.Gate
gate_checked most g i = provided (gate_is_well_formed most g) not_well_formed (parsed g i)

-- a gate as it is written: document 01's `read_gate` but for the question whether it is well formed (`read_is` in proofs/GateReading.antt)
unfoldable pub gate_written : Input → Parsed model.Gate
gate_written i =
    and_then (reading.byte i) (λ map j. and_then (reading.byte j) (λ target k. provided (ltb map 8) not_well_formed
    (and_then (optional (stands 0 map) wire_list [] k) (λ ones l.
    and_then (optional (stands 1 map) wire_list [] l) (λ zeros m. gate_of (stands 2 map) (record { ones = ones; zeros = zeros }) target m)))))
