-- Where a band begins.
use Rattle.std.specs.Prelude.{ℕ, List, Option, None, Some}
use Rattle.std.specs.Borrow.{Bor}
use Rattle.model.specs.Limits.{not_well_formed}
use Rattle.model.specs.Answers.{Outcome, refuses}
use Rattle.model.specs.Page.{band_gates, Band, read_band, drawn}
use Rattle.circuit.specs.GatesInBytes.{input_of}

-- the band of the gates at the beginning of some bytes, over wires 1 to `most`
abbrev pub drawn_from : List ℕ → List ℕ → ℕ → Outcome Band
drawn_from bytes gates most = drawn bytes most (read_band most band_gates (input_of gates))

-- the code's answer: the bytes from which a band is drawn and its last wire, or "14 circuit not well formed"
abbrev pub started : List ℕ → Option (Bor (List ℕ) × ℕ) → Outcome Band
started bytes (Some p) = drawn_from bytes p.0.now p.1
started bytes None = refuses not_well_formed
