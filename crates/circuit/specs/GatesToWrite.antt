-- What is written of a circuit beside its gates.
use Rattle.std.specs.Prelude.{ℕ, List, ◌∷◌}
use Rattle.model.specs.Limits.{circuit_edition}
use Rattle.model.specs.Circuit.{four_bytes}

-- a circuit's bytes before its gates
abbrev pub header_bytes : ℕ → ℕ → ℕ → List ℕ
header_bytes n ancillas gates = circuit_edition ∷ n ∷ ancillas ∷ four_bytes gates
