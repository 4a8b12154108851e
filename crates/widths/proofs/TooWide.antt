-- Refusal 11 of the program, by the matrix.
use mathlib.Core.Path.{◌≡◌}
use Prim.Native.Nat.{◌≤◌}
use lib.Dec.{ltb}
use Rattle.model.specs.Limits.{most_procedures}
use Rattle.model.specs.Reach.{width, any_too_wide}
use Rattle.model.proofs.ReachAndRank.{Named}
use Rattle.decoded.specs.declared.Program as decoded
use Rattle.decoded.specs.DecodedTable.{procedure_count, program_at}
use Rattle.reach.specs.CallsInATable.{reach_at}
use Rattle.reach.proofs.ReachByMatrix.{any_read}
use Rattle.widths.specs.KeptWidths.{wide_in, any_wide_in}

pub refusal_eleven : (g : decoded.Program) → procedure_count g ≤ most_procedures → Named (program_at g) → any_wide_in (reach_at g) g ≡ any_too_wide (program_at g)
unfolding any_too_wide wide_in
refusal_eleven g few named = any_read g few named (λ r s. ltb 1 (width r s))
