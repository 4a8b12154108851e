-- before body f none below f lacks a removal
use mathlib.Core.Path.{◌≡◌}
use mathlib.Core.Bool.{false}
use Rattle.model.specs.Reach.{any_below}
use Rattle.reach.specs.CallsInATable.{lacks_in}
use Rattle.reach.proofs.any_lacks_removal.Given as goal

abbrev pub invariant-loop-f : goal.invariant-loop-f
invariant-loop-f l = any_below l.f (lacks_in l.matrix l.program) ≡ false
