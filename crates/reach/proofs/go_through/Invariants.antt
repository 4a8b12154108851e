-- the rows before this one have gone through v
use mathlib.Core.Path.{◌≡◌}
use mathlib.Core.List.{map, ◌++◌}
use lib.ListN.{take, drop}
use Rattle.reach.specs.Matrix.{joined}
use Rattle.reach.proofs.go_through.Given as goal

abbrev pub invariant-loop-row : goal.invariant-loop-row
invariant-loop-row l =
    l.matrix ≡ map (joined l.v l.of_v) (take l.row-index l.initial.matrix) ++ drop l.row-index l.initial.matrix
