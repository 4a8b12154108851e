-- before procedure v all rows have gone through those below v
use mathlib.Core.Path.{◌≡◌}
use Rattle.reach.specs.Matrix.{closed}
use Rattle.reach.proofs.close.Given as goal

abbrev pub invariant-loop-v : goal.invariant-loop-v
invariant-loop-v l = l.matrix ≡ closed l.v l.initial.matrix
