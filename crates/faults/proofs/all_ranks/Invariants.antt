-- before f those of the bodies below f are there
use mathlib.Core.Path.{◌≡◌}
use Rattle.faults.specs.RowTable.{ranks_below}
use Rattle.faults.proofs.all_ranks.Given as goal

abbrev pub invariant-loop-f : goal.invariant-loop-f
invariant-loop-f l = l.all ≡ ranks_below l.matrix l.p l.f
