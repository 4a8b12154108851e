-- before f those in the bodies below f are there
use mathlib.Core.Path.{◌≡◌}
use Rattle.faults.specs.CallLengths.{counts_below}
use Rattle.faults.proofs.all_counts.Given as goal

abbrev pub invariant-loop-f : goal.invariant-loop-f
invariant-loop-f l = l.all ≡ counts_below l.program l.f
