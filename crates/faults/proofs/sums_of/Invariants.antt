-- before j the sums below j are there
use mathlib.Core.Path.{◌≡◌}
use Rattle.faults.specs.CallLengths.{sums_below}
use Rattle.faults.proofs.sums_of.Given as goal

abbrev pub invariant-loop-j : goal.invariant-loop-j
invariant-loop-j l = l.sums ≡ sums_below l.counts l.j
