-- before x those below x are counted
use mathlib.Core.Path.{◌≡◌}
use Prim.Native.Nat.{◌≤◌}
use Rattle.faults.specs.RowTable.{rank_below}
use Rattle.faults.proofs.rank.Given as goal

abbrev pub invariant-loop-x : goal.invariant-loop-x
invariant-loop-x l = (l.n ≤ l.x) × (l.n ≡ rank_below l.matrix l.f l.x)
