-- before length m those below m are filled
use mathlib.Core.Path.{◌≡◌}
use Prim.Native.Nat.{◌-◌, ◌≤◌}
use Rattle.faults.specs.RowTable.{filled}
use Rattle.faults.proofs.fill.Given as goal

abbrev pub invariant-loop-m : goal.invariant-loop-m
invariant-loop-m l = (1 ≤ l.m) × (l.m - 1 ≤ l.n) × (l.known ≡ filled l.program l.ranks l.sums l.n (l.m - 1) l.initial.known)
