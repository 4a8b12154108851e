-- before rank k those below k are filled
use mathlib.Core.Path.{◌≡◌}
use Prim.Native.Nat.{◌-◌, ◌≤◌}
use Rattle.faults.specs.RowTable.{filled_length}
use Rattle.faults.proofs.fill_length.Given as goal

abbrev pub invariant-loop-k : goal.invariant-loop-k
invariant-loop-k l = (1 ≤ l.k) × (l.k - 1 ≤ l.k-end) × (l.known ≡ filled_length l.program l.ranks (l.k - 1) l.m l.initial.known)
