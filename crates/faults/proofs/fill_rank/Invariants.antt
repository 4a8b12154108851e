-- before f those below f are filled
use mathlib.Core.Path.{◌≡◌}
use Prim.Native.Nat.{◌-◌, ◌≤◌}
use Rattle.faults.specs.RowTable.{filled_rank}
use Rattle.faults.proofs.fill_rank.Given as goal

abbrev pub invariant-loop-f : goal.invariant-loop-f
invariant-loop-f l = (1 ≤ l.f) × (l.f - 1 ≤ l.f-end) × (l.known ≡ filled_rank l.program l.ranks (l.f - 1) l.k l.m l.initial.known)
