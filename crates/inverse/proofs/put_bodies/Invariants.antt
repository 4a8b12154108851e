-- Before body f, the bodies below f were put.
use Rattle.std.proofs.Common.{◌≡◌}
use Rattle.text.specs.AppendedBytes.{puts}
use Rattle.inverse.specs.TurnedRecords.{turned_below}
use Rattle.inverse.proofs.put_bodies.Given as goal

abbrev pub invariant-loop-f : goal.invariant-loop-f
invariant-loop-f l = l.writer ≡ puts (turned_below l.table l.program l.f) l.initial.writer
