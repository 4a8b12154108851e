-- All the rows are those that are left, behind those that were put.
use Rattle.std.proofs.Common.{◌≡◌, ◌-◌, suc}
use Rattle.text.specs.AppendedBytes.{puts}
use Rattle.bands.specs.MarkedRows.{rows_at}
use Rattle.bands.proofs.put_rows.Given as goal

abbrev pub invariant-loop-wire : goal.invariant-loop-wire
invariant-loop-wire l = puts (rows_at l.columns (suc l.most - l.wire) l.wire) l.writer ≡ puts (rows_at l.columns l.most 1) l.initial.writer
