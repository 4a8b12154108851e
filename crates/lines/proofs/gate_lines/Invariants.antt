-- all the lines are those that are left, behind those that were put
use Rattle.std.proofs.Common.{◌≡◌, ◌+◌, ◌-◌}
use Rattle.circuit.specs.GatesInBytes.{input_of}
use Rattle.text.specs.AppendedBytes.{puts}
use Rattle.lines.specs.ListingRows.{lines_read}
use Rattle.lines.proofs.gate_lines.Given as goal

abbrev pub invariant-loop-number : goal.invariant-loop-number
invariant-loop-number l =
    puts (lines_read 1 l.count (input_of l.bytes)) l.initial.writer ≡ puts (lines_read l.number (l.count + 1 - l.number) (input_of l.rest)) l.writer
