-- What is left to put down, put down, makes all of it.
use Rattle.std.proofs.Common.{◌≡◌, ◌+◌, ◌-◌, ◌*◌}
use Rattle.std.proofs.lemmas.List.Edits.{sets}
use Rattle.decoded.specs.RecordsPutDown.{numbers_written}
use Rattle.decoded.specs.DecodedTable.{no_removals}
use Rattle.decoded.proofs.write.removals_read.Given as goal

abbrev pub invariant-loop-k : goal.invariant-loop-k
invariant-loop-k l =
    sets l.numbers l.k (numbers_written (l.k-end - l.k) l.table (l.at + 1 + 3 * l.k)) ≡ sets no_removals.numbers 0 (numbers_written l.k-end l.table (l.at + 1))
