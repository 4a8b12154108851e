-- All the spaces are those that are left, behind those that were put.
use Rattle.std.proofs.Common.{◌≡◌, ◌-◌, replicate}
use Rattle.model.specs.Listing.{space}
use Rattle.text.specs.AppendedBytes.{puts}
use Rattle.bands.proofs.put_spaces.Given as goal

abbrev pub invariant-loop : goal.invariant-loop
invariant-loop l = puts (replicate (l.count - l.counter) space) l.writer ≡ puts (replicate l.count space) l.initial.writer
