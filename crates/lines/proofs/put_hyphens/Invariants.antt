-- all the hyphens are those that are left, behind those that were put
use Rattle.std.proofs.Common.{◌≡◌, drop}
use Rattle.model.specs.Listing.{hyphens}
use Rattle.text.specs.AppendedBytes.{puts}
use Rattle.lines.proofs.put_hyphens.Given as goal

abbrev pub invariant-loop-wire : goal.invariant-loop-wire
invariant-loop-wire l = puts (hyphens l.zeros) l.initial.writer ≡ puts (hyphens (drop l.wire-index l.zeros)) l.writer
