-- all the controls are those that are left, behind those that were put
use Rattle.std.proofs.Common.{◌≡◌, drop}
use Rattle.model.specs.Listing.{control_text}
use Rattle.text.specs.AppendedBytes.{puts}
use Rattle.lines.proofs.put_controls.Given as goal

abbrev pub invariant-loop-wire : goal.invariant-loop-wire
invariant-loop-wire l = puts (control_text l.ones l.initial.rest) l.initial.writer ≡ puts (control_text (drop l.wire-index l.ones) l.rest) l.writer
