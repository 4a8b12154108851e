-- The wires before this one are marked.
use Rattle.std.proofs.Common.{◌≡◌, take}
use Rattle.marks.specs.Columns.{mark_all}
use Rattle.marks.proofs.mark_wires.Given as goal

abbrev pub invariant-loop-wire : goal.invariant-loop-wire
invariant-loop-wire l = l.column ≡ mark_all l.sign (take l.wire-index l.wires) l.initial.column
