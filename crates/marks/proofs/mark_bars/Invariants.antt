-- All bars are those from this wire on, behind those that were set.
use Rattle.std.proofs.Common.{◌≡◌, ◌-◌}
use Rattle.model.specs.Lists.{range}
use Rattle.model.specs.Page.{bar}
use Rattle.marks.specs.Columns.{inside, mark_all}
use Rattle.marks.proofs.mark_bars.Given as goal

abbrev pub invariant-loop-wire : goal.invariant-loop-wire
invariant-loop-wire l = mark_all bar (inside l.fn.span) l.initial.column ≡ mark_all bar (range (l.wire-end - l.wire) l.wire) l.column
