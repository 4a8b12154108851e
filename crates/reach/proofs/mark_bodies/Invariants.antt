-- before procedure f the rows below f are marked
use mathlib.Core.Path.{◌≡◌}
use Rattle.decoded.specs.DecodedTable.{body_at}
use Rattle.reach.specs.CallsInATable.{marked_below}
use Rattle.reach.proofs.mark_bodies.Given as goal

abbrev pub invariant-loop-f : goal.invariant-loop-f
invariant-loop-f l = l.matrix ≡ marked_below (body_at l.program) l.f l.initial.matrix
