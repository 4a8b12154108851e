use Rattle.std.proofs.Common.{◌+◌, ◌-◌, arith, sym}
use mathlib.Core.Path.{◌∙◌}
use Rattle.records.proofs.FieldLaws.{handed_out}
use Rattle.table.proofs.TreeReadingLaws.{bodies_refused, bodies_behind, bodies_none}
use Rattle.table.proofs.Source.read_bodies.Goals as goal

pub returns-in_err-come : goal.returns-in_err-come
returns-in_err-come c =
    rw (handed_out _ _ c.from_residual.ensures.1)
    (bodies_refused _ _ _ _ _ _ _ (c.args.self.p + 1 - c.loop-f.f) _ (omega arith) (rw c.note_root.ensures at c.in_err-come.ensures) ∙ c.loop-f.invariant)

pub loop-f-preserved : goal.loop-f-preserved
loop-f-preserved c =
    bodies_behind _ _ _ _ _ _ _ (c.args.self.p + 1 - c.loop-f.f) _ _ (omega arith) (rw c.note_root.ensures at c.in_ok-come.ensures) ∙ c.loop-f.invariant

pub returns : goal.returns
returns c = sym (bodies_none _ _ (c.args.self.p + 1 - c.loop-f.f) _ _ _ (omega arith)) ∙ c.loop-f.invariant
