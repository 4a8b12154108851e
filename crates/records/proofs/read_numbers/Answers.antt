use Rattle.std.proofs.Common.{◌-◌, arith, sym}
use mathlib.Core.Path.{◌∙◌}
use Rattle.records.proofs.FieldLaws.{handed_out, numbers_refused, numbers_behind}
use Rattle.records.proofs.read_numbers.Goals as goal

pub returns-in_err-end : goal.returns-in_err-end
returns-in_err-end c =
    rw (handed_out _ _ c.from_residual.ensures.1)
    (sym (numbers_refused _ _ (c.args.count - c.loop.counter) _ (omega arith) (sym c.in_err-end.ensures)) ∙ c.loop.invariant)

pub loop-preserved : goal.loop-preserved
loop-preserved c = sym (numbers_behind _ _ (c.args.count - c.loop.counter) _ _ _ (omega arith) (sym c.in_ok-end.ensures)) ∙ c.loop.invariant
