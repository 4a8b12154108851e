-- `with_control` meets its contract.
use Rattle.controls.proofs.ControlSets.{one_more, zero_more}
use Rattle.controls.proofs.Site.with_control.Goals as goal

pub returns-then-bit : goal.returns-then-bit
returns-then-bit c = one_more _ _ _ _ c.if-bit.true c.with_member.ensures

pub returns : goal.returns
returns c = zero_more _ _ _ _ c.if-bit.false c.with_member-2.ensures
