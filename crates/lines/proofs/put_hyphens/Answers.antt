use Rattle.lines.proofs.ControlText.{hyphens_end, hyphens_next}
use Rattle.lines.proofs.put_hyphens.Goals as goal

pub loop-wire-preserved : goal.loop-wire-preserved
loop-wire-preserved c = hyphens_next _ _ _ _ c.loop-wire.invariant c.loop-wire-test.true _ c.put_control.ensures

pub returns : goal.returns
returns c = hyphens_end _ _ _ _ c.loop-wire.invariant c.loop-wire-test.false
