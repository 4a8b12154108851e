-- `seek` meets its contract.
use Rattle.events.proofs.GreatestPrecedence.{seeking, seek_ends}
use Rattle.events.proofs.seek.Goals as goal

pub loop-a-init : goal.loop-a-init
loop-a-init c = search seeking

pub loop-a-preserved : goal.loop-a-preserved
loop-a-preserved c = search seeking

pub returns : goal.returns
returns c = seek_ends _ _ _ _ _ _ _ _ c.loop-a.invariant c.loop-a-test.false c.then_some.ensures
