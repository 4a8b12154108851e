-- `mark_bodies` meets its contract.
use Rattle.reach.proofs.CallsOfAStatement.{bodies}
use Rattle.reach.proofs.mark_bodies.Goals as goal

pub loop-f-init : goal.loop-f-init
loop-f-init c = search bodies

pub loop-f-preserved : goal.loop-f-preserved
loop-f-preserved c = search bodies

pub returns-2 : goal.returns-2
returns-2 c = search bodies
