-- `put_bodies`: one body more.
use Rattle.inverse.proofs.CopiedRecords.{bodies}
use Rattle.inverse.proofs.put_bodies.Goals as goal

pub loop-f-init : goal.loop-f-init
loop-f-init c = search bodies

pub loop-f-preserved : goal.loop-f-preserved
loop-f-preserved c = search bodies

pub returns-2 : goal.returns-2
returns-2 c = search bodies
