-- `put_table`: its first two bytes, then the bodies.
use Rattle.inverse.proofs.CopiedRecords.{bodies}
use Rattle.inverse.proofs.put_table.Goals as goal

pub returns : goal.returns
returns c = search bodies
