-- `finish` meets its contract.
use Rattle.events.proofs.CallAncilla.{finishing}
use Rattle.events.proofs.finish.Goals as goal

pub returns : goal.returns
returns c = search finishing
