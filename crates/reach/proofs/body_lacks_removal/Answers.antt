-- `body_lacks_removal` meets its contract.
use Rattle.reach.proofs.CallsOfAStatement.{bodies}
use Rattle.reach.proofs.body_lacks_removal.Goals as goal

pub returns : goal.returns
returns c = search bodies
