-- `fill_reach` meets its contract.
use Rattle.reach.proofs.CallsOfAStatement.{bodies}
use Rattle.reach.proofs.fill_reach.Goals as goal

pub returns-then-p-gt-MOST_PROCEDURES : goal.returns-then-p-gt-MOST_PROCEDURES
returns-then-p-gt-MOST_PROCEDURES c = search bodies

pub returns : goal.returns
returns c = search bodies
