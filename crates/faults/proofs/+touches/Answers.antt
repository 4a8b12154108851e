-- `touches` meets its contract: each step of the walk is the record's.
use Rattle.faults.proofs.RowOfAStatement.{walking}
use Rattle.faults.proofs.+touches.Goals as goal

pub returns-then-depth-eq0 : goal.returns-then-depth-eq0
returns-then-depth-eq0 t c = search walking

pub returns-in-Nothing : goal.returns-in-Nothing
returns-in-Nothing t c = search walking

pub returns-in-Touches : goal.returns-in-Touches
returns-in-Touches t c = search walking

pub returns-in-Sequence : goal.returns-in-Sequence
returns-in-Sequence t c = search walking

pub returns-in-Chooses : goal.returns-in-Chooses
returns-in-Chooses t c = search walking

pub returns-in-Branches : goal.returns-in-Branches
returns-in-Branches t c = search walking

pub returns-in-Calls : goal.returns-in-Calls
returns-in-Calls t c = search walking

pub returns-in-Greater : goal.returns-in-Greater
returns-in-Greater t c = search walking
