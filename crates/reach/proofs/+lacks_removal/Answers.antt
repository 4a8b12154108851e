-- `lacks_removal` meets its contract: each way out is one law.
use Rattle.reach.proofs.CallsOfAStatement.{lacking}
use Rattle.reach.proofs.+lacks_removal.Goals as goal

pub returns-then-depth-eq0 : goal.returns-then-depth-eq0
returns-then-depth-eq0 t c = search lacking

pub returns-in-Neither : goal.returns-in-Neither
returns-in-Neither t c = search lacking

pub returns-then-lacks_removal : goal.returns-then-lacks_removal
returns-then-lacks_removal t c = search lacking

pub returns-else-lacks_removal : goal.returns-else-lacks_removal
returns-else-lacks_removal t c = search lacking

pub returns-then-removal_count-eq0 : goal.returns-then-removal_count-eq0
returns-then-removal_count-eq0 t c = search lacking

pub returns-else-removal_count-eq0 : goal.returns-else-removal_count-eq0
returns-else-removal_count-eq0 t c = search lacking
