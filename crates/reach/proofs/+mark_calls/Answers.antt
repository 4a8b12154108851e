-- `mark_calls` meets its contract: each way out is one law.
use Rattle.reach.proofs.CallsOfAStatement.{marking}
use Rattle.reach.proofs.+mark_calls.Goals as goal

pub returns-then-depth-eq0 : goal.returns-then-depth-eq0
returns-then-depth-eq0 t c = search marking

pub returns-in-Neither : goal.returns-in-Neither
returns-in-Neither t c = search marking

pub returns-in-Two : goal.returns-in-Two
returns-in-Two t c = search marking

pub returns-in-Call : goal.returns-in-Call
returns-in-Call t c = search marking
