-- `counts` meets its contract: each way out is one law.
use Rattle.faults.proofs.RemovalCounts.{counting}
use Rattle.faults.proofs.+counts.Goals as goal

pub returns-then-depth-eq0 : goal.returns-then-depth-eq0
returns-then-depth-eq0 t c = search counting

pub returns-in-Neither : goal.returns-in-Neither
returns-in-Neither t c = search counting

pub returns-in-Two : goal.returns-in-Two
returns-in-Two t c = search counting

pub returns-in-Call : goal.returns-in-Call
returns-in-Call t c = search counting
