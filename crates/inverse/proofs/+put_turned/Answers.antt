-- `put_turned`: each way out is one law.
use Rattle.inverse.proofs.CopiedRecords.{turning}
use Rattle.inverse.proofs.+put_turned.Goals as goal

pub returns-then-depth-eq0 : goal.returns-then-depth-eq0
returns-then-depth-eq0 t c = search turning

pub returns-then-in_turn : goal.returns-then-in_turn
returns-then-in_turn t c = search turning

pub returns-in-Neither : goal.returns-in-Neither
returns-in-Neither t c = search turning

pub returns-else-in_turn : goal.returns-else-in_turn
returns-else-in_turn t c = search turning
