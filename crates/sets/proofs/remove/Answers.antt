-- `remove` meets its contract: the member's bit is cleared.
use Rattle.sets.proofs.Positions.{entries}
use Rattle.sets.proofs.remove.Goals as goal

pub returns-then-q-eq0 : goal.returns-then-q-eq0
returns-then-q-eq0 c = search entries

pub overflow_shl-result : goal.overflow_shl-result
overflow_shl-result c = search entries

pub returns : goal.returns
returns c = search entries
