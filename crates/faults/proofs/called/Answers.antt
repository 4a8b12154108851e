-- `called` meets its contract: the positions are brought by `sets::carried`, which counts them from bit 0.
use Rattle.faults.proofs.RowOperations.{calling}
use Rattle.faults.proofs.called.Goals as goal

pub returns-then-list-eq0 : goal.returns-then-list-eq0
returns-then-list-eq0 c = search calling

pub returns : goal.returns
returns c = search calling
