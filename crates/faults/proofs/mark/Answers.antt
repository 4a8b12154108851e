-- `mark` meets its contract.
use Rattle.faults.proofs.RowOperations.{rows}
use Rattle.faults.proofs.mark.Goals as goal

pub returns : goal.returns
returns c = search rows
