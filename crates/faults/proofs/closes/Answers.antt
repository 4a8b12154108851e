-- `closes` meets its contract.
use Rattle.faults.proofs.RowOperations.{rows}
use Rattle.faults.proofs.closes.Goals as goal

pub returns-then-contains : goal.returns-then-contains
returns-then-contains c = search rows

pub returns-else-contains : goal.returns-else-contains
returns-else-contains c = search rows
