-- `contains` meets its contract.
use Rattle.faults.proofs.RowOperations.{rows}
use Rattle.faults.proofs.contains.Goals as goal

pub returns-then-t-lt64 : goal.returns-then-t-lt64
returns-then-t-lt64 c = search rows

pub returns-else-t-lt64 : goal.returns-else-t-lt64
returns-else-t-lt64 c = search rows
