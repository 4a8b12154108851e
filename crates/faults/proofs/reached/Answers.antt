-- `reached` meets its contract.
use Rattle.faults.proofs.RowTableFill.{ranking}
use Rattle.faults.proofs.reached.Goals as goal

pub returns : goal.returns
returns c = search ranking
