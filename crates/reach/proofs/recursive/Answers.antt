-- `recursive` meets its contract.
use Rattle.reach.proofs.MatrixOperations.{cells}
use Rattle.reach.proofs.recursive.Goals as goal

pub returns : goal.returns
returns c = search cells
