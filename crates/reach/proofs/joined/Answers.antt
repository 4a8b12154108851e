-- `joined` meets its contract.
use Rattle.reach.proofs.MatrixOperations.{cells}
use Rattle.reach.proofs.joined.Goals as goal

pub returns-then-has : goal.returns-then-has
returns-then-has c = search cells

pub returns-else-has : goal.returns-else-has
returns-else-has c = search cells
