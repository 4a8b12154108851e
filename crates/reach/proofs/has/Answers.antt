-- `has` meets its contract.
use Rattle.reach.proofs.MatrixOperations.{cells}
use Rattle.reach.proofs.has.Goals as goal

pub returns-then-g-le-MOST_PROCEDURES : goal.returns-then-g-le-MOST_PROCEDURES
returns-then-g-le-MOST_PROCEDURES c = search cells

pub returns-else-g-le-MOST_PROCEDURES : goal.returns-else-g-le-MOST_PROCEDURES
returns-else-g-le-MOST_PROCEDURES c = search cells
