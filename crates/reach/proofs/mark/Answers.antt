-- `mark` meets its contract: outside the rows and columns nothing is marked.
use Rattle.reach.proofs.MatrixOperations.{cells}
use Rattle.reach.proofs.mark.Goals as goal

pub returns-then-g-le-MOST_PROCEDURES : goal.returns-then-g-le-MOST_PROCEDURES
returns-then-g-le-MOST_PROCEDURES c = search cells

pub returns-else-f-le-MOST_PROCEDURES : goal.returns-else-f-le-MOST_PROCEDURES
returns-else-f-le-MOST_PROCEDURES c = search cells
