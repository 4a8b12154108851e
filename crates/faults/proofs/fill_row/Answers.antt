-- `fill_row` meets its contract.
use Rattle.faults.proofs.RowTableFill.{filling}
use Rattle.faults.proofs.fill_row.Goals as goal

pub returns : goal.returns
returns c = search filling
