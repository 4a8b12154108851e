-- `faults` meets its contract: main is walked by the whole table.
use Rattle.faults.proofs.RowTableFill.{filling}
use Rattle.faults.proofs.faults.Goals as goal

pub returns : goal.returns
returns c = search filling
