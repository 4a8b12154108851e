-- `store` meets its contract: nothing past the end of the table.
use Rattle.faults.proofs.RowTableFill.{filling}
use Rattle.faults.proofs.store.Goals as goal

pub returns-then-at-lt-ROW_COUNT : goal.returns-then-at-lt-ROW_COUNT
returns-then-at-lt-ROW_COUNT c = search filling

pub returns-else-at-lt-ROW_COUNT : goal.returns-else-at-lt-ROW_COUNT
returns-else-at-lt-ROW_COUNT c = search filling
