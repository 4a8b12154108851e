-- `rank` meets its contract.
use Rattle.faults.proofs.RowTableFill.{ranking}
use Rattle.faults.proofs.rank.Goals as goal

pub loop-x-init : goal.loop-x-init
loop-x-init c = search ranking

pub overflow_add-n : goal.overflow_add-n
overflow_add-n c = search ranking

pub loop-x-preserved : goal.loop-x-preserved
loop-x-preserved c = search ranking

pub returns-2 : goal.returns-2
returns-2 c = search ranking
