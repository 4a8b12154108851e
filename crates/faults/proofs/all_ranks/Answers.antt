-- `all_ranks` meets its contract.
use Rattle.faults.proofs.RowTableFill.{ranking}
use Rattle.faults.proofs.all_ranks.Goals as goal

pub loop-f-init : goal.loop-f-init
loop-f-init c = search ranking

pub loop-f-preserved : goal.loop-f-preserved
loop-f-preserved c = search ranking

pub returns : goal.returns
returns c = search ranking
