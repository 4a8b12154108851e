-- `all_counts` meets its contract.
use Rattle.faults.proofs.RemovalCounts.{counting}
use Rattle.faults.proofs.all_counts.Goals as goal

pub loop-f-init : goal.loop-f-init
loop-f-init c = search counting

pub loop-f-preserved : goal.loop-f-preserved
loop-f-preserved c = search counting

pub returns-2 : goal.returns-2
returns-2 c = search counting
