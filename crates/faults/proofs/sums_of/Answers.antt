-- `sums_of` meets its contract.
use Rattle.faults.proofs.RemovalCounts.{counting}
use Rattle.faults.proofs.sums_of.Goals as goal

pub loop-j-init : goal.loop-j-init
loop-j-init c = search counting

pub loop-j-preserved : goal.loop-j-preserved
loop-j-preserved c = search counting
