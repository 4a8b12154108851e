-- `close` meets its contract.
use Rattle.reach.proofs.MatrixOperations.{rows}
use Rattle.reach.proofs.close.Goals as goal

pub loop-v-init : goal.loop-v-init
loop-v-init c = search rows

pub loop-v-preserved : goal.loop-v-preserved
loop-v-preserved c = search rows

pub returns-2 : goal.returns-2
returns-2 c = search rows
