-- `all_hold`: each turn looks at one wire more.
use Rattle.circuit_run.proofs.GateAction.{held}
use Rattle.circuit_run.proofs.all_hold.Goals as goal

pub loop-wire-preserved : goal.loop-wire-preserved
loop-wire-preserved c = search held

pub returns : goal.returns
returns c = search held
