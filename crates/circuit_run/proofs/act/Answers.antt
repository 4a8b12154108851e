-- `act` lets a gate act where it fires.
use Rattle.circuit_run.proofs.GateAction.{acting}
use Rattle.circuit_run.proofs.act.Goals as goal

pub returns-then-not-fires : goal.returns-then-not-fires
returns-then-not-fires c = search acting

pub returns-in-Not : goal.returns-in-Not
returns-in-Not c = search acting

pub returns-in-Swap : goal.returns-in-Swap
returns-in-Swap c = search acting
