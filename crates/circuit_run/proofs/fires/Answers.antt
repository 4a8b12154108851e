-- `fires` asks both lists of controls.
use Rattle.circuit_run.proofs.GateAction.{firing}
use Rattle.circuit_run.proofs.fires.Goals as goal

pub returns-then-all_hold : goal.returns-then-all_hold
returns-then-all_hold c = search firing

pub returns-else-all_hold : goal.returns-else-all_hold
returns-else-all_hold c = search firing
