-- `gates_fill`: each turn reads one gate more.
use Rattle.circuit.proofs.GateReading.{filled}
use Rattle.circuit.proofs.gates_fill.Goals as goal

pub returns-in_default : goal.returns-in_default
returns-in_default c = search (filled, c.in_default.ensures)

pub loop-preserved : goal.loop-preserved
loop-preserved c = search (filled, c.in-Some.ensures)

pub returns : goal.returns
returns c = search filled
