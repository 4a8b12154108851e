-- `run_circuit` reads the header, and then answers what the run of the gates gave.
use Rattle.circuit_run.proofs.CircuitRunAnswer.{runs}
use Rattle.circuit_run.proofs.run_circuit.Goals as goal

pub returns-in_default : goal.returns-in_default
returns-in_default c = search (runs, c.in_default.ensures)

pub returns : goal.returns
returns c = search (runs, c.in-Some.ensures)
