-- `run_gates`: each turn lets one gate more act.
use Rattle.circuit_run.proofs.RunOfGates.{running, run_end}
use Rattle.circuit_run.proofs.run_gates.Goals as goal

pub returns-in_err-gate : goal.returns-in_err-gate
returns-in_err-gate c = rw c.from_residual.ensures (search (running, c.in_err-gate.ensures))

pub loop-preserved : goal.loop-preserved
loop-preserved c = search (running, c.in_ok-gate.ensures)

pub returns : goal.returns
returns c = run_end _ _ c.loop.counter _ _ _ c.loop.invariant.0 c.loop-test.false c.loop.invariant.1 _ c.is_empty.ensures _ c.then_some.ensures
