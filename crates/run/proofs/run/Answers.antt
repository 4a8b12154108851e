-- `run`: each way out is one law.
use Rattle.answers.proofs.PassedOn.{passed_on}
use Rattle.run.proofs.RunAnswer.{answers, run_refused}
use Rattle.run.proofs.run.Goals as goal

pub returns-in_err-qubits : goal.returns-in_err-qubits
returns-in_err-qubits c =
    passed_on _ _ _ _ c.from_residual.ensures.1 (run_refused _ _ _ _ _ _ c.check_table.ensures.program_after _ c.in_err-qubits.was)

pub returns-then-not-fits : goal.returns-then-not-fits
returns-then-not-fits c = search answers

pub returns-then-space-lt-LEAST_WORKSPACE : goal.returns-then-space-lt-LEAST_WORKSPACE
returns-then-space-lt-LEAST_WORKSPACE c = search answers

pub returns : goal.returns
returns c = search answers
