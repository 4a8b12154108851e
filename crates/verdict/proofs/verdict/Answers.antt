-- `verdict`: a law for each way out.
use Rattle.std.proofs.lemmas.Result.{err_from_is_err_and}
use Rattle.verdict.proofs.AcceptanceAndRefusal.{answers}
use Rattle.verdict.proofs.verdict.Goals as goal

pub returns-in_err-check_table : goal.returns-in_err-check_table
returns-in_err-check_table c =
    let p = err_from_is_err_and c.from_residual.result c.from_residual.ensures.1 in rw (p.1, p.2) (search answers)

pub returns-then-space-lt-LEAST_WORKSPACE : goal.returns-then-space-lt-LEAST_WORKSPACE
returns-then-space-lt-LEAST_WORKSPACE c = search answers

pub returns : goal.returns
returns c = search answers
