-- `check_table`: a law for each way out and each promise.
use borrow.Author.Rules.{rules}
use Rattle.answers.proofs.PassedOn.{passed_on}
use Rattle.verdict.proofs.AcceptanceAndRefusal.{verdicts, out_of_range, check_fails}
use Rattle.verdict.proofs.check_table.Goals as goal

pub returns-then-n-eq0-clause-program_after : goal.returns-then-n-eq0-clause-program_after
returns-then-n-eq0-clause-program_after c = out_of_range _ _ c.then-n-eq0.either

pub returns-then-n-eq0-clause-placed_checked : goal.returns-then-n-eq0-clause-placed_checked
returns-then-n-eq0-clause-placed_checked c = search verdicts

pub returns-then-n-eq0-clause-known_checked : goal.returns-then-n-eq0-clause-known_checked
returns-then-n-eq0-clause-known_checked c = search verdicts

pub returns-in_err-read_table-clause-program_after : goal.returns-in_err-read_table-clause-program_after
returns-in_err-read_table-clause-program_after c =
    passed_on _ _ _ _ c.from_residual.ensures.1 (search verdicts)

pub returns-in_err-read_table-clause-placed_checked : goal.returns-in_err-read_table-clause-placed_checked
returns-in_err-read_table-clause-placed_checked c = search verdicts

pub returns-in_err-read_table-clause-known_checked : goal.returns-in_err-read_table-clause-known_checked
returns-in_err-read_table-clause-known_checked c = search verdicts

pub returns-in_err-check_program-clause-program_after : goal.returns-in_err-check_program-clause-program_after
returns-in_err-check_program-clause-program_after c =
    passed_on _ _ _ _ c.from_residual-in_err-check_program.ensures.1
    (check_fails _ _ _ (search rules) (search rules) _ c.read_table.ensures.program_after c.in_ok-read_table.was _ _ c.check_program.ensures.value c.check_program.ensures.leaves_program _ c.in_err-check_program.was)

pub returns-in_err-check_program-clause-placed_checked : goal.returns-in_err-check_program-clause-placed_checked
returns-in_err-check_program-clause-placed_checked c = search verdicts

pub returns-in_err-check_program-clause-known_checked : goal.returns-in_err-check_program-clause-known_checked
returns-in_err-check_program-clause-known_checked c = search verdicts

pub returns-clause-program_after : goal.returns-clause-program_after
returns-clause-program_after c = search verdicts

pub returns-clause-placed_checked : goal.returns-clause-placed_checked
returns-clause-placed_checked c = search verdicts

pub returns-clause-known_checked : goal.returns-clause-known_checked
returns-clause-known_checked c = search verdicts
