-- `check_program`: one law for each way out.
use Rattle.verdict.proofs.AcceptanceAndRefusal.{checks, checked_twelve, checked_none}
use Rattle.verdict.proofs.check_program.Goals as goal

pub returns-then-any_lacks_removal-clause-value : goal.returns-then-any_lacks_removal-clause-value
returns-then-any_lacks_removal-clause-value c = search checks

pub returns-then-any_too_wide-clause-value : goal.returns-then-any_too_wide-clause-value
returns-then-any_too_wide-clause-value c = search checks

pub returns-then-faults-clause-value : goal.returns-then-faults-clause-value
returns-then-faults-clause-value c =
    checked_twelve _ _ _ c.fill_reach.ensures _ c.any_lacks_removal.ensures c.if-any_lacks_removal.false _ _ c.any_too_wide.ensures
    c.if-any_too_wide.false _ c.faults.ensures c.if-faults.true

pub returns-clause-value : goal.returns-clause-value
returns-clause-value c =
    checked_none _ _ _ c.fill_reach.ensures _ c.any_lacks_removal.ensures c.if-any_lacks_removal.false _ _ c.any_too_wide.ensures
    c.if-any_too_wide.false _ c.faults.ensures c.if-faults.false
