-- `touched` meets its contract.
use Rattle.step.proofs.Removals.{lists}
use Rattle.step.proofs.touched.Goals as goal

pub returns-clause-value : goal.returns-clause-value
returns-clause-value c = search lists

pub returns-clause-upper_bound : goal.returns-clause-upper_bound
returns-clause-upper_bound c = search lists
