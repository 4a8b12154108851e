-- `sum` meets its contract: behind the guard the sum stays in i32.
use borrow.Author.Rules.{rules}
use Rattle.step.proofs.NumberValues.{sum_is, sum_guarded}
use Rattle.step.proofs.sum.Goals as goal

pub returns-then-constant-gt-MOST_CONSTANT : goal.returns-then-constant-gt-MOST_CONSTANT
returns-then-constant-gt-MOST_CONSTANT c = search (rules, sum_is, sum_guarded)

pub returns : goal.returns
returns c = search (rules, sum_is, sum_guarded)
