-- `value` meets its contract: each base is one law.
use borrow.Author.Rules.{rules}
use Rattle.step.proofs.NumberValues.{value_constant, value_size, value_left}
use Rattle.step.proofs.value.Goals as goal

pub returns-in-Constant : goal.returns-in-Constant
returns-in-Constant c = search (rules, value_constant, value_size, value_left)

pub returns-in-SizePlus : goal.returns-in-SizePlus
returns-in-SizePlus c = search (rules, value_constant, value_size, value_left)

pub returns-in-LeftPlus : goal.returns-in-LeftPlus
returns-in-LeftPlus c = search (rules, value_constant, value_size, value_left)
