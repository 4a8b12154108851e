-- `bit`: qubit q is bit q − 1.
use borrow.Author.Rules.{rules}
use Rattle.run.proofs.WalkOfAWord.{bit_none, bit_bit}
use Rattle.run.proofs.bit.Goals as goal

pub returns-then-q-eq0 : goal.returns-then-q-eq0
returns-then-q-eq0 c = search (rules, bit_none)

pub returns : goal.returns
returns c = search (rules, bit_bit)
