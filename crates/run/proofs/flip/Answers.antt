-- `flip`: qubit q is bit q − 1.
use borrow.Author.Rules.{rules}
use Rattle.run.proofs.WalkOfAWord.{flip_none, flip_bit}
use Rattle.run.proofs.flip.Goals as goal

pub returns-then-q-eq0 : goal.returns-then-q-eq0
returns-then-q-eq0 c = search (rules, flip_none)

pub returns : goal.returns
returns c = search (rules, flip_bit)
