-- `end_word`: main from its root, on all qubits.
use borrow.Author.Rules.{rules}
use Rattle.run.proofs.WalkOfAWord.{main_ran}
use Rattle.run.proofs.end_word.Goals as goal

pub returns : goal.returns
returns c = search (rules, main_ran)
