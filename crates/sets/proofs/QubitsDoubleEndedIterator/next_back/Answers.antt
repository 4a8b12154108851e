-- `next_back` gives the highest member, and leaves the others.
use Rattle.std.proofs.Common.{rules}
use Rattle.sets.proofs.MemberSteps.{none_left, last_left, fewer_left}
use Rattle.sets.proofs.QubitsDoubleEndedIterator.next_back.Goals as goal

pub returns-then-self-eq0-clause-steps : goal.returns-then-self-eq0-clause-steps
returns-then-self-eq0-clause-steps c = search (rules, none_left)

pub returns-clause-steps : goal.returns-clause-steps
returns-clause-steps c = search (rules, last_left)

pub returns-clause-goes : goal.returns-clause-goes
returns-clause-goes c = search (rules, fewer_left)
