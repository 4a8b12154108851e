-- of the slots that were looked at, the first of the greatest is kept
use Rattle.events.proofs.GreatestPrecedence.{Seeking}
use Rattle.events.proofs.seek.Given as goal

abbrev pub invariant-loop-a : goal.invariant-loop-a
invariant-loop-a l = Seeking l.slots l.base l.last l.upto l.greatest l.best l.a
