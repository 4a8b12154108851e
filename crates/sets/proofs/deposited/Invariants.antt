-- what was found is below the rest, and with what the rest finds it is the whole
use Rattle.sets.proofs.Carrying.{CarriesOn}
use Rattle.sets.proofs.deposited.Given as goal

abbrev pub invariant-loop-q : goal.invariant-loop-q
invariant-loop-q l = CarriesOn l.row l.list l.found l.q-iterator l.left
