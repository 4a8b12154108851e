-- `list_fits`: each turn tests one wire more.
use borrow.Author.Rules.{rules}
use Rattle.circuit.proofs.LoopsOverWires.{fits_none, fits_first, fits_next, fits_all}
use Rattle.circuit.proofs.list_fits.Goals as goal

pub returns-in_default : goal.returns-in_default
returns-in_default c = search (rules, fits_none, c.in_default.ensures.cases)

pub loop-i-init : goal.loop-i-init
loop-i-init c = search (rules, fits_first, c.in-Some.ensures.cases.0)

pub loop-i-preserved : goal.loop-i-preserved
loop-i-preserved c = search (rules, fits_next, c.in-Some.ensures.cases.0)

pub returns : goal.returns
returns c = search (rules, fits_all)
