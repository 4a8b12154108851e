-- `set_of`: each turn puts one wire more into the set.
use borrow.Author.Rules.{rules}
use Rattle.circuit.specs.GateChecks.{set_of}
use Rattle.circuit.proofs.WireSets.{mark_next, mark_done}
use Rattle.circuit.proofs.set_of.Goals as goal

pub loop-wire-init : goal.loop-wire-init
unfolding set_of
loop-wire-init c = search rules

pub loop-wire-preserved : goal.loop-wire-preserved
loop-wire-preserved c = search (rules, mark_next)

pub returns : goal.returns
returns c = search (rules, mark_done)
