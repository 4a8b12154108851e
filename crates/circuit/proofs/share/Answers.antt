-- `share`: where both lists have wires, each turn looks up one wire more.
use mathlib.Core.Path.{◌≡◌}
use borrow.Author.Rules.{rules}
use Rattle.circuit.specs.GateChecks.{any_in}
use Rattle.circuit.proofs.WireSets.{any_next, any_done, none_first, none_second}
use Rattle.circuit.proofs.share.Goals as goal
use Rattle.circuit.proofs.share.Goals.{then-is_empty-via-then-is_empty, then-is_empty-via-else-is_empty+then-is_empty-2}

pub returns-then-is_empty : goal.returns-then-is_empty
returns-then-is_empty c = elim c.then-is_empty.branch [
  | then-is_empty-via-then-is_empty w ↦ search (rules, none_first)
  | then-is_empty-via-else-is_empty+then-is_empty-2 w ↦ search (rules, none_second)
]

pub loop-wire-preserved : goal.loop-wire-preserved
loop-wire-preserved c = search (rules, any_next)

pub returns : goal.returns
returns c =
    let f : c.loop-wire.shared ≡ any_in c.set_of-set.result c.args.first.now = search (rules, any_done) in
    rw (← c.set_of-set.ensures) f
