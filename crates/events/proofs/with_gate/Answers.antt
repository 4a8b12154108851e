-- `with_gate` meets its contract: each way out is one law.
use Rattle.events.proofs.GatesAndSlots.{growing}
use Rattle.events.proofs.with_gate.Goals as goal
use Rattle.events.proofs.with_gate.Goals.{
  then-gates-ge-MOST_GATES-via-then-gates-ge-MOST_GATES,
  then-gates-ge-MOST_GATES-via-else-gates-ge-MOST_GATES+then-not-in_room,
}

pub returns-then-gates-ge-MOST_GATES : goal.returns-then-gates-ge-MOST_GATES
returns-then-gates-ge-MOST_GATES c = elim c.then-gates-ge-MOST_GATES.branch [
  | then-gates-ge-MOST_GATES-via-then-gates-ge-MOST_GATES w ↦ search growing
  | then-gates-ge-MOST_GATES-via-else-gates-ge-MOST_GATES+then-not-in_room w ↦ search growing
]

pub returns : goal.returns
returns c = search growing
