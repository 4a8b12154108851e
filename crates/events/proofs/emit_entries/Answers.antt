-- `emit_entries` meets its contract: each way is one law.
use Rattle.events.proofs.EntryGates.{entering}
use Rattle.events.proofs.emit_entries.Goals as goal

pub loop-a-init : goal.loop-a-init
loop-a-init c = search entering

pub loop-a-preserved : goal.loop-a-preserved
loop-a-preserved c = search entering

pub returns-then-reversed : goal.returns-then-reversed
returns-then-reversed c = search entering

pub loop-a-2-preserved : goal.loop-a-2-preserved
loop-a-2-preserved c = search entering

pub returns : goal.returns
returns c = search entering
