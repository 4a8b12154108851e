-- `emit_entry` meets its contract: each way out is one law.
use Rattle.events.proofs.EntryGates.{gating}
use Rattle.events.proofs.emit_entry.Goals as goal

pub returns-then-same_pair : goal.returns-then-same_pair
returns-then-same_pair c = search gating

pub returns-else-same_pair : goal.returns-else-same_pair
returns-else-same_pair c = search gating
