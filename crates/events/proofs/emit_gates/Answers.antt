-- `emit_gates` meets its contract: each way out is one law.
use Rattle.events.proofs.EntryGates.{gating}
use Rattle.events.proofs.emit_gates.Goals as goal

pub returns-then-same_list-clause-enters : goal.returns-then-same_list-clause-enters
returns-then-same_list-clause-enters c = search gating

pub returns-then-reversed-clause-entry_touched : goal.returns-then-reversed-clause-entry_touched
returns-then-reversed-clause-entry_touched c = search gating

pub returns-then-reversed-clause-enters : goal.returns-then-reversed-clause-enters
returns-then-reversed-clause-enters c = search gating

pub returns-clause-entry_touched : goal.returns-clause-entry_touched
returns-clause-entry_touched c = search gating

pub returns-clause-enters : goal.returns-clause-enters
returns-clause-enters c = search gating
