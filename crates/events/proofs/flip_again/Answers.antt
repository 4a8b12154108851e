-- `flip_again` meets its contract: each way out is one law.
use Rattle.events.proofs.CallAncilla.{finishing}
use Rattle.events.proofs.flip_again.Goals as goal

pub returns-then-list-eq0-clause-value : goal.returns-then-list-eq0-clause-value
returns-then-list-eq0-clause-value c = search finishing

pub returns-then-list-eq0-clause-room_after : goal.returns-then-list-eq0-clause-room_after
returns-then-list-eq0-clause-room_after c = search finishing

pub returns-clause-value : goal.returns-clause-value
returns-clause-value c = search finishing

pub returns-clause-room_after : goal.returns-clause-room_after
returns-clause-room_after c = search finishing
