-- `give_back` meets its contract: each way out is one law.
use Rattle.events.proofs.GatesAndSlots.{takings}
use Rattle.events.proofs.give_back.Goals as goal

pub returns-then-is_some : goal.returns-then-is_some
returns-then-is_some c = search takings

pub returns : goal.returns
returns c = search takings
