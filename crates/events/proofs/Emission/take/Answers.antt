-- `take` meets its contract: each way out is one law.
use Rattle.events.proofs.GatesAndSlots.{takings}
use Rattle.events.proofs.Emission.take.Goals as goal

pub returns-then-is_some-clause-state : goal.returns-then-is_some-clause-state
returns-then-is_some-clause-state c = search takings

pub returns-then-is_some-clause-slots : goal.returns-then-is_some-clause-slots
returns-then-is_some-clause-slots c = search takings

pub returns-then-next-gt-LAST_WIRE-clause-state : goal.returns-then-next-gt-LAST_WIRE-clause-state
returns-then-next-gt-LAST_WIRE-clause-state c = search takings

pub returns-then-next-gt-LAST_WIRE-clause-slots : goal.returns-then-next-gt-LAST_WIRE-clause-slots
returns-then-next-gt-LAST_WIRE-clause-slots c = search takings

pub returns-clause-state : goal.returns-clause-state
returns-clause-state c = search takings

pub returns-clause-slots : goal.returns-clause-slots
returns-clause-slots c = search takings
