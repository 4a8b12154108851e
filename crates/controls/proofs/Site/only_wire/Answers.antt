-- `only_wire` meets its contract.
use mathlib.Core.Path.{refl}
use Rattle.controls.proofs.ControlSets.{only_high, onlys}
use Rattle.controls.proofs.Site.only_wire.Goals as goal

pub returns-then-self-gt-MOST_MEMBERS : goal.returns-then-self-gt-MOST_MEMBERS
returns-then-self-gt-MOST_MEMBERS c = rw c.then_some.ensures (only_high _ _ _ c.if-self-ne0.false _ c.if-self-gt-MOST_MEMBERS.true refl)

pub returns-then-without_lowest-eq0 : goal.returns-then-without_lowest-eq0
returns-then-without_lowest-eq0 c = search onlys
