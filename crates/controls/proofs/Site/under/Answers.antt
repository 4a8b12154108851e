-- `under` meets its contract.
use Rattle.controls.proofs.ControlSets.{asking}
use Rattle.controls.proofs.Site.under.Goals as goal

pub returns-then-wire-gt-MOST_MEMBERS : goal.returns-then-wire-gt-MOST_MEMBERS
returns-then-wire-gt-MOST_MEMBERS c = search asking

pub returns : goal.returns
returns c = search asking
