-- `invoke` meets its contract: each way out is one law.
use Rattle.events.proofs.CallAncilla.{invoking}
use Rattle.events.proofs.Emission.invoke.Goals as goal

pub returns-then-list-eq0 : goal.returns-then-list-eq0
returns-then-list-eq0 c = search invoking

pub returns : goal.returns
returns c = search invoking
