-- `put_flip` meets its contract.
use Rattle.controls.proofs.ControlBytes.{gates}
use Rattle.controls.proofs.Site.put_flip.Goals as goal

pub returns-then-room-at : goal.returns-then-room-at
returns-then-room-at c = search gates

pub returns-in-Some : goal.returns-in-Some
returns-in-Some c = search (gates, c.in-Some.ensures)

pub returns : goal.returns
returns c = search gates
