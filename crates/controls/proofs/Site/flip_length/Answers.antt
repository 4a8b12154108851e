-- `flip_length` meets its contract.
use Rattle.controls.proofs.ControlBytes.{lengths}
use Rattle.controls.proofs.Site.flip_length.Goals as goal

pub returns-in-Some : goal.returns-in-Some
returns-in-Some c = search (lengths, c.in-Some.ensures)

pub returns-in-None : goal.returns-in-None
returns-in-None c = search lengths
