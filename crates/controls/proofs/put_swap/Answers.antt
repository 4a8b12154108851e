-- `put_swap` meets its contract.
use Rattle.controls.proofs.ControlBytes.{gates}
use Rattle.controls.proofs.put_swap.Goals as goal

pub returns-then-room-at : goal.returns-then-room-at
returns-then-room-at c = search gates

pub returns-then-wire-eq0 : goal.returns-then-wire-eq0
returns-then-wire-eq0 c = search gates

pub returns : goal.returns
returns c = search gates
