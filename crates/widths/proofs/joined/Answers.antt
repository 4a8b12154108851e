-- `joined` meets its contract.
use Rattle.widths.proofs.CountedWidths.{keeping}
use Rattle.widths.proofs.joined.Goals as goal

pub returns-then-in_turn : goal.returns-then-in_turn
returns-then-in_turn c = search keeping

pub returns-else-in_turn : goal.returns-else-in_turn
returns-else-in_turn c = search keeping
