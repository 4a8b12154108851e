-- `size` meets its contract.
use Rattle.sets.proofs.Ways.{basics}
use Rattle.sets.proofs.size.Goals as goal

pub returns : goal.returns
returns c = search basics
