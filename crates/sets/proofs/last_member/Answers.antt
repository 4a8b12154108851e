-- `last_member` meets its contract.
use Rattle.sets.proofs.Ways.{basics}
use Rattle.sets.proofs.last_member.Goals as goal

pub returns : goal.returns
returns c = search basics
