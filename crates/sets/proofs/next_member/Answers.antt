-- `next_member` meets its contract.
use Rattle.sets.proofs.Ways.{basics}
use Rattle.sets.proofs.next_member.Goals as goal

pub returns-then-set-eq0 : goal.returns-then-set-eq0
returns-then-set-eq0 c = search basics

pub returns : goal.returns
returns c = search basics
