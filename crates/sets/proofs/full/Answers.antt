-- `full` meets its contract.
use Rattle.sets.proofs.Ways.{basics}
use Rattle.sets.proofs.full.Goals as goal

pub returns-then-n-lt64 : goal.returns-then-n-lt64
returns-then-n-lt64 c = search basics

pub returns-else-n-lt64 : goal.returns-else-n-lt64
returns-else-n-lt64 c = search basics
