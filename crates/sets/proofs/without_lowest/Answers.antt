-- `without_lowest` meets its contract.
use Rattle.sets.proofs.Ways.{lowest_none, lowest_gone}
use Rattle.sets.proofs.without_lowest.Goals as goal

pub returns-then-set-eq0 : goal.returns-then-set-eq0
returns-then-set-eq0 c = lowest_none c.args.set c.ranges.set c.if-set-eq0.true

pub returns : goal.returns
returns c = lowest_gone c.args.set c.ranges.set c.if-set-eq0.false
