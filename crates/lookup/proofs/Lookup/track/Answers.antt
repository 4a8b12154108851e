-- `track` meets its contract.
use Rattle.lookup.proofs.CountedEntries.{tracking}
use Rattle.lookup.proofs.Lookup.track.Goals as goal

pub returns-then-from-to-clause-value : goal.returns-then-from-to-clause-value
returns-then-from-to-clause-value c = search tracking

pub returns-then-from-to-clause-after : goal.returns-then-from-to-clause-after
returns-then-from-to-clause-after c = search tracking

pub returns-clause-value : goal.returns-clause-value
returns-clause-value c = search tracking

pub returns-clause-after : goal.returns-clause-after
returns-clause-after c = search tracking
