-- `keep` meets its contract.
use Rattle.lookup.proofs.CountedEntries.{touching}
use Rattle.lookup.proofs.Lookup.keep.Goals as goal

pub returns : goal.returns
returns c = search touching
