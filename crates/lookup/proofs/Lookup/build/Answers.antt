-- `build` meets its contract.
use Rattle.lookup.proofs.CountedEntries.{building}
use Rattle.lookup.proofs.Lookup.build.Goals as goal

pub loop-q-init : goal.loop-q-init
loop-q-init c = search building

pub loop-q-preserved : goal.loop-q-preserved
loop-q-preserved c = search building
