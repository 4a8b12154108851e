-- `carried` meets its contract: in a list of neighbours positions are carried by one shift, in any other member by member.
use Rattle.sets.proofs.Carrying.{carrying}
use Rattle.sets.proofs.carried.Goals as goal

pub returns-then-list-eq0 : goal.returns-then-list-eq0
returns-then-list-eq0 c = search carrying

pub returns-then-run-full : goal.returns-then-run-full
returns-then-run-full c = search carrying
