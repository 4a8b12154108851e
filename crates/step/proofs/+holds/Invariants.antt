-- the depth falls
use Rattle.step.proofs.+holds.Given as goal

abbrev pub decreases-holds : goal.decreases-holds
decreases-holds l = l.depth
