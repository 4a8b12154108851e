-- the depth falls
use Rattle.faults.proofs.+touches.Given as goal

abbrev pub decreases-touches : goal.decreases-touches
decreases-touches l = l.depth
