-- the depth falls
use Rattle.faults.proofs.+counts.Given as goal

abbrev pub decreases-counts : goal.decreases-counts
decreases-counts l = l.depth
