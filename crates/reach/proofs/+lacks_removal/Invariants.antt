-- the depth falls
use Rattle.reach.proofs.+lacks_removal.Given as goal

abbrev pub decreases-lacks_removal : goal.decreases-lacks_removal
decreases-lacks_removal l = l.depth
