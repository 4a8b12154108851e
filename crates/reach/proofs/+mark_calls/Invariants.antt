-- the depth falls
use Rattle.reach.proofs.+mark_calls.Given as goal

abbrev pub decreases-mark_calls : goal.decreases-mark_calls
decreases-mark_calls l = l.depth
