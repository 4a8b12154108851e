-- The depth falls.
use Rattle.inverse.proofs.+put_turned.Given as goal

abbrev pub decreases-put_turned : goal.decreases-put_turned
decreases-put_turned l = l.depth
