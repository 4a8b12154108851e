-- the depth falls
use Rattle.widths.proofs.+note_widths.Given as goal

abbrev pub decreases-note_widths : goal.decreases-note_widths
decreases-note_widths l = l.depth
