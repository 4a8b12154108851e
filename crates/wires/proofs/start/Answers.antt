-- `start` writes the word, its lowest byte first, and leaves the others 0.
use mathlib.Core.Path.{◌∙◌}
use Rattle.wires.proofs.WireOperations.{start_is}
use Rattle.wires.proofs.start.Goals as goal

pub returns : goal.returns
returns c = start_is _ _ _ _ c.ranges.word.fits (c.copy_from_slice.ensures.after ∙ c.to_le_bytes.ensures)
