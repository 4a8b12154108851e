-- `fits` looks for a bit at n or above.
use Rattle.wires.proofs.WordRange.{fitting}
use Rattle.wires.proofs.fits.Goals as goal

pub returns-then-n-gt63 : goal.returns-then-n-gt63
returns-then-n-gt63 c = search fitting

pub returns-else-n-gt63 : goal.returns-else-n-gt63
returns-else-n-gt63 c = search fitting
