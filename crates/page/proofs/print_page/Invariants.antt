-- Each place is above the one before it.
use Rattle.std.proofs.Common.{◌-◌, ◌^◌}
use Rattle.page.proofs.print_page.Given as goal

abbrev pub decreases-loop-buffer : goal.decreases-loop-buffer
decreases-loop-buffer g l = 2 ^ 64 - l.at
