-- The loop keeps: the whole list fits exactly where no wire so far was bad and those that are left fit behind the wire before them.
use mathlib.Core.Bool.{not, ◌&&◌}
use Rattle.std.proofs.Common.{◌≡◌, get_or, drop}
use Rattle.circuit.specs.GateChecks.{list_fits}
use Rattle.circuit.proofs.list_fits.Given as goal

abbrev pub invariant-loop-i : goal.invariant-loop-i
invariant-loop-i l =
    list_fits 0 l.most l.u l.v l.list ≡ not l.bad && list_fits (get_or l.list l.i 0) l.most l.u l.v (drop l.i l.rest)
