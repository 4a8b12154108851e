-- The loop keeps: all the wires hold the bit exactly where none so far was wrong and those that are left hold it.
use mathlib.Core.Bool.{not, ◌&&◌}
use Rattle.std.proofs.Common.{◌≡◌, drop}
use Rattle.wires.specs.StateOfABlock.{state_in}
use Rattle.circuit_run.specs.RunAnswers.{all_hold}
use Rattle.circuit_run.proofs.all_hold.Given as goal

abbrev pub invariant-loop-wire : goal.invariant-loop-wire
invariant-loop-wire l =
    all_hold l.asked l.list (state_in l.bits) ≡ not l.wrong && all_hold l.asked (drop l.wire-index l.list) (state_in l.bits)
