-- The loop keeps: a wire of the first list is in the set exactly where one so far was or one that is left is.
use mathlib.Core.Bool.{◌||◌}
use Rattle.std.proofs.Common.{◌≡◌, drop}
use Rattle.circuit.specs.GateChecks.{any_in}
use Rattle.circuit.proofs.share.Given as goal

abbrev pub invariant-loop-wire : goal.invariant-loop-wire
invariant-loop-wire l = any_in l.set l.first ≡ l.shared || any_in l.set (drop l.wire-index l.first)
