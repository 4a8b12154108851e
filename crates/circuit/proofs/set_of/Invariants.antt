-- The loop keeps: the set so far with what is left of the list is the whole set.
use Rattle.std.proofs.Common.{◌≡◌, drop}
use Rattle.circuit.specs.GateChecks.{mark_all, set_of}
use Rattle.circuit.proofs.set_of.Given as goal

abbrev pub invariant-loop-wire : goal.invariant-loop-wire
invariant-loop-wire l = set_of l.list ≡ mark_all (drop l.wire-index l.list) l.set
