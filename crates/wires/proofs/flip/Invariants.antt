-- the first i bytes are those behind the flip, the others those before it
use Rattle.wires.proofs.WireOperations.{Flipping}
use Rattle.wires.proofs.flip.Given as goal

abbrev pub invariant-loop-i : goal.invariant-loop-i
invariant-loop-i l = Flipping l.initial.bits-items l.byte l.bit l.i l.bits-items
