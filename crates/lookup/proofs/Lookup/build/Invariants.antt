-- `build`: the qubits up to q are on their own wires.
use Rattle.std.proofs.Common.{◌≡◌}
use Rattle.lookup.specs.Entries.{empty, built}
use Rattle.lookup.proofs.Lookup.build.Given as goal

abbrev pub invariant-loop-q : goal.invariant-loop-q
invariant-loop-q l = l.lookup ≡ built empty l.q
