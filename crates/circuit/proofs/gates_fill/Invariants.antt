-- The loop keeps: all gates fill the input exactly if those that are to come fill what is left of it.
use Rattle.std.proofs.Common.{◌≡◌, ◌-◌}
use Rattle.model.specs.Circuit.{read_gates}
use Rattle.circuit.specs.GatesInBytes.{input_of, fills}
use Rattle.circuit.proofs.gates_fill.Given as goal

abbrev pub invariant-loop : goal.invariant-loop
invariant-loop l =
    fills (read_gates l.most l.count (input_of l.input)) ≡ fills (read_gates l.most (l.count - l.counter) (input_of l.left))
