-- The loop keeps: the whole run is the run of the gates that are to come, on the wires as they are.
use Rattle.std.proofs.Common.{◌≡◌, ◌-◌}
use Rattle.model.specs.Circuit.{read_gates}
use Rattle.wires.proofs.BlocksAndStates.{IsBlock}
use Rattle.circuit.specs.GatesInBytes.{input_of}
use Rattle.circuit_run.specs.RunAnswers.{ran_of}
use Rattle.circuit_run.proofs.run_gates.Given as goal

abbrev pub invariant-loop : goal.invariant-loop
invariant-loop l = (ran_of l.initial.current (read_gates l.most l.count (input_of l.input))
    ≡ ran_of l.current (read_gates l.most (l.count - l.counter) (input_of l.left))) × IsBlock l.current.bits
