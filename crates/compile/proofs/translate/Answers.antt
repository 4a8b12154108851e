-- `translate`: each way out is one law for the result and one for the room.
use borrow.Author.Rules.{rules}
use Rattle.answers.proofs.PassedOn.{passed_on}
use Rattle.compile.proofs.CompileAnswer.{answers, refused_length, emitted_length, emitted_room}
use Rattle.compile.proofs.translate.Goals as goal

pub returns-in_err-qubits-clause-value : goal.returns-in_err-qubits-clause-value
returns-in_err-qubits-clause-value c =
    passed_on _ _ _ _ c.from_residual.ensures.1 (refused_length _ _ _ _ _ _ c.check_table.ensures.program_after _ c.in_err-qubits.was)

pub returns-in_err-qubits-clause-room_after : goal.returns-in_err-qubits-clause-room_after
returns-in_err-qubits-clause-room_after c = search answers

pub returns-then-space-lt-LEAST_WORKSPACE-clause-value : goal.returns-then-space-lt-LEAST_WORKSPACE-clause-value
returns-then-space-lt-LEAST_WORKSPACE-clause-value c = search answers

pub returns-then-space-lt-LEAST_WORKSPACE-clause-room_after : goal.returns-then-space-lt-LEAST_WORKSPACE-clause-room_after
returns-then-space-lt-LEAST_WORKSPACE-clause-room_after c = search answers

pub returns-clause-value : goal.returns-clause-value
returns-clause-value c =
    let checked = c.check_table.ensures in
    emitted_length _ _ _ _ _ _ checked.program_after _ c.in_ok-qubits.was checked.qubits checked.known_checked (search rules) _ _ c.compile_emission.ensures

pub returns-clause-room_after : goal.returns-clause-room_after
returns-clause-room_after c =
    let checked = c.check_table.ensures in
    emitted_room _ _ _ _ _ _ checked.program_after _ c.in_ok-qubits.was checked.qubits checked.known_checked (search rules) _ _ c.compile_emission.ensures
