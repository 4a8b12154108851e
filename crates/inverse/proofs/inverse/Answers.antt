-- `inverse`: each way out is one law for the result and one for the room.
use Rattle.std.proofs.Common.{◌≤◌, length, arith, ◌∙◌}
use borrow.Author.Rules.{rules}
use Rattle.answers.proofs.PassedOn.{passed_on}
use Rattle.text.proofs.AppendLaws.{puts_count, left_front}
use Rattle.inverse.proofs.InverseAnswers.{inverting, refused_length, as_long, given_length_is, given_room}
use Rattle.inverse.proofs.inverse.Goals as goal

pub returns-in_err-check_table-clause-value : goal.returns-in_err-check_table-clause-value
returns-in_err-check_table-clause-value c =
    passed_on _ _ _ _ c.from_residual.ensures.1 (refused_length _ _ _ _ _ c.check_table.ensures.program_after _ c.in_err-check_table.was)

pub returns-in_err-check_table-clause-room_after : goal.returns-in_err-check_table-clause-room_after
returns-in_err-check_table-clause-room_after c = search inverting

pub returns-then-room-table-clause-value : goal.returns-then-room-table-clause-value
returns-then-room-table-clause-value c = search inverting

pub returns-then-room-table-clause-room_after : goal.returns-then-room-table-clause-room_after
returns-then-room-table-clause-room_after c = search inverting

pub returns-clause-value : goal.returns-clause-value
returns-clause-value c =
    let checked = c.check_table.ensures in
    let e = c.in_ok-check_table.was in
    let enough : length c.args.table.now ≤ length c.args.room.now = search rules in
    let bytes = c.type_inv.table in
    let long = as_long _ _ _ _ _ checked.program_after _ e enough checked.placed_checked bytes in
    given_length_is _ _ _ _ _ checked.program_after _ e enough checked.placed_checked bytes _
    (c.length.ensures ∙ puts_count _ c.put_table.ensures c.new-writer.ensures (omega arith))

pub returns-clause-room_after : goal.returns-clause-room_after
returns-clause-room_after c =
    let checked = c.check_table.ensures in
    let e = c.in_ok-check_table.was in
    let enough : length c.args.table.now ≤ length c.args.room.now = search rules in
    let bytes = c.type_inv.table in
    let long = as_long _ _ _ _ _ checked.program_after _ e enough checked.placed_checked bytes in
    given_room _ _ _ _ _ checked.program_after _ e enough checked.placed_checked bytes _
    (left_front _ c.put_table.ensures c.new-writer.ensures (omega arith) (search rules) (search rules))
