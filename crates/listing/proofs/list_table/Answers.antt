use Rattle.std.proofs.Common.{arith}
use Rattle.listing.proofs.ListingText.{refusal_count, refusal_text, table_room, table_count, table_text}
use Rattle.listing.proofs.list_table.Goals as goal

pub list_room-requires : goal.list_room-requires
list_room-requires c =
    table_room _ _ c.args.workspace.now _ _ (omega arith) (omega arith) _ c.in-Ok.ensures.value c.in-Ok.ensures.room_after (omega arith)

pub returns-in-Ok-clause-value : goal.returns-in-Ok-clause-value
returns-in-Ok-clause-value c =
    table_count _ _ c.args.workspace.now _ _ (omega arith) (omega arith) _ c.in-Ok.ensures.value c.in-Ok.ensures.room_after _ c.list_room.ensures.value

pub returns-in-Ok-clause-text_after : goal.returns-in-Ok-clause-text_after
returns-in-Ok-clause-text_after c =
    table_text _ _ c.args.workspace.now _ _ (omega arith) (omega arith) _ c.in-Ok.ensures.value c.in-Ok.ensures.room_after c.args.text.now _ c.list_room.result
    c.list_room.ensures.text_after

pub returns-in-Err-clause-value : goal.returns-in-Err-clause-value
returns-in-Err-clause-value c =
    let line = c.put_refusal.ensures in
    refusal_count _ _ c.args.workspace.now _ c.args.room.now (omega arith) (omega arith) _ _ c.in-Err.ensures.value c.from.ensures _ _ _ line.value line.text_after

pub returns-in-Err-clause-text_after : goal.returns-in-Err-clause-text_after
returns-in-Err-clause-text_after c =
    let line = c.put_refusal.ensures in
    refusal_text _ _ c.args.workspace.now _ c.args.room.now (omega arith) (omega arith) _ _ c.in-Err.ensures.value c.from.ensures _ _ _ line.value line.text_after
