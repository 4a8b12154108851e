use Rattle.std.proofs.Common.{arith}
use Rattle.listing.proofs.ListingText.{whole_count, whole_text, refused_count, refused_text}
use Rattle.listing.proofs.list_room.Goals as goal

pub returns-in-Ok-clause-value : goal.returns-in-Ok-clause-value
returns-in-Ok-clause-value c = whole_count _ _ _ c.in-Ok.ensures.text_after (omega arith) _ c.in-Ok.ensures.value

pub returns-in-Ok-clause-text_after : goal.returns-in-Ok-clause-text_after
returns-in-Ok-clause-text_after c = whole_text _ _ _ c.in-Ok.ensures.text_after (omega arith) _ c.in-Ok.ensures.value

pub returns-in-Err-clause-value : goal.returns-in-Err-clause-value
returns-in-Err-clause-value c =
    let line = c.put_refusal.ensures in
    refused_count _ _ _ c.in-Err.ensures.text_after (omega arith) _ _ c.in-Err.ensures.value c.from.ensures _ _ line.value line.text_after

pub returns-in-Err-clause-text_after : goal.returns-in-Err-clause-text_after
returns-in-Err-clause-text_after c =
    let line = c.put_refusal.ensures in
    refused_text _ _ _ c.in-Err.ensures.text_after (omega arith) _ _ c.in-Err.ensures.value c.from.ensures _ _ line.value line.text_after
