-- A refusal's line, or a band.
use Rattle.text.proofs.AppendLaws.{name_kept}
use Rattle.page.proofs.PartLaws.{line_part, drawn_part}
use Rattle.page.proofs.put_part.Goals as goal

pub shape_of-text-then-band-ne0 : goal.shape_of-text-then-band-ne0
shape_of-text-then-band-ne0 c = name_kept _ c.put_refusal.ensures c.new-writer.ensures

pub returns-then-band-ne0 : goal.returns-then-band-ne0
returns-then-band-ne0 c =
    let p = line_part _ _ _ _ _ c.page_band-band.ensures.value c.page_band-band.ensures.text_after c.told-text
    c.if-band-ne0.true c.put_refusal.ensures c.new-writer.ensures _ c.length.ensures in
    record { length_value = p.length_value; next_value = p.next_value; text_after = p.text_after; prefix_len = p.prefix_len }

pub returns : goal.returns
returns c =
    let p = drawn_part _ _ _ _ _ c.page_band-band.ensures.value c.page_band-band.ensures.text_after c.told-text c.if-band-ne0.false in
    record { length_value = p.length_value; next_value = p.next_value; text_after = p.text_after; prefix_len = p.prefix_len }
