use mathlib.Core.Path.{◌∙◌}
use Rattle.std.proofs.Common.{arith}
use Rattle.text.proofs.AppendLaws.{puts_count, name_kept, puts_front}
use Rattle.listing.proofs.ListingText.{line_short, line_front}
use Rattle.listing.proofs.put_refusal.Goals as goal

pub shape_of-text : goal.shape_of-text
shape_of-text c = name_kept _ c.put_refusal.ensures c.new-writer.ensures

pub returns-clause-value : goal.returns-clause-value
returns-clause-value c =
    let short = line_short c.args.number c.ranges.number.fits in
    c.length.ensures ∙ puts_count _ c.put_refusal.ensures c.new-writer.ensures (omega arith)

pub returns-clause-text_after : goal.returns-clause-text_after
returns-clause-text_after c =
    let short = line_short c.args.number c.ranges.number.fits in
    let count = c.length.ensures ∙ puts_count _ c.put_refusal.ensures c.new-writer.ensures (omega arith) in
    line_front c.args.number _ _ _ count (puts_front _ c.put_refusal.ensures c.new-writer.ensures (omega arith) (omega arith))
