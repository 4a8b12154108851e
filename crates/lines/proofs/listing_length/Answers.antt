use mathlib.Core.Path.{◌∙◌}
use Rattle.text.proofs.AppendLaws.{puts_place}
use Rattle.lines.proofs.listing_length.Goals as goal

pub returns : goal.returns
returns c = c.length.ensures ∙ puts_place _ c.put_listing.ensures c.new-writer.ensures
