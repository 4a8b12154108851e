use mathlib.Core.Path.{◌∙◌}
use mir.Syntax.{w16, w32}
use mir.Facts.{to_z-of_z}
use Rattle.records.proofs.FieldLaws.{signed_bytes}
use Rattle.records.proofs.signed.Goals as goal

pub returns : goal.returns
returns c =
    to_z-of_z {w = w32} (record { sfits = c.from.type_inv }) ∙ c.from.ensures
    ∙ to_z-of_z {w = w16} (record { sfits = c.from_le_bytes.type_inv }) ∙ c.from_le_bytes.ensures
    ∙ signed_bytes c.args.low c.args.high c.ranges.low c.ranges.high
