-- `holds` reads the bit of its wire.
use Rattle.wires.proofs.WireOperations.{holds_none, holds_bit}
use Rattle.wires.proofs.holds.Goals as goal

pub returns-in_default : goal.returns-in_default
returns-in_default c = holds_none _ _ c.in_default.ensures

pub returns : goal.returns
returns c = holds_bit _ _ _ c.in-Some.ensures
