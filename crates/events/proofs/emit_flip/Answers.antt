-- `emit_flip` meets its contract: each way out is one law.
use Rattle.events.proofs.GatesAndSlots.{placing, flip_placed}
use Rattle.events.proofs.emit_flip.Goals as goal

pub returns-then-is_some : goal.returns-then-is_some
returns-then-is_some c = search placing

pub returns-then-is_none : goal.returns-then-is_none
returns-then-is_none c =
    flip_placed c.args.site.now _ _ _ (search placing) _ c.flip_length.ensures _ c.with_gate.ensures _ (search placing) c.put_flip.ensures

pub returns-else-is_none : goal.returns-else-is_none
returns-else-is_none c = search placing
