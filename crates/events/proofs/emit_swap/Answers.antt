-- `emit_swap` meets its contract: each way out is one law.
use Rattle.events.proofs.GatesAndSlots.{placing, swap_placed}
use Rattle.events.proofs.emit_swap.Goals as goal

pub returns-then-is_some : goal.returns-then-is_some
returns-then-is_some c = search placing

pub returns-then-is_none : goal.returns-then-is_none
returns-then-is_none c =
    swap_placed _ _ _ _ _ (search placing) _ c.swap_length.ensures _ c.with_gate.ensures _ (search placing) c.put_swap.ensures

pub returns-else-is_none : goal.returns-else-is_none
returns-else-is_none c = search placing
