-- `emit_swaps` meets its contract: each way is one law.
use Rattle.events.proofs.EntryGates.{following, back_starts, back_next, back_ends, forth_next}
use Rattle.events.proofs.emit_swaps.Goals as goal

pub loop-first-init : goal.loop-first-init
loop-first-init c = back_starts _ _ _ _ (cc (c.into_iter-first-iterator.ensures.into_iter_gives, c.rev-first-items.ensures.source, c.iter.ensures.rest))

pub loop-first-preserved : goal.loop-first-preserved
loop-first-preserved c = back_next _ _ _ _ _ _ _ _ c.emit_swap.ensures c.in-Some.ensures.steps c.loop-first.invariant

pub returns-then-reversed : goal.returns-then-reversed
returns-then-reversed c = back_ends _ _ _ _ _ _ c.if-reversed.true c.in-None.ensures.steps.0 c.loop-first.invariant

pub loop-first-2-preserved : goal.loop-first-2-preserved
loop-first-2-preserved c = forth_next _ _ _ _ _ _ c.emit_swap-in-loop-first-2.ensures c.loop-first-2-test.true c.loop-first-2.invariant

pub returns : goal.returns
returns c = search following
