-- `deposited` meets its contract.
use Rattle.std.proofs.Common.{rules}
use Rattle.sets.proofs.Carrying.{carry_from_all, carry_all, carry_rest, carry_place, carry_next}
use Rattle.sets.proofs.deposited.Goals as goal

pub loop-q-init : goal.loop-q-init
loop-q-init c = search (rules, carry_from_all)

pub overflow_sub-found : goal.overflow_sub-found
overflow_sub-found c = (carry_place _ _ _ _ _ c.loop-q.invariant _ _ c.in-Some.ensures.steps).0

pub overflow_shl-found : goal.overflow_shl-found
overflow_shl-found c = (carry_place _ _ _ _ _ c.loop-q.invariant _ _ c.in-Some.ensures.steps).1

pub loop-q-preserved : goal.loop-q-preserved
loop-q-preserved c = search (rules, carry_next)

pub returns-in-None : goal.returns-in-None
returns-in-None c = carry_all _ _ _ _ _ c.loop-q.invariant c.in-None.ensures.steps.0

pub returns-then-left-eq0 : goal.returns-then-left-eq0
returns-then-left-eq0 c = search (rules, carry_rest)
