-- `plan_swaps` meets its contract.
use native.Mathlib.Omega.{arith}
use Rattle.lookup.proofs.PlannedSwaps.{plan_starts, plan_next, plan_ends}
use Rattle.lookup.proofs.plan_swaps.Goals as goal

pub loop-q-init : goal.loop-q-init
loop-q-init c = (plan_starts _ _ _ _ _ _ _ c.ranges.n c.build-lookup.ensures c.new-plan.ensures.pairs (cc) (cc), c.new-plan.ensures.fits)

pub loop-q-preserved : goal.loop-q-preserved
loop-q-preserved c = (
  plan_next _ _ _ _ _ _ _ _ _ _ _ _ _ c.in-Some.ensures.steps.1 c.in-Some.ensures.steps.0
      c.plan_swap.ensures.plans_swap c.plan_swap.ensures.pairs_after c.plan_swap.ensures.count_after c.loop-q.invariant.0,
  c.plan_swap.ensures.fits,
)

pub returns-clause-plans_swaps : goal.returns-clause-plans_swaps
returns-clause-plans_swaps c = plan_ends _ _ _ _ _ _ _ c.loop-q.invariant.0 (grind (arith, c.in-None.ensures.steps))
