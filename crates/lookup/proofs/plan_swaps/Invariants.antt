-- `plan_swaps`: what is promised of one k holds from the first to the last, and no more is planned than there is room for.
use Rattle.std.specs.Prelude.{◌≤◌}
use Rattle.limits.specs.Sizes.{set_length}
use Rattle.sets.specs.Sets.{members_of}
use Rattle.std.specs.Iterator.Adapters.{zip_first, zip_second}
use Rattle.lookup.specs.Plans.{pairs_of}
use Rattle.lookup.proofs.PlannedSwaps.{Planning}
use Rattle.lookup.proofs.plan_swaps.Given as goal

abbrev pub invariant-loop-q : goal.invariant-loop-q
invariant-loop-q l =
    Planning l.fn.n (members_of l.fn.first) (members_of l.fn.later) l.lookup (pairs_of l.plan) (zip_second l.q-iterator) (zip_first l.q-iterator) ×
    (l.plan.len ≤ set_length)
