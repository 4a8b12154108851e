-- `plan_swap` meets its contract: where the lookup names the wires, it names them again.
use mathlib.Core.List.{[]}
use Rattle.lookup.proofs.PlannedSwaps.{swap_counted, swap_planned, one_more, swap_spared, none_more}
use Rattle.lookup.proofs.Lookup.plan_swap.Goals as goal

pub returns-in-Some-clause-plans_swap : goal.returns-in-Some-clause-plans_swap
returns-in-Some-clause-plans_swap c = swap_planned _ _ _ _ _ _ _ c.track.ensures.value c.track.ensures.after _ c.in-Some.is c.push.ensures.pairs

pub returns-in-Some-clause-pairs_after : goal.returns-in-Some-clause-pairs_after
returns-in-Some-clause-pairs_after c = one_more _ _ _ _ _ _ _ c.track.ensures.value c.track.ensures.after _ c.in-Some.is c.push.ensures.pairs

pub returns-in-Some-clause-count_after : goal.returns-in-Some-clause-count_after
returns-in-Some-clause-count_after c = swap_counted _ _ _ _ [] [] _ c.track.ensures.value c.track.ensures.after

pub returns-in_default-clause-plans_swap : goal.returns-in_default-clause-plans_swap
returns-in_default-clause-plans_swap c = swap_spared _ _ _ _ _ [] _ c.track.ensures.value c.track.ensures.after c.in_default.is

pub returns-in_default-clause-pairs_after : goal.returns-in_default-clause-pairs_after
returns-in_default-clause-pairs_after c = none_more _ _ _ _ _ [] _ c.track.ensures.value c.track.ensures.after c.in_default.is

pub returns-in_default-clause-count_after : goal.returns-in_default-clause-count_after
returns-in_default-clause-count_after c = swap_counted _ _ _ _ [] [] _ c.track.ensures.value c.track.ensures.after
