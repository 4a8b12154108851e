-- what is left to remove from what is left makes the remaining list
use mathlib.Core.Path.{◌≡◌}
use Prim.Native.Nat.{◌-◌}
use Rattle.model.specs.Lists.{remove_all, remaining}
use Rattle.sets.specs.Sets.{members_of}
use Rattle.decoded.specs.DecodedTable.{removals_from, removals_in}
use Rattle.step.proofs.remaining.Given as goal

abbrev pub invariant-loop-k : goal.invariant-loop-k
invariant-loop-k l =
    remove_all (members_of l.list) (removals_from (l.k-end - l.k) l.program l.at l.k) (members_of l.rest)
    ≡ remaining (removals_in l.program l.at) (members_of l.list)
