use Rattle.lines.proofs.WholeLines.{action_not, action_swap}
use Rattle.lines.proofs.put_action.Goals as goal

pub returns-in-Not : goal.returns-in-Not
returns-in-Not c = action_not _ _ _ _ _ c.in-Not.is c.put.ensures (cc)

pub returns-in-Swap : goal.returns-in-Swap
returns-in-Swap c = action_swap _ _ _ c.put_spaced-in-Swap.new.writer _ _ c.in-Swap.is c.put-in-Swap.ensures (cc) _ (cc)
