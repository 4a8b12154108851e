-- `fill_length` meets its contract: with rank k those up to k are filled.
use borrow.Author.Rules.{rules}
use Rattle.faults.proofs.RowTableFill.{filling, length_with, length_filled}
use Rattle.faults.proofs.fill_length.Goals as goal

pub loop-k-init : goal.loop-k-init
loop-k-init c = search filling

pub loop-k-preserved : goal.loop-k-preserved
loop-k-preserved c =
    (search rules, search rules, length_with _ _ _ _ _ _ _ c.loop-k.invariant.2 c.loop-k.invariant.0 (search rules) _ c.fill_rank.ensures)

pub returns : goal.returns
returns c = length_filled _ _ _ _ _ _ _ c.loop-k.invariant.2 (search rules)

pub returns-2 : goal.returns-2
returns-2 c = length_with _ _ _ _ _ _ _ c.loop-k.invariant.2 c.loop-k.invariant.0 (search rules) _ c.fill_rank.ensures
