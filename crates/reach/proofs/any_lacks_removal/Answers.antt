-- `any_lacks_removal` meets its contract.
use borrow.Author.Rules.{rules}
use Rattle.reach.proofs.CallsOfAStatement.{bodies, any_yes}
use Rattle.reach.proofs.any_lacks_removal.Goals as goal

pub loop-f-init : goal.loop-f-init
loop-f-init c = search bodies

pub returns-then-body_lacks_removal : goal.returns-then-body_lacks_removal
returns-then-body_lacks_removal c =
    any_yes _ _ _ (search rules) _ c.body_lacks_removal.ensures c.if-body_lacks_removal.true

pub loop-f-preserved : goal.loop-f-preserved
loop-f-preserved c = search bodies

pub returns-else-body_lacks_removal : goal.returns-else-body_lacks_removal
returns-else-body_lacks_removal c = search bodies
