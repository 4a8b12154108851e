-- `remaining` meets its contract: each removal is the next of the record's.
use mathlib.Core.Path.{◌∙◌}
use borrow.Author.Rules.{rules}
use Rattle.sets.specs.Sets.{members_of}
use Rattle.step.proofs.Removals.{removed_nothing, removed_more, removed_ends, removed_begins}
use Rattle.step.proofs.remaining.Goals as goal

pub loop-k-init : goal.loop-k-init
loop-k-init c = removed_begins _ _ c.args.list _ _ c.removal_count-k-end.ensures (search rules)

pub loop-k-preserved : goal.loop-k-preserved
loop-k-preserved c =
    removed_more _ _ _ _ _ c.loop-k.rest _ _ _ c.removal.ensures (search rules) c.value.ensures c.remove-rest.ensures (search rules) _ (search rules)
    ∙ c.loop-k.invariant

pub returns-after-loop-k : goal.returns-after-loop-k
returns-after-loop-k c = removed_ends _ _ _ _ _ (members_of c.loop-k.rest) (search rules) ∙ c.loop-k.invariant

pub returns-then-rest-eq0 : goal.returns-then-rest-eq0
returns-then-rest-eq0 c = removed_nothing _ _ _ _ _ _ c.loop-k.rest c.if-rest-eq0.true c.loop-k.invariant
