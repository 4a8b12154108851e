-- `fill` meets its contract: with length m those up to m are filled.
use mathlib.Core.Path.{◌∙◌}
use borrow.Author.Rules.{rules}
use Rattle.faults.proofs.RowTableFill.{filling, lengths_with, lengths_without, lengths_filled, lengths_end}
use Rattle.faults.proofs.fill.Goals as goal
use Rattle.faults.proofs.fill.Goals.{then-contains, else-contains}

pub loop-m-init : goal.loop-m-init
loop-m-init c = search filling

pub loop-m-preserved : goal.loop-m-preserved
loop-m-preserved c = (
  search rules,
  search rules,
  elim c.if-contains.branch [
    | then-contains w ↦ w.known-is
        ∙ lengths_with _ _ _ _ _ _ _ _ c.loop-m.invariant.2 c.loop-m.invariant.0 (search rules) _ c.contains.ensures _ w.if-contains.true w.fill_length.ensures
    | else-contains w ↦ w.known-is
        ∙ lengths_without _ _ _ _ _ _ _ _ c.loop-m.invariant.2 c.loop-m.invariant.0 (search rules) _ c.contains.ensures w.if-contains.false
  ],
)

pub returns : goal.returns
returns c =
    lengths_end _ _ _ _ _ _ _ _ _ c.procedures.ensures c.all_ranks-ranks.ensures c.all_counts.ensures c.sums_of-sums.ensures
    (lengths_filled _ _ _ _ _ _ _ _ c.loop-m.invariant.2 (search rules))

pub returns-after-contains : goal.returns-after-contains
returns-after-contains c =
    lengths_end _ _ _ _ _ _ _ _ _ c.procedures.ensures c.all_ranks-ranks.ensures c.all_counts.ensures c.sums_of-sums.ensures
    (elim c.if-contains.branch [
      | then-contains w ↦ w.known-is
          ∙ lengths_with _ _ _ _ _ _ _ _ c.loop-m.invariant.2 c.loop-m.invariant.0 (search rules) _ c.contains.ensures _ w.if-contains.true w.fill_length.ensures
      | else-contains w ↦ w.known-is
          ∙ lengths_without _ _ _ _ _ _ _ _ c.loop-m.invariant.2 c.loop-m.invariant.0 (search rules) _ c.contains.ensures w.if-contains.false
    ])
