-- `fill_rank` meets its contract: with procedure f those up to f are filled.
use mathlib.Core.Path.{◌∙◌}
use borrow.Author.Rules.{rules}
use Rattle.faults.proofs.RowTableFill.{filling, rank_with, rank_without, rank_filled}
use Rattle.faults.proofs.fill_rank.Goals as goal
use Rattle.faults.proofs.fill_rank.Goals.{then-rank_at-k, else-rank_at-k}

pub loop-f-init : goal.loop-f-init
loop-f-init c = search filling

pub loop-f-preserved : goal.loop-f-preserved
loop-f-preserved c = (
  search rules,
  search rules,
  elim c.if-rank_at-k.branch [
    | then-rank_at-k w ↦ w.known-is
        ∙ rank_with _ _ _ _ _ _ _ _ c.loop-f.invariant.2 c.loop-f.invariant.0 (search rules) _ c.rank_at.ensures _ w.if-rank_at-k.true w.fill_row.ensures
    | else-rank_at-k w ↦ w.known-is
        ∙ rank_without _ _ _ _ _ _ _ _ c.loop-f.invariant.2 c.loop-f.invariant.0 (search rules) _ c.rank_at.ensures w.if-rank_at-k.false
  ],
)

pub returns : goal.returns
returns c = rank_filled _ _ _ _ _ _ _ _ c.loop-f.invariant.2 (search rules)

pub returns-after-rank_at-k : goal.returns-after-rank_at-k
returns-after-rank_at-k c = elim c.if-rank_at-k.branch [
  | then-rank_at-k w ↦ w.known-is
      ∙ rank_with _ _ _ _ _ _ _ _ c.loop-f.invariant.2 c.loop-f.invariant.0 (search rules) _ c.rank_at.ensures _ w.if-rank_at-k.true w.fill_row.ensures
  | else-rank_at-k w ↦ w.known-is
      ∙ rank_without _ _ _ _ _ _ _ _ c.loop-f.invariant.2 c.loop-f.invariant.0 (search rules) _ c.rank_at.ensures w.if-rank_at-k.false
]
