-- `any_too_wide` meets its contract.
use borrow.Author.Rules.{rules}
use Rattle.widths.proofs.CountedWidths.{judging, judged_yes, judged_more, judged_last}
use Rattle.widths.proofs.any_too_wide.Goals as goal

pub loop-f-init : goal.loop-f-init
loop-f-init c = search judging

pub returns-then-note_widths-gt1 : goal.returns-then-note_widths-gt1
returns-then-note_widths-gt1 c = judged_yes _ _ _ _ _ _ _ _ (search rules) (search rules) c.root-top.ensures c.loop-f.invariant c.note_widths.ensures c.if-note_widths-gt1.true

pub loop-f-preserved : goal.loop-f-preserved
loop-f-preserved c = judged_more _ _ _ _ _ c.procedures-f-end.result _ _ c.loop-f-test.true (search rules) c.root-top.ensures c.loop-f.invariant c.note_widths.ensures c.if-note_widths-gt1.false

pub returns-else-note_widths-gt1 : goal.returns-else-note_widths-gt1
returns-else-note_widths-gt1 c = judged_last _ _ _ _ _ _ _ _ (search rules) (search rules) c.root-top.ensures (search rules) c.loop-f.invariant c.note_widths.ensures c.if-note_widths-gt1.false
