-- The buffer is long enough: what was read into it gives the parts of the whole input.
use Rattle.std.proofs.Common.{length, drop, ap, ◌∙◌, ◌++◌}
use Rattle.model.specs.Page.{Band}
use Rattle.page.proofs.PartLaws.{part_same}
use Rattle.page.proofs.put_part_read.Goals as goal

pub returns-clause-by_index : goal.returns-clause-by_index
returns-clause-by_index c = λ whole h.
    c.put_part.ensures.length_value ∙ ap (λ (b : Band). length b.text) (part_same whole _ _ _ _ c.min.ensures c.told-buffer h)

pub returns-clause-by_index_2 : goal.returns-clause-by_index_2
returns-clause-by_index_2 c = λ whole h.
    c.put_part.ensures.next_value ∙ ap (λ (b : Band). b.next) (part_same whole _ _ _ _ c.min.ensures c.told-buffer h)

pub returns-clause-by_index_3 : goal.returns-clause-by_index_3
returns-clause-by_index_3 c = λ whole h.
    c.put_part.ensures.text_after ∙ ap (λ (b : Band). b.text ++ drop c.put_part.result.length c.args.text.now) (part_same whole _ _ _ _ c.min.ensures c.told-buffer h)
