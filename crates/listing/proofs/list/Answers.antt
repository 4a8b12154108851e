use Rattle.listing.proofs.ListingText.{some_input, no_input, input_count, input_text}
use Rattle.listing.proofs.list.Goals as goal

pub returns-in-Some-clause-value : goal.returns-in-Some-clause-value
returns-in-Some-clause-value c =
    input_count _ _ _ _ _ (some_input _ _ _ c.in-Some.ensures.cases.0) c.list_table.ensures.value c.list_table.ensures.text_after

pub returns-in-Some-clause-text_after : goal.returns-in-Some-clause-text_after
returns-in-Some-clause-text_after c =
    input_text _ _ c.args.text.now _ _ (some_input _ _ _ c.in-Some.ensures.cases.0) c.list_table.ensures.value c.list_table.ensures.text_after

pub returns-in-None-clause-value : goal.returns-in-None-clause-value
returns-in-None-clause-value c = let a = c.in-None.ensures in
    input_count _ _ _ _ _ (no_input _ c.in-None.ensures.cases) c.list_table-in-None.ensures.value c.list_table-in-None.ensures.text_after

pub returns-in-None-clause-text_after : goal.returns-in-None-clause-text_after
returns-in-None-clause-text_after c =
    input_text _ _ c.args.text.now _ _ (no_input _ c.in-None.ensures.cases) c.list_table-in-None.ensures.value c.list_table-in-None.ensures.text_after
