-- The band that is drawn, or 14.
use Rattle.std.proofs.Common.{rules}
use Rattle.bands.proofs.BandAnswers.{drawing, some_answer, some_text}
use Rattle.bands.proofs.draw.Goals as goal

pub returns-in_default-clause-value : goal.returns-in_default-clause-value
returns-in_default-clause-value c = search (drawing, c.in_default.ensures.value)

pub returns-in_default-clause-text_after : goal.returns-in_default-clause-text_after
returns-in_default-clause-text_after c = search (drawing, c.in_default.ensures.value)

pub returns-clause-value : goal.returns-clause-value
returns-clause-value c = some_answer _ _ _ (search rules) _ _ _ c.in-Some.ensures.value (search rules) _ c.next_place.ensures

pub returns-clause-text_after : goal.returns-clause-text_after
returns-clause-text_after c = some_text _ _ _ (search rules) _ _ _ c.in-Some.ensures.value (search rules) _ _ c.put_band.ensures
