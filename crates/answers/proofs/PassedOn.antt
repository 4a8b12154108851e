-- What a `?` hands on is the refusal that came: what the result says is that refusal's number.
use mathlib.Core.Path.{◌≡◌, sym, ap, ◌∙◌}
use Rattle.std.specs.Prelude.{Result, Ok, Err, IsErrAnd}
use Rattle.model.specs.Answers.{Outcome, refuses}
use Rattle.limits.specs.declared.Refusal.{Refusal}
use Rattle.limits.specs.Refusals.{number_of}
use Rattle.answers.specs.Structs.{outcome_as}

pub passed_on : {A B : Type 0} (f : A → B) (r : Result A Refusal) (why : Refusal) (o : Outcome B) → IsErrAnd r (λ x. x ≡ why) →
    o ≡ refuses (number_of why) → outcome_as f r ≡ o
passed_on f (Ok a) why o e h = absurd e
passed_on f (Err x) why o e h = ap (λ y. refuses (number_of y)) e ∙ sym h
