-- What the theorems of this crate vary: how the numbers of a statement are valued, and how a control is put. `ReadingBy`, `MeaningBy`, `EmissionBy` and
-- `AnswersBy` are the model's definitions once more over these, in the model's order; `whole_by` is the model's `whole`, and so on, and the sentence that each
-- is stands there. They need not be believed: with today's ways they are the model's (proofs/TodaysWays).
use Rattle.std.specs.Prelude.{ℕ, Bool, List}
use Rattle.model.specs.Syntax.{Number, Condition}
use Rattle.model.specs.Lists.{remaining, touched, holds}
use Rattle.model.specs.Gates.{Controls, with_control}

pub record Ways : Type 0 where
  -- what removals leave of a list
  pub remaining : List Number → List ℕ → List ℕ
  -- the qubit that NOT and qcase touch
  pub touched : List Number → Number → List ℕ → ℕ
  -- whether a condition holds
  pub holds : Condition → List ℕ → Bool
  -- one control more
  pub control : ℕ → Bool → Controls → Controls

-- today's numbers, with controls put in some way
abbrev pub today_with : (ℕ → Bool → Controls → Controls) → Ways
today_with put = record {
  remaining = λ rs l. remaining rs l;
  touched = λ rs a l. touched rs a l;
  holds = λ c l. holds c l;
  control = λ w b cs. put w b cs;
}

-- today's ways
abbrev pub today : Ways
today = today_with with_control
