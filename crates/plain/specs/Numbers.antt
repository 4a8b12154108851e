-- What holds of every number of a list of removals, of a condition, a statement, a program.
use Rattle.std.specs.Prelude.{ℕ, List, [], ◌∷◌}
use Rattle.model.specs.Syntax.{Number, Condition, greater, at_least, equal, conjunction, disjunction, negation}
use Rattle.model.specs.Syntax.{Statement, skip, NOT, sequence, if, qcase, call, Program, body}

module _ (Q : Number → Type 0) where
  abbrev pub InList : List Number → Type 0
  InList [] = Unit {0}
  InList (a ∷ rs) = Q a × InList rs

  abbrev pub InCondition : Condition → Type 0
  InCondition (greater a b) = Q a × Q b
  InCondition (at_least a b) = Q a × Q b
  InCondition (equal a b) = Q a × Q b
  InCondition (conjunction c d) = InCondition c × InCondition d
  InCondition (disjunction c d) = InCondition c × InCondition d
  InCondition (negation c) = InCondition c

  abbrev pub InStatement : Statement → Type 0
  InStatement skip = Unit {0}
  InStatement (NOT rs a) = InList rs × Q a
  InStatement (sequence s t) = InStatement s × InStatement t
  InStatement (if c s t) = InCondition c × (InStatement s × InStatement t)
  InStatement (qcase rs a s t) = (InList rs × Q a) × (InStatement s × InStatement t)
  InStatement (call rs f) = InList rs

  -- in each of its bodies, main at 0 among them
  abbrev pub InProgram : Program → Type 0
  InProgram P = (f : ℕ) → InStatement (body P f)
