-- Statements by their steps: what a record's step says of the statement that stands there.
use Prim.Native.Nat.{ℕ, suc}
use mathlib.Core.Path.{◌≡◌, refl}
use Rattle.model.specs.Syntax.{Condition, Statement, skip, NOT, sequence, if, qcase, call}
use Rattle.records.specs.declared.Record.{Record}
use Rattle.records.specs.declared.Record.TheVariants as kind
use Rattle.records.specs.Fields.{number_of}
use Rattle.decoded.specs.declared.Program.{Program}
use Rattle.decoded.specs.DecodedTable.{number_a, first_number, removals_in, record_in, test_at, statement_of, statement_at}
use Rattle.decoded.specs.declared.Step.{Step}
use Rattle.decoded.specs.declared.Step.TheVariants as step
use Rattle.decoded.specs.Steps.{step_of, step_at}

-- a statement s, where `test` and `part` give the conditions and statements at record numbers. A condition's step says skip.
abbrev pub IsStepOf : (ℕ → Condition) → (ℕ → Statement) → Program → Step → Statement → Type 0
IsStepOf test part g step.Nothing s = s ≡ skip
IsStepOf test part g (step.Touches at) s = s ≡ NOT (removals_in g at) (number_of (first_number g at))
IsStepOf test part g (step.Sequence i j) s = s ≡ sequence (part i) (part j)
IsStepOf test part g (step.Chooses c i j) s = s ≡ if (test c) (part i) (part j)
IsStepOf test part g (step.Branches at i j) s = s ≡ qcase (removals_in g at) (number_of (first_number g at)) (part i) (part j)
IsStepOf test part g (step.Calls f at) s = s ≡ call (removals_in g at) f
IsStepOf test part g (step.Greater at) s = s ≡ skip
IsStepOf test part g (step.AtLeast at) s = s ≡ skip
IsStepOf test part g (step.Equal at) s = s ≡ skip
IsStepOf test part g (step.Both i j) s = s ≡ skip
IsStepOf test part g (step.Either i j) s = s ≡ skip
IsStepOf test part g (step.Negates i) s = s ≡ skip

module _ (g : Program) (d i : ℕ) where
  abbrev IsStep : Step → Statement → Type 0
  IsStep = IsStepOf (test_at g d) (statement_at g d) g

  statement_of_step : (r : Record) → record_in g i ≡ r → IsStep (step_of g i r) (statement_of (test_at g d) (statement_at g d) g i r)
  unfolding step_of statement_of number_a
  statement_of_step kind.Skip h = refl
  statement_of_step (kind.Not at a) h = rw h
  statement_of_step kind.Sequence h = refl
  statement_of_step kind.If h = refl
  statement_of_step (kind.Qcase at a) h = rw h
  statement_of_step (kind.Call at f) h = refl
  statement_of_step (kind.Greater a b) h = refl
  statement_of_step (kind.AtLeast a b) h = refl
  statement_of_step (kind.Equal a b) h = refl
  statement_of_step kind.And h = refl
  statement_of_step kind.Or h = refl
  statement_of_step kind.Negation h = refl

  -- the statement at record i, by the record's step
  pub statement_step : IsStepOf (test_at g d) (statement_at g d) g (step_at g i) (statement_at g (suc d) i)
  unfolding statement_at
  statement_step = statement_of_step (record_in g i) refl
