-- The statement at a record as a walker meets it: by the step that was taken there, at a depth that is not used up.
use Prim.Native.Nat.{ℕ, zero, suc, ◌-◌}
use mathlib.Core.Path.{◌≡◌, refl, subst}
use mathlib.Core.List.{List}
use Rattle.model.specs.Syntax.{Number, skip, NOT, qcase}
use Rattle.model.specs.Lists.{touched}
use Rattle.records.specs.Fields.{number_of}
use Rattle.decoded.specs.DecodedTable.{first_number, removals_in, test_at, statement_at}
use Rattle.decoded.specs.declared.Program.{Program}
use Rattle.decoded.specs.declared.Step.{Step}
use Rattle.decoded.specs.declared.Step.TheVariants as step
use Rattle.decoded.specs.Steps.{touched_by, step_at}
use native.Mathlib.Numerals.{sub-one}
use Rattle.decoded.proofs.StatementByStep.{IsStepOf, statement_step}

-- what the step says of the statement; its parts are one less deep
says : (g : Program) (depth i : ℕ) (st : Step) → (depth ≡ 0 → ⊥) → st ≡ step_at g i →
    IsStepOf (test_at g (depth - 1)) (statement_at g (depth - 1)) g st (statement_at g depth i)
says g zero i st deep e = absurd (deep refl)
says g (suc d) i st deep e = rw (sub-one, e) (statement_step g d i)

-- the same, of the step that was found to be x
pub at_step : (g : Program) (depth i : ℕ) {st : Step} → (depth ≡ 0 → ⊥) → st ≡ step_at g i → {x : Step} → st ≡ x →
    IsStepOf (test_at g (depth - 1)) (statement_at g (depth - 1)) g x (statement_at g depth i)
at_step g depth i {st = st} deep steps e =
    subst (λ (y : Step). IsStepOf (test_at g (depth - 1)) (statement_at g (depth - 1)) g y (statement_at g depth i)) e
    (says g depth i st deep steps)

-- NOT and qcase by the qubit that they touch
module _ (g : Program) (depth i : ℕ) (l : List ℕ) {st : Step} (deep : depth ≡ 0 → ⊥) (steps : st ≡ step_at g i) {q at : ℕ} (t : q ≡ touched_by g at l) where
  pub at_touches : st ≡ step.Touches at → (rs : List Number) × (a : Number) × (statement_at g depth i ≡ NOT rs a) × (q ≡ touched rs a l)
  at_touches e = (removals_in g at, number_of (first_number g at), at_step g depth i deep steps e, t)

  pub at_branches : {x y : ℕ} → st ≡ step.Branches at x y →
      (rs : List Number) × (a : Number) ×
      (statement_at g depth i ≡ qcase rs a (statement_at g (depth - 1) x) (statement_at g (depth - 1) y)) × (q ≡ touched rs a l)
  at_branches e = (removals_in g at, number_of (first_number g at), at_step g depth i deep steps e, t)

-- at depth 0 there is nothing
pub spent_skip : (g : Program) (depth i : ℕ) → depth ≡ 0 → statement_at g depth i ≡ skip
unfolding statement_at
spent_skip g depth i e = rw e

-- the steps of a statement that does nothing: skip, and a condition where a statement is asked for
abbrev pub Idle : Step → Type 0
Idle step.Nothing = Unit {0}
Idle (step.Touches at) = ⊥
Idle (step.Sequence a b) = ⊥
Idle (step.Chooses c a b) = ⊥
Idle (step.Branches at a b) = ⊥
Idle (step.Calls f at) = ⊥
Idle (step.Greater at) = Unit {0}
Idle (step.AtLeast at) = Unit {0}
Idle (step.Equal at) = Unit {0}
Idle (step.Both a b) = Unit {0}
Idle (step.Either a b) = Unit {0}
Idle (step.Negates a) = Unit {0}

pub idle_skip : (g : Program) (depth i : ℕ) {st : Step} → (depth ≡ 0 → ⊥) → st ≡ step_at g i → (x : Step) → st ≡ x →
    Idle x → statement_at g depth i ≡ skip
idle_skip g depth i deep steps step.Nothing e o = at_step g depth i deep steps e
idle_skip g depth i deep steps (step.Touches at) e o = absurd o
idle_skip g depth i deep steps (step.Sequence a b) e o = absurd o
idle_skip g depth i deep steps (step.Chooses c a b) e o = absurd o
idle_skip g depth i deep steps (step.Branches at a b) e o = absurd o
idle_skip g depth i deep steps (step.Calls f at) e o = absurd o
idle_skip g depth i deep steps (step.Greater at) e o = at_step g depth i deep steps e
idle_skip g depth i deep steps (step.AtLeast at) e o = at_step g depth i deep steps e
idle_skip g depth i deep steps (step.Equal at) e o = at_step g depth i deep steps e
idle_skip g depth i deep steps (step.Both a b) e o = at_step g depth i deep steps e
idle_skip g depth i deep steps (step.Either a b) e o = at_step g depth i deep steps e
idle_skip g depth i deep steps (step.Negates a) e o = at_step g depth i deep steps e
