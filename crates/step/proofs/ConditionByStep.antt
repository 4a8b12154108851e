-- Conditions by their steps: whether a condition holds goes by the step of its record.
use Prim.Native.Nat.{ℕ, zero, suc, ◌-◌}
use mathlib.Core.Path.{◌≡◌, refl, ◌∙◌}
use mathlib.Core.Bool.{Bool, true, false, not, ◌&&◌, ◌||◌}
use mathlib.Core.List.{List}
use borrow.Author.Rules.{rules}
use lib.Dec.{eqb}
use lib.IntN.{ℤ}
use lib.Signed.{lt_z, le_z}
use mir.Syntax.{w32}
use mir.Val.{SFits, to_z, of_z}
use Rattle.model.specs.Lists.{holds}
use Rattle.records.specs.declared.Record.{Record}
use Rattle.records.specs.declared.Record.TheVariants as kind
use Rattle.decoded.specs.declared.Program.{Program}
use Rattle.decoded.specs.DecodedTable.{number_a, number_b, record_in, test_of, test_at, first_number, second_number}
use Rattle.decoded.specs.declared.Step.{Step}
use Rattle.decoded.specs.declared.Step.TheVariants as step
use Rattle.decoded.specs.Steps.{step_of, step_at}
use native.Mathlib.Numerals.{sub-one}
use Rattle.step.proofs.NumberValues.{less_signed, at_most_signed, equal_signed}
use Rattle.step.specs.Values.{value_of, nothing_removed, first_value, second_value}
use Rattle.step.proofs.Removals.{first_is, second_is}
use Rattle.records.specs.declared.Number.{Number}
use Rattle.sets.specs.Sets.{members_of}

-- whether a condition holds, by its step, for a list and where `part` says it of the parts. A statement's step holds, as `no_test` does.
abbrev pub holds_by : Program → List ℕ → (ℕ → Bool) → Step → Bool
holds_by g l part step.Nothing = true
holds_by g l part (step.Touches at) = true
holds_by g l part (step.Sequence i j) = true
holds_by g l part (step.Chooses i j k) = true
holds_by g l part (step.Branches at i j) = true
holds_by g l part (step.Calls f at) = true
holds_by g l part (step.Greater at) = lt_z (second_value g at l) (first_value g at l)
holds_by g l part (step.AtLeast at) = le_z (second_value g at l) (first_value g at l)
holds_by g l part (step.Equal at) = le_z (first_value g at l) (second_value g at l) && le_z (second_value g at l) (first_value g at l)
holds_by g l part (step.Both i j) = part i && part j
holds_by g l part (step.Either i j) = part i || part j
holds_by g l part (step.Negates i) = not (part i)

module _ (g : Program) (d i : ℕ) (l : List ℕ) where
  part : ℕ → Bool
  part j = holds (test_at g d j) l

  test_of_step : (r : Record) → record_in g i ≡ r → holds (test_of (test_at g d) g i r) l ≡ holds_by g l part (step_of g i r)
  unfolding test_of step_of holds part number_a number_b
  test_of_step kind.Skip h = refl
  test_of_step (kind.Not at a) h = refl
  test_of_step kind.Sequence h = refl
  test_of_step kind.If h = refl
  test_of_step (kind.Qcase at a) h = refl
  test_of_step (kind.Call at f) h = refl
  test_of_step (kind.Greater a b) h = rw h
  test_of_step (kind.AtLeast a b) h = rw h
  test_of_step (kind.Equal a b) h = rw h
  test_of_step kind.And h = refl
  test_of_step kind.Or h = refl
  test_of_step kind.Negation h = refl

  -- the condition at record i, by the record's step
  pub test_step : holds (test_at g (suc d) i) l ≡ holds_by g l (λ j. holds (test_at g d j) l) (step_at g i)
  unfolding test_at part
  test_step = test_of_step (record_in g i) refl

-- the ways out of `holds`: too deep counts as no test, which holds
pub held_none : (g : Program) (depth i : ℕ) (l : List ℕ) → depth ≡ 0 → true ≡ holds (test_at g depth i) l
unfolding test_at holds
held_none g depth i l e = rw e

module _ (g : Program) (depth i : ℕ) (l : List ℕ) (st : Step)
    (deep : depth ≡ 0 → ⊥) (steps : st ≡ step_at g i) where
  by_step : holds (test_at g depth i) l ≡ holds_by g l (λ j. holds (test_at g (depth - 1) j) l) st
  by_step = rw steps (deeper depth deep)
    where
      deeper : (depth : ℕ) → (depth ≡ 0 → ⊥)
          → holds (test_at g depth i) l ≡ holds_by g l (λ j. holds (test_at g (depth - 1) j) l) (step_at g i)
      deeper zero h = absurd (h refl)
      deeper (suc d) h = rw (sub-one) (test_step g d i l)

  -- not: the other way round than its part
  pub held_not : (first : ℕ) (b : Bool) → st ≡ step.Negates first → b ≡ holds (test_at g (depth - 1) first) l
      → not b ≡ holds (test_at g depth i) l
  held_not first b e h = rw (by_step, e, ← h)

  module _ (first second : ℕ) (a : Bool) (left : a ≡ holds (test_at g (depth - 1) first) l) where
    -- and: where the first part fails, it fails
    pub held_and_no : st ≡ step.Both first second → a ≡ false → a ≡ holds (test_at g depth i) l
    held_and_no e t = rw (by_step, e, ← left, t)

    -- else the second decides
    pub held_and : st ≡ step.Both first second → a ≡ true → (b : Bool) → b ≡ holds (test_at g (depth - 1) second) l
        → b ≡ holds (test_at g depth i) l
    held_and e t b h = rw (by_step, e, ← left, t) h

    -- or: where the first part holds, it holds
    pub held_or_yes : st ≡ step.Either first second → a ≡ true → a ≡ holds (test_at g depth i) l
    held_or_yes e t = rw (by_step, e, ← left, t)

    -- else the second decides
    pub held_or : st ≡ step.Either first second → a ≡ false → (b : Bool) → b ≡ holds (test_at g (depth - 1) second) l
        → b ≡ holds (test_at g depth i) l
    held_or e t b h = rw (by_step, e, ← left, t) h

  -- a statement where a condition is asked for is no test, which holds: skip, NOT, sequence, if, qcase, call
  pub held_nothing : st ≡ step.Nothing → true ≡ holds (test_at g depth i) l
  held_nothing e = rw (by_step, e)

  pub held_touches : (at : ℕ) → st ≡ step.Touches at → true ≡ holds (test_at g depth i) l
  held_touches at e = rw (by_step, e)

  pub held_sequence : (a b : ℕ) → st ≡ step.Sequence a b → true ≡ holds (test_at g depth i) l
  held_sequence a b e = rw (by_step, e)

  pub held_chooses : (a b c : ℕ) → st ≡ step.Chooses a b c → true ≡ holds (test_at g depth i) l
  held_chooses a b c e = rw (by_step, e)

  pub held_branches : (at a b : ℕ) → st ≡ step.Branches at a b → true ≡ holds (test_at g depth i) l
  held_branches at a b e = rw (by_step, e)

  pub held_calls : (f at : ℕ) → st ≡ step.Calls f at → true ≡ holds (test_at g depth i) l
  held_calls f at e = rw (by_step, e)

-- a comparison is decided by its two values
module _ (g : Program) (depth i list : ℕ) (st : Step) (deep : depth ≡ 0 → ⊥) (steps : st ≡ step_at g i)
    (at : ℕ) (a b : Number) (first : a ≡ first_number g at) (second : b ≡ second_number g at)
    (x y : ℤ) (f : SFits w32 x) (h : SFits w32 y) (at_first : x ≡ value_of a (nothing_removed list)) (at_second : y ≡ value_of b (nothing_removed list)) where
  left : x ≡ first_value g at (members_of list)
  left = first_is g at list a x at_first first

  right : y ≡ second_value g at (members_of list)
  right = second_is g at list b y at_second second

  by : holds (test_at g depth i) (members_of list) ≡ holds_by g (members_of list) (λ j. holds (test_at g (depth - 1) j) (members_of list)) st
  by = by_step g depth i (members_of list) st deep steps

  pub held_greater : st ≡ step.Greater at → lt_z (to_z w32 (of_z w32 y)) (to_z w32 (of_z w32 x)) ≡ holds (test_at g depth i) (members_of list)
  held_greater e = less_signed y x h f ∙ rw (by, e, left, right)

  pub held_at_least : st ≡ step.AtLeast at → le_z (to_z w32 (of_z w32 y)) (to_z w32 (of_z w32 x)) ≡ holds (test_at g depth i) (members_of list)
  held_at_least e = at_most_signed y x h f ∙ rw (by, e, left, right)

  pub held_equal : st ≡ step.Equal at → eqb (of_z w32 x) (of_z w32 y) ≡ holds (test_at g depth i) (members_of list)
  held_equal e = equal_signed x y f h ∙ rw (by, e, left, right)

pub ruleset testing = (
  rules,
  held_none,
  held_greater,
  held_at_least,
  held_equal,
  held_and,
  held_and_no,
  held_or,
  held_or_yes,
  held_not,
  held_nothing,
  held_touches,
  held_sequence,
  held_chooses,
  held_branches,
  held_calls,
)
