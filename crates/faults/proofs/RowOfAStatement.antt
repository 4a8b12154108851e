-- What the step of a record says of the positions that the statement there touches, and one law for each way out of the walk over a body.
use mathlib.Core.Bool.{cond}
use mathlib.Core.Path.{◌≡◌, sym, ap, ◌∙◌}
use mathlib.Core.List.{List}
use Prim.Native.Nat.{ℕ, ◌-◌, ◌≤◌, ◌<◌, min}
use native.Mathlib.Omega.{arith}
use borrow.Author.Rules.{rules}
use lib.Bits.{bit_or}
use Rattle.model.specs.Limits.{most_qubits}
use Rattle.model.specs.Syntax.{Statement, skip}
use Rattle.model.specs.Lists.{qubits, remaining, holds}
use Rattle.model.proofs.BooleanLaws.{or-false}
use Rattle.decoded.specs.declared.Program as decoded
use Rattle.decoded.specs.DecodedTable.{removals_in, test_at, statement_at}
use Rattle.decoded.specs.declared.Step.{Step}
use Rattle.decoded.specs.declared.Step.TheVariants as step
use Rattle.decoded.specs.Steps.{touched_by, step_at}
use Rattle.decoded.proofs.StatementAtARecord.{Idle, at_step, idle_skip, spent_skip}
use Rattle.step.proofs.ChosenBranch.{chosen_means}
use Rattle.faults.specs.TouchedPositions.{CallTouches, joined, closes, call_touches, touches}
use Rattle.faults.specs.Rows.{row_of, marked, closed_row, known_touches}
use Rattle.faults.proofs.FaultsByPosition.{touches_yes, touches_no, touches_inside}
use Rattle.faults.proofs.RowLaws.{none_row, one_row, joined_row, closed_row_lem}

-- no list is longer than the longest
short : (m : ℕ) → min m most_qubits ≤ most_qubits
short m = omega arith

-- a position past 63 is touched by no statement on a list that is no longer than the longest
module _ (o : CallTouches) (s u : Statement) (m : ℕ) where
  closes_rows : (q : ℕ) → closed_row q (row_of (joined (touches o s (min m most_qubits)) (touches o u (min m most_qubits))))
      ≡ row_of (closes q (joined (touches o s (min m most_qubits)) (touches o u (min m most_qubits))))
  closes_rows q = closed_row_lem q (joined (touches o s (min m most_qubits)) (touches o u (min m most_qubits)))
      (λ past. let far : min m most_qubits < q = omega (arith, short m) in
      or-false (touches o s (min m most_qubits) q) (touches o u (min m most_qubits) q) (touches_inside o s (min m most_qubits) q far)
      (touches_inside o u (min m most_qubits) q far))

-- the row of what the statement at record i touches of a list of m entries, of as many as a list can have
abbrev row_at : List ℕ → decoded.Program → ℕ → ℕ → ℕ → ℕ
row_at known g m depth i = row_of (touches (known_touches known) (statement_at g depth i) (min m most_qubits))

module _ (known : List ℕ) (g : decoded.Program) (m depth i : ℕ) where
  idle : statement_at g depth i ≡ skip → 0 ≡ row_at known g m depth i
  unfolding touches
  idle e = rw e none_row

  -- deeper than a tree can be
  pub walk_deep : depth ≡ 0 → 0 ≡ row_at known g m depth i
  walk_deep e = idle (spent_skip g depth i e)

  module _ (l : List ℕ) (st : Step) (deep : depth ≡ 0 → ⊥) (listed : l ≡ qubits (min m most_qubits)) (steps : st ≡ step_at g i) where
    pub walk_idle : (x : Step) → st ≡ x → Idle x → 0 ≡ row_at known g m depth i
    walk_idle x e o = idle (idle_skip g depth i deep steps x e o)

    module _ (row : ℕ) where
      pub walk_touches : (at q : ℕ) → st ≡ step.Touches at → q ≡ touched_by g at l → row ≡ marked 0 q → row ≡ row_at known g m depth i
      unfolding touches
      walk_touches at q e t r = rw (at_step g depth i deep steps e, ← listed, ← t) (r ∙ one_row q)

      pub walk_calls : (f at : ℕ) (rest : List ℕ) → st ≡ step.Calls f at → rest ≡ remaining (removals_in g at) l →
          row ≡ row_of (call_touches (known_touches known) f rest) → row ≡ row_at known g m depth i
      unfolding touches
      walk_calls f at rest e left r = rw (at_step g depth i deep steps e, ← listed, ← left) r

      -- the chosen branch of an if
      pub walk_chosen : (c a b x : ℕ) → st ≡ step.Chooses c a b → x ≡ cond (holds (test_at g (depth - 1) c) l) a b →
          row ≡ row_at known g m (depth - 1) x → row ≡ row_at known g m depth i
      walk_chosen c a b x e q r =
          let o = known_touches known in
          r ∙ sym (chosen_means (λ s. row_of (touches o s (min m most_qubits))) l
          (λ c s t h. ap row_of (touches_yes o c s t (min m most_qubits) (rw listed at h)))
          (λ c s t h. ap row_of (touches_no o c s t (min m most_qubits) (rw listed at h)))
          g depth i deep steps e q)

    -- both parts, in sequence or under a qcase
    module _ (a b first second : ℕ)
        (one : first ≡ row_at known g m (depth - 1) a) (two : second ≡ row_at known g m (depth - 1) b) where
      together : bit_or first second ≡ row_of (joined (touches (known_touches known) (statement_at g (depth - 1) a) (min m most_qubits))
          (touches (known_touches known) (statement_at g (depth - 1) b) (min m most_qubits)))
      together = rw (one, two) (joined_row (touches (known_touches known) (statement_at g (depth - 1) a) (min m most_qubits))
          (touches (known_touches known) (statement_at g (depth - 1) b) (min m most_qubits)))

      pub walk_sequence : st ≡ step.Sequence a b → bit_or first second ≡ row_at known g m depth i
      unfolding touches
      walk_sequence e = rw (at_step g depth i deep steps e) together

      pub walk_branches : (at q closed : ℕ) → st ≡ step.Branches at a b → q ≡ touched_by g at l → closed ≡ closed_row q (bit_or first second) →
          closed ≡ row_at known g m depth i
      unfolding touches
      walk_branches at q closed e t c =
          rw (at_step g depth i deep steps e, ← listed, ← t)
          (c ∙ rw together (closes_rows (known_touches known) (statement_at g (depth - 1) a) (statement_at g (depth - 1) b) m q))

pub ruleset walking = (rules, walk_deep, walk_idle, walk_touches, walk_sequence, walk_chosen, walk_branches, walk_calls)
