-- The clauses of the emission by the test that decides them, and what width at most 1 says of a statement's parts.
use mathlib.Core.Path.{◌≡◌}
use mathlib.Core.Bool.{Bool, true, false}
use mathlib.Core.List.{List, [], ◌++◌}
use Prim.Native.Nat.{ℕ, ◌≤◌, ◌<◌}
use native.Mathlib.Omega.{arith}
use borrow.Author.Tests.{ltb-true, ltb-false}
use Rattle.model.specs.Syntax.{Number, Condition, Statement, skip, NOT, sequence, if, qcase, call}
use Rattle.model.specs.Lists.{remaining, holds}
use Rattle.model.specs.Reach.{width}
use Rattle.model.specs.Gates.{Controls}
use Rattle.model.specs.Emission.{
  Chains,
  start_chain,
  whole,
  invoked,
  is_wide,
  invocations,
  invokes,
  returns,
  left,
  right,
}
use Rattle.model.proofs.BooleanLaws.{by_bool, not_zero}
use Rattle.model.proofs.ReachAndRank.{Ranked}

module _ (chains : Chains) (l : List ℕ) (cs : Controls) (next : ℕ) where
  pub whole_yes : (c : Condition) (s t : Statement) → holds c l ≡ true → whole chains (if c s t) l cs next ≡ whole chains s l cs next
  unfolding whole
  whole_yes c s t e = rw (e, whole)

  pub whole_no : (c : Condition) (s t : Statement) → holds c l ≡ false → whole chains (if c s t) l cs next ≡ whole chains t l cs next
  unfolding whole
  whole_no c s t e = rw (e, whole)

module _ (r : ℕ → Bool) (l : List ℕ) (next : ℕ) where
  pub invocations_wide : (s t : Statement) → is_wide r s ≡ true → invocations r (sequence s t) l next ≡ invocations r s l next
  unfolding invocations
  invocations_wide s t e = rw (e, invocations)

  pub invocations_thin : (s t : Statement) → is_wide r s ≡ false → invocations r (sequence s t) l next ≡ invocations r t l next
  unfolding invocations
  invocations_thin s t e = rw (e, invocations)

  pub invocations_yes : (c : Condition) (s t : Statement) → holds c l ≡ true → invocations r (if c s t) l next ≡ invocations r s l next
  unfolding invocations
  invocations_yes c s t e = rw (e, invocations)

  pub invocations_no : (c : Condition) (s t : Statement) → holds c l ≡ false → invocations r (if c s t) l next ≡ invocations r t l next
  unfolding invocations
  invocations_no c s t e = rw (e, invocations)

  pub invocations_recursive : (rs : List Number) (f : ℕ) → r f ≡ true → invocations r (call rs f) l next ≡ invoked f (remaining rs l) next
  unfolding invocations
  invocations_recursive rs f e = rw (e, invocations)

  pub invocations_other : (rs : List Number) (f : ℕ) → r f ≡ false → invocations r (call rs f) l next ≡ []
  unfolding invocations
  invocations_other rs f e = rw (e, invocations)

module _ (chains : Chains) (r : ℕ → Bool) (l : List ℕ) (cs : Controls) (next : ℕ) where
  pub left_wide : (s t : Statement) → is_wide r s ≡ true → left chains r (sequence s t) l cs next ≡ left chains r s l cs next
  unfolding left
  left_wide s t e = rw (e, left)

  pub left_thin : (s t : Statement) → is_wide r s ≡ false → left chains r (sequence s t) l cs next ≡ whole chains s l cs next ++ left chains r t l cs next
  unfolding left
  left_thin s t e = rw (e, left)

  pub left_yes : (c : Condition) (s t : Statement) → holds c l ≡ true → left chains r (if c s t) l cs next ≡ left chains r s l cs next
  unfolding left
  left_yes c s t e = rw (e, left)

  pub left_no : (c : Condition) (s t : Statement) → holds c l ≡ false → left chains r (if c s t) l cs next ≡ left chains r t l cs next
  unfolding left
  left_no c s t e = rw (e, left)

  pub left_recursive : (rs : List Number) (f : ℕ) → r f ≡ true → left chains r (call rs f) l cs next ≡ invokes (remaining rs l) cs next
  unfolding left
  left_recursive rs f e = rw (e, left)

  pub left_other : (rs : List Number) (f : ℕ) → r f ≡ false → left chains r (call rs f) l cs next ≡ start_chain chains f (remaining rs l) cs next
  unfolding left
  left_other rs f e = rw (e, left)

  pub right_wide : (s t : Statement) (top : ℕ) → is_wide r s ≡ true →
      right chains r (sequence s t) l cs next top ≡ right chains r s l cs next top ++ whole chains t l cs top
  unfolding right
  right_wide s t top e = rw (e, right)

  pub right_thin : (s t : Statement) (top : ℕ) → is_wide r s ≡ false → right chains r (sequence s t) l cs next top ≡ right chains r t l cs next top
  unfolding right
  right_thin s t top e = rw (e, right)

  pub right_yes : (c : Condition) (s t : Statement) (top : ℕ) → holds c l ≡ true →
      right chains r (if c s t) l cs next top ≡ right chains r s l cs next top
  unfolding right
  right_yes c s t top e = rw (e, right)

  pub right_no : (c : Condition) (s t : Statement) (top : ℕ) → holds c l ≡ false →
      right chains r (if c s t) l cs next top ≡ right chains r t l cs next top
  unfolding right
  right_no c s t top e = rw (e, right)

  pub right_recursive : (rs : List Number) (f : ℕ) (top : ℕ) → r f ≡ true → right chains r (call rs f) l cs next top ≡ returns (remaining rs l) cs next
  unfolding right
  right_recursive rs f top e = rw (e, right)

  pub right_other : (rs : List Number) (f : ℕ) (top : ℕ) → r f ≡ false → right chains r (call rs f) l cs next top ≡ []
  unfolding right
  right_other rs f top e = rw (e, right)

-- width at most 1: the parts of a statement
pub width_sequence : (r : ℕ → Bool) (s t : Statement) → width r (sequence s t) ≤ 1 → (width r s ≤ 1) × (width r t ≤ 1) × (0 < width r s → width r t ≡ 0)
unfolding width
width_sequence r s t h = (omega arith, omega arith, λ k. omega arith)

pub width_if : (r : ℕ → Bool) (c : Condition) (s t : Statement) → width r (if c s t) ≤ 1 → (width r s ≤ 1) × (width r t ≤ 1)
unfolding width
width_if r c s t h = (omega arith, omega arith)

pub width_qcase : (r : ℕ → Bool) (rs : List Number) (a : Number) (s t : Statement) → width r (qcase rs a s t) ≤ 1 → (width r s ≤ 1) × (width r t ≤ 1)
unfolding width
width_qcase r rs a s t h = (omega arith, omega arith)

pub thin_width : (r : ℕ → Bool) (s : Statement) → is_wide r s ≡ false → width r s ≡ 0
thin_width r s e = let h = ltb-false 0 (width r s) e in omega arith

pub wide_width : (r : ℕ → Bool) (s : Statement) → is_wide r s ≡ true → 0 < width r s
wide_width r s e = ltb-true 0 (width r s) e

-- every call of the statement goes to a procedure of rank below k
abbrev pub Low : (ℕ → ℕ) → ℕ → Statement → Type 0
Low rank k skip = Unit {0}
Low rank k (NOT rs a) = Unit {0}
Low rank k (sequence s t) = Low rank k s × Low rank k t
Low rank k (if c s t) = Low rank k s × Low rank k t
Low rank k (qcase rs a s t) = Low rank k s × Low rank k t
Low rank k (call rs f) = rank f < k

-- a part of width 0 calls only procedures of lower rank
pub thin_low : (rank : ℕ → ℕ) (r : ℕ → Bool) (k : ℕ) (s : Statement) → Ranked rank r k s → width r s ≡ 0 → Low rank k s
unfolding width
thin_low rank r k skip q h = tt
thin_low rank r k (NOT rs a) q h = tt
thin_low rank r k (sequence s t) q h = (thin_low rank r k s q.0 (omega arith), thin_low rank r k t q.1 (omega arith))
thin_low rank r k (if c s t) q h = (thin_low rank r k s q.0 (omega arith), thin_low rank r k t q.1 (omega arith))
thin_low rank r k (qcase rs a s t) q h = (thin_low rank r k s q.0 (omega arith), thin_low rank r k t q.1 (omega arith))
thin_low rank r k (call rs f) q h = by_bool (r f) (λ e. absurd (not_zero 0 (rw (e, width) at h))) (λ e. q.1 e)
