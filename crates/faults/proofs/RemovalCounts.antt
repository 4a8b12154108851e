-- What the parts of a record say of the removals that calls carry, and one law for each way out of the functions that count them.
use mathlib.Core.Path.{◌≡◌, refl, ap, ◌∙◌}
use mathlib.Core.Bool.{Bool, true, false}
use Prim.Native.Nat.{ℕ, suc, ◌+◌, ◌-◌, ◌*◌, ◌%◌, ◌^◌, ◌≤◌}
use native.Mathlib.Numerals.{add-one}
use native.Mathlib.Omega.{arith}
use borrow.Author.Rules.{rules}
use lib.Bits.{bit_or}
use lib.ListN.{length}
use Rattle.model.specs.Limits.{most_depth, most_qubits}
use Rattle.model.specs.Syntax.{Statement}
use Rattle.decoded.specs.declared.Program as decoded
use Rattle.decoded.specs.DecodedTable.{procedure_count, root_of, removals_in, statement_at}
use Rattle.decoded.specs.declared.Parts.{Parts}
use Rattle.decoded.specs.declared.Parts.TheVariants as parts
use Rattle.decoded.specs.Steps.{parts_at}
use Rattle.reach.proofs.MatrixOperations.{left_never}
use Rattle.decoded.proofs.PartsOfARecord.{ArePartsOf, as_skip, as_not, as_sequence, as_if, as_qcase, as_call, parts_here}
use Rattle.faults.specs.TouchedPositions.{Touched, touches_none, touches_one, joined}
use Rattle.faults.specs.Rows.{row_of, row_is, marked}
use Rattle.faults.specs.CallLengths.{removal_counts, counts_below, sums_below}
use Rattle.faults.proofs.RowLaws.{none_row, one_row, joined_row}

-- how many removals the calls of a record's parts carry, where `part` gives the statement at a record
abbrev counts_by : (ℕ → Statement) → decoded.Program → Parts → Touched
counts_by part g parts.Neither = touches_none
counts_by part g (parts.Two a b t) = joined (removal_counts (part a)) (removal_counts (part b))
counts_by part g (parts.Call f at) = touches_one (length (removals_in g at))

counts_by_parts : (part : ℕ → Statement) (g : decoded.Program) {x : Parts} {s : Statement} → ArePartsOf part g x s → removal_counts s ≡ counts_by part g x
unfolding removal_counts
counts_by_parts part g as_skip = refl
counts_by_parts part g (as_not rs a) = refl
counts_by_parts part g (as_sequence a b) = refl
counts_by_parts part g (as_if c a b) = refl
counts_by_parts part g (as_qcase rs q a b) = refl
counts_by_parts part g (as_call f at) = refl

-- the set of how many removals the calls in the statement at record i carry
abbrev counts_at : decoded.Program → ℕ → ℕ → ℕ
counts_at g depth i = row_of (removal_counts (statement_at g depth i))

-- deeper than a tree can be
pub count_deep : (g : decoded.Program) (depth i : ℕ) → depth ≡ 0 → 0 ≡ counts_at g depth i
unfolding removal_counts statement_at
count_deep g depth i e = rw e none_row

module _ (g : decoded.Program) (depth i : ℕ) (deep : depth ≡ 0 → ⊥) (x : Parts) (parts_are : x ≡ parts_at g i) where
  abbrev part : ℕ → Statement
  part = statement_at g (depth - 1)

  by_parts : (y : Parts) → x ≡ y → counts_at g depth i ≡ row_of (counts_by part g y)
  by_parts y e = ap row_of (counts_by_parts part g (parts_here g depth i deep x parts_are)) ∙ ap (λ (z : Parts). row_of (counts_by part g z)) e

  pub count_neither : x ≡ parts.Neither → 0 ≡ counts_at g depth i
  count_neither e = rw (by_parts parts.Neither e) none_row

  pub count_two : (a b : ℕ) (t : Bool) → x ≡ parts.Two a b t → (first second : ℕ) →
      first ≡ counts_at g (depth - 1) a → second ≡ counts_at g (depth - 1) b → bit_or first second ≡ counts_at g depth i
  count_two a b t e first second one two =
      rw (by_parts (parts.Two a b t) e, one, two) (joined_row (removal_counts (part a)) (removal_counts (part b)))

  pub count_call : (f at : ℕ) → x ≡ parts.Call f at → (k row : ℕ) → k ≡ length (removals_in g at) → row ≡ marked 0 k →
      row ≡ counts_at g depth i
  count_call f at e k row c r = rw (by_parts (parts.Call f at) e, ← c) (r ∙ one_row k)

-- body by body
module _ (g : decoded.Program) (f all root more : ℕ) (so : all ≡ counts_below g f)
    (at : root ≡ root_of g f) (counted : more ≡ counts_at g most_depth root) where
  pub bodies_more : bit_or all more ≡ counts_below g (f + 1)
  unfolding counts_below
  bodies_more = rw (add-one f, so, counted, at)

  pub bodies_end : (p : ℕ) → p ≡ procedure_count g → f ≤ p → p ≤ f → bit_or all more ≡ counts_below g (suc (procedure_count g))
  bodies_end p c a b = let e : f ≡ p = omega arith in bodies_more ∙ rw (add-one f, e, c)

pub bodies_start : (g : decoded.Program) → 0 ≡ counts_below g 0
unfolding counts_below
bodies_start g = refl

-- sum by sum
module _ (counts j sums : ℕ) (so : sums ≡ sums_below counts j) where
  module _ (b : Bool) (e : b ≡ row_is sums j) (next : ℕ) where
    pub sums_more : b ≡ true → next ≡ bit_or sums ((counts * 2 ^ j) % 2 ^ 64) → next ≡ sums_below counts (j + 1)
    unfolding sums_below
    sums_more y n = rw (add-one j, ← so, ← e, y) n

    pub sums_not : b ≡ false → next ≡ sums → next ≡ sums_below counts (j + 1)
    unfolding sums_below
    sums_not y n = rw (add-one j, ← so, ← e, y) n

  pub sums_end : j ≤ most_qubits → most_qubits ≤ j → sums ≡ sums_below counts most_qubits
  sums_end a b = let e : j ≡ most_qubits = omega arith in so ∙ rw e

pub sums_start : (counts : ℕ) → 1 ≡ sums_below counts 0
unfolding sums_below
sums_start counts = refl

pub ruleset counting = (
  rules,
  count_deep,
  count_neither,
  count_two,
  count_call,
  bodies_more,
  bodies_end,
  bodies_start,
  left_never,
  sums_more,
  sums_not,
  sums_end,
  sums_start,
)
