-- The lengths that calls can lead to: a removal takes one entry away or empties the list, so a call leaves as many entries less as it carries
-- removals, or none. From main's n entries calls lead to n less a sum of such numbers.
use Rattle.std.specs.Prelude.{ℕ, zero, suc, ◌*◌, ◌%◌, ◌^◌, cond, length}
use Rattle.std.specs.Int.Bits.{bit_or}
use Rattle.model.specs.Limits.{most_qubits}
use Rattle.model.specs.Syntax.{Statement, skip, NOT, sequence, if, qcase, call}
use Rattle.decoded.specs.declared.Program as decoded
use Rattle.decoded.specs.DecodedTable.{procedure_count, body_at}
use Rattle.faults.specs.TouchedPositions.{Touched, touches_none, touches_one, joined}
use Rattle.faults.specs.Rows.{row_of, row_is}

-- how many removals the calls in a statement carry: a set of numbers, as the positions touched are
unfoldable pub removal_counts : Statement → Touched
removal_counts skip = touches_none
removal_counts (NOT rs a) = touches_none
removal_counts (sequence s t) = joined (removal_counts s) (removal_counts t)
removal_counts (if c s t) = joined (removal_counts s) (removal_counts t)
removal_counts (qcase rs a s t) = joined (removal_counts s) (removal_counts t)
removal_counts (call rs f) = touches_one (length rs)

-- those in the bodies below n
unfoldable pub counts_below : decoded.Program → ℕ → ℕ
counts_below g zero = 0
counts_below g (suc f) = bit_or (counts_below g f) (row_of (removal_counts (body_at g f)))

-- 0, and what one number of the set more makes of the sums below n
unfoldable pub sums_below : ℕ → ℕ → ℕ
sums_below counts zero = 1
sums_below counts (suc j) = cond (row_is (sums_below counts j) j) (bit_or (sums_below counts j) ((counts * 2 ^ j) % 2 ^ 64)) (sums_below counts j)

-- how many entries of main's list calls can remove
abbrev pub sums_in : decoded.Program → ℕ
sums_in g = sums_below (counts_below g (suc (procedure_count g))) most_qubits
