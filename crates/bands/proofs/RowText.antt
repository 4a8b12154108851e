-- The rows of a band: their parts one behind the other.
use Rattle.std.proofs.Common.{◌≡◌, ℕ, suc, ◌+◌, ◌-◌, ◌/◌, ◌%◌, ◌^◌, ◌≤◌, ◌<◌, List, [], ◌∷◌, ◌++◌, length, get_or, take, drop, replicate, refl, sym, arith, add-one, drop-cons, rules, length-append, append_assoc}
use Rattle.std.proofs.lemmas.List.{drop_all}
use Rattle.model.specs.Lists.{range}
use Rattle.model.specs.Listing.{space, digit_zero, decimal}
use Rattle.model.specs.Page.{number_columns}
use Rattle.text.specs.declared.Writer.{Writer}
use Rattle.text.specs.AppendedBytes.{puts}
use Rattle.text.proofs.AppendLaws.{puts_append}
use Rattle.text.proofs.DecimalText.{decimal_low, decimal_high}
use Rattle.bands.specs.MarkedRows.{marked, marks_at, row_at, rows_at}

-- how many digits a number has
one_digit : (k : ℕ) → k < 10 → length (decimal k) ≡ 1
one_digit k h = rw (decimal_low k h)

two_digits : (k : ℕ) → 10 ≤ k → k < 100 → length (decimal k) ≡ 2
two_digits k l h =
    let e : length (decimal (k / 10)) ≡ 1 = one_digit (k / 10) (omega arith) in
    rw (decimal_high k l, length-append (decimal (k / 10)) ((digit_zero + k % 10) ∷ []), e)

three_digits : (k : ℕ) → 100 ≤ k → k < 1000 → length (decimal k) ≡ 3
three_digits k l h =
    let e : length (decimal (k / 10)) ≡ 2 = two_digits (k / 10) (omega arith) (omega arith) in
    rw (decimal_high k (omega arith), length-append (decimal (k / 10)) ((digit_zero + k % 10) ∷ []), e)

-- the ways out of `indent`
pub indent_one : (w : ℕ) → w < 10 → 3 ≡ number_columns - length (decimal w)
indent_one w h = rw (one_digit w h)

pub indent_two : (w : ℕ) → 10 ≤ w → w < 100 → 2 ≡ number_columns - length (decimal w)
indent_two w l h = rw (two_digits w l h)

pub indent_three : (w : ℕ) → 100 ≤ w → w < 2 ^ 8 → 1 ≡ number_columns - length (decimal w)
indent_three w l h = rw (three_digits w l (omega arith))

pub ruleset indenting = (rules, indent_one, indent_two, indent_three)

-- The loops: one part is put before those that are left.

pub marks_end : (columns : List (List ℕ)) (i wire : ℕ) (w : Writer) → length columns ≤ i → puts (marks_at (drop i columns) wire) w ≡ w
unfolding puts marks_at
marks_end columns i wire w h = rw (drop_all i columns h)

pub marks_next : (columns : List (List ℕ)) (i wire : ℕ) (w : Writer) → i < length columns →
    puts (marks_at (drop i columns) wire) w ≡ puts (marks_at (drop (i + 1) columns) wire) (puts (marked (get_or (get_or columns i []) wire 0)) w)
unfolding marks_at
marks_next columns i wire w h =
    rw (drop-cons columns i [] h, add-one) (puts_append (marked (get_or (get_or columns i []) wire 0)) (marks_at (drop (suc i) columns) wire) w)

pub spaces_end : (count i : ℕ) (w : Writer) → count ≤ i → puts (replicate (count - i) space) w ≡ w
unfolding puts
spaces_end count i w h = let z : count - i ≡ 0 = omega arith in rw z

pub spaces_next : (count i : ℕ) (w : Writer) → i < count → puts (replicate (count - i) space) w ≡ puts (replicate (count - (i + 1)) space) (puts (space ∷ []) w)
spaces_next count i w h =
    let z : count - i ≡ suc (count - (i + 1)) = omega arith in rw z (puts_append (space ∷ []) (replicate (count - (i + 1)) space) w)

pub rows_end : (columns : List (List ℕ)) (most wire : ℕ) (w : Writer) → most < wire → puts (rows_at columns (suc most - wire) wire) w ≡ w
unfolding puts rows_at range
rows_end columns most wire w h = let z : suc most - wire ≡ 0 = omega arith in rw z

pub rows_next : (columns : List (List ℕ)) (most wire : ℕ) (w : Writer) → wire ≤ most →
    puts (rows_at columns (suc most - wire) wire) w ≡ puts (rows_at columns (suc most - (wire + 1)) (wire + 1)) (puts (row_at columns wire) w)
unfolding rows_at range
rows_next columns most wire w h =
    let z : suc most - wire ≡ suc (suc most - suc wire) = omega arith in
    rw (z, add-one) (puts_append (row_at columns wire) (rows_at columns (suc most - suc wire) (suc wire)) w)

pub ruleset rowing = (rules, marks_end, marks_next, spaces_end, spaces_next, rows_end, rows_next)
