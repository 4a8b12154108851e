-- A band: how long its rows are, and what a lent text takes of it.
use mathlib.Core.Path.{◌≡◌, refl, sym}
use mathlib.Core.List.{List, [], ◌∷◌, ◌++◌}
use Prim.Native.Nat.{ℕ, zero, suc, ◌+◌, ◌*◌, ◌^◌, ◌≤◌, ◌<◌}
use native.Mathlib.Nat.{suc-mul, zero-mul}
use native.Mathlib.Omega.{arith}
use borrow.Author.Tests.{le-leb, lt-leb}
use lib.ListN.{length, drop, get_or, length-append}
use Rattle.model.specs.Limits.{most_wires}
use Rattle.model.specs.Lists.{range}
use Rattle.model.specs.Listing.{newline}
use Rattle.model.specs.Page.{right_aligned, lent_after}
use Rattle.model.proofs.PageShape.{number_length_lem}
use Rattle.bands.specs.MarkedRows.{marked, marks_at, row_at, rows_at}

-- each column has four bytes
marks_length_lem : (columns : List (List ℕ)) (w : ℕ) → length (marks_at columns w) ≡ 4 * length columns
unfolding marks_at
marks_length_lem [] w = refl
marks_length_lem (column ∷ columns) w =
    let e : length (marks_at columns w) ≡ 4 * length columns = marks_length_lem columns w in
    rw (length-append (marked (get_or column w 0)) (marks_at columns w)) (omega arith)

-- a row: the wire number's four columns, four for each gate, and a newline
row_length : (columns : List (List ℕ)) (w : ℕ) → w ≤ most_wires → length (row_at columns w) ≡ 4 + 4 * length columns + 1
row_length columns w h =
    rw (
      length-append (right_aligned w) (marks_at columns w ++ (newline ∷ [])),
      number_length_lem w h,
      length-append (marks_at columns w) (newline ∷ []),
      marks_length_lem columns w,
    ) (omega arith)

rows_length : (columns : List (List ℕ)) (k w : ℕ) → w + k ≤ suc most_wires → length (rows_at columns k w) ≡ k * (4 + 4 * length columns + 1)
unfolding rows_at range
rows_length columns zero w h = sym (zero-mul (4 + 4 * length columns + 1))
rows_length columns (suc k) w h =
    rw (
      length-append (row_at columns w) (rows_at columns k (suc w)),
      row_length columns w (omega arith),
      rows_length columns k (suc w) (omega arith),
      suc-mul k (4 + 4 * length columns + 1),
    ) (omega arith)

-- the length that `draw` computes is that of the rows
pub size_is : (columns : List (List ℕ)) (count most : ℕ) → most < 2 ^ 8 → length columns ≡ count →
    most * (4 + 4 * count + 1) ≡ length (rows_at columns most 1)
size_is columns count most few e = rw (← e) (sym (rows_length columns most 1 (omega arith)))

-- a text that is too short is left as it is, any other takes all the rows
pub short_kept : (rows text : List ℕ) → length text < length rows → text ≡ lent_after rows text
short_kept rows text h = rw (lt-leb (length rows) (length text) h, lent_after)

pub long_taken : (rows text end : List ℕ) → length rows ≤ length text → end ≡ rows ++ drop (length rows) text → end ≡ lent_after rows text
long_taken rows text end h p = rw (le-leb (length rows) (length text) h, lent_after) p
