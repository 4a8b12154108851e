-- Rows as the code puts them, from the marks that it keeps. That they are the rows of the gates is `band_kept` in proofs/KeptMarks.antt.
use Rattle.std.specs.Prelude.{ℕ, List, [], ◌∷◌, ◌++◌, get_or, flat_map}
use Rattle.model.specs.Lists.{range}
use Rattle.model.specs.Listing.{newline}
use Rattle.model.specs.Page.{dash, right_aligned}

-- "a mark and three dashes"
abbrev pub marked : ℕ → List ℕ
marked m = m ∷ dash ∷ dash ∷ dash ∷ []

-- the marks of all columns on the row of wire w
unfoldable pub marks_at : List (List ℕ) → ℕ → List ℕ
marks_at columns w = flat_map (λ column. marked (get_or column w 0)) columns

abbrev pub row_at : List (List ℕ) → ℕ → List ℕ
row_at columns w = right_aligned w ++ (marks_at columns w ++ (newline ∷ []))

-- k rows, the first of them wire w's
unfoldable pub rows_at : List (List ℕ) → ℕ → ℕ → List ℕ
rows_at columns k w = flat_map (row_at columns) (range k w)
