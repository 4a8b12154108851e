-- Which procedure reaches which, as a row for each body, main at 0: in the row of f, which is a word, bit g stands where f reaches g.
use Rattle.std.specs.Prelude.{ℕ, zero, suc, ◌^◌, Bool, false, cond, List, map, get_or, set, replicate, ltb}
use Rattle.std.specs.Int.Bits.{bit_or}
use Rattle.limits.specs.Sizes.{body_count}
use Rattle.model.specs.Limits.{most_procedures}
use Rattle.model.specs.Lists.{range}
use Rattle.model.specs.Meaning.{bit, word_from}
use Rattle.model.specs.Syntax.{Program}
use Rattle.model.specs.Reach.{reaches}

-- the row of f; past the last body there is none
abbrev pub row_in : List ℕ → ℕ → ℕ
row_in m f = get_or m f 0

-- does a row have g? It has a place for each body that a table can have.
unfoldable pub has : ℕ → ℕ → Bool
has row g = cond (ltb most_procedures g) false (bit row g)

-- does f reach g, by the matrix?
unfoldable pub entry : List ℕ → ℕ → ℕ → Bool
entry m f g = has (row_in m f) g

-- "A call from f to g is recursive if g also reaches f", by the matrix
abbrev pub recursive_in : List ℕ → ℕ → ℕ → Bool
recursive_in m f g = entry m g f

-- a mark at row f, column g
unfoldable pub mark : ℕ → ℕ → List ℕ → List ℕ
mark f g m = cond (ltb most_procedures f) m (cond (ltb most_procedures g) m (set m f (bit_or (row_in m f) (2 ^ g))))

-- what reaches v reaches what v reaches, which is the row w
unfoldable pub joined : ℕ → ℕ → ℕ → ℕ
joined v w row = cond (has row v) (bit_or row w) row

-- all rows go through v
unfoldable pub through : ℕ → List ℕ → List ℕ
through v m = map (joined v (row_in m v)) m

-- all rows go through each procedure below n, one after the other
unfoldable pub closed : ℕ → List ℕ → List ℕ
closed zero m = m
closed (suc v) m = through v (closed v m)

-- the words of a relation, row by row
abbrev pub rows_of : (ℕ → ℕ → Bool) → List ℕ
rows_of R = map (λ f. word_from body_count 0 (R f)) (range body_count 0)

-- the rows of a program's reach: in row f bit g says `reaches P f g`
unfoldable pub reach_table : Program → List ℕ
reach_table P = rows_of (reaches P)

-- a matrix without a mark
abbrev pub no_marks : List ℕ
no_marks = replicate body_count 0
