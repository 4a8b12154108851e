-- Sets of numbers below 64 as the code has them: words, whose bit t says whether t is in the set. A row is the set of the positions touched.
use Rattle.std.specs.Prelude.{ℕ, ◌+◌, ◌*◌, ◌^◌, cond, List, get_or, set, ltb}
use Rattle.std.specs.Int.Bits.{bit_or}
use Rattle.limits.specs.Sizes.{length_count, row_count}
use Rattle.model.specs.Meaning.{bit, word_from}
use Rattle.faults.specs.TouchedPositions.{Touched, CallTouches}

-- the word of a set
abbrev pub row_of : Touched → ℕ
row_of x = word_from 64 0 x

-- what a word says
abbrev pub row_is : ℕ → Touched
row_is row = λ t. bit row t

-- one number more; a word has none past 63
unfoldable pub marked : ℕ → ℕ → ℕ
marked row q = cond (ltb q 64) (bit_or row (2 ^ q)) row

-- position q closed: touched by the qcase itself, and a fault where its branches touch it
unfoldable pub closed_row : ℕ → ℕ → ℕ
closed_row q row = cond (row_is row q) (marked (marked row q) 0) (marked row q)

-- one table has the rows of all bodies on lists of all lengths: where each stands
abbrev pub place : ℕ → ℕ → ℕ
place f m = f * length_count + m

-- the row of procedure f on lists of length m; past the table's end nothing
abbrev pub known_row : List ℕ → ℕ → ℕ → ℕ
known_row known f m = cond (ltb (place f m) row_count) (get_or known (place f m) 0) 0

-- what the table says that calls touch
abbrev pub known_touches : List ℕ → CallTouches
known_touches known f m = row_is (known_row known f m)

-- the row of procedure f on lists of length m, written; nothing past the table's end
unfoldable pub stored : ℕ → ℕ → ℕ → List ℕ → List ℕ
stored f m row known = cond (ltb (place f m) row_count) (set known (place f m) row) known
