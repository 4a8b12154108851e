-- The table of rows, filled by length, and by rank within a length: all that a body can call is there before it.
use Rattle.std.specs.Prelude.{ℕ, zero, suc, ◌+◌, ◌-◌, min, Bool, cond, ◌||◌, List, get_or, set, replicate, eqb, ltb}
use Rattle.limits.specs.Sizes.{body_count, row_count}
use Rattle.model.specs.Limits.{most_qubits}
use Rattle.model.specs.Meaning.{digit}
use Rattle.decoded.specs.declared.Program as decoded
use Rattle.decoded.specs.DecodedTable.{procedure_count, body_at}
use Rattle.reach.specs.Matrix.{recursive_in}
use Rattle.faults.specs.TouchedPositions.{touches}
use Rattle.faults.specs.Rows.{row_of, row_is, known_touches, stored}
use Rattle.faults.specs.CallLengths.{sums_in}

-- does f reach x, by the matrix, or is it x?
abbrev pub from_in : List ℕ → ℕ → ℕ → Bool
from_in matrix f x = eqb x f || recursive_in matrix x f

-- of the bodies below n, how many f reaches, itself among them
unfoldable pub rank_below : List ℕ → ℕ → ℕ → ℕ
rank_below matrix f zero = 0
rank_below matrix f (suc x) = rank_below matrix f x + digit (from_in matrix f x)

-- the rank of f among the bodies 0 to p
abbrev pub rank_in : List ℕ → ℕ → ℕ → ℕ
rank_in matrix f p = rank_below matrix f (suc p)

-- a rank for each body, of which those below n are there
unfoldable pub ranks_below : List ℕ → ℕ → ℕ → List ℕ
ranks_below matrix p zero = replicate body_count 0
ranks_below matrix p (suc f) = set (ranks_below matrix p f) f (rank_in matrix f p)

-- all of them
abbrev pub ranks_in : List ℕ → ℕ → List ℕ
ranks_in matrix p = ranks_below matrix p body_count

-- the rank of f among them; 0, which none has, past the last body
abbrev pub rank_at : List ℕ → ℕ → ℕ
rank_at ranks f = cond (ltb f body_count) (get_or ranks f 0) 0

-- the row of procedure f on lists of length m: what its body touches, by the table so far
unfoldable pub filled_row : decoded.Program → ℕ → ℕ → List ℕ → List ℕ
filled_row g f m known = stored f m (row_of (touches (known_touches known) (body_at g f) (min m most_qubits))) known

module _ (g : decoded.Program) (ranks : List ℕ) where
  -- only where f has rank k
  unfoldable pub filled_if : ℕ → ℕ → ℕ → List ℕ → List ℕ
  filled_if k f m known = cond (eqb (rank_at ranks f) k) (filled_row g f m known) known

  -- procedures 1 to n, those of rank k
  unfoldable pub filled_rank : ℕ → ℕ → ℕ → List ℕ → List ℕ
  filled_rank zero k m known = known
  filled_rank (suc f) k m known = filled_if k (suc f) m (filled_rank f k m known)

  -- ranks 1 to n
  unfoldable pub filled_length : ℕ → ℕ → List ℕ → List ℕ
  filled_length zero m known = known
  filled_length (suc k) m known = filled_rank (procedure_count g) (suc k) m (filled_length k m known)

  -- only where calls can have removed `gone` entries of main's list
  unfoldable pub filled_asked : ℕ → ℕ → ℕ → List ℕ → List ℕ
  filled_asked sums gone m known = cond (row_is sums gone) (filled_length (procedure_count g) m known) known

  -- lengths 1 to m, of main's n
  unfoldable pub filled : ℕ → ℕ → ℕ → List ℕ → List ℕ
  filled sums n zero known = known
  filled sums n (suc m) known = filled_asked sums (n - suc m) (suc m) (filled sums n m known)

-- does main fault on n qubits, by the table of lengths 1 to n? Position 0 of its row says so
unfoldable pub faults_at : decoded.Program → List ℕ → ℕ → Bool
faults_at g matrix n =
    touches (known_touches (filled g (ranks_in matrix (procedure_count g)) (sums_in g) n n (replicate row_count 0))) (body_at g 0) (min n most_qubits) 0
