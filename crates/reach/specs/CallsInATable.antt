-- The calls of a program's statements: the marks that they leave, and refusal 10 by a matrix.
use Rattle.std.specs.Prelude.{ℕ, zero, suc, Bool, cond, List, ltb}
use Rattle.model.specs.Limits.{most_procedures}
use Rattle.model.specs.Syntax.{Statement, skip, NOT, sequence, if, qcase, call}
use Rattle.model.specs.Reach.{lacks_removal, any_below}
use Rattle.decoded.specs.declared.Program as decoded
use Rattle.decoded.specs.DecodedTable.{procedure_count, body_at, program_at}
use Rattle.reach.specs.Matrix.{recursive_in, mark, reach_table, no_marks}

-- row f marked for every call in a statement
unfoldable pub marked : ℕ → Statement → List ℕ → List ℕ
marked f skip m = m
marked f (NOT rs a) m = m
marked f (sequence s t) m = marked f t (marked f s m)
marked f (if c s t) m = marked f t (marked f s m)
marked f (qcase rs a s t) m = marked f t (marked f s m)
marked f (call rs g) m = mark f g m

-- the rows below n marked, each for every call in its body
unfoldable pub marked_below : (ℕ → Statement) → ℕ → List ℕ → List ℕ
marked_below part zero m = m
marked_below part (suc f) m = marked f (part f) (marked_below part f m)

-- the matrix of a program; no mark where there would be more procedures than a table can have
unfoldable pub reach_at : decoded.Program → List ℕ
reach_at g = cond (ltb most_procedures (procedure_count g)) no_marks (reach_table (program_at g))

-- does the body of f lack a removal, by the matrix?
unfoldable pub lacks_in : List ℕ → decoded.Program → ℕ → Bool
lacks_in m g f = lacks_removal (recursive_in m f) (body_at g f)

-- does one of the bodies, main and each procedure?
abbrev pub any_lacks_in : List ℕ → decoded.Program → Bool
any_lacks_in m g = any_below (suc (procedure_count g)) (lacks_in m g)
