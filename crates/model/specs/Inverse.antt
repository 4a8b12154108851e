-- Document 02, S-5: "the table whose run undoes it: sequences turned round, everything else kept".
use Rattle.std.specs.Prelude.{map}
use Rattle.model.specs.Syntax.{Statement, skip, NOT, sequence, if, qcase, call, Program}

unfoldable pub inverse : Statement → Statement
inverse skip = skip
inverse (NOT rs a) = NOT rs a
inverse (sequence s t) = sequence (inverse t) (inverse s)
inverse (if c s t) = if c (inverse s) (inverse t)
inverse (qcase rs a s t) = qcase rs a (inverse s) (inverse t)
inverse (call rs f) = call rs f

-- in main and in every body
unfoldable pub inverse_program : Program → Program
inverse_program P = record { main = inverse P.main; procedures = map inverse P.procedures }
