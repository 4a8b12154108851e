-- The inverse program: it fits a table as the program does, its table is as long, and its inverse is the program.
use mathlib.Core.Path.{◌≡◌, refl, ap, ap₂}
use mathlib.Core.List.{List, [], ◌∷◌, map}
use Prim.Native.Nat.{ℕ, zero, suc, ◌+◌}
use native.Mathlib.Omega.{arith}
use lib.ListN.{length, length-append, length-map}
use Rattle.model.specs.Syntax.{Statement, skip, NOT, sequence, if, qcase, call, Program, count}
use Rattle.model.specs.Writing.{head_bytes, statement_bytes, statements_bytes, write_table}
use Rattle.model.specs.Inverse.{inverse, inverse_program}
use Rattle.model.proofs.WrittenTables.{StatementFits, StatementsFit, statement_records, statements_records, ProgramFits}

-- "sequences turned round", those within a sequence too: the last statement comes first
pub turned_within : (s t u : Statement) → inverse (sequence (sequence s t) u) ≡ sequence (inverse u) (sequence (inverse t) (inverse s))
unfolding inverse
turned_within s t u = refl

-- The inverse of a statement fits a tree of the same depth,
statement_fits : (p depth : ℕ) (s : Statement) → StatementFits p depth s → StatementFits p depth (inverse s)
unfolding inverse StatementFits
statement_fits p zero s h = absurd h
statement_fits p (suc depth) skip h = h
statement_fits p (suc depth) (NOT rs a) h = h
statement_fits p (suc depth) (sequence s t) h = (statement_fits p depth t h.1, statement_fits p depth s h.0)
statement_fits p (suc depth) (if c s t) h = (h.0, (statement_fits p depth s h.1.0, statement_fits p depth t h.1.1))
statement_fits p (suc depth) (qcase rs a s t) h = (h.0, (statement_fits p depth s h.1.0, statement_fits p depth t h.1.1))
statement_fits p (suc depth) (call rs f) h = h

-- has as many records,
statement_records_lem : (s : Statement) → statement_records (inverse s) ≡ statement_records s
unfolding inverse statement_records
statement_records_lem skip = refl
statement_records_lem (NOT rs a) = refl
statement_records_lem (sequence s t) = omega (arith, statement_records_lem s, statement_records_lem t)
statement_records_lem (if c s t) = omega (arith, statement_records_lem s, statement_records_lem t)
statement_records_lem (qcase rs a s t) = omega (arith, statement_records_lem s, statement_records_lem t)
statement_records_lem (call rs f) = refl

-- is as long
statement_long : (s : Statement) → length (statement_bytes (inverse s)) ≡ length (statement_bytes s)
unfolding inverse head_bytes statement_bytes
statement_long skip = refl
statement_long (NOT rs a) = refl
statement_long (sequence s t) = simp length-append (omega (arith, statement_long s, statement_long t))
statement_long (if c s t) = simp length-append (omega (arith, statement_long s, statement_long t))
statement_long (qcase rs a s t) = simp length-append (omega (arith, statement_long s, statement_long t))
statement_long (call rs f) = refl

-- and has the statement as its inverse.
statement_twice : (s : Statement) → inverse (inverse s) ≡ s
unfolding inverse
statement_twice skip = refl
statement_twice (NOT rs a) = refl
statement_twice (sequence s t) = ap₂ sequence (statement_twice s) (statement_twice t)
statement_twice (if c s t) = ap₂ (if c) (statement_twice s) (statement_twice t)
statement_twice (qcase rs a s t) = ap₂ (qcase rs a) (statement_twice s) (statement_twice t)
statement_twice (call rs f) = refl

-- So it is with a list of statements.
statements_fit : (p : ℕ) (ss : List Statement) → StatementsFit p ss → StatementsFit p (map inverse ss)
unfolding StatementsFit
statements_fit p [] h = tt
statements_fit p (s ∷ ss) h = (statement_fits p _ s h.0, statements_fit p ss h.1)

statements_records_lem : (ss : List Statement) → statements_records (map inverse ss) ≡ statements_records ss
unfolding statements_records
statements_records_lem [] = refl
statements_records_lem (s ∷ ss) = ap₂ (λ x y. x + y) (statement_records_lem s) (statements_records_lem ss)

statements_long : (ss : List Statement) → length (statements_bytes (map inverse ss)) ≡ length (statements_bytes ss)
unfolding statements_bytes
statements_long [] = refl
statements_long (s ∷ ss) = simp length-append (ap₂ (λ x y. x + y) (statement_long s) (statements_long ss))

statements_twice : (ss : List Statement) → map inverse (map inverse ss) ≡ ss
statements_twice [] = refl
statements_twice (s ∷ ss) = ap₂ (λ x xs. x ∷ xs) (statement_twice s) (statements_twice ss)

-- The inverse of a program that a table holds is such a program,
pub inverse_fits : (P : Program) → ProgramFits P → ProgramFits (inverse_program P)
unfolding inverse_program
inverse_fits P h = let all = P.main ∷ P.procedures in let same = length-map P.procedures inverse in record {
  few = rw same h.few;
  all_fit = rw same (statements_fit (count P) all h.all_fit);
  small = rw (statements_records_lem all) h.small;
}

-- its table is as long,
pub inverse_long : (P : Program) → length (write_table (inverse_program P)) ≡ length (write_table P)
unfolding inverse_program write_table
inverse_long P = ap (λ n. suc (suc n)) (statements_long (P.main ∷ P.procedures))

-- and its inverse is the program.
pub inverse_twice : (P : Program) → inverse_program (inverse_program P) ≡ P
unfolding inverse_program
inverse_twice P = ap₂ (λ s ss. record { main = s; procedures = ss }) (statement_twice P.main) (statements_twice P.procedures)
