-- "The program table": what a table is read to. Numbers, conditions, statements, programs.
use Rattle.std.specs.Prelude.{ℕ, List, ◌∷◌, length, get_or, ℤ}

-- "Base 0 is the constant alone; base 1 adds the size of the procedure's whole list."; document 02, S-2: "Base 2 of a number adds the size of the list
-- left by the removals already done in that record"
pub data Number : Type 0 where
  constant : ℤ → Number
  size_plus : ℤ → Number
  left_plus : ℤ → Number

-- "6 a > b; 7 a ≥ b; 8 a = b; 9 and; 10 or, two conditions; 11 not, one condition"
pub data Condition : Type 0 where
  greater : Number → Number → Condition
  at_least : Number → Number → Condition
  equal : Number → Number → Condition
  conjunction : Condition → Condition → Condition
  disjunction : Condition → Condition → Condition
  negation : Condition → Condition

-- "0 skip; 1 NOT, a; 2 sequence, two statements; 3 if, a condition, then yes and no; 4 qcase, a, then the zero and one statements; 5 call, procedure".
-- NOT, qcase and call begin with their removals; a record without bit 0 has none.
pub data Statement : Type 0 where
  skip : Statement
  NOT : List Number → Number → Statement
  sequence : Statement → Statement → Statement
  if : Condition → Statement → Statement → Statement
  qcase : List Number → Number → Statement → Statement → Statement
  call : List Number → ℕ → Statement

-- "Then come the main statement and the bodies of procedures 1 to p"
pub record Program : Type 0 where
  pub main : Statement
  pub procedures : List Statement

-- p, the number of procedures
abbrev pub count : Program → ℕ
count P = length P.procedures

-- the body of procedure f, counted from 1. Main stands at 0, to which no procedure byte leads.
abbrev pub body : Program → ℕ → Statement
body P f = get_or (P.main ∷ P.procedures) f skip
