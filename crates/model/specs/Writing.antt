-- "The program table", as bytes: writing. Laws in proofs/WrittenTables.antt tie it to the reader, both ways.
use Rattle.std.specs.Prelude.{ℕ, ◌+◌, ◌-◌, ◌/◌, ◌%◌, Bool, true, false, cond, List, [], ◌∷◌, ◌++◌, length, ℤ, pos, negsuc}
use Rattle.model.specs.Limits.{table_edition}
use Rattle.model.specs.Syntax.{Number, constant, size_plus, left_plus, Condition, greater, at_least, equal, conjunction, disjunction, negation}
use Rattle.model.specs.Syntax.{Statement, skip, NOT, sequence, if, qcase, call, Program, count}
use Rattle.model.specs.Reading.{required_map, stands, Fields}
use Rattle.model.specs.Reach.{is_empty}

-- "a signed 16-bit constant": its bits as a number, those of a negative one in two's complement
unfoldable pub bits16 : ℤ → ℕ
bits16 (pos k) = k
bits16 (negsuc k) = 65535 - k

-- a base and a constant "little-endian"
abbrev pub based_bytes : ℕ → ℤ → List ℕ
based_bytes base z = base ∷ bits16 z % 256 ∷ bits16 z / 256 ∷ []

-- "A number is a base byte and a signed 16-bit constant"
unfoldable pub number_bytes : Number → List ℕ
number_bytes (constant z) = based_bytes 0 z
number_bytes (size_plus z) = based_bytes 1 z
number_bytes (left_plus z) = based_bytes 2 z

unfoldable pub numbers_bytes : List Number → List ℕ
numbers_bytes [] = []
numbers_bytes (a ∷ rs) = number_bytes a ++ numbers_bytes rs

-- "bit 0, removals: a count byte 1 to 8, then that many numbers"
abbrev pub removal_bytes : List Number → List ℕ
removal_bytes rs = length rs ∷ numbers_bytes rs

-- "Bit 0 is optional": it stands where there are removals
abbrev pub map_of : ℕ → Fields → ℕ
map_of kind f = required_map kind + cond (is_empty f.removed) 0 1

-- a field whose bit does not stand is left out
unfoldable pub where_stands : Bool → List ℕ → List ℕ
where_stands true bytes = bytes
where_stands false bytes = []

-- "then only the fields whose bit stands in the map, lowest bit first"
unfoldable pub field_bytes : ℕ → Fields → List ℕ
field_bytes map f =
    where_stands (stands 0 map) (removal_bytes f.removed) ++
    (where_stands (stands 1 map) (number_bytes f.a) ++
    (where_stands (stands 2 map) (number_bytes f.b) ++
    where_stands (stands 3 map) (f.called ∷ [])))

-- "A record is a map byte, a kind byte, then only the fields"
abbrev pub record_bytes : ℕ → Fields → List ℕ
record_bytes kind f = map_of kind f ∷ kind ∷ field_bytes (map_of kind f) f

-- the fields of a record, with 0 and no removals where its kind has none
abbrev pub absent : Number
absent = constant (pos 0)

abbrev pub no_fields : Fields
no_fields = record { removed = []; a = absent; b = absent; called = 0 }

abbrev pub touched_fields : List Number → Number → Fields
touched_fields rs a = record { removed = rs; a = a; b = absent; called = 0 }

abbrev pub compared_fields : Number → Number → Fields
compared_fields a b = record { removed = []; a = a; b = b; called = 0 }

abbrev pub called_fields : List Number → ℕ → Fields
called_fields rs f = record { removed = rs; a = absent; b = absent; called = f }

-- "6 a > b; 7 a ≥ b; 8 a = b; 9 and; 10 or, two conditions; 11 not, one condition"; "a record's children follow it, first child first"
unfoldable pub condition_bytes : Condition → List ℕ
condition_bytes (greater a b) = record_bytes 6 (compared_fields a b)
condition_bytes (at_least a b) = record_bytes 7 (compared_fields a b)
condition_bytes (equal a b) = record_bytes 8 (compared_fields a b)
condition_bytes (conjunction c d) = record_bytes 9 no_fields ++ (condition_bytes c ++ condition_bytes d)
condition_bytes (disjunction c d) = record_bytes 10 no_fields ++ (condition_bytes c ++ condition_bytes d)
condition_bytes (negation c) = record_bytes 11 no_fields ++ condition_bytes c

-- "0 skip; 1 NOT, a; 2 sequence, two statements; 3 if, a condition, then yes and no; 4 qcase, a, then the zero and one statements; 5 call, procedure":
-- what stands before a statement's own statements, its record and an if's condition
unfoldable pub head_bytes : Statement → List ℕ
head_bytes skip = record_bytes 0 no_fields
head_bytes (NOT rs a) = record_bytes 1 (touched_fields rs a)
head_bytes (sequence s t) = record_bytes 2 no_fields
head_bytes (if c s t) = record_bytes 3 no_fields ++ condition_bytes c
head_bytes (qcase rs a s t) = record_bytes 4 (touched_fields rs a)
head_bytes (call rs f) = record_bytes 5 (called_fields rs f)

-- a statement's tree "in preorder"
unfoldable pub statement_bytes : Statement → List ℕ
statement_bytes skip = head_bytes skip
statement_bytes (NOT rs a) = head_bytes (NOT rs a)
statement_bytes (sequence s t) = head_bytes (sequence s t) ++ (statement_bytes s ++ statement_bytes t)
statement_bytes (if c s t) = head_bytes (if c s t) ++ (statement_bytes s ++ statement_bytes t)
statement_bytes (qcase rs a s t) = head_bytes (qcase rs a s t) ++ (statement_bytes s ++ statement_bytes t)
statement_bytes (call rs f) = head_bytes (call rs f)

unfoldable pub statements_bytes : List Statement → List ℕ
statements_bytes [] = []
statements_bytes (s ∷ ss) = statement_bytes s ++ statements_bytes ss

-- "Byte 0 is the edition, 1. Byte 1 is p, the number of procedures"; "Then come the main statement and the bodies of procedures 1 to p"
unfoldable pub write_table : Program → List ℕ
write_table P = table_edition ∷ count P ∷ statements_bytes (P.main ∷ P.procedures)
