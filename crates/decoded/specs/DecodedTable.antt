-- What reading leaves of a table: what was put down of each record. With it the program is the tree of its statements.
use Rattle.std.specs.Prelude.{ℕ, zero, suc, ◌+◌, ◌≡◌, cond, List, [], ◌∷◌, map, replicate, get_or, set, length, ltb, ℤ, pos}
use Rattle.std.specs.Int.Signed.{lt_z}
use Rattle.limits.specs.Sizes.{place_count, most_constant}
use Rattle.model.specs.Limits.{most_depth}
use Rattle.model.specs.Syntax.{Number, constant, Condition, greater, at_least, equal, conjunction, disjunction, negation}
use Rattle.model.specs.Syntax.{Statement, skip, NOT, sequence, if, qcase, call}
use Rattle.model.specs.Syntax as syntax
use Rattle.model.specs.Lists.{range}
use Rattle.records.specs.declared.Number as code
use Rattle.records.specs.declared.Number.TheVariants as base
use Rattle.records.specs.declared.Record.{Record}
use Rattle.records.specs.declared.Record.TheVariants as kind
use Rattle.records.specs.Fields.{number_of}
use Rattle.decoded.specs.Layout.{record_count, root_count, removal_room}
use Rattle.decoded.specs.declared.Removals.{Removals}
use Rattle.decoded.specs.declared.Entry.{Entry}
use Rattle.decoded.specs.declared.Program.{Program}

-- a number that was not put down
abbrev pub no_number : code.Number
no_number = base.Constant (pos 0)

abbrev pub no_removals : Removals
no_removals = record { count = 0; numbers = replicate removal_room no_number }

-- a record that was not put down
abbrev pub blank : Entry
blank = record { read = kind.Skip; removals = no_removals; place = 0; end = 0; width = 0 }

-- the program of no table yet
abbrev pub nothing_read : Program
nothing_read = record { procedures = 0; roots = replicate root_count 0; entries = replicate record_count blank }

-- a program has a root for every byte and room for every record: the type of its fields says so
pub record Whole (g : Program) : Type 0 where
  pub roots : length g.roots ≡ root_count
  pub entries : length g.entries ≡ record_count

-- what was put down of record i; past the last there is none
abbrev pub entry_of : Program → ℕ → Entry
entry_of g i = get_or g.entries i blank

-- a number as it is taken from the program: no table has a constant above 16 bits, and one that had counts as 0
abbrev pub constant_kept : ℤ → ℤ
constant_kept z = cond (lt_z (pos most_constant) z) (pos 0) z

unfoldable pub kept : code.Number → code.Number
kept (base.Constant z) = base.Constant (constant_kept z)
kept (base.SizePlus z) = base.SizePlus (constant_kept z)
kept (base.LeftPlus z) = base.LeftPlus (constant_kept z)

unfoldable pub kept_record : Record → Record
kept_record kind.Skip = kind.Skip
kept_record (kind.Not at a) = kind.Not at (kept a)
kept_record kind.Sequence = kind.Sequence
kept_record kind.If = kind.If
kept_record (kind.Qcase at a) = kind.Qcase at (kept a)
kept_record (kind.Call at f) = kind.Call at f
kept_record (kind.Greater a b) = kind.Greater (kept a) (kept b)
kept_record (kind.AtLeast a b) = kind.AtLeast (kept a) (kept b)
kept_record (kind.Equal a b) = kind.Equal (kept a) (kept b)
kept_record kind.And = kind.And
kept_record kind.Or = kind.Or
kept_record kind.Negation = kind.Negation

-- of record i: the record as it was read, its place in the table, the record behind its subtree, and its width
abbrev pub record_in : Program → ℕ → Record
record_in g i = kept_record (entry_of g i).read

abbrev pub start_of : Program → ℕ → ℕ
start_of g i = (entry_of g i).place

abbrev pub end_of : Program → ℕ → ℕ
end_of g i = (entry_of g i).end

abbrev pub width_in : Program → ℕ → ℕ
width_in g i = (entry_of g i).width

-- the root of the body of procedure f, main at 0; and how many procedures there are
abbrev pub root_of : Program → ℕ → ℕ
root_of g f = get_or g.roots f 0

abbrev pub procedure_count : Program → ℕ
procedure_count g = g.procedures

-- number a of a record, and number b of a comparison
unfoldable pub number_a : Record → code.Number
number_a (kind.Not at a) = a
number_a (kind.Qcase at a) = a
number_a (kind.Greater a b) = a
number_a (kind.AtLeast a b) = a
number_a (kind.Equal a b) = a
number_a kind.Skip = no_number
number_a kind.Sequence = no_number
number_a kind.If = no_number
number_a (kind.Call at f) = no_number
number_a kind.And = no_number
number_a kind.Or = no_number
number_a kind.Negation = no_number

unfoldable pub number_b : Record → code.Number
number_b (kind.Greater a b) = b
number_b (kind.AtLeast a b) = b
number_b (kind.Equal a b) = b
number_b (kind.Not at a) = no_number
number_b (kind.Qcase at a) = no_number
number_b kind.Skip = no_number
number_b kind.Sequence = no_number
number_b kind.If = no_number
number_b (kind.Call at f) = no_number
number_b kind.And = no_number
number_b kind.Or = no_number
number_b kind.Negation = no_number

-- of record i: numbers a and b, and its removals, the first being number 0
abbrev pub first_number : Program → ℕ → code.Number
first_number g i = number_a (record_in g i)

abbrev pub second_number : Program → ℕ → code.Number
second_number g i = number_b (record_in g i)

abbrev pub removal_number : Program → ℕ → ℕ → code.Number
removal_number g i k = kept (get_or (entry_of g i).removals.numbers k no_number)

-- n of its removals, from number k on; and all of them
unfoldable pub removals_from : ℕ → Program → ℕ → ℕ → List Number
removals_from zero g i k = []
removals_from (suc n) g i k = number_of (removal_number g i k) ∷ removals_from n g i (k + 1)

abbrev pub removals_in : Program → ℕ → List Number
removals_in g i = removals_from (entry_of g i).removals.count g i 0

-- a condition that stands for what is none
abbrev pub no_test : Condition
no_test = equal (constant (pos 0)) (constant (pos 0))

-- the condition of a record, where `part` gives those of its parts
unfoldable pub test_of : (ℕ → Condition) → Program → ℕ → Record → Condition
test_of part g i (kind.Greater a b) = greater (number_of a) (number_of b)
test_of part g i (kind.AtLeast a b) = at_least (number_of a) (number_of b)
test_of part g i (kind.Equal a b) = equal (number_of a) (number_of b)
test_of part g i kind.And = conjunction (part (i + 1)) (part (end_of g (i + 1)))
test_of part g i kind.Or = disjunction (part (i + 1)) (part (end_of g (i + 1)))
test_of part g i kind.Negation = negation (part (i + 1))
test_of part g i kind.Skip = no_test
test_of part g i (kind.Not at a) = no_test
test_of part g i kind.Sequence = no_test
test_of part g i kind.If = no_test
test_of part g i (kind.Qcase at a) = no_test
test_of part g i (kind.Call at f) = no_test

-- the condition at record i, of at most `depth` records from its root down
unfoldable pub test_at : Program → ℕ → ℕ → Condition
test_at g zero i = no_test
test_at g (suc depth) i = test_of (test_at g depth) g i (record_in g i)

-- the statement of a record: "a record's children follow it, first child first"
unfoldable pub statement_of : (ℕ → Condition) → (ℕ → Statement) → Program → ℕ → Record → Statement
statement_of test part g i kind.Skip = skip
statement_of test part g i (kind.Not at a) = NOT (removals_in g i) (number_of a)
statement_of test part g i kind.Sequence = sequence (part (i + 1)) (part (end_of g (i + 1)))
statement_of test part g i kind.If =
    if (test (i + 1)) (part (end_of g (i + 1))) (part (end_of g (end_of g (i + 1))))
statement_of test part g i (kind.Qcase at a) =
    qcase (removals_in g i) (number_of a) (part (i + 1)) (part (end_of g (i + 1)))
statement_of test part g i (kind.Call at f) = call (removals_in g i) f
statement_of test part g i (kind.Greater a b) = skip
statement_of test part g i (kind.AtLeast a b) = skip
statement_of test part g i (kind.Equal a b) = skip
statement_of test part g i kind.And = skip
statement_of test part g i kind.Or = skip
statement_of test part g i kind.Negation = skip

-- the statement at record i, of at most `depth` records from its root down
unfoldable pub statement_at : Program → ℕ → ℕ → Statement
statement_at g zero i = skip
statement_at g (suc depth) i = statement_of (test_at g depth) (statement_at g depth) g i (record_in g i)

-- the body of procedure f, main at 0
abbrev pub body_at : Program → ℕ → Statement
body_at g f = statement_at g most_depth (root_of g f)

-- the program
abbrev pub program_at : Program → syntax.Program
program_at g = record { main = body_at g 0; procedures = map (body_at g) (range (procedure_count g) 1) }

-- the program with how many procedures there are; with the root of the body of f, main at 0; with the record behind the subtree of record i; and with the width of
-- record i. A root or an end past 65535 would be passed over: reading comes to none.
abbrev pub with_count : ℕ → Program → Program
with_count p g = record g { procedures = p }

unfoldable pub with_root : ℕ → ℕ → Program → Program
with_root f i g = cond (ltb i place_count) (record g { roots = set g.roots f i }) g

abbrev pub with_entry : ℕ → Entry → Program → Program
with_entry i e g = record g { entries = set g.entries i e }

unfoldable pub with_end : ℕ → ℕ → Program → Program
with_end i end g = cond (ltb end place_count) (with_entry i (record (entry_of g i) { end = end }) g) g

abbrev pub with_width : ℕ → ℕ → Program → Program
with_width i w g = with_entry i (record (entry_of g i) { width = w }) g

-- two programs differ in the widths that they keep, and in nothing else
pub record Unseen (g h : Program) : Type 0 where
  pub procedures : h.procedures ≡ g.procedures
  pub roots : h.roots ≡ g.roots
  pub entries : (i : ℕ) → record (entry_of h i) { width = 0 } ≡ record (entry_of g i) { width = 0 }
