-- Numbers as they were before base 2 came (document 02, S-2): their reader, their values, and what depends on these. All else is as it is today.
use Rattle.std.specs.Prelude.{ℕ, zero, suc, ◌≢◌, Bool, not, ◌&&◌, ◌||◌, List, [], ◌∷◌, length, leb, ℤ, pos, ◌+ℤ◌}
use Rattle.std.specs.Int.Signed.{lt_z, le_z}
use Rattle.model.specs.Limits.{wrong_field}
use Rattle.model.specs.Syntax.{Number, constant, size_plus, left_plus, Condition, greater, at_least, equal, conjunction, disjunction, negation}
use Rattle.model.specs.Syntax.{Program}
use Rattle.model.specs.Reading.{parsed, refused, and_then, provided, byte, signed16}
use Rattle.model.specs.Lists.{position, remove, entry}
use Rattle.model.specs.Gates.{with_control}
use Rattle.plain.specs.Ways.{Ways}
use Rattle.plain.specs.ReadingBy.{NumberReader, read_table_by}
use Rattle.plain.specs.Numbers.{InProgram}

-- a number of base 0 or 1
abbrev pub Old : Number → Type 0
Old (constant z) = Unit {0}
Old (size_plus z) = Unit {0}
Old (left_plus z) = ⊥

-- a program all of whose numbers are
abbrev pub OldProgram : Program → Type 0
OldProgram P = InProgram Old P

-- there was no base but 0 and 1
unfoldable pub old_number_of : ℕ → ℤ → Number
old_number_of zero z = constant z
old_number_of (suc base) z = size_plus z

-- a base other than 0 and 1 is refused before the constant is looked for
unfoldable pub number_or : ℕ → NumberReader
number_or refusal i = and_then (byte i) (λ base j. provided (leb base 1) refusal
    (and_then (byte j) (λ low k. and_then (byte k) (λ high l. parsed (old_number_of base (signed16 low high)) l))))

-- .. and gave 6
abbrev pub old_number : NumberReader
old_number = number_or wrong_field

-- "Tables that use only bases 0 and 1": a reader that gives some number wherever it comes to another base does not give that number. With 0, which no
-- refusal has, this says that it comes to none; with 6, that the old reader did not give 6.
abbrev pub OnlyOldBases : List ℕ → Type 0
OnlyOldBases table = (refusal : ℕ) × (read_table_by (number_or refusal) table ≢ refused refusal)

-- No table had a number of base 2, so its value was anything: `other`.
module _ (other : ℤ → ℕ → ℤ) where
  -- "Base 0 is the constant alone; base 1 adds the size of the procedure's whole list."
  unfoldable pub old_value : Number → ℕ → ℤ
  old_value (constant z) size = z
  old_value (size_plus z) size = z +ℤ pos size
  old_value (left_plus z) size = other z size

  -- "Removals go left to right, each from what the last one left"
  unfoldable pub old_remove_all : ℕ → List Number → List ℕ → List ℕ
  old_remove_all size [] now = now
  old_remove_all size (a ∷ rs) now = old_remove_all size rs (remove (position (old_value a size)) now)

  -- the remaining list
  abbrev pub old_remaining : List Number → List ℕ → List ℕ
  old_remaining rs l = old_remove_all (length l) rs l

  -- "NOT and qcase touch the entry at position a of the remaining list."
  abbrev pub old_touched : List Number → Number → List ℕ → ℕ
  old_touched rs a l = entry (old_remaining rs l) (position (old_value a (length l)))

  -- "its condition holds for its numbers"
  unfoldable pub old_holds : Condition → ℕ → Bool
  old_holds (greater a b) size = lt_z (old_value b size) (old_value a size)
  old_holds (at_least a b) size = le_z (old_value b size) (old_value a size)
  old_holds (equal a b) size = le_z (old_value a size) (old_value b size) && le_z (old_value b size) (old_value a size)
  old_holds (conjunction c d) size = old_holds c size && old_holds d size
  old_holds (disjunction c d) size = old_holds c size || old_holds d size
  old_holds (negation c) size = not (old_holds c size)

  -- the ways that were
  abbrev pub old_ways : Ways
  old_ways = record {
    remaining = λ rs l. old_remaining rs l;
    touched = λ rs a l. old_touched rs a l;
    holds = λ c l. old_holds c (length l);
    control = λ w b cs. with_control w b cs;
  }
