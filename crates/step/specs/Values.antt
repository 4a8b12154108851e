-- The values of numbers, for a list of qubits that is a set.
use Rattle.std.specs.Prelude.{ℕ, cond, List, length, ℤ, pos, ◌+ℤ◌}
use Rattle.std.specs.Int.Signed.{lt_z}
use Rattle.limits.specs.Sizes.{most_constant}
use Rattle.model.specs.Lists.{compared_value}
use Rattle.records.specs.declared.Number.{Number}
use Rattle.records.specs.declared.Number.TheVariants as base
use Rattle.records.specs.Fields.{number_of}
use Rattle.sets.specs.Sets.{members_of}
use Rattle.decoded.specs.declared.Program.{Program}
use Rattle.decoded.specs.DecodedTable.{first_number, second_number}
use Rattle.step.specs.declared.Lists.{Lists}

-- a constant and a size. A table's constants have 16 bits: for them a law says that the guard, without which a sum could leave i32, never shuts.
unfoldable pub sum_of : ℤ → ℕ → ℤ
sum_of z size = cond (lt_z (pos most_constant) z) (pos 0) (z +ℤ pos size)

-- the value of a number
unfoldable pub value_of : Number → Lists → ℤ
value_of (base.Constant z) s = z
value_of (base.SizePlus z) s = sum_of z (length (members_of s.whole))
value_of (base.LeftPlus z) s = sum_of z (length (members_of s.left))

-- the lists of a comparison, which removes nothing
abbrev pub nothing_removed : ℕ → Lists
nothing_removed list = record { whole = list; left = list }

-- the values of the two numbers of the comparison at a record
abbrev pub first_value : Program → ℕ → List ℕ → ℤ
first_value g at l = compared_value (number_of (first_number g at)) l

abbrev pub second_value : Program → ℕ → List ℕ → ℤ
second_value g at l = compared_value (number_of (second_number g at)) l
