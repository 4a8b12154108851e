-- A table's constants have 16 bits: for them the guard of `value` never shuts, and a number has the model's value.
use Prim.Native.Nat.{ℕ}
use mathlib.Core.Path.{◌≡◌, refl}
use lib.ListN.{length}
use lib.IntN.{pos}
use lib.Signed.{lt_z}
use Rattle.limits.specs.Sizes.{most_constant}
use Rattle.model.specs.Lists.{value}
use Rattle.model.specs.Lists as model
use Rattle.model.proofs.BooleanLaws.{by_bool}
use Rattle.records.specs.declared.Number.{Number}
use Rattle.records.specs.Fields.{based, number_of}
use Rattle.model.specs.Reading.{signed16}
use Rattle.decoded.proofs.RecordsOfAProgram.{number_kept}
use Rattle.sets.specs.Sets.{members_of}
use Rattle.records.specs.declared.Number.TheVariants as base
use Rattle.records.specs.declared.Record.{Record}
use Rattle.records.specs.declared.Record.TheVariants as kind
use Rattle.decoded.specs.declared.Program.{Program}
use Rattle.decoded.specs.DecodedTable.{kept, kept_record, no_number, number_a, number_b, entry_of, first_number, second_number}
use Rattle.step.specs.declared.Lists.{Lists}
use Rattle.step.specs.Values.{sum_of, value_of}

-- sizes as the model has them
abbrev pub model_sizes : Lists → model.Sizes
model_sizes s = record { whole = length (members_of s.whole); left = length (members_of s.left) }

-- the number has the model's value
abbrev pub Fair : Number → Type 0
Fair a = (s : Lists) → value_of a s ≡ value (number_of a) (model_sizes s)

-- a number as it is taken from the program is one
pub kept_fair : (a : Number) → Fair (kept a)
unfolding kept sum_of value_of number_of
kept_fair (base.Constant z) s = refl
kept_fair (base.SizePlus z) s = by_bool (lt_z (pos most_constant) z) (λ t. rw t) (λ t. rw (t, t))
kept_fair (base.LeftPlus z) s = by_bool (lt_z (pos most_constant) z) (λ t. rw t) (λ t. rw (t, t))

-- so a number of the table
pub fair : (b low high : ℕ) → Fair (based b (signed16 low high))
fair b low high = rw (number_kept b low high) at (kept_fair (based b (signed16 low high)))

none_fair : Fair no_number
unfolding value_of number_of
none_fair s = refl

-- so numbers a and b of a record
a_fair : (r : Record) → Fair (number_a (kept_record r))
unfolding number_a kept_record
a_fair (kind.Not q a) = kept_fair a
a_fair (kind.Qcase q a) = kept_fair a
a_fair (kind.Greater a b) = kept_fair a
a_fair (kind.AtLeast a b) = kept_fair a
a_fair (kind.Equal a b) = kept_fair a
a_fair kind.Skip = none_fair
a_fair kind.Sequence = none_fair
a_fair kind.If = none_fair
a_fair (kind.Call q f) = none_fair
a_fair kind.And = none_fair
a_fair kind.Or = none_fair
a_fair kind.Negation = none_fair

b_fair : (r : Record) → Fair (number_b (kept_record r))
unfolding number_b kept_record
b_fair (kind.Greater a b) = kept_fair b
b_fair (kind.AtLeast a b) = kept_fair b
b_fair (kind.Equal a b) = kept_fair b
b_fair (kind.Not q a) = none_fair
b_fair (kind.Qcase q a) = none_fair
b_fair kind.Skip = none_fair
b_fair kind.Sequence = none_fair
b_fair kind.If = none_fair
b_fair (kind.Call q f) = none_fair
b_fair kind.And = none_fair
b_fair kind.Or = none_fair
b_fair kind.Negation = none_fair

pub first_fair : (g : Program) (i : ℕ) → Fair (first_number g i)
first_fair g i = a_fair (entry_of g i).read

pub second_fair : (g : Program) (i : ℕ) → Fair (second_number g i)
second_fair g i = b_fair (entry_of g i).read
