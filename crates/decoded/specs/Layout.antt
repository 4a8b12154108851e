-- The sizes of a decoded program. No other crate sees its fields: what it asks, it asks by the definitions of `DecodedTable` and `Steps`.
use Rattle.std.specs.Prelude.{ℕ, ◌+◌, ◌^◌}
use Rattle.model.specs.Limits.{most_records, most_removals}

-- a record's number, and the number after the last, is below `record_count`
abbrev pub record_count : ℕ
record_count = most_records + 1

-- as many roots as a byte has numbers
abbrev pub root_count : ℕ
root_count = 2 ^ 8

-- as many numbers as a record has removals at most
abbrev pub removal_room : ℕ
removal_room = most_removals
