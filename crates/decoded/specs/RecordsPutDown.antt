-- What is put down of a record when it was read.
use Rattle.std.specs.Prelude.{ℕ, zero, suc, ◌+◌, min, cond, List, [], ◌∷◌, eqb, ltb}
use Rattle.std.proofs.lemmas.List.Edits.{sets}
use Rattle.limits.specs.Sizes.{place_count}
use Rattle.model.specs.Limits.{most_removals}
use Rattle.records.specs.declared.Number.{Number}
use Rattle.records.specs.declared.Record.{Record}
use Rattle.records.specs.declared.Record.TheVariants as kind
use Rattle.records.specs.Fields.{byte_at, written_at}
use Rattle.decoded.specs.DecodedTable.{no_removals, with_entry}
use Rattle.decoded.specs.declared.Removals.{Removals}
use Rattle.decoded.specs.declared.Entry.{Entry}
use Rattle.decoded.specs.declared.Program.{Program}

-- the place of a record's removals in the table, 0 where it has none
unfoldable pub removals_place : Record → ℕ
removals_place (kind.Not q a) = q
removals_place (kind.Qcase q a) = q
removals_place (kind.Call q f) = q
removals_place kind.Skip = 0
removals_place kind.Sequence = 0
removals_place kind.If = 0
removals_place (kind.Greater a b) = 0
removals_place (kind.AtLeast a b) = 0
removals_place (kind.Equal a b) = 0
removals_place kind.And = 0
removals_place kind.Or = 0
removals_place kind.Negation = 0

-- n numbers that stand one after the other in the table
unfoldable pub numbers_written : ℕ → List ℕ → ℕ → List Number
numbers_written zero bs at = []
numbers_written (suc n) bs at = written_at bs at ∷ numbers_written n bs (at + 3)

-- how many removals are put down
abbrev pub removal_count : List ℕ → ℕ → ℕ
removal_count bs at = min (byte_at bs at) most_removals

-- the removals whose count stands at a place of the table; at place 0 there are none
unfoldable pub removals_read : List ℕ → ℕ → Removals
removals_read bs at =
    cond (eqb at 0) no_removals
    (record { count = removal_count bs at; numbers = sets no_removals.numbers 0 (numbers_written (removal_count bs at) bs (at + 1)) })

-- a place in the table. One past 16 bits would be passed over: reading comes to none.
unfoldable pub place_kept : ℕ → ℕ
place_kept at = cond (ltb at place_count) at 0

-- what is put down of a record that stands at a place. The record behind its subtree and its width are not known yet.
abbrev pub put : List ℕ → Record → ℕ → Entry
put bs r at = record { read = r; removals = removals_read bs (removals_place r); place = place_kept at; end = 0; width = 0 }

-- the program with this as record i
abbrev pub recorded : List ℕ → Record → ℕ → ℕ → Program → Program
recorded bs r at i g = with_entry i (put bs r at) g
