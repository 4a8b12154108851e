-- The fields of a record, read at a place of the table's bytes, and the record as it is written there. A law ties each to the model's reader of the bytes
-- from that place on.
use Rattle.std.specs.Prelude.{ℕ, zero, suc, ◌+◌, ◌*◌, ◌≤◌, ◌<◌, ◌≡◌, Bool, true, false, cond, List, [], ◌∷◌, length, get_or, ltb, leb, eqb, ◌||◌, ℤ, Result, Ok, Err, MatchResult}
use Rattle.limits.specs.Sizes.{place_count, kind_count}
use Rattle.limits.specs.Refusals as limits
use Rattle.limits.specs.declared.Refusal.{Refusal}
use Rattle.limits.specs.declared.Refusal.TheVariants.{TableStops, WrongKind, WrongField}
use Rattle.model.specs.Limits.{most_removals}
use Rattle.model.specs.Syntax as syntax
use Rattle.model.specs.Writing.{no_fields, touched_fields, compared_fields, called_fields}
use Rattle.model.specs.Reading.{input_at, Parsed, parsed, refused, signed16, most_base, required_map, permitted, stands, Fields, fields}
use Rattle.records.specs.declared.Number.{Number}
use Rattle.records.specs.declared.Number.TheVariants.{Constant, SizePlus, LeftPlus}
use Rattle.records.specs.declared.Kind.{Kind}
use Rattle.records.specs.declared.Kind.TheVariants as sort
use Rattle.records.specs.declared.Record.{Record}
use Rattle.records.specs.declared.Record.TheVariants as kind

-- the number of a kind: "Kinds: 0 skip; 1 NOT, a; .. 11 not, one condition"
abbrev pub kind_number : Kind → ℕ
kind_number sort.Skip = 0
kind_number sort.Not = 1
kind_number sort.Sequence = 2
kind_number sort.If = 3
kind_number sort.Qcase = 4
kind_number sort.Call = 5
kind_number sort.Greater = 6
kind_number sort.AtLeast = 7
kind_number sort.Equal = 8
kind_number sort.And = 9
kind_number sort.Or = 10
kind_number sort.Negation = 11

-- the kind of a number, or that there is none
abbrev pub KindOf : ℕ → Result Kind Refusal → Type 0
KindOf byte r = MatchResult r (λ kind. kind_number kind ≡ byte) (λ why. (kind_count ≤ byte) × (why ≡ WrongKind))

-- the byte at a place, 0 past the end
abbrev pub byte_at : List ℕ → ℕ → ℕ
byte_at bs at = get_or bs at 0

-- the same, or refusal 1 past the end
abbrev pub next_byte : List ℕ → ℕ → Result ℕ Refusal
next_byte bs at = cond (ltb at (length bs)) (Ok (byte_at bs at)) (Err TableStops)

-- go on behind a field; a refusal goes out as it is
abbrev pub and_then_field : {A B : Type 0} → Result A Refusal → (A → Result B Refusal) → Result B Refusal
and_then_field (Ok a) f = f a
and_then_field (Err why) f = Err why

-- a base and a constant
unfoldable pub based : ℕ → ℤ → Number
based zero z = Constant z
based (suc zero) z = SizePlus z
based (suc (suc base)) z = LeftPlus z

-- the number that stands at a place
abbrev pub written_at : List ℕ → ℕ → Number
written_at bs at = based (byte_at bs at) (signed16 (byte_at bs (at + 1)) (byte_at bs (at + 2)))

-- "A number is a base byte and a signed 16-bit constant"
unfoldable pub number_at : List ℕ → ℕ → Result (Number × ℕ) Refusal
number_at bs at =
    and_then_field (next_byte bs at) (λ base.
    cond (ltb most_base base) (Err WrongField)
    (cond (leb (at + 3) (length bs)) (Ok (written_at bs at, at + 3)) (Err TableStops)))

-- the place behind n numbers
unfoldable pub numbers_at : ℕ → List ℕ → ℕ → Result ℕ Refusal
numbers_at zero bs at = Ok at
numbers_at (suc n) bs at = and_then_field (number_at bs at) (λ a. numbers_at n bs a.1)

-- "removals: a count byte 1 to 8, then that many numbers": the place behind them
unfoldable pub removals_at : List ℕ → ℕ → Result ℕ Refusal
removals_at bs at =
    and_then_field (next_byte bs at) (λ count.
    cond (eqb count 0 || ltb most_removals count) (Err WrongField) (numbers_at count bs (at + 1)))

-- "a procedure byte, 1 to p"
unfoldable pub procedure_at : ℕ → List ℕ → ℕ → Result (ℕ × ℕ) Refusal
procedure_at p bs at =
    and_then_field (next_byte bs at) (λ called.
    cond (eqb called 0 || ltb p called) (Err WrongField) (Ok (called, at + 1)))

-- removals where bit 0 stands in the map: the place behind them
unfoldable pub maybe_removals_at : Bool → List ℕ → ℕ → Result ℕ Refusal
maybe_removals_at true bs at = removals_at bs at
maybe_removals_at false bs at = Ok at

-- the place of the removals' count, 0 where there are none. A place past 16 bits would be passed over: reading comes to none.
unfoldable pub place_of : Bool → ℕ → ℕ
place_of true at = cond (ltb at place_count) at 0
place_of false at = 0

-- the place behind the removals, a count and three bytes each, where bit 0 stands in the map
unfoldable pub after_removals : Bool → List ℕ → ℕ → ℕ
after_removals true bs at = at + 1 + 3 * byte_at bs at
after_removals false bs at = at

-- a kind without fields; what is no kind counts as skip
unfoldable pub plain_record : ℕ → Record
plain_record k =
    cond (eqb k 2) kind.Sequence
    (cond (eqb k 3) kind.If
    (cond (eqb k 9) kind.And
    (cond (eqb k 10) kind.Or
    (cond (eqb k 11) kind.Negation kind.Skip))))

-- NOT, kind 1, or qcase, kind 4
unfoldable pub touch_record : ℕ → ℕ → Number → Record
touch_record k at a = cond (eqb k 1) (kind.Not at a) (kind.Qcase at a)

-- a comparison, kind 6, 7 or 8
unfoldable pub comparison_record : ℕ → Number → Number → Record
comparison_record k a b = cond (eqb k 6) (kind.Greater a b) (cond (eqb k 7) (kind.AtLeast a b) (kind.Equal a b))

-- a call of procedure 1 to p; any other counts as skip
unfoldable pub call_record : ℕ → ℕ → ℕ → Record
call_record p at f = cond (eqb f 0) kind.Skip (cond (ltb p f) kind.Skip (kind.Call at f))

-- by the bits that the map of a kind must have: number a, numbers a and b, a procedure, or none of these
abbrev pub by_fields : {A : Type 0} → ℕ → A → A → A → A → A
by_fields k a b c d =
    cond (eqb (required_map k) 2) a
    (cond (eqb (required_map k) 6) b
    (cond (eqb (required_map k) 8) c d))

-- removals, if any, then number a
unfoldable pub touched_at : Bool → List ℕ → ℕ → Result ((ℕ × Number) × ℕ) Refusal
touched_at removes bs at =
    and_then_field (maybe_removals_at removes bs at) (λ next.
    and_then_field (number_at bs next) (λ a. Ok ((place_of removes at, a.0), a.1)))

unfoldable pub with_number : (ℕ → Number → Record) → Bool → List ℕ → ℕ → Result (Record × ℕ) Refusal
with_number make removes bs at = and_then_field (touched_at removes bs at) (λ t. Ok (make t.0.0 t.0.1, t.1))

-- numbers a and b
unfoldable pub compared_at : List ℕ → ℕ → Result ((Number × Number) × ℕ) Refusal
compared_at bs at = and_then_field (number_at bs at) (λ a. and_then_field (number_at bs a.1) (λ b. Ok ((a.0, b.0), b.1)))

unfoldable pub with_numbers : (Number → Number → Record) → List ℕ → ℕ → Result (Record × ℕ) Refusal
with_numbers make bs at = and_then_field (compared_at bs at) (λ c. Ok (make c.0.0 c.0.1, c.1))

-- removals, if any, then a procedure
unfoldable pub called_at : ℕ → Bool → List ℕ → ℕ → Result ((ℕ × ℕ) × ℕ) Refusal
called_at p removes bs at =
    and_then_field (maybe_removals_at removes bs at) (λ next.
    and_then_field (procedure_at p bs next) (λ f. Ok ((place_of removes at, f.0), f.1)))

unfoldable pub with_procedure : ℕ → Bool → List ℕ → ℕ → Result (Record × ℕ) Refusal
with_procedure p removes bs at = and_then_field (called_at p removes bs at) (λ c. Ok (kind.Call c.0.0 c.0.1, c.1))

-- the fields of a record of this kind, whose map has bit 0 or not
unfoldable pub fields_at : ℕ → ℕ → Bool → List ℕ → ℕ → Result (Record × ℕ) Refusal
fields_at p k removes bs at =
    by_fields k
    (with_number (touch_record k) removes bs at)
    (with_numbers (comparison_record k) bs at)
    (with_procedure p removes bs at)
    (Ok (plain_record k, at))

-- the record of this kind as it is written, its fields at a place: where the reader gives a record, a law says that it is this one
unfoldable pub record_of : ℕ → ℕ → Bool → List ℕ → ℕ → Record
record_of p k removes bs at =
    by_fields k
    (touch_record k (place_of removes at) (written_at bs (after_removals removes bs at)))
    (comparison_record k (written_at bs at) (written_at bs (at + 3)))
    (call_record p (place_of removes at) (byte_at bs (after_removals removes bs at)))
    (plain_record k)

-- a number as the model has it
unfoldable pub number_of : Number → syntax.Number
number_of (Constant z) = syntax.constant z
number_of (SizePlus z) = syntax.size_plus z
number_of (LeftPlus z) = syntax.left_plus z

-- n numbers that stand one after the other from `at` on
unfoldable pub numbers_from : ℕ → List ℕ → ℕ → List syntax.Number
numbers_from zero bs at = []
numbers_from (suc n) bs at = number_of (written_at bs at) ∷ numbers_from n bs (at + 3)

-- the removals whose count stands at a place; none at place 0
unfoldable pub removals_of : List ℕ → ℕ → List syntax.Number
removals_of bs zero = []
removals_of bs (suc at) = numbers_from (byte_at bs (suc at)) bs (suc (suc at))

-- the fields that a record of the table holds
unfoldable pub fields_of : List ℕ → Record → Fields
fields_of bs kind.Skip = no_fields
fields_of bs (kind.Not at a) = touched_fields (removals_of bs at) (number_of a)
fields_of bs kind.Sequence = no_fields
fields_of bs kind.If = no_fields
fields_of bs (kind.Qcase at a) = touched_fields (removals_of bs at) (number_of a)
fields_of bs (kind.Call at f) = called_fields (removals_of bs at) f
fields_of bs (kind.Greater a b) = compared_fields (number_of a) (number_of b)
fields_of bs (kind.AtLeast a b) = compared_fields (number_of a) (number_of b)
fields_of bs (kind.Equal a b) = compared_fields (number_of a) (number_of b)
fields_of bs kind.And = no_fields
fields_of bs kind.Or = no_fields
fields_of bs kind.Negation = no_fields

-- what the model's reader of fields gives where the reader at a place answers so
unfoldable pub fields_parsed : List ℕ → ℕ → Result (Record × ℕ) Refusal → Parsed Fields
fields_parsed bs k (Ok r) = parsed (fields_of bs r.0) (input_at bs r.1 k)
fields_parsed bs k (Err why) = refused (limits.number_of why)

-- where the map is permitted, the answer is the model's reading of the bytes from that place on, however many records came before. At place 0
-- no record stands, and reading comes to no place past 16 bits.
unfoldable pub FieldsRead : ℕ → ℕ → Bool → List ℕ → ℕ → Result (Record × ℕ) Refusal → Type 0
FieldsRead p kind removes bs at r =
    (map k : ℕ) → permitted kind map ≡ true → stands 0 map ≡ removes → kind < kind_count → 0 < at → at < place_count → at ≤ length bs →
    fields_parsed bs k r ≡ fields p map (input_at bs at k)
