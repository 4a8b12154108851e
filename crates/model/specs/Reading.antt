-- "The program table", as bytes: reading, with refusals 1 to 8 in document 01's order.
use Rattle.std.specs.Prelude.{ℕ, zero, suc, ◌+◌, ◌*◌, ◌-◌, ◌/◌, ◌%◌, ◌^◌, Bool, true, false, ◌&&◌, ◌||◌, cond, List, [], ◌∷◌, length, get_or, drop, eqb, ltb, leb, ℤ, pos, negsuc}
use Rattle.std.proofs.Math.Option.{Option, none, some}
use Rattle.std.proofs.Math.ListN.{get_elem?}
use Rattle.model.specs.Limits.{
  table_edition,
  most_procedures,
  most_records,
  most_depth,
  most_removals,
  table_stops,
  wrong_edition,
  many_procedures,
  wrong_kind,
  wrong_map,
  wrong_field,
  too_deep,
  bytes_left,
}
use Rattle.model.specs.Syntax.{Number, constant, size_plus, left_plus, Condition, greater, at_least, equal, conjunction, disjunction, negation}
use Rattle.model.specs.Syntax.{Statement, skip, NOT, sequence, if, qcase, call, Program}

-- what is still to be read: the bytes, and how many records came before them
pub record Input : Type 0 where
  pub bytes : List ℕ
  pub records : ℕ

-- what is still to be read at a place of some bytes, so many records before it
abbrev pub input_at : List ℕ → ℕ → ℕ → Input
input_at bs at records = record { bytes = drop at bs; records = records }

-- what was read and what is left, or a refusal's number
pub data Parsed (A : Type 0) : Type 0 where
  parsed : A → Input → Parsed A
  refused : ℕ → Parsed A

-- first this, then that; a refusal ends it
unfoldable pub and_then : {A B : Type 0} → Parsed A → (A → Input → Parsed B) → Parsed B
and_then (parsed a i) f = f a i
and_then (refused k) f = refused k

-- go on where the test holds, else refuse
unfoldable pub provided : {A : Type 0} → Bool → ℕ → Parsed A → Parsed A
provided true k x = x
provided false k x = refused k

-- "1 the table stops too soon"
unfoldable pub byte_of : List ℕ → ℕ → Parsed ℕ
byte_of [] records = refused table_stops
byte_of (b ∷ rest) records = parsed b (record { bytes = rest; records = records })

abbrev pub byte : Input → Parsed ℕ
byte i = byte_of i.bytes i.records

-- "a signed 16-bit constant, little-endian"
unfoldable pub signed16 : ℕ → ℕ → ℤ
signed16 low high = cond (ltb (low + 256 * high) 32768) (pos (low + 256 * high)) (negsuc (65535 - (low + 256 * high)))

-- bases 0, 1 and 2; no reader comes to a higher one
unfoldable pub number_of : ℕ → ℤ → Number
number_of zero z = constant z
number_of (suc zero) z = size_plus z
number_of (suc (suc base)) z = left_plus z

-- document 02, S-2: "Base 2 no longer gives 6, under edition 1 too."
abbrev pub most_base : ℕ
most_base = 2

-- "A number is a base byte and a signed 16-bit constant"; a higher base gives 6 before the constant is looked for
unfoldable pub number : Input → Parsed Number
number i = and_then (byte i) (λ base j. provided (leb base most_base) wrong_field
    (and_then (byte j) (λ low k. and_then (byte k) (λ high l. parsed (number_of base (signed16 low high)) l))))

unfoldable pub numbers : ℕ → Input → Parsed (List Number)
numbers zero i = parsed [] i
numbers (suc n) i = and_then (number i) (λ x j. and_then (numbers n j) (λ xs k. parsed (x ∷ xs) k))

-- "bit 0, removals: a count byte 1 to 8, then that many numbers"
unfoldable pub removals : Input → Parsed (List Number)
removals i = and_then (byte i) (λ n j. provided (leb 1 n && leb n most_removals) wrong_field (numbers n j))

-- "bit 3, a procedure byte, 1 to p"
unfoldable pub procedure : ℕ → Input → Parsed ℕ
procedure p i = and_then (byte i) (λ f j. provided (leb 1 f && leb f p) wrong_field (parsed f j))

-- the twelve kinds in their order: 0 to 5 are statements, 6 to 11 conditions
pub data StatementKind : Type 0 where
  skips nots sequences ifs qcases calls : StatementKind

pub data ConditionKind : Type 0 where
  greaters at_leasts equals ands ors negations : ConditionKind

unfoldable pub statement_kind : ℕ → Option StatementKind
statement_kind kind = get_elem? (skips ∷ nots ∷ sequences ∷ ifs ∷ qcases ∷ calls ∷ []) kind

unfoldable pub condition_kind : ℕ → Option ConditionKind
condition_kind kind = cond (ltb kind 6) none (get_elem? (greaters ∷ at_leasts ∷ equals ∷ ands ∷ ors ∷ negations ∷ []) (kind - 6))

-- "The permitted map of each kind stands in one table of twelve entries. Bit 0 is optional for kinds 1, 4 and 5; every other bit is required or forbidden.":
-- each entry holds the required bits, and 16 times the optional one
abbrev pub permitted_maps : List ℕ
permitted_maps = 0x00 ∷ 0x12 ∷ 0x00 ∷ 0x00 ∷ 0x12 ∷ 0x18 ∷ 0x06 ∷ 0x06 ∷ 0x06 ∷ 0x00 ∷ 0x00 ∷ 0x00 ∷ []

abbrev pub required_map : ℕ → ℕ
required_map kind = get_or permitted_maps kind 0 % 16

abbrev pub optional_map : ℕ → ℕ
optional_map kind = get_or permitted_maps kind 0 / 16

abbrev pub permitted : ℕ → ℕ → Bool
permitted kind map = eqb map (required_map kind) || eqb map (required_map kind + optional_map kind)

-- does bit i stand in a map?
abbrev pub stands : ℕ → ℕ → Bool
stands i map = eqb (map / 2 ^ i % 2) 1

-- the fields of a record, as far as its map has them
pub record Fields : Type 0 where
  pub removed : List Number
  pub a : Number
  pub b : Number
  pub called : ℕ

-- a field whose bit does not stand is passed over
unfoldable pub optional : {A : Type 0} → Bool → (Input → Parsed A) → A → Input → Parsed A
optional true reader absent i = reader i
optional false reader absent i = parsed absent i

-- "then only the fields whose bit stands in the map, lowest bit first"
unfoldable pub fields : ℕ → ℕ → Input → Parsed Fields
fields p map i =
    and_then (optional (stands 0 map) removals [] i) (λ rs j.
    and_then (optional (stands 1 map) number (constant (pos 0)) j) (λ a k.
    and_then (optional (stands 2 map) number (constant (pos 0)) k) (λ b l.
    and_then (optional (stands 3 map) (procedure p) 0 l) (λ f m.
    parsed (record { removed = rs; a = a; b = b; called = f }) m))))

-- "4 kind unknown, or condition and statement exchanged"
unfoldable pub known : {K A : Type 0} → Option K → (K → Parsed A) → Parsed A
known none f = refused wrong_kind
known (some k) f = f k

-- "A record is a map byte, a kind byte": 1 where either lacks, then 4
unfoldable pub opening : {K A : Type 0} → (ℕ → Option K) → Input → (ℕ → ℕ → K → Input → Parsed A) → Parsed A
opening sort i f = and_then (byte i) (λ map j. and_then (byte j) (λ kind k. known (sort kind) (λ what. f map kind what k)))

-- one record more
abbrev pub counted : Input → Input
counted i = record { bytes = i.bytes; records = suc i.records }

-- "each record 1 for map and kind, 4, 7, 5, then each field 1 and 6": what comes behind 4, where the record itself is not too deep
unfoldable pub contents : {A : Type 0} → ℕ → ℕ → ℕ → Input → (Fields → Input → Parsed A) → Parsed A
contents p map kind i f =
    provided (ltb i.records most_records) too_deep (provided (permitted kind map) wrong_map (and_then (fields p map (counted i)) f))

-- "a record's children follow it, first child first"
unfoldable pub two : {A B : Type 0} → (Input → Parsed A) → (A → A → B) → Input → Parsed B
two part make i = and_then (part i) (λ x j. and_then (part j) (λ y k. parsed (make x y) k))

unfoldable pub condition_of : (Input → Parsed Condition) → ConditionKind → Fields → Input → Parsed Condition
condition_of part greaters f i = parsed (greater f.a f.b) i
condition_of part at_leasts f i = parsed (at_least f.a f.b) i
condition_of part equals f i = parsed (equal f.a f.b) i
condition_of part ands f i = two part conjunction i
condition_of part ors f i = two part disjunction i
condition_of part negations f i = and_then (part i) (λ c j. parsed (negation c) j)

-- a condition's tree, of at most `depth` records from its root down
unfoldable pub condition : ℕ → ℕ → Input → Parsed Condition
condition p zero i = opening condition_kind i (λ map kind what j. refused too_deep)
condition p (suc depth) i = opening condition_kind i (λ map kind what j.
    contents p map kind j (λ f k. condition_of (condition p depth) what f k))

unfoldable pub statement_of : (Input → Parsed Condition) → (Input → Parsed Statement) → StatementKind → Fields → Input → Parsed Statement
statement_of test part skips f i = parsed skip i
statement_of test part nots f i = parsed (NOT f.removed f.a) i
statement_of test part sequences f i = two part sequence i
statement_of test part ifs f i = and_then (test i) (λ c j. two part (if c) j)
statement_of test part qcases f i = two part (qcase f.removed f.a) i
statement_of test part calls f i = parsed (call f.removed f.called) i

-- a statement's tree, of at most `depth` records from its root down
unfoldable pub statement : ℕ → ℕ → Input → Parsed Statement
statement p zero i = opening statement_kind i (λ map kind what j. refused too_deep)
statement p (suc depth) i = opening statement_kind i (λ map kind what j.
    contents p map kind j (λ f k. statement_of (condition p depth) (statement p depth) what f k))

unfoldable pub statements : ℕ → ℕ → Input → Parsed (List Statement)
statements p zero i = parsed [] i
statements p (suc n) i = and_then (statement p most_depth i) (λ s j. and_then (statements p n j) (λ ss k. parsed (s ∷ ss) k))

-- "Then come the main statement and the bodies of procedures 1 to p, each a tree in preorder"; "The table ends with the last body."
unfoldable pub trees : ℕ → Input → Parsed Program
trees p i =
    and_then (statement p most_depth i) (λ main j. and_then (statements p p j) (λ bodies k.
    provided (eqb (length k.bytes) 0) bytes_left (parsed (record { main = main; procedures = bodies }) k)))

-- "header 1 (fewer than two bytes), 2, 3"
unfoldable pub read_table : List ℕ → Parsed Program
read_table [] = refused table_stops
read_table (edition ∷ []) = refused table_stops
read_table (edition ∷ p ∷ rest) =
    provided (eqb edition table_edition) wrong_edition (provided (leb p most_procedures) many_procedures
    (trees p (record { bytes = rest; records = 0 })))
