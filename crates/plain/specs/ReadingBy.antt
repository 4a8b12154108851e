-- `model/specs/Reading`, from a number on, where `number` reads a number.
use Rattle.std.specs.Prelude.{ℕ, zero, suc, ◌&&◌, List, [], ◌∷◌, length, eqb, ltb, leb, pos}
use Rattle.model.specs.Limits.{
  table_edition,
  most_procedures,
  most_records,
  most_depth,
  most_removals,
  table_stops,
  wrong_edition,
  many_procedures,
  wrong_map,
  wrong_field,
  too_deep,
  bytes_left,
}
use Rattle.model.specs.Syntax.{Number, constant, Condition, Statement, Program}
use Rattle.model.specs.Reading.{
  Input,
  Parsed,
  parsed,
  refused,
  and_then,
  provided,
  byte,
  procedure,
  statement_kind,
  condition_kind,
  permitted,
  stands,
  Fields,
  optional,
  opening,
  counted,
  condition_of,
  statement_of,
}

-- a reader of numbers
abbrev pub NumberReader : Type 0
NumberReader = Input → Parsed Number

module _ (number : NumberReader) where
  unfoldable pub numbers_by : ℕ → Input → Parsed (List Number)
  numbers_by zero i = parsed [] i
  numbers_by (suc n) i = and_then (number i) (λ x j. and_then (numbers_by n j) (λ xs k. parsed (x ∷ xs) k))

  unfoldable pub removals_by : Input → Parsed (List Number)
  removals_by i = and_then (byte i) (λ n j. provided (leb 1 n && leb n most_removals) wrong_field (numbers_by n j))

  unfoldable pub fields_by : ℕ → ℕ → Input → Parsed Fields
  fields_by p map i =
      and_then (optional (stands 0 map) removals_by [] i) (λ rs j.
      and_then (optional (stands 1 map) number (constant (pos 0)) j) (λ a k.
      and_then (optional (stands 2 map) number (constant (pos 0)) k) (λ b l.
      and_then (optional (stands 3 map) (procedure p) 0 l) (λ f m.
      parsed (record { removed = rs; a = a; b = b; called = f }) m))))

  unfoldable pub contents_by : {A : Type 0} → ℕ → ℕ → ℕ → Input → (Fields → Input → Parsed A) → Parsed A
  contents_by p map kind i f =
      provided (ltb i.records most_records) too_deep (provided (permitted kind map) wrong_map (and_then (fields_by p map (counted i)) f))

  unfoldable pub condition_by : ℕ → ℕ → Input → Parsed Condition
  condition_by p zero i = opening condition_kind i (λ map kind what j. refused too_deep)
  condition_by p (suc depth) i = opening condition_kind i (λ map kind what j.
      contents_by p map kind j (λ f k. condition_of (condition_by p depth) what f k))

  unfoldable pub statement_by : ℕ → ℕ → Input → Parsed Statement
  statement_by p zero i = opening statement_kind i (λ map kind what j. refused too_deep)
  statement_by p (suc depth) i = opening statement_kind i (λ map kind what j.
      contents_by p map kind j (λ f k. statement_of (condition_by p depth) (statement_by p depth) what f k))

  unfoldable pub statements_by : ℕ → ℕ → Input → Parsed (List Statement)
  statements_by p zero i = parsed [] i
  statements_by p (suc n) i = and_then (statement_by p most_depth i) (λ s j. and_then (statements_by p n j) (λ ss k. parsed (s ∷ ss) k))

  unfoldable pub trees_by : ℕ → Input → Parsed Program
  trees_by p i =
      and_then (statement_by p most_depth i) (λ main j. and_then (statements_by p p j) (λ bodies k.
      provided (eqb (length k.bytes) 0) bytes_left (parsed (record { main = main; procedures = bodies }) k)))

  unfoldable pub read_table_by : List ℕ → Parsed Program
  read_table_by [] = refused table_stops
  read_table_by (edition ∷ []) = refused table_stops
  read_table_by (edition ∷ p ∷ rest) =
      provided (eqb edition table_edition) wrong_edition (provided (leb p most_procedures) many_procedures
      (trees_by p (record { bytes = rest; records = 0 })))
