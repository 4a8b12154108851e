-- What the step of a record says of the statement at that record.
use mathlib.Core.Path.{◌≡◌, refl}
use mathlib.Core.Bool.{true, false}
use mathlib.Core.List.{List}
use Prim.Native.Nat.{ℕ, zero, suc, ◌+◌, ◌-◌}
use native.Mathlib.Numerals.{sub-one}
use Rattle.model.specs.Syntax.{Number, Condition, Statement, skip, NOT, sequence, if, qcase, call}
use Rattle.records.specs.declared.Record.{Record}
use Rattle.records.specs.declared.Record.TheVariants as kind
use Rattle.records.specs.Fields.{number_of}
use Rattle.decoded.specs.declared.Program.{Program}
use Rattle.decoded.specs.DecodedTable.{end_of, removals_in, record_in, test_at, statement_of, statement_at}
use Rattle.decoded.specs.declared.Parts.{Parts}
use Rattle.decoded.specs.declared.Parts.TheVariants as parts
use Rattle.decoded.specs.Steps.{step_of, parts_of, parts_at}

-- a statement as the parts of its record name it, where `part` gives the statement at a record
pub data ArePartsOf (part : ℕ → Statement) (g : Program) : Parts → Statement → Type 0 where
  as_skip : ArePartsOf part g parts.Neither skip
  as_not : (rs : List Number) (a : Number) → ArePartsOf part g parts.Neither (NOT rs a)
  as_sequence : (a b : ℕ) → ArePartsOf part g (parts.Two a b true) (sequence (part a) (part b))
  as_if : (c : Condition) (a b : ℕ) → ArePartsOf part g (parts.Two a b false) (if c (part a) (part b))
  as_qcase : (rs : List Number) (q : Number) (a b : ℕ) → ArePartsOf part g (parts.Two a b false) (qcase rs q (part a) (part b))
  as_call : (f at : ℕ) → ArePartsOf part g (parts.Call f at) (call (removals_in g at) f)

module _ (test : ℕ → Condition) (part : ℕ → Statement) (g : Program) (i : ℕ) where
  parts_of_lem : (r : Record) → ArePartsOf part g (parts_of (step_of g i r)) (statement_of test part g i r)
  unfolding parts_of step_of statement_of
  parts_of_lem kind.Skip = as_skip
  parts_of_lem (kind.Not at a) = as_not (removals_in g i) (number_of a)
  parts_of_lem kind.Sequence = as_sequence (i + 1) (end_of g (i + 1))
  parts_of_lem kind.If = as_if (test (i + 1)) (end_of g (i + 1)) (end_of g (end_of g (i + 1)))
  parts_of_lem (kind.Qcase at a) = as_qcase (removals_in g i) (number_of a) (i + 1) (end_of g (i + 1))
  parts_of_lem (kind.Call at f) = as_call f i
  parts_of_lem (kind.Greater a b) = as_skip
  parts_of_lem (kind.AtLeast a b) = as_skip
  parts_of_lem (kind.Equal a b) = as_skip
  parts_of_lem kind.And = as_skip
  parts_of_lem kind.Or = as_skip
  parts_of_lem kind.Negation = as_skip

-- the parts of record i are those of the statement there
pub are_parts : (g : Program) (depth i : ℕ) → ArePartsOf (statement_at g depth) g (parts_at g i) (statement_at g (suc depth) i)
unfolding statement_at
are_parts g d i =
    parts_of_lem (test_at g d) (statement_at g d) g i (record_in g i)

pub parts_here : (g : Program) (depth i : ℕ) → (depth ≡ 0 → ⊥) → (x : Parts) → x ≡ parts_at g i →
    ArePartsOf (statement_at g (depth - 1)) g x (statement_at g depth i)
parts_here g zero i deep x e = absurd (deep refl)
parts_here g (suc d) i deep x e = rw (e, sub-one) (are_parts g d i)
