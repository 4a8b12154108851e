-- The widths that are kept with a program: what is promised of them, and that nothing else of the program changes.
use Rattle.std.specs.Prelude.{ℕ, zero, suc, ◌+◌, ◌≤◌, ◌<◌, min, max, ◌≡◌, Bool, true, false, List, ltb}
use Rattle.model.specs.Limits.{most_records, most_depth}
use Rattle.model.specs.Reach.{recursive, width, any_below}
use Rattle.decoded.specs.declared.Program as decoded
use Rattle.decoded.specs.DecodedTable.{Whole, width_in, root_of, procedure_count, statement_at, body_at, program_at, Unseen}
use Rattle.table.specs.ReadTable.{BodiesNumbered}
use Rattle.decoded.specs.declared.Parts.{Parts}
use Rattle.decoded.specs.declared.Parts.TheVariants as parts
use Rattle.reach.specs.Matrix.{recursive_in}
use Rattle.decoded.specs.Steps.{parts_at}

-- the width of two statements, of which more than 2 is no more than 2: in turn the sum, of which one is chosen the larger
unfoldable pub joined_width : Bool → ℕ → ℕ → ℕ
joined_width true a b = min 2 (a + b)
joined_width false a b = max a b

-- what is known of the parts of a statement
abbrev pub OfParts : (ℕ → Type 0) → Parts → Type 0
OfParts K parts.Neither = Unit {0}
OfParts K (parts.Two a b t) = K a × K b
OfParts K (parts.Call f at) = Unit {0}

-- the width kept for the statement at record i, and that of every statement in it, is its width, of which more than 2 is no more than 2; `r f` says that a call to f
-- is recursive
unfoldable pub Known : (ℕ → Bool) → decoded.Program → ℕ → ℕ → Type 0
Known r g zero i = width_in g i ≡ 0
Known r g (suc depth) i = (width_in g i ≡ min 2 (width r (statement_at g (suc depth) i))) × OfParts (Known r g depth) (parts_at g i)

-- the records of the statement at record i are those from i on and before `end`; those of its parts come one behind the other
abbrev pub PartsInOrder : (ℕ → ℕ → Type 0) → ℕ → ℕ → Parts → Type 0
PartsInOrder order i end parts.Neither = Unit {0}
PartsInOrder order i end (parts.Two a b t) = (i < a) × order a b × order b end
PartsInOrder order i end (parts.Call f at) = Unit {0}

unfoldable pub InOrder : decoded.Program → ℕ → ℕ → ℕ → Type 0
InOrder g zero i end = i < end
InOrder g (suc depth) i end = (i < end) × PartsInOrder (InOrder g depth) i end (parts_at g i)

-- a width that was counted, w, and the program that it left, h: where the records are in order, the widths of the statement and of those in it are known, and every other
-- width is as it was
pub record Notes (r : ℕ → Bool) (depth i : ℕ) (g : decoded.Program) (w : ℕ) (h : decoded.Program) : Type 0 where
  pub counted : w ≡ min 2 (width r (statement_at g depth i))
  pub unseen : Unseen g h
  pub whole : Whole g → Whole h
  pub known : Whole g → (end : ℕ) → end ≤ most_records → InOrder g depth i end → Known r h depth i
  pub before : (end : ℕ) → end ≤ most_records → InOrder g depth i end → (j : ℕ) → j < i → width_in h j ≡ width_in g j
  pub behind : (end : ℕ) → end ≤ most_records → InOrder g depth i end → (j : ℕ) → end ≤ j → width_in h j ≡ width_in g j

pub data Noted (r : ℕ → Bool) (depth i : ℕ) (g : decoded.Program) (w : ℕ) (h : decoded.Program) : Type 0 where
  noted : Notes r depth i g w h → Noted r depth i g w h

-- is the body of f too wide, by the matrix?
unfoldable pub wide_in : List ℕ → decoded.Program → ℕ → Bool
wide_in m g f = ltb 1 (width (recursive_in m f) (body_at g f))

-- is one of the bodies, main and each procedure?
abbrev pub any_wide_in : List ℕ → decoded.Program → Bool
any_wide_in m g = any_below (suc (procedure_count g)) (wide_in m g)

-- all widths of the bodies below n are known
abbrev pub KnownBelow : List ℕ → decoded.Program → ℕ → Type 0
KnownBelow m g n = (f : ℕ) → f < n → Known (recursive_in m f) g most_depth (root_of g f)

-- whether one of the bodies below n is too wide, and the program that is left: where none is, all their widths are known
pub record Judges (m : List ℕ) (g : decoded.Program) (n : ℕ) (wide : Bool) (h : decoded.Program) : Type 0 where
  pub told : wide ≡ any_below n (wide_in m g)
  pub unseen : Unseen g h
  pub whole : Whole g → Whole h
  pub known : wide ≡ false → n ≤ suc (procedure_count g) → BodiesNumbered g → KnownBelow m h n

pub data Judged (m : List ℕ) (g : decoded.Program) (n : ℕ) (wide : Bool) (h : decoded.Program) : Type 0 where
  judged : Judges m g n wide h → Judged m g n wide h

-- the widths of all bodies, main and each procedure, are known
abbrev pub WidthsKnown : decoded.Program → Type 0
WidthsKnown g = (f : ℕ) → f ≤ procedure_count g → Known (recursive (program_at g) f) g most_depth (root_of g f)
