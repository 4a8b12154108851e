-- A table's records copied by their places, those of a sequence's second statement before those of its first. A law says that, of a table that was read, these
-- are the bytes of the inverse program.
use Rattle.std.specs.Prelude.{ℕ, zero, suc, Bool, true, false, List, [], ◌++◌}
use Rattle.model.specs.Limits.{most_depth}
use Rattle.decoded.specs.declared.Program as decoded
use Rattle.decoded.specs.DecodedTable.{start_of, root_of, procedure_count}
use Rattle.table.specs.ReadTable.{piece, body_end}
use Rattle.decoded.specs.declared.Parts.{Parts}
use Rattle.decoded.specs.declared.Parts.TheVariants as parts
use Rattle.decoded.specs.Steps.{parts_at}

-- two statements one behind the other, or the second before the first
unfoldable pub in_order : Bool → List ℕ → List ℕ → List ℕ
in_order true first second = second ++ first
in_order false first second = first ++ second

-- a statement at record i, by its parts: up to its first statement it is copied as it stands
unfoldable pub turned_of : (ℕ → ℕ → List ℕ) → List ℕ → decoded.Program → ℕ → ℕ → Parts → List ℕ
turned_of part bs g i end parts.Neither = piece bs (start_of g i) end
turned_of part bs g i end (parts.Call f at) = piece bs (start_of g i) end
turned_of part bs g i end (parts.Two a b in_turn) =
    piece bs (start_of g i) (start_of g a) ++ in_order in_turn (part a (start_of g b)) (part b end)

-- the statement at record i, up to a place, of at most `depth` records from its root down
unfoldable pub turned_at : List ℕ → decoded.Program → ℕ → ℕ → ℕ → List ℕ
turned_at bs g zero i end = piece bs (start_of g i) end
turned_at bs g (suc depth) i end = turned_of (turned_at bs g depth) bs g i end (parts_at g i)

-- the body of f, main at 0
abbrev pub turned_body : List ℕ → decoded.Program → ℕ → List ℕ
turned_body bs g f = turned_at bs g most_depth (root_of g f) (body_end bs g f)

-- the bodies below n, one behind the other
unfoldable pub turned_below : List ℕ → decoded.Program → ℕ → List ℕ
turned_below bs g zero = []
turned_below bs g (suc n) = turned_below bs g n ++ turned_body bs g n

-- the whole table: its first two bytes, edition and p, and the bodies of p procedures with main
unfoldable pub turned_table : List ℕ → decoded.Program → List ℕ
turned_table bs g = piece bs 0 2 ++ turned_below bs g (suc (procedure_count g))
