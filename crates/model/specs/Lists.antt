-- "Meaning", on lists: a number's value, removals, the qubit that NOT and qcase touch, whether a condition holds.
-- A list of qubits is a list of their numbers, 1 to n. Which position is meant, and whether a condition holds, depends on the lists' lengths alone.
use Rattle.std.specs.Prelude.{ℕ, zero, suc, Bool, true, false, not, ◌&&◌, ◌||◌, List, [], ◌∷◌, length, get_or, eqb, ltb, ℤ, pos, negsuc, ◌+ℤ◌}
use Rattle.std.specs.Int.Signed.{lt_z, le_z}
use Rattle.model.specs.Syntax.{Number, constant, size_plus, left_plus, Condition, greater, at_least, equal, conjunction, disjunction, negation}

-- the numbers from a on, n of them
unfoldable pub range : ℕ → ℕ → List ℕ
range zero a = []
range (suc n) a = a ∷ range n (suc a)

-- "Main's list is qubits 1 to n."
abbrev pub qubits : ℕ → List ℕ
qubits n = range n 1

-- the sizes that a number can add: of the procedure's whole list, and of what the removals already done in the record have left of it
pub record Sizes : Type 0 where
  pub whole : ℕ
  pub left : ℕ

-- the sizes where l is the whole list and `now` is what is left of it
abbrev pub sizes : List ℕ → List ℕ → Sizes
sizes l now = record { whole = length l; left = length now }

-- "Base 0 is the constant alone; base 1 adds the size of the procedure's whole list."; document 02, S-2: "Base 2 of a number adds the size of the list
-- left by the removals already done in that record"
abbrev pub value : Number → Sizes → ℤ
value (constant z) s = z
value (size_plus z) s = z +ℤ pos s.whole
value (left_plus z) s = z +ℤ pos s.left

-- a value as a position. Positions count from 1, so 0 stands for all that are at or below zero.
abbrev pub position : ℤ → ℕ
position (pos k) = k
position (negsuc k) = 0

-- the list without its entry number i, counted from 0
unfoldable pub delete : ℕ → List ℕ → List ℕ
delete i [] = []
delete zero (x ∷ l) = l
delete (suc i) (x ∷ l) = x ∷ delete i l

-- "A position outside 1 to the length empties the list"
unfoldable pub remove : ℕ → List ℕ → List ℕ
remove zero l = []
remove (suc i) l = elim (ltb i (length l)) [ true ↦ delete i l | false ↦ [] ]

-- "Removals go left to right, each from what the last one left": what they leave of `now`, where l is the whole list. Each finds the size of what is
-- left just before it.
unfoldable pub remove_all : List ℕ → List Number → List ℕ → List ℕ
remove_all l [] now = now
remove_all l (a ∷ rs) now = remove_all l rs (remove (position (value a (sizes l now))) now)

-- the remaining list
abbrev pub remaining : List Number → List ℕ → List ℕ
remaining rs l = remove_all l rs l

-- the entry at a position, counted from 1; 0, which is no qubit, where there is none (source 000, figure 2, the rules Qu)
abbrev pub entry : List ℕ → ℕ → ℕ
entry l k = get_or (0 ∷ l) k 0

-- "NOT and qcase touch the entry at position a of the remaining list. A position at or below zero, or past the end, touches nothing": then this is 0.
-- All removals of the record are done before its position a.
abbrev pub touched : List Number → Number → List ℕ → ℕ
touched rs a l = entry (remaining rs l) (position (value a (sizes l (remaining rs l))))

-- the value of a number in a comparison, where nothing is removed. Document 02, S-2: "in a comparison it equals base 1"
abbrev pub compared_value : Number → List ℕ → ℤ
compared_value a l = value a (sizes l l)

-- "its condition holds for its numbers", where l is the whole list
unfoldable pub holds : Condition → List ℕ → Bool
holds (greater a b) l = lt_z (compared_value b l) (compared_value a l)
holds (at_least a b) l = le_z (compared_value b l) (compared_value a l)
holds (equal a b) l = le_z (compared_value a l) (compared_value b l) && le_z (compared_value b l) (compared_value a l)
holds (conjunction c d) l = holds c l && holds d l
holds (disjunction c d) l = holds c l || holds d l
holds (negation c) l = not (holds c l)

-- is w in the list?
unfoldable pub member : ℕ → List ℕ → Bool
member w [] = false
member w (x ∷ l) = eqb w x || member w l
