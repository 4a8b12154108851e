-- A gate's checks as the code makes them.
use Rattle.std.specs.Prelude.{ℕ, Bool, true, false, not, ◌&&◌, ◌||◌, List, [], ◌∷◌, get_or, set, replicate, eqb, ltb, leb}
use Rattle.limits.specs.Sizes.{wire_count}
use Rattle.circuit.specs.declared.Action.{Action}
use Rattle.circuit.specs.declared.Action.TheVariants.{Not, Swap}

-- a wire that is not above `low`, is above `most`, or is one of the gate's own wires u and v
abbrev pub misfits : ℕ → ℕ → ℕ → ℕ → ℕ → Bool
misfits low most u v w = leb w low || ltb most w || eqb u w || eqb v w

-- the wires of a list ascend from above `low` to at most `most`, and neither u nor v is one of them
unfoldable pub list_fits : ℕ → ℕ → ℕ → ℕ → List ℕ → Bool
list_fits low most u v [] = true
list_fits low most u v (w ∷ l) = not (misfits low most u v w) && list_fits w most u v l

-- each wire of a list is put into a set
unfoldable pub mark_all : List ℕ → List Bool → List Bool
mark_all [] s = s
mark_all (w ∷ l) s = mark_all l (set s w true)

-- the wires of a list as a set: true at the number of each
unfoldable pub set_of : List ℕ → List Bool
set_of l = mark_all l (replicate wire_count false)

-- is a wire of the list in the set?
unfoldable pub any_in : List Bool → List ℕ → Bool
any_in s [] = false
any_in s (w ∷ l) = get_or s w false || any_in s l

-- a gate's own wires are 1 to `most`, and a swap's second is above its first
abbrev pub placed : ℕ → Action → Bool
placed most (Not u) = leb 1 u && leb u most
placed most (Swap u v) = leb 1 u && ltb u v && leb v most

-- the first and the last of them: a NOT has one
abbrev pub own_wires : Action → ℕ × ℕ
own_wires (Not u) = (u, u)
own_wires (Swap u v) = (u, v)

-- a NOT or a swap under controls
abbrev pub checked : ℕ → Action → List ℕ → List ℕ → Bool
checked most a ones zeros =
    placed most a && list_fits 0 most (own_wires a).0 (own_wires a).1 ones && list_fits 0 most (own_wires a).0 (own_wires a).1 zeros && not (any_in (set_of zeros) ones)
