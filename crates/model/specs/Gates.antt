-- "Emission", on gates, and "The circuit", on what they do.
use Rattle.std.specs.Prelude.{ℕ, min, max, Bool, true, false, not, ◌&&◌, List, [], ◌∷◌, eqb, ltb}
use Rattle.model.specs.Meaning.{State, flipped}

-- "controls that ask a wire for 1 or 0": the wires asked for 1 and those asked for 0, each ascending
pub record Controls : Type 0 where
  pub ones : List ℕ
  pub zeros : List ℕ

abbrev pub no_controls : Controls
no_controls = record { ones = []; zeros = [] }

-- a wire put into an ascending list, once only: one that stands there stays as it is
unfoldable pub insert : ℕ → List ℕ → List ℕ
insert w [] = w ∷ []
insert w (x ∷ l) = elim (ltb w x) [ true ↦ w ∷ x ∷ l | false ↦ elim (eqb w x) [ true ↦ x ∷ l | false ↦ x ∷ insert w l ] ]

-- a wire asked beside others; 0 is no wire, and is not asked
unfoldable pub asked : ℕ → List ℕ → List ℕ
asked w l = elim (eqb w 0) [ true ↦ l | false ↦ insert w l ]

-- one control more: wire w is asked for 1 (true) or 0 (false)
unfoldable pub with_control : ℕ → Bool → Controls → Controls
with_control w true cs = record { ones = asked w cs.ones; zeros = cs.zeros }
with_control w false cs = record { ones = cs.ones; zeros = asked w cs.zeros }

-- "Gates are NOT and swap, under controls"
pub data Gate : Type 0 where
  flip : Controls → ℕ → Gate
  swap : Controls → ℕ → ℕ → Gate

-- the wires that a gate flips or exchanges
unfoldable pub targets : Gate → List ℕ
targets (flip cs t) = t ∷ []
targets (swap cs u v) = u ∷ v ∷ []

-- "a swap's target is its lower wire"
unfoldable pub swap_of : Controls → ℕ → ℕ → Gate
swap_of cs u v = swap cs (min u v) (max u v)

-- the two wires exchanged, every other wire itself
unfoldable pub exchange : ℕ → ℕ → ℕ → ℕ
exchange u v w = elim (eqb w u) [ true ↦ v | false ↦ elim (eqb w v) [ true ↦ u | false ↦ w ] ]

-- a state read through a renaming of the wires
unfoldable pub renamed : (ℕ → ℕ) → State → State
renamed π s = λ w. s (π w)

unfoldable pub all_one : List ℕ → State → Bool
all_one [] s = true
all_one (w ∷ l) s = s w && all_one l s

unfoldable pub all_zero : List ℕ → State → Bool
all_zero [] s = true
all_zero (w ∷ l) s = not (s w) && all_zero l s

-- "every controlled wire holds the bit asked for"
unfoldable pub fires : Controls → State → Bool
fires cs s = all_one cs.ones s && all_zero cs.zeros s

-- "where every controlled wire holds the bit asked for, a NOT flips its target and a swap exchanges its two wires; otherwise the gate changes nothing"
unfoldable pub act : Gate → State → State
act (flip cs t) s = elim (fires cs s) [ true ↦ flipped t s | false ↦ s ]
act (swap cs u v) s = elim (fires cs s) [ true ↦ renamed (exchange u v) s | false ↦ s ]

-- "Gates act in order"
unfoldable pub acts : List Gate → State → State
acts [] s = s
acts (g ∷ gs) s = acts gs (act g s)
