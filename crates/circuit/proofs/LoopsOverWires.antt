-- What the loops over wires keep: one turn takes the first of the wires that are left.
use mathlib.Core.Path.{◌≡◌, refl, sym}
use mathlib.Core.Bool.{Bool, true, false, not, ◌&&◌, ◌||◌, and-true}
use mathlib.Core.List.{List, [], ◌∷◌}
use Prim.Native.Nat.{ℕ, ◌+◌, ◌≤◌, ◌<◌}
use native.Mathlib.Numerals.{add-one}
use native.Mathlib.Omega.{arith}
use lib.ListN.{length, get_or, drop, drop_of_length-le}
use lib.Seq.{drop-cons}
use Rattle.circuit.specs.GateChecks.{misfits, list_fits}

-- what is left of a list from a place where it has a wire
pub left_step : (l : List ℕ) (i : ℕ) → i < length l → drop i l ≡ get_or l i 0 ∷ drop (i + 1) l
left_step l i h = rw (drop-cons l i 0 h, add-one)

-- behind its end there is nothing
pub left_none : (l : List ℕ) (i : ℕ) → length l ≤ i → drop i l ≡ []
left_none l i h = drop_of_length-le l h

-- the ways out of `list_fits`; its loop keeps: no wire was bad and what is left behind the wire before fits
pub fits_none : (most u v : ℕ) (l : List ℕ) → length l ≡ 0 → true ≡ list_fits 0 most u v l
unfolding list_fits
fits_none most u v [] h = refl
fits_none most u v (w ∷ l) h = absurd (omega arith)

module _ (most u v first : ℕ) (rest l : List ℕ) (is : l ≡ first ∷ rest) where
  pub fits_first : (x : Bool) → x ≡ misfits 0 most u v first → list_fits 0 most u v l ≡ not x && list_fits (get_or l 0 0) most u v (drop 0 rest)
  unfolding list_fits
  fits_first x x_is = rw (is, x_is)

  pub fits_next : (i : ℕ) (bad x whole : Bool) → i < length rest → x ≡ misfits (get_or l i 0) most u v (get_or rest i 0) →
      whole ≡ not bad && list_fits (get_or l i 0) most u v (drop i rest) →
      whole ≡ not (bad || x) && list_fits (get_or l (i + 1) 0) most u v (drop (i + 1) rest)
  unfolding list_fits
  fits_next i bad x whole h x_is inv =
      let e : get_or l (i + 1) 0 ≡ get_or rest i 0 = rw (is, add-one) in
      rw (inv, left_step rest i h, ← x_is, e) (by bad x (list_fits (get_or rest i 0) most u v (drop (i + 1) rest)))
    where
      by : (a b c : Bool) → not a && (not b && c) ≡ not (a || b) && c
      by true b c = refl
      by false b c = refl

pub fits_all : (most u v low : ℕ) (l : List ℕ) (i : ℕ) (bad whole : Bool) → length l ≤ i →
    whole ≡ not bad && list_fits low most u v (drop i l) → not bad ≡ whole
unfolding list_fits
fits_all most u v low l i bad whole h inv = rw (inv, left_none l i h) (sym (and-true (not bad)))
