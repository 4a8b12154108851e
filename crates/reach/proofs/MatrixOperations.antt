-- One law for each way out of a function: its premises are the tests passed and what the calls on that way ensure, in the code's order.
use mathlib.Core.Path.{◌≡◌, refl, sym, ap, ◌∙◌}
use mathlib.Core.Bool.{Bool, true, false}
use mathlib.Core.List.{List, ◌++◌, map, append-nil}
use Prim.Native.Nat.{ℕ, suc, ◌+◌, ◌*◌, ◌/◌, ◌%◌, ◌^◌, ◌≤◌, ◌<◌}
use native.Mathlib.Numerals.{add-one}
use native.Mathlib.Omega.{arith}
use borrow.Author.Rules.{rules}
use borrow.Author.Tests.{lt-ltb, le-ltb}
use lib.Bits.{bit_and, bit_or}
use lib.ListN.{length, get_or, set, take, drop, length-append, length-map, drop_of_length-le}
use Rattle.std.proofs.lemmas.List.{take-append-drop}
use Rattle.std.proofs.lemmas.List.Edits.{map_over_more}
use Rattle.std.proofs.lemmas.Grind.{get_or_default_zero}
use lib.Dec.{eqb}
use Rattle.model.specs.Limits.{most_procedures}
use Rattle.model.proofs.BooleanLaws.{not_below}
use Rattle.model.proofs.WordBits.{tested, shifted}
use Rattle.reach.specs.Matrix.{row_in, has, entry, mark, joined, through, closed}

-- is a bit in a row?
pub has_here : (row g : ℕ) → g ≤ most_procedures → eqb (bit_and (row / 2 ^ g) 1) 1 ≡ has row g
unfolding has
has_here row g l = rw (le-ltb most_procedures g l) (tested row g)

pub has_past : (row g : ℕ) → most_procedures < g → false ≡ has row g
unfolding has
has_past row g l = rw (lt-ltb most_procedures g l)

pub entry_is : (m : List ℕ) (f g row : ℕ) (r : Bool) → row ≡ row_in m f → r ≡ has row g → r ≡ entry m f g
unfolding entry
entry_is m f g row r e h = rw (← e) h

-- a mark
module _ (m : List ℕ) (f g : ℕ) where
  pub mark_low : most_procedures < f → m ≡ mark f g m
  unfolding mark
  mark_low l = rw (lt-ltb most_procedures f l)

  module _ (lf : f ≤ most_procedures) where
    pub mark_right : most_procedures < g → m ≡ mark f g m
    unfolding mark
    mark_right l = rw (le-ltb most_procedures f lf, lt-ltb most_procedures g l)

    pub mark_there : g ≤ most_procedures → set m f (bit_or (get_or m f 0) ((1 * 2 ^ g) % 2 ^ 32)) ≡ mark f g m
    unfolding mark
    mark_there lg = rw (le-ltb most_procedures f lf, le-ltb most_procedures g lg, shifted 32 g (omega arith))

-- a row that has v, or lacks it
module _ (v w row : ℕ) (b : Bool) (e : b ≡ has row v) where
  pub joined_yes : b ≡ true → bit_or row w ≡ joined v w row
  unfolding joined
  joined_yes y = rw (← e, y)

  pub joined_not : b ≡ false → row ≡ joined v w row
  unfolding joined
  joined_not n = rw (← e, n)

pub ruleset cells = (rules, has_here, has_past, entry_is, mark_low, mark_right, mark_there, joined_yes, joined_not)

-- row after row
pub through_start : (v w : ℕ) (m : List ℕ) → m ≡ map (joined v w) (take 0 m) ++ drop 0 m
through_start v w m = refl

module _ (v w i n : ℕ) (m now : List ℕ) (long : length m ≡ n) (so : now ≡ map (joined v w) (take i m) ++ drop i m) where
  same_length : length now ≡ length m
  same_length =
      ap length so ∙ length-append (map (joined v w) (take i m)) (drop i m)
      ∙ ap (λ (k : ℕ). k + length (drop i m)) (length-map (take i m) (joined v w))
      ∙ sym (length-append (take i m) (drop i m)) ∙ ap length (take-append-drop i m)

  pub through_more : (y : ℕ) → i < n → y ≡ joined v w (get_or now i 0) → set now i y ≡ map (joined v w) (take (i + 1) m) ++ drop (i + 1) m
  through_more y l e =
      let inside : i < length m = rw long l in
      ap (set now i) e ∙ map_over_more (joined v w) m now i (get_or now i 0) inside so
      (sym (get_or_default_zero now i (get_or now i 0) (rw same_length inside)))

  pub through_end : n ≤ i → w ≡ row_in m v → now ≡ through v m
  unfolding through
  through_end l e =
      let past : length m ≤ i = rw long l in
      let whole : take i m ≡ m =
      sym (append-nil (take i m)) ∙ ap (λ (d : List ℕ). take i m ++ d) (sym (drop_of_length-le m past)) ∙ take-append-drop i m in
      so ∙ rw (whole, drop_of_length-le m past, append-nil (map (joined v w) m), e)

-- one procedure after the other
module _ (m m₀ : List ℕ) (v : ℕ) (q : m ≡ closed v m₀) where
  pub close_more : (next : List ℕ) → next ≡ through v m → next ≡ closed (v + 1) m₀
  unfolding closed
  close_more next e = rw (add-one v, ← q) e

  pub close_last : (p : ℕ) (next : List ℕ) → v ≤ p → p ≤ v → next ≡ through v m → next ≡ closed (suc p) m₀
  unfolding closed
  close_last p next l h e = let same : p ≡ v = omega arith in rw (same, ← q) e

pub close_start : (m : List ℕ) → m ≡ closed 0 m
unfolding closed
close_start m = refl

-- a loop up to p is left behind its last turn only
pub left_never : {A : Type 0} (x y : A) (v p : ℕ) → v ≤ p → p < v → x ≡ y
left_never x y v p l h = not_below p v l h

pub ruleset rows = (rules, through_start, through_more, through_end, close_more, close_last, close_start, left_never)
