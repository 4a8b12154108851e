-- Wires as a set: what the loops of `set_of` and `share` keep, and that a set has the wires of its list.
use mathlib.Core.Path.{◌≡◌, refl, sym, ◌∙◌}
use mathlib.Core.Bool.{Bool, true, false, ◌||◌, or-true, or-false, or_assoc}
use mathlib.Core.List.{List, [], ◌∷◌}
use Prim.Native.Nat.{ℕ, ◌+◌, ◌≤◌, ◌<◌}
use native.Mathlib.Omega.{arith}
use borrow.Author.Tests.{eq-eqb, ne_eqb}
use lib.ListN.{length, get_or, drop, set, length-set, replicate, length-replicate, get_or-replicate, get_or-eq_default}
use lib.Seq.{get_or-set_same, get_or-set_other}
use Rattle.limits.specs.Sizes.{wire_count}
use Rattle.model.specs.Lists.{member}
use Rattle.model.proofs.BooleanLaws.{by_eq, by_lt}
use Rattle.circuit.specs.GateChecks.{mark_all, set_of, any_in}
use Rattle.circuit.proofs.LoopsOverWires.{left_step, left_none}

-- what the loop of `set_of` keeps: the set so far with what is left is the whole set
module _ (l : List ℕ) (i : ℕ) (s whole : List Bool) (inv : whole ≡ mark_all (drop i l) s) where
  pub mark_next : i < length l → whole ≡ mark_all (drop (i + 1) l) (set s (get_or l i 0) true)
  unfolding mark_all
  mark_next h = rw (inv, left_step l i h, mark_all)

  pub mark_done : length l ≤ i → s ≡ whole
  unfolding mark_all
  mark_done h = rw (inv, left_none l i h)

repeated : (n w : ℕ) → get_or (replicate n false) w false ≡ false
repeated n w = by_lt w n
    (λ l. get_or-replicate n w false false l)
    (λ g. get_or-eq_default (replicate n false) false (rw (length-replicate n false) g))

none_in : (n : ℕ) (l : List ℕ) → any_in (replicate n false) l ≡ false
unfolding any_in
none_in n [] = refl
none_in n (w ∷ l) = rw (repeated n w) (none_in n l)

-- what the loop of `share` keeps: a wire so far was in the set or one that is left is
module _ (l : List ℕ) (i : ℕ) (s : List Bool) (shared whole : Bool) (inv : whole ≡ shared || any_in s (drop i l)) where
  pub any_next : i < length l → whole ≡ (shared || get_or s (get_or l i 0) false) || any_in s (drop (i + 1) l)
  unfolding any_in
  any_next h = rw (inv, left_step l i h) (sym (or_assoc shared (get_or s (get_or l i 0) false) (any_in s (drop (i + 1) l))))

  pub any_done : length l ≤ i → shared ≡ whole
  unfolding any_in
  any_done h = rw (inv, left_none l i h) (sym (or-false shared))

-- no wire shares nothing, on either side
pub none_first : (s : List Bool) (l : List ℕ) → length l ≡ 0 → false ≡ any_in s l
unfolding any_in
none_first s [] h = refl
none_first s (w ∷ l) h = absurd (omega arith)

pub none_second : (l m : List ℕ) → length m ≡ 0 → false ≡ any_in (set_of m) l
unfolding mark_all set_of
none_second l [] h = sym (none_in wire_count l)
none_second l (w ∷ m) h = absurd (omega arith)

-- a set has the wires put into it and those that it had
marked : (l : List ℕ) (s : List Bool) (w : ℕ) → w < length s → get_or (mark_all l s) w false ≡ member w l || get_or s w false
unfolding mark_all member
marked [] s w h = refl
marked (v ∷ l) s w h = marked l (set s v true) w (rw (length-set s v true) h) ∙ by_eq w v
    (λ e. rw (e, eq-eqb v v refl, get_or-set_same s v true false (rw e at h), or-true (member v l)))
    (λ f. rw (ne_eqb w v f, get_or-set_other s v w true false f))

-- the set of a list has the wires of the list
pub set_has : (l : List ℕ) (w : ℕ) → w < wire_count → get_or (set_of l) w false ≡ member w l
unfolding set_of
set_has l w h =
    marked l (replicate wire_count false) w (rw (length-replicate wire_count false) h) ∙ rw (repeated wire_count w) (or-false (member w l))
