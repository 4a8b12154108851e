-- Lists of wires: ascending ones have no wire twice, and bounds hold for every wire.
use mathlib.Core.Path.{◌≡◌, refl, sym}
use mathlib.Core.Bool.{true, false, ◌&&◌, and_assoc}
use mathlib.Core.List.{List, [], ◌∷◌, ◌++◌}
use Prim.Native.Nat.{ℕ, ◌≤◌, ◌<◌}
use native.Mathlib.Omega.{arith}
use borrow.Author.Tests.{ltb-true, leb-true}
use lib.Dec.{ltb, leb}
use Rattle.model.specs.Lists.{member}
use Rattle.model.specs.Circuit.{ascends, distinct, within}
use Rattle.model.proofs.BooleanLaws.{not_true_false, and_left, and_right}
use Rattle.model.proofs.ListLaws.{member_cases, not_in_nil}

-- the wires behind the first of an ascending list ascend, and each is larger
pub ascends_tail : (w : ℕ) (l : List ℕ) → ascends (w ∷ l) ≡ true → ascends l ≡ true
unfolding ascends
ascends_tail w [] a = refl
ascends_tail w (x ∷ l) a = and_right (ltb w x) (ascends (x ∷ l)) a

pub ascends_larger : (w : ℕ) (l : List ℕ) → ascends (w ∷ l) ≡ true → (v : ℕ) → member v l ≡ true → w < v
unfolding ascends
ascends_larger w [] a v m = not_in_nil v m
ascends_larger w (x ∷ l) a v m =
    let less = ltb-true w x (and_left (ltb w x) (ascends (x ∷ l)) a) in
    member_cases v x l m
    (λ e. rw e less)
    (λ i. let larger = ascends_larger x l (and_right (ltb w x) (ascends (x ∷ l)) a) v i in omega arith)

pub ascends_fresh : (w : ℕ) (l : List ℕ) → ascends (w ∷ l) ≡ true → member w l ≡ false
ascends_fresh w l a = not_true_false (member w l) (λ m. let h : w < w = ascends_larger w l a w m in omega arith)

-- so no wire stands twice
pub ascends_distinct : (l : List ℕ) → ascends l ≡ true → distinct l ≡ true
unfolding distinct
ascends_distinct [] a = refl
ascends_distinct (w ∷ l) a = rw (ascends_fresh w l a) (ascends_distinct l (ascends_tail w l a))

-- wires 1 to most
pub within_head : (most w : ℕ) (l : List ℕ) → within most (w ∷ l) ≡ true → (1 ≤ w) × (w ≤ most)
unfolding within
within_head most w l h =
    let both = and_left (leb 1 w && leb w most) (within most l) h in
    (leb-true 1 w (and_left (leb 1 w) (leb w most) both), leb-true w most (and_right (leb 1 w) (leb w most) both))

pub within_tail : (most w : ℕ) (l : List ℕ) → within most (w ∷ l) ≡ true → within most l ≡ true
unfolding within
within_tail most w l h = and_right (leb 1 w && leb w most) (within most l) h

pub within_member : (most w : ℕ) (l : List ℕ) → within most l ≡ true → member w l ≡ true → (1 ≤ w) × (w ≤ most)
within_member most w [] h m = not_in_nil w m
within_member most w (x ∷ l) h m = member_cases w x l m
    (λ e. rw e (within_head most x l h))
    (λ i. within_member most w l (within_tail most x l h) i)

pub within_append : (most : ℕ) (l m : List ℕ) → within most (l ++ m) ≡ within most l && within most m
unfolding within
within_append most [] m = refl
within_append most (w ∷ l) m = rw (within_append most l m) (sym (and_assoc (leb 1 w && leb w most) (within most l) (within most m)))
