-- Lists of qubits: membership; removals commute with a renaming, keep a part of the list without repetition, and shorten it.
use mathlib.Core.Path.{◌≡◌, refl, sym, ap, ◌∙◌, subst}
use mathlib.Core.Logic.{◌≢◌}
use mathlib.Core.Bool.{true, false, ◌||◌, or_assoc, true≢false}
use mathlib.Core.List.{List, [], ◌∷◌, ◌++◌, map}
use Prim.Native.Nat.{ℕ, zero, suc, ◌+◌, ◌-◌, ◌≤◌, ◌<◌, zero-le, suc-le-suc}
use native.Mathlib.Nat.{not-suc-le-zero, le_of_suc-le-suc, sub-zero}
use native.Mathlib.Omega.{arith}
use borrow.Author.Tests.{eqb-true, ne_eqb, ltb-true}
use lib.ListN.{get_or, length, length-map, get_or-map, take, drop}
use lib.Seq.{take-nil}
use lib.Dec.{eqb, ltb}
use Rattle.model.specs.Syntax.{Number, Condition, greater, at_least, equal, conjunction, disjunction, negation}
use Rattle.model.specs.Lists.{range, qubits, sizes, value, position, delete, remove, remove_all, remaining, touched, holds, member}
use Rattle.model.proofs.BooleanLaws.{by_bool, eqb_same, clash, not_true_false, or_cases, or-false, or_right, or_false_right}

-- membership
pub member_head : (w : ℕ) (l : List ℕ) → member w (w ∷ l) ≡ true
unfolding member
member_head w l = rw (eqb_same w)

pub member_tail : (w x : ℕ) (l : List ℕ) → member w l ≡ true → member w (x ∷ l) ≡ true
unfolding member
member_tail w x l h = or_right (eqb w x) (member w l) h

pub member_nil : (w : ℕ) → member w [] ≡ false
unfolding member
member_nil w = refl

pub not_in_nil {ℓ} : {A : Type ℓ} (w : ℕ) → member w [] ≡ true → A
not_in_nil w h = clash h (member_nil w)

pub member_cases {ℓ} : {A : Type ℓ} (w x : ℕ) (l : List ℕ) → member w (x ∷ l) ≡ true → (w ≡ x → A) → (member w l ≡ true → A) → A
unfolding member
member_cases w x l h f g = or_cases (eqb w x) (member w l) h (λ e. f (eqb-true w x e)) g

pub member_skip : (w x : ℕ) (l : List ℕ) → w ≢ x → member w l ≡ false → member w (x ∷ l) ≡ false
unfolding member
member_skip w x l n h = or-false (eqb w x) (member w l) (ne_eqb w x n) h

pub member_append : (w : ℕ) (l m : List ℕ) → member w (l ++ m) ≡ member w l || member w m
unfolding member
member_append w [] m = refl
member_append w (x ∷ l) m = rw (member_append w l m) (sym (or_assoc (eqb w x) (member w l) (member w m)))

-- a member and a non-member differ
pub member_differs : (w v : ℕ) (l : List ℕ) → member w l ≡ true → member v l ≡ false → w ≢ v
member_differs w v l h n e = true≢false (sym h ∙ ap (λ k. member k l) e ∙ n)

pub not_head : (w x : ℕ) (l : List ℕ) → member w (x ∷ l) ≡ false → w ≢ x
unfolding member
not_head w x l h e = true≢false (sym (rw (e, eqb_same x)) ∙ h)

pub not_tail : (w x : ℕ) (l : List ℕ) → member w (x ∷ l) ≡ false → member w l ≡ false
unfolding member
not_tail w x l h = or_false_right (eqb w x) (member w l) h

-- every member of a is one of b
abbrev pub Subset : List ℕ → List ℕ → Type 0
Subset a b = (w : ℕ) → member w a ≡ true → member w b ≡ true

-- no entry stands twice
abbrev pub Distinct : List ℕ → Type 0
Distinct [] = Unit {0}
Distinct (x ∷ l) = (member x l ≡ false) × Distinct l

pub subset_out : (a b : List ℕ) → Subset a b → (w : ℕ) → member w b ≡ false → member w a ≡ false
subset_out a b h w n = not_true_false (member w a) (λ e. clash (h w e) n)

-- deleting one entry
delete_map : (π : ℕ → ℕ) (i : ℕ) (l : List ℕ) → map π (delete i l) ≡ delete i (map π l)
unfolding delete
delete_map π i [] = refl
delete_map π zero (x ∷ l) = refl
delete_map π (suc i) (x ∷ l) = rw (delete_map π i l)

delete_subset : (i : ℕ) (l : List ℕ) → Subset (delete i l) l
unfolding delete
delete_subset i [] w h = h
delete_subset zero (x ∷ l) w h = member_tail w x l h
delete_subset (suc i) (x ∷ l) w h = member_cases w x (delete i l) h
    (λ e. rw e (member_head x l))
    (λ m. member_tail w x l (delete_subset i l w m))

delete_distinct : (i : ℕ) (l : List ℕ) → Distinct l → Distinct (delete i l)
unfolding delete
delete_distinct i [] d = tt
delete_distinct zero (x ∷ l) d = d.1
delete_distinct (suc i) (x ∷ l) d = (subset_out (delete i l) l (delete_subset i l) x d.0, delete_distinct i l d.1)

delete_shorter : (i : ℕ) (l : List ℕ) → i < length l → length (delete i l) < length l
unfolding delete
delete_shorter i [] h = absurd (not-suc-le-zero h)
delete_shorter zero (x ∷ l) h = omega arith
delete_shorter (suc i) (x ∷ l) h = suc-le-suc (delete_shorter i l (le_of_suc-le-suc h))

-- one removal
pub remove_in : (i : ℕ) (l : List ℕ) → ltb i (length l) ≡ true → remove (suc i) l ≡ delete i l
unfolding remove
remove_in i l h = rw (h, remove)

pub remove_out : (i : ℕ) (l : List ℕ) → ltb i (length l) ≡ false → remove (suc i) l ≡ []
unfolding remove
remove_out i l h = rw (h, remove)

remove_map : (π : ℕ → ℕ) (k : ℕ) (l : List ℕ) → map π (remove k l) ≡ remove k (map π l)
unfolding remove
remove_map π zero l = refl
remove_map π (suc i) l = by_bool (ltb i (length l))
    (λ e. rw (remove_in i l e, remove_in i (map π l) (rw (length-map l π) e)) (delete_map π i l))
    (λ e. rw (remove_out i l e, remove_out i (map π l) (rw (length-map l π) e)))

remove_subset : (k : ℕ) (l : List ℕ) → Subset (remove k l) l
unfolding remove
remove_subset zero l w h = not_in_nil w h
remove_subset (suc i) l w h = by_bool (ltb i (length l))
    (λ e. delete_subset i l w (rw (remove_in i l e) at h))
    (λ e. not_in_nil w (rw (remove_out i l e) at h))

remove_distinct : (k : ℕ) (l : List ℕ) → Distinct l → Distinct (remove k l)
unfolding remove
remove_distinct zero l d = tt
remove_distinct (suc i) l d = by_bool (ltb i (length l))
    (λ e. rw (remove_in i l e) (delete_distinct i l d))
    (λ e. rw (remove_out i l e) tt)

remove_shorter : (k : ℕ) (l : List ℕ) → 0 < length l → length (remove k l) < length l
unfolding remove
remove_shorter zero l h = h
remove_shorter (suc i) l h = by_bool (ltb i (length l))
    (λ e. rw (remove_in i l e) (delete_shorter i l (ltb-true i (length l) e)))
    (λ e. rw (remove_out i l e) h)

remove_no_longer : (k : ℕ) (l : List ℕ) → length (remove k l) ≤ length l
unfolding remove
remove_no_longer zero [] = zero-le
remove_no_longer (suc i) [] = by_bool (ltb i 0)
    (λ e. absurd (not-suc-le-zero (ltb-true i 0 e)))
    (λ e. rw (remove_out i [] e) zero-le)
remove_no_longer zero (x ∷ l) = zero-le
remove_no_longer (suc i) (x ∷ l) = omega (arith, remove_shorter (suc i) (x ∷ l) (omega arith))

-- several removals: one row after the other
pub remove_all_append : (l : List ℕ) (rs more : List Number) (now : List ℕ) → remove_all l (rs ++ more) now ≡ remove_all l more (remove_all l rs now)
unfolding remove_all
remove_all_append l [] more now = refl
remove_all_append l (a ∷ rs) more now = remove_all_append l rs more (remove (position (value a (sizes l now))) now)

remove_all_map : (π : ℕ → ℕ) (l : List ℕ) (rs : List Number) (now : List ℕ) → map π (remove_all l rs now) ≡ remove_all (map π l) rs (map π now)
unfolding remove_all
remove_all_map π l [] now = refl
remove_all_map π l (a ∷ rs) now =
    let k = position (value a (sizes l now)) in
    remove_all_map π l rs (remove k now) ∙ rw (length-map l π, length-map now π) (ap (remove_all (map π l) rs) (remove_map π k now))

remove_all_subset : (l : List ℕ) (rs : List Number) (now : List ℕ) → Subset (remove_all l rs now) now
unfolding remove_all
remove_all_subset l [] now w h = h
remove_all_subset l (a ∷ rs) now w h =
    let k = position (value a (sizes l now)) in remove_subset k now w (remove_all_subset l rs (remove k now) w h)

remove_all_distinct : (l : List ℕ) (rs : List Number) (now : List ℕ) → Distinct now → Distinct (remove_all l rs now)
unfolding remove_all
remove_all_distinct l [] now d = d
remove_all_distinct l (a ∷ rs) now d =
    let k = position (value a (sizes l now)) in remove_all_distinct l rs (remove k now) (remove_distinct k now d)

remove_all_no_longer : (l : List ℕ) (rs : List Number) (now : List ℕ) → length (remove_all l rs now) ≤ length now
unfolding remove_all
remove_all_no_longer l [] now = omega arith
remove_all_no_longer l (a ∷ rs) now =
    let k = position (value a (sizes l now)) in omega (arith, remove_all_no_longer l rs (remove k now), remove_no_longer k now)

-- the remaining list
pub remaining_map : (π : ℕ → ℕ) (rs : List Number) (l : List ℕ) → map π (remaining rs l) ≡ remaining rs (map π l)
remaining_map π rs l = remove_all_map π l rs l

pub remaining_subset : (rs : List Number) (l : List ℕ) → Subset (remaining rs l) l
remaining_subset rs l = remove_all_subset l rs l

pub remaining_distinct : (rs : List Number) (l : List ℕ) → Distinct l → Distinct (remaining rs l)
remaining_distinct rs l d = remove_all_distinct l rs l d

pub remaining_no_longer : (rs : List Number) (l : List ℕ) → length (remaining rs l) ≤ length l
remaining_no_longer rs l = remove_all_no_longer l rs l

-- a call that carries a removal
abbrev pub Carries : List Number → Type 0
Carries [] = ⊥
Carries (a ∷ rs) = Unit {0}

pub remaining_shorter : (rs : List Number) (l : List ℕ) → Carries rs → 0 < length l → length (remaining rs l) < length l
unfolding remove_all
remaining_shorter [] l c h = absurd c
remaining_shorter (a ∷ rs) l c h =
    let k = position (value a (sizes l l)) in omega (arith, remove_all_no_longer l rs (remove k l), remove_shorter k l h)

-- the qubit touched is one of the list, or 0
get_d_member : (l : List ℕ) (k : ℕ) → member (get_or l k 0) (0 ∷ l) ≡ true
get_d_member [] k = member_head 0 []
get_d_member (x ∷ l) zero = member_tail x 0 (x ∷ l) (member_head x l)
get_d_member (x ∷ l) (suc k) = member_cases (get_or l k 0) 0 l (get_d_member l k)
    (λ e. rw e (member_head 0 (x ∷ l)))
    (λ m. member_tail (get_or l k 0) 0 (x ∷ l) (member_tail (get_or l k 0) x l m))

pub touched_member : (rs : List Number) (a : Number) (l : List ℕ) → member (touched rs a l) (0 ∷ l) ≡ true
touched_member rs a l =
    let k = position (value a (sizes l (remaining rs l))) in
    let q = touched rs a l in
    member_cases q 0 (0 ∷ remaining rs l) (get_d_member (0 ∷ remaining rs l) k)
    (λ e. rw e (member_head 0 l))
    (λ m. member_cases q 0 (remaining rs l) m
    (λ e. rw e (member_head 0 l))
    (λ i. member_tail q 0 l (remaining_subset rs l q i)))

-- a wire outside a list, and no 0
abbrev pub Off : ℕ → List ℕ → Type 0
Off w l = member w (0 ∷ l) ≡ false

pub touched_off : (rs : List Number) (a : Number) (l : List ℕ) (w : ℕ) → Off w l → w ≢ touched rs a l
touched_off rs a l w h e = member_differs (touched rs a l) w (0 ∷ l) (touched_member rs a l) h (sym e)

off_subset : (a b : List ℕ) → Subset a b → (w : ℕ) → Off w b → Off w a
off_subset a b h w o = member_skip w 0 a (not_head w 0 b o) (subset_out a b h w (not_tail w 0 b o))

pub remaining_off : (w : ℕ) (rs : List Number) (l : List ℕ) → Off w l → Off w (remaining rs l)
remaining_off w rs l h = off_subset (remaining rs l) l (remaining_subset rs l) w h

pub touched_map : (π : ℕ → ℕ) → π 0 ≡ 0 → (rs : List Number) (a : Number) (l : List ℕ) → touched rs a (map π l) ≡ π (touched rs a l)
touched_map π z rs a l =
    let m = remaining rs l in let k = position (value a (sizes l m)) in
    rw (← remaining_map π rs l, length-map l π, length-map m π)
    (subst (λ (d : ℕ). get_or (d ∷ map π m) k d ≡ π (touched rs a l)) z (get_or-map π (0 ∷ m) k 0))

-- whether a condition holds depends on the list's length alone
pub holds_same : (c : Condition) (l m : List ℕ) → length l ≡ length m → holds c l ≡ holds c m
unfolding holds
holds_same (greater a b) l m e = rw e
holds_same (at_least a b) l m e = rw e
holds_same (equal a b) l m e = rw e
holds_same (conjunction c d) l m e = rw (holds_same c l m e, holds_same d l m e)
holds_same (disjunction c d) l m e = rw (holds_same c l m e, holds_same d l m e)
holds_same (negation c) l m e = rw (holds_same c l m e)

-- a list of data wires: 1 to n
abbrev pub Data : ℕ → List ℕ → Type 0
Data n l = (w : ℕ) → member w l ≡ true → (0 < w) × (w ≤ n)

pub data_off : (n : ℕ) (l : List ℕ) → Data n l → (w : ℕ) → n < w → Off w l
data_off n l d w h = member_skip w 0 l (positive w h) (not_true_false (member w l) (λ m. outside (d w m)))
  where
    positive : (w : ℕ) → n < w → w ≢ 0
    positive w h = omega arith

    outside : (0 < w) × (w ≤ n) → ⊥
    outside x = let y : w ≤ n = x.1 in omega arith

pub data_zero : (n : ℕ) (l : List ℕ) → Data n l → member 0 l ≡ false
data_zero n l d = not_true_false (member 0 l) (λ m. not-suc-le-zero (d 0 m).0)

pub data_remaining : (n : ℕ) (rs : List Number) (l : List ℕ) → Data n l → Data n (remaining rs l)
data_remaining n rs l d w m = d w (remaining_subset rs l w m)

pub data_touched : (n : ℕ) (rs : List Number) (a : Number) (l : List ℕ) → Data n l → touched rs a l ≤ n
data_touched n rs a l d = member_cases (touched rs a l) 0 l (touched_member rs a l) (λ e. rw e zero-le) (λ m. (d (touched rs a l) m).1)

-- the qubits 1 to n
pub range_bounds : (n a w : ℕ) → member w (range n a) ≡ true → (a ≤ w) × (w < a + n)
unfolding range
range_bounds zero a w m = not_in_nil w m
range_bounds (suc n) a w m = member_cases w a (range n (suc a)) m
    (λ e. (omega arith, omega arith))
    (λ h. let r = range_bounds n (suc a) w h in (omega arith, omega arith))

pub qubits_data : (n : ℕ) → Data n (qubits n)
qubits_data n w m = let r = range_bounds n 1 w m in (omega arith, omega arith)

pub range_distinct : (n a : ℕ) → Distinct (range n a)
unfolding range
range_distinct zero a = tt
range_distinct (suc n) a = (not_true_false (member a (range n (suc a))) (λ m. outside (range_bounds n (suc a) a m).0), range_distinct n (suc a))
  where
    outside : suc a ≤ a → ⊥
    outside h = omega arith

pub range_length : (n a : ℕ) → length (range n a) ≡ n
unfolding range
range_length zero a = refl
range_length (suc n) a = rw (range_length n (suc a))

-- taking as many as were taken
pub take_again : (k : ℕ) (l : List ℕ) → take (length (take k l)) l ≡ take k l
take_again zero l = refl
take_again (suc k) [] = refl
take_again (suc k) (x ∷ l) = ap (◌∷◌ x) (take_again k l)

-- the rest of a list's front
pub drop_front : (k n : ℕ) (l : List ℕ) → drop k (take n l) ≡ take (n - k) (drop k l)
drop_front zero n l = rw (sub-zero n)
drop_front (suc k) zero l = let e : 0 - suc k ≡ 0 = omega arith in rw e
drop_front (suc k) (suc n) [] = sym (take-nil (suc n - suc k))
drop_front (suc k) (suc n) (x ∷ l) = let e : suc n - suc k ≡ n - k = omega arith in rw e (drop_front k n l)

-- what stands at a place of a row made number by number
pub tabulated : {A : Type 0} (h : ℕ → A) (d : A) (n a k : ℕ) → k < n → get_or (map h (range n a)) k d ≡ h (a + k)
unfolding range
tabulated h d zero a k l = absurd (not-suc-le-zero l)
tabulated h d (suc n) a zero l = ap h (omega arith)
tabulated h d (suc n) a (suc k) l = tabulated h d n (suc a) k (omega arith) ∙ ap h (omega arith)
