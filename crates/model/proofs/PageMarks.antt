-- A gate's marks, over all wires, are those of no other gate: its ones, its zeros and its targets can be read off them.
use mathlib.Core.Path.{◌≡◌, refl, sym, ap, ◌∙◌}
use mathlib.Core.Logic.{◌≢◌}
use mathlib.Core.Bool.{Bool, true, false, not}
use mathlib.Core.List.{List, [], ◌∷◌, ◌++◌}
use Prim.Native.Nat.{ℕ, zero, suc, ◌+◌, ◌≤◌, ◌<◌}
use native.Mathlib.Omega.{arith}
use borrow.Author.Tests.{ne_eqb, not-true}
use lib.Dec.{eqb, ltb}
use Rattle.model.specs.Lists.{member}
use Rattle.model.specs.Gates.{Gate, flip, swap, targets}
use Rattle.model.specs.Circuit.{wires, controls_of, ascends, distinct, within, lower_first, gate_is_well_formed}
use Rattle.model.specs.Listing.{plus, letter_s, letter_x}
use Rattle.model.specs.Page.{bar, dash, letter_o, letter, mark}
use Rattle.model.proofs.BooleanLaws.{by_eq, not_true_false, and_left, and_right, and_both, or_left, or_right, or_false_left, or_false_right}
use Rattle.model.proofs.ListLaws.{member_head, member_tail, member_nil, member_cases, member_append, not_in_nil}
use Rattle.model.proofs.AscendingWires.{ascends_tail, ascends_larger, within_member}
use Rattle.model.proofs.RoundTrip.{formed}
use Rattle.model.proofs.PageLines.{mark_cases}

-- the numbers from a on, n of them, that pass a test
unfoldable pub passing : (ℕ → Bool) → ℕ → ℕ → List ℕ
passing test zero a = []
passing test (suc n) a = elim (test a) [ true ↦ a ∷ passing test n (suc a) | false ↦ passing test n (suc a) ]

-- the first of them passes, or does not
passing_yes : (test : ℕ → Bool) (n a : ℕ) → test a ≡ true → passing test (suc n) a ≡ a ∷ passing test n (suc a)
unfolding passing
passing_yes test n a h = rw (h, passing)

passing_no : (test : ℕ → Bool) (n a : ℕ) → test a ≡ false → passing test (suc n) a ≡ passing test n (suc a)
unfolding passing
passing_no test n a h = rw (h, passing)

-- a list's numbers are from a on, n of them
abbrev Bounded : ℕ → ℕ → List ℕ → Type 0
Bounded n a l = (w : ℕ) → member w l ≡ true → (a ≤ w) × (w < a + n)

-- a test passes, from a on, on the numbers of a list
abbrev Tells : (ℕ → Bool) → ℕ → List ℕ → Type 0
Tells test a l = (w : ℕ) → a ≤ w → test w ≡ member w l

-- a number that is not a list's first is one of the list where it is one of the rest
member_past : (w x : ℕ) (l : List ℕ) → w ≢ x → member w (x ∷ l) ≡ member w l
unfolding member
member_past w x l n = rw (ne_eqb w x n)

-- behind its first number an ascending list has larger ones, and a test for the list is one for them
rest_bounded : (n x : ℕ) (l : List ℕ) → ascends (x ∷ l) ≡ true → Bounded (suc n) x (x ∷ l) → Bounded n (suc x) l
rest_bounded n x l up inside w m =
    let larger = ascends_larger x l up w m in
    let h = inside w (member_tail w x l m) in
    (omega arith, omega arith)

rest_tells : (test : ℕ → Bool) (x : ℕ) (l : List ℕ) → Tells test x (x ∷ l) → Tells test (suc x) l
rest_tells test x l tells w h = tells w (omega arith) ∙ member_past w x l (omega arith)

-- an ascending list of numbers from a on whose first is not a has its numbers past a
past_bounded : (n a x : ℕ) (l : List ℕ) → a ≢ x → ascends (x ∷ l) ≡ true → Bounded (suc n) a (x ∷ l) → Bounded n (suc a) (x ∷ l)
past_bounded n a x l ne up inside w m =
    let first = inside x (member_head x l) in
    let h = inside w m in
    member_cases w x l m
    (λ e. (omega arith, omega arith))
    (λ i. let larger = ascends_larger x l up w i in (omega arith, omega arith))

-- so a is none of them
past_not : (n a x : ℕ) (l : List ℕ) → a ≢ x → ascends (x ∷ l) ≡ true → Bounded (suc n) a (x ∷ l) → member a (x ∷ l) ≡ false
past_not n a x l ne up inside = not_true_false (member a (x ∷ l)) (λ m. let h = past_bounded n a x l ne up inside a m in omega arith)

-- an ascending list is found in order by a test for its numbers
passing_list : (test : ℕ → Bool) (n a : ℕ) (l : List ℕ) → ascends l ≡ true → Bounded n a l → Tells test a l → passing test n a ≡ l
unfolding passing
passing_list test zero a [] up inside tells = refl
passing_list test zero a (x ∷ l) up inside tells = let h = inside x (member_head x l) in absurd (omega arith)
passing_list test (suc n) a [] up inside tells =
    passing_no test n a (tells a (omega arith) ∙ member_nil a)
    ∙ passing_list test n (suc a) [] up (λ w m. not_in_nil w m) (λ w h. tells w (omega arith))
passing_list test (suc n) a (x ∷ l) up inside tells = by_eq a x
    (λ e. let bounds : Bounded (suc n) x (x ∷ l) = rw e at inside in
    let says : Tells test x (x ∷ l) = rw e at tells in
    rw e (passing_yes test n x (says x (omega arith) ∙ member_head x l)
    ∙ ap (λ r. x ∷ r) (passing_list test n (suc x) l (ascends_tail x l up) (rest_bounded n x l up bounds) (rest_tells test x l says))))
    (λ ne. passing_no test n a (tells a (omega arith) ∙ past_not n a x l ne up inside)
    ∙ passing_list test n (suc a) (x ∷ l) up (past_bounded n a x l ne up inside) (λ w h. tells w (omega arith)))

-- lists without a common wire
abbrev Apart : List ℕ → List ℕ → Type 0
Apart l m = (w : ℕ) → member w l ≡ true → member w m ≡ false

-- where no wire stands twice, the first does not stand again, and the rest has none twice
distinct_head : (x : ℕ) (l : List ℕ) → distinct (x ∷ l) ≡ true → member x l ≡ false
unfolding distinct
distinct_head x l d = not-true (member x l) (and_left (not (member x l)) (distinct l) d)

distinct_tail : (x : ℕ) (l : List ℕ) → distinct (x ∷ l) ≡ true → distinct l ≡ true
unfolding distinct
distinct_tail x l d = and_right (not (member x l)) (distinct l) d

-- nor have two parts of such a list a common wire
distinct_apart : (l m : List ℕ) → distinct (l ++ m) ≡ true → Apart l m
distinct_apart [] m d w h = not_in_nil w h
distinct_apart (x ∷ l) m d w h = member_cases w x l h
    (λ e. rw e (or_false_right (member x l) (member x m) (sym (member_append x l m) ∙ distinct_head x (l ++ m) d)))
    (λ i. distinct_apart l m (distinct_tail x (l ++ m) d) w i)

distinct_behind : (l m : List ℕ) → distinct (l ++ m) ≡ true → distinct m ≡ true
distinct_behind [] m d = d
distinct_behind (x ∷ l) m d = distinct_behind l m (distinct_tail x (l ++ m) d)

-- what has no wire in common with a list has none in common with its parts
apart_left : (l a b : List ℕ) → Apart l (a ++ b) → Apart l a
apart_left l a b h w m = or_false_left (member w a) (member w b) (sym (member_append w a b) ∙ h w m)

apart_right : (l a b : List ℕ) → Apart l (a ++ b) → Apart l b
apart_right l a b h w m = or_false_right (member w a) (member w b) (sym (member_append w a b) ∙ h w m)

-- a gate's wires are its targets and those of its controls
pub wires_are : (g : Gate) → wires g ≡ targets g ++ ((controls_of g).ones ++ (controls_of g).zeros)
unfolding wires targets controls_of
wires_are (flip cs t) = refl
wires_are (swap cs u v) = refl

-- no wire of a gate is a target and a control, or asked for 1 and for 0
record Separate (g : Gate) : Type 0 where
  not_ones : Apart (targets g) (controls_of g).ones
  not_zeros : Apart (targets g) (controls_of g).zeros
  not_both : Apart (controls_of g).ones (controls_of g).zeros

-- so it is where no wire stands twice
separate : (g : Gate) → distinct (wires g) ≡ true → Separate g
separate g d =
    let ones = (controls_of g).ones in let zeros = (controls_of g).zeros in
    let all : distinct (targets g ++ (ones ++ zeros)) ≡ true = rw (wires_are g) at d in
    let behind = distinct_apart (targets g) (ones ++ zeros) all in
    record {
      not_ones = apart_left (targets g) ones zeros behind;
      not_zeros = apart_right (targets g) ones zeros behind;
      not_both = distinct_apart ones zeros (distinct_behind (targets g) (ones ++ zeros) all);
    }

-- so a mark tells all of a wire's part in the gate
mark_alone : (g : Gate) → Separate g → (w : ℕ) (P : ℕ → Type 0) →
    (member w (targets g) ≡ true → member w (controls_of g).ones ≡ false → member w (controls_of g).zeros ≡ false → P (letter g)) →
    (member w (targets g) ≡ false → member w (controls_of g).ones ≡ true → member w (controls_of g).zeros ≡ false → P plus) →
    (member w (targets g) ≡ false → member w (controls_of g).ones ≡ false → member w (controls_of g).zeros ≡ true → P letter_o) →
    (member w (targets g) ≡ false → member w (controls_of g).ones ≡ false → member w (controls_of g).zeros ≡ false → P bar × P dash) →
    P (mark g w)
mark_alone g s w P target one nought other =
    mark_cases g w P (λ a. target a (s.not_ones w a) (s.not_zeros w a)) (λ a b. one a b (s.not_both w b)) nought other

-- X and S are no control's mark
letter_not_plus : (g : Gate) → eqb (letter g) plus ≡ false
unfolding letter
letter_not_plus (flip cs t) = refl
letter_not_plus (swap cs u v) = refl

letter_not_o : (g : Gate) → eqb (letter g) letter_o ≡ false
unfolding letter
letter_not_o (flip cs t) = refl
letter_not_o (swap cs u v) = refl

-- + marks the wires asked for 1, o those asked for 0
tells_ones : (g : Gate) → Separate g → (w : ℕ) → eqb (mark g w) plus ≡ member w (controls_of g).ones
tells_ones g s w = mark_alone g s w (λ m. eqb m plus ≡ member w (controls_of g).ones)
    (λ a b c. letter_not_plus g ∙ sym b) (λ a b c. sym b) (λ a b c. sym b) (λ a b c. (sym b, sym b))

tells_zeros : (g : Gate) → Separate g → (w : ℕ) → eqb (mark g w) letter_o ≡ member w (controls_of g).zeros
tells_zeros g s w = mark_alone g s w (λ m. eqb m letter_o ≡ member w (controls_of g).zeros)
    (λ a b c. letter_not_o g ∙ sym c) (λ a b c. sym c) (λ a b c. sym c) (λ a b c. (sym c, sym c))

-- the wires that a gate marks X, and those that it marks S
unfoldable pub crossed : Gate → List ℕ
crossed (flip cs t) = t ∷ []
crossed (swap cs u v) = []

unfoldable pub exchanged : Gate → List ℕ
exchanged (flip cs t) = []
exchanged (swap cs u v) = u ∷ v ∷ []

-- X and S mark these and no others
tells_crossed : (g : Gate) → Separate g → (w : ℕ) → eqb (mark g w) letter_x ≡ member w (crossed g)
unfolding crossed targets letter
tells_crossed (flip cs t) s w = mark_alone (flip cs t) s w (λ m. eqb m letter_x ≡ member w (t ∷ []))
    (λ a b c. sym a) (λ a b c. sym a) (λ a b c. sym a) (λ a b c. (sym a, sym a))
tells_crossed (swap cs u v) s w = mark_alone (swap cs u v) s w (λ m. eqb m letter_x ≡ member w [])
    (λ a b c. sym (member_nil w)) (λ a b c. sym (member_nil w)) (λ a b c. sym (member_nil w)) (λ a b c. (sym (member_nil w), sym (member_nil w)))

tells_exchanged : (g : Gate) → Separate g → (w : ℕ) → eqb (mark g w) letter_s ≡ member w (exchanged g)
unfolding exchanged targets letter
tells_exchanged (flip cs t) s w = mark_alone (flip cs t) s w (λ m. eqb m letter_s ≡ member w [])
    (λ a b c. sym (member_nil w)) (λ a b c. sym (member_nil w)) (λ a b c. sym (member_nil w)) (λ a b c. (sym (member_nil w), sym (member_nil w)))
tells_exchanged (swap cs u v) s w = mark_alone (swap cs u v) s w (λ m. eqb m letter_s ≡ member w (u ∷ v ∷ []))
    (λ a b c. sym a) (λ a b c. sym a) (λ a b c. sym a) (λ a b c. (sym a, sym a))

-- a gate's wires are 1 to most
within_bounded : (most : ℕ) (l : List ℕ) → within most l ≡ true → Bounded most 1 l
within_bounded most l h w m = let both = within_member most w l h m in (omega arith, omega arith)

-- a list's bounds hold for its three parts
part_bounded : (n a : ℕ) (l m k : List ℕ) → Bounded n a (l ++ (m ++ k)) → Bounded n a l × Bounded n a m × Bounded n a k
part_bounded n a l m k h = (
  (λ w i. h w (member_append w l (m ++ k) ∙ or_left (member w l) (member w (m ++ k)) i)),
  (λ w i. h w (behind w (member_append w m k ∙ or_left (member w m) (member w k) i))),
  (λ w i. h w (behind w (member_append w m k ∙ or_right (member w m) (member w k) i))),
)
  where
    behind : (w : ℕ) → member w (m ++ k) ≡ true → member w (l ++ (m ++ k)) ≡ true
    behind w i = member_append w l (m ++ k) ∙ or_right (member w l) (member w (m ++ k)) i

-- the wires marked X ascend, and so do those marked S
crossed_ascend : (g : Gate) → ascends (crossed g) ≡ true
unfolding crossed ascends
crossed_ascend (flip cs t) = refl
crossed_ascend (swap cs u v) = refl

exchanged_ascend : (g : Gate) → lower_first g ≡ true → ascends (exchanged g) ≡ true
unfolding exchanged ascends lower_first
exchanged_ascend (flip cs t) h = refl
exchanged_ascend (swap cs u v) h = and_both (ltb u v) true h refl

-- both are targets
crossed_bounded : (n a : ℕ) (g : Gate) → Bounded n a (targets g) → Bounded n a (crossed g)
unfolding crossed targets
crossed_bounded n a (flip cs t) h = h
crossed_bounded n a (swap cs u v) h = λ w m. not_in_nil w m

exchanged_bounded : (n a : ℕ) (g : Gate) → Bounded n a (targets g) → Bounded n a (exchanged g)
unfolding exchanged targets
exchanged_bounded n a (flip cs t) h = λ w m. not_in_nil w m
exchanged_bounded n a (swap cs u v) h = h

-- the wires, 1 to most, on whose rows a gate has this mark
abbrev marked_with : ℕ → ℕ → Gate → List ℕ
marked_with m most g = passing (λ w. eqb (mark g w) m) most 1

-- each mark's wires, in order, are the list that it stands for
pub record Marked (most : ℕ) (g : Gate) : Type 0 where
  pub by_plus : marked_with plus most g ≡ (controls_of g).ones
  pub by_o : marked_with letter_o most g ≡ (controls_of g).zeros
  pub by_x : marked_with letter_x most g ≡ crossed g
  pub by_s : marked_with letter_s most g ≡ exchanged g

-- a well-formed gate is marked so
pub marked : (most : ℕ) (g : Gate) → gate_is_well_formed most g ≡ true → Marked most g
marked most g ok =
    let f = formed most g ok in
    let s = separate g f.apart in
    let ones = (controls_of g).ones in let zeros = (controls_of g).zeros in
    let all : Bounded most 1 (targets g ++ (ones ++ zeros)) = rw (wires_are g) at (within_bounded most (wires g) f.inside) in
    let b = part_bounded most 1 (targets g) ones zeros all in
    record {
      by_plus = passing_list (λ w. eqb (mark g w) plus) most 1 ones f.ones_ascend b.1 (λ w h. tells_ones g s w);
      by_o = passing_list (λ w. eqb (mark g w) letter_o) most 1 zeros f.zeros_ascend b.2 (λ w h. tells_zeros g s w);
      by_x = passing_list (λ w. eqb (mark g w) letter_x) most 1 (crossed g) (crossed_ascend g) (crossed_bounded most 1 g b.0)
          (λ w h. tells_crossed g s w);
      by_s = passing_list (λ w. eqb (mark g w) letter_s) most 1 (exchanged g) (exchanged_ascend g f.lower) (exchanged_bounded most 1 g b.0)
          (λ w h. tells_exchanged g s w);
    }
