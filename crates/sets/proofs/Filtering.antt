-- What is picked from a run of numbers by a test: its members, its order, and one member more or less.
use mathlib.Core.Path.{◌≡◌, refl, sym, ap, ◌∙◌}
use mathlib.Core.Logic.{◌≢◌}
use mathlib.Core.Bool.{Bool, true, false}
use mathlib.Core.List.{List, [], ◌∷◌, ◌++◌, map}
use Prim.Native.Nat.{ℕ, zero, suc, ◌+◌, ◌≤◌, ◌<◌, zero-le}
use native.Mathlib.Nat.{not-suc-le-zero, le_of_suc-le-suc}
use native.Mathlib.Omega.{arith}
use borrow.Author.Tests.{lt-ltb}
use lib.ListN.{length, get_or}
use Rattle.model.specs.Lists.{range, delete, member}
use Rattle.model.specs.Circuit.{ascends}
use Rattle.model.proofs.BooleanLaws.{by_bool, by_eq, clash, not_true_false}
use Rattle.model.proofs.ListLaws.{member_head, member_tail, member_cases, member_skip, not_in_nil}
use Rattle.sets.specs.Sets.{filter}

-- the numbers from a on, n of them, that pass a test
abbrev pub picked : (ℕ → Bool) → ℕ → ℕ → List ℕ
picked test n a = filter test (range n a)

pub picked_zero : (p : ℕ → Bool) (a : ℕ) → picked p 0 a ≡ []
unfolding range filter
picked_zero p a = refl

pub picked_yes : (p : ℕ → Bool) (n a : ℕ) → p a ≡ true → picked p (suc n) a ≡ a ∷ picked p n (suc a)
unfolding range filter
picked_yes p n a e = rw (e, filter)

pub picked_no : (p : ℕ → Bool) (n a : ℕ) → p a ≡ false → picked p (suc n) a ≡ picked p n (suc a)
unfolding range filter
picked_no p n a e = rw (e, filter)

-- tests that agree pick alike
pub picked_same : (n a : ℕ) (p r : ℕ → Bool) → ((q : ℕ) → a ≤ q → q < a + n → p q ≡ r q) → picked p n a ≡ picked r n a
picked_same zero a p r h = rw (picked_zero p a, picked_zero r a)
picked_same (suc n) a p r h =
    let rest : picked p n (suc a) ≡ picked r n (suc a) = picked_same n (suc a) p r (λ q l g. h q (omega arith) (omega arith)) in
    let here : p a ≡ r a = h a (omega arith) (omega arith) in
    by_bool (p a)
    (λ e. picked_yes p n a e ∙ ap (◌∷◌ a) rest ∙ sym (picked_yes r n a (sym here ∙ e)))
    (λ e. picked_no p n a e ∙ rest ∙ sym (picked_no r n a (sym here ∙ e)))

-- a test that nothing passes
pub picked_none : (n a : ℕ) (p : ℕ → Bool) → ((q : ℕ) → a ≤ q → q < a + n → p q ≡ false) → picked p n a ≡ []
picked_none zero a p h = picked_zero p a
picked_none (suc n) a p h =
    picked_no p n a (h a (omega arith) (omega arith)) ∙ picked_none n (suc a) p (λ q l g. h q (omega arith) (omega arith))

-- a test that only some of the first m pass, and one that they all do
pub picked_shorter : (n m a : ℕ) (p : ℕ → Bool) → m ≤ n → ((q : ℕ) → a + m ≤ q → q < a + n → p q ≡ false) → picked p n a ≡ picked p m a
picked_shorter n zero a p h fail = picked_none n a p (λ q l g. fail q (omega arith) g) ∙ sym (picked_zero p a)
picked_shorter zero (suc m) a p h fail = absurd (not-suc-le-zero h)
picked_shorter (suc n) (suc m) a p h fail =
    let rest : picked p n (suc a) ≡ picked p m (suc a) = picked_shorter n m (suc a) p (omega arith) (λ q l g. fail q (omega arith) (omega arith)) in
    by_bool (p a)
    (λ e. rw (picked_yes p n a e, picked_yes p m a e, rest))
    (λ e. rw (picked_no p n a e, picked_no p m a e, rest))

pub picked_all : (n a : ℕ) (p : ℕ → Bool) → ((q : ℕ) → a ≤ q → q < a + n → p q ≡ true) → picked p n a ≡ range n a
unfolding range
picked_all zero a p h = picked_zero p a
picked_all (suc n) a p h =
    picked_yes p n a (h a (omega arith) (omega arith)) ∙ ap (◌∷◌ a) (picked_all n (suc a) p (λ q l g. h q (omega arith) (omega arith)))

-- functions that agree on the numbers
pub picked_map : (n a : ℕ) (p : ℕ → Bool) (f g : ℕ → ℕ) → ((q : ℕ) → a ≤ q → q < a + n → f q ≡ g q) → map f (picked p n a) ≡ map g (picked p n a)
picked_map zero a p f g h = rw (picked_zero p a)
picked_map (suc n) a p f g h =
    let rest : map f (picked p n (suc a)) ≡ map g (picked p n (suc a)) = picked_map n (suc a) p f g (λ q l k. h q (omega arith) (omega arith)) in
    by_bool (p a)
    (λ e. rw (picked_yes p n a e, rest, h a (omega arith) (omega arith)))
    (λ e. rw (picked_no p n a e, rest))

-- a run of numbers that begins one later
pub picked_next : (n a : ℕ) (p r : ℕ → Bool) → ((q : ℕ) → a ≤ q → p (suc q) ≡ r q) → picked p n (suc a) ≡ map suc (picked r n a)
picked_next zero a p r h = rw (picked_zero p (suc a), picked_zero r a)
picked_next (suc n) a p r h =
    let rest : picked p n (suc (suc a)) ≡ map suc (picked r n (suc a)) = picked_next n (suc a) p r (λ q l. h q (omega arith)) in
    let here : p (suc a) ≡ r a = h a (omega arith) in
    by_bool (r a)
    (λ e. rw (picked_yes p n (suc a) (here ∙ e), picked_yes r n a e, rest))
    (λ e. rw (picked_no p n (suc a) (here ∙ e), picked_no r n a e, rest))

-- every one that is picked is among the numbers and passes
pub picked_bounds : (n a : ℕ) (p : ℕ → Bool) (q : ℕ) → member q (picked p n a) ≡ true → (a ≤ q) × (q < a + n)
picked_bounds zero a p q m = not_in_nil q (rw (picked_zero p a) at m)
picked_bounds (suc n) a p q m = by_bool (p a)
    (λ e. member_cases q a (picked p n (suc a)) (rw (picked_yes p n a e) at m)
    (λ s. (omega arith, omega arith))
    (λ i. let b = picked_bounds n (suc a) p q i in (omega arith, omega arith)))
    (λ e. let b = picked_bounds n (suc a) p q (rw (picked_no p n a e) at m) in (omega arith, omega arith))

pub picked_member : (n a : ℕ) (p : ℕ → Bool) (q : ℕ) → a ≤ q → q < a + n → member q (picked p n a) ≡ p q
picked_member zero a p q l g = absurd (omega arith)
picked_member (suc n) a p q l g = by_eq q a
    (λ s. by_bool (p a)
    (λ e. rw (picked_yes p n a e, s, e) (member_head a (picked p n (suc a))))
    (λ e. rw (picked_no p n a e, s, e) (not_true_false (member a (picked p n (suc a))) (λ m. let b = picked_bounds n (suc a) p a m in omega arith))))
    (λ ne. let rest : member q (picked p n (suc a)) ≡ p q = picked_member n (suc a) p q (omega arith) (omega arith) in
    by_bool (p a)
    (λ e. rw (picked_yes p n a e) (member_other q a (picked p n (suc a)) ne ∙ rest))
    (λ e. rw (picked_no p n a e) rest))
  where
    member_other : (q x : ℕ) (l : List ℕ) → q ≢ x → member q (x ∷ l) ≡ member q l
    member_other q x l ne = by_bool (member q l)
        (λ e. rw e (member_tail q x l e))
        (λ e. rw e (member_skip q x l ne e))

-- it ascends
ascends_cons : (w : ℕ) (l : List ℕ) → ((v : ℕ) → member v l ≡ true → w < v) → ascends l ≡ true → ascends (w ∷ l) ≡ true
unfolding ascends
ascends_cons w [] h a = refl
ascends_cons w (x ∷ l) h a = rw (lt-ltb w x (h x (member_head x l))) a

pub picked_ascends : (n a : ℕ) (p : ℕ → Bool) → ascends (picked p n a) ≡ true
unfolding ascends
picked_ascends zero a p = rw (picked_zero p a)
picked_ascends (suc n) a p = by_bool (p a)
    (λ e. rw (picked_yes p n a e) (ascends_cons a (picked p n (suc a))
    (λ v m. let b = picked_bounds n (suc a) p v m in omega arith) (picked_ascends n (suc a) p)))
    (λ e. rw (picked_no p n a e) (picked_ascends n (suc a) p))

-- no more are picked than there are
pub picked_length : (n a : ℕ) (p : ℕ → Bool) → length (picked p n a) ≤ n
picked_length zero a p = rw (picked_zero p a) zero-le
picked_length (suc n) a p =
    let rest : length (picked p n (suc a)) ≤ n = picked_length n (suc a) p in
    by_bool (p a) (λ e. rw (picked_yes p n a e) (omega arith)) (λ e. rw (picked_no p n a e) (omega arith))

-- what stands in it is one of the numbers
pub get_d_in : (l : List ℕ) (i : ℕ) → i < length l → member (get_or l i 0) l ≡ true
get_d_in [] i h = absurd (not-suc-le-zero h)
get_d_in (x ∷ l) zero h = member_head x l
get_d_in (x ∷ l) (suc i) h = member_tail (get_or l i 0) x l (get_d_in l i (le_of_suc-le-suc h))

pub picked_at : (n a : ℕ) (p : ℕ → Bool) (i : ℕ) → i < length (picked p n a) → (a ≤ get_or (picked p n a) i 0) × (get_or (picked p n a) i 0 < a + n)
picked_at n a p i h = picked_bounds n a p (get_or (picked p n a) i 0) (get_d_in (picked p n a) i h)

-- p passes all that r passes, and q more
module _ (p r : ℕ → Bool) (q : ℕ) (more : p q ≡ true) (less : r q ≡ false) (same : (x : ℕ) → x ≢ q → p x ≡ r x) where
  -- where q is outside the numbers there is no difference
  apart : (n a : ℕ) → q < a → picked p n a ≡ picked r n a
  apart n a h = picked_same n a p r (λ x l g. same x (omega arith))

  -- q is picked first where none below it is
  pub picked_first : (n a : ℕ) → a ≤ q → q < a + n → ((x : ℕ) → a ≤ x → x < q → p x ≡ false) → picked p n a ≡ q ∷ picked r n a
  picked_first zero a l g low = absurd (omega arith)
  picked_first (suc n) a l g low = by_eq q a
      (λ s. let rest : picked p n (suc a) ≡ picked r n (suc a) = apart n (suc a) (omega arith) in
      let here : p a ≡ true = ap p (sym s) ∙ more in
      let off : r a ≡ false = ap r (sym s) ∙ less in
      rw (picked_yes p n a here, picked_no r n a off, rest, s))
      (λ ne. let off : p a ≡ false = low a (omega arith) (omega arith) in
      let gone : r a ≡ false = sym (same a (λ e. ne (sym e))) ∙ off in
      rw (picked_no p n a off, picked_no r n a gone) (picked_first n (suc a) (omega arith) (omega arith) (λ x h k. low x (omega arith) k)))

  -- and last where none above it is
  pub picked_last : (n a : ℕ) → a ≤ q → q < a + n → ((x : ℕ) → q < x → x < a + n → p x ≡ false) → picked p n a ≡ picked r n a ++ (q ∷ [])
  picked_last zero a l g high = absurd (omega arith)
  picked_last (suc n) a l g high = by_eq q a
      (λ s. let none : picked p n (suc a) ≡ [] = picked_none n (suc a) p (λ x h k. high x (omega arith) (omega arith)) in
      let rest : picked r n (suc a) ≡ [] = sym (apart n (suc a) (omega arith)) ∙ none in
      let here : p a ≡ true = ap p (sym s) ∙ more in
      let off : r a ≡ false = ap r (sym s) ∙ less in
      rw (picked_yes p n a here, picked_no r n a off, none, rest, s))
      (λ ne. let rest : picked p n (suc a) ≡ picked r n (suc a) ++ (q ∷ []) =
      picked_last n (suc a) (omega arith) (omega arith) (λ x h k. high x h (omega arith)) in
      let as_r : p a ≡ r a = same a (λ e. ne (sym e)) in
      by_bool (p a)
      (λ e. rw (picked_yes p n a e, picked_yes r n a (sym as_r ∙ e), rest))
      (λ e. rw (picked_no p n a e, picked_no r n a (sym as_r ∙ e), rest)))

  -- q taken out
  pub picked_delete : (n a i : ℕ) → get_or (picked p n a) i 0 ≡ q → i < length (picked p n a) → picked r n a ≡ delete i (picked p n a)
  unfolding delete
  picked_delete zero a i e h = absurd (not-suc-le-zero (rw (picked_zero p a) at h))
  picked_delete (suc n) a i e h = by_bool (p a)
      (λ y. let full = picked_yes p n a y in
      rw full (here y i (rw full at e) (rw full at h) (λ j f k. picked_delete n (suc a) j f k)))
      (λ y. let rest = picked_no p n a y in
      let other : a ≢ q = λ s. clash (ap p s ∙ more) y in
      let off : r a ≡ false = sym (same a other) ∙ y in
      rw (rest, picked_no r n a off) (picked_delete n (suc a) i (rw rest at e) (rw rest at h)))
    where
      here : p a ≡ true → (i : ℕ) → get_or (a ∷ picked p n (suc a)) i 0 ≡ q → i < length (a ∷ picked p n (suc a)) →
          ((j : ℕ) → get_or (picked p n (suc a)) j 0 ≡ q → j < length (picked p n (suc a)) → picked r n (suc a) ≡ delete j (picked p n (suc a))) →
          picked r (suc n) a ≡ delete i (a ∷ picked p n (suc a))
      here y zero e h onward = picked_no r n a (ap r e ∙ less) ∙ sym (apart n (suc a) (omega arith))
      here y (suc i) e h onward =
          let b : suc a ≤ get_or (picked p n (suc a)) i 0 = (picked_at n (suc a) p i (le_of_suc-le-suc h)).0 in
          let other : a ≢ q = omega arith in
          picked_yes r n a (sym (same a other) ∙ y) ∙ ap (◌∷◌ a) (onward i e (le_of_suc-le-suc h))
