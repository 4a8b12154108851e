-- The code's checks of a gate are document 01's: ascending lists of wires within bounds that share no wire make a gate whose wires are distinct.
use mathlib.Core.Path.{◌≡◌, refl, sym, ◌∙◌}
use mathlib.Core.Bool.{Bool, true, false, not, ◌&&◌, ◌||◌, and-true, and-false}
use mathlib.Core.List.{List, [], ◌∷◌, ◌++◌}
use Prim.Native.Nat.{ℕ, ◌≤◌, ◌<◌}
use native.Mathlib.Omega.{arith}
use borrow.Author.Tests.{ltb-true, leb-true, ne_eqb, lt-ltb, le-ltb, le-leb, lt-leb}
use lib.Dec.{eqb, ltb, leb}
use Rattle.limits.specs.Sizes.{wire_count}
use Rattle.model.specs.Lists.{member}
use Rattle.model.specs.Circuit.{wires, controls_of, ascends, distinct, within, lower_first, gate_is_well_formed}
use Rattle.model.proofs.BooleanLaws.{by_bool, by_lt, same_test, and_left, and_right, and_both, not_not}
use Rattle.model.proofs.ListLaws.{member_append}
use Rattle.model.proofs.AscendingWires.{ascends_tail, ascends_fresh, ascends_distinct, within_head, within_tail, within_append}
use Rattle.circuit.specs.declared.Action.{Action}
use Rattle.circuit.specs.declared.Action.TheVariants.{Not, Swap}
use Rattle.circuit.specs.GatesInBytes.{gate_with}
use Rattle.circuit.specs.GateChecks.{list_fits, set_of, any_in, checked}
use Rattle.circuit.proofs.WireSets.{set_has}

-- the wires ascend from above `low` to at most `most`
unfoldable ascends_from : ℕ → ℕ → List ℕ → Bool
ascends_from low most [] = true
ascends_from low most (w ∷ l) = ltb low w && leb w most && ascends_from w most l

-- the three parts of a test on a list's first wire
module _ (a b c : Bool) where
  three : a ≡ true → b ≡ true → c ≡ true → a && b && c ≡ true
  three p q r = and_both (a && b) c (and_both a b p q) r

  first : a && b && c ≡ true → a ≡ true
  first e = and_left a b (and_left (a && b) c e)

  middle : a && b && c ≡ true → b ≡ true
  middle e = and_right a b (and_left (a && b) c e)

  last : a && b && c ≡ true → c ≡ true
  last e = and_right (a && b) c e

module _ (low most w : ℕ) (l : List ℕ) (r : ascends_from low most (w ∷ l) ≡ true) where
  rising_first : low < w
  unfolding ascends_from
  rising_first = ltb-true low w (first (ltb low w) (leb w most) (ascends_from w most l) r)

  rising_middle : leb w most ≡ true
  unfolding ascends_from
  rising_middle = middle (ltb low w) (leb w most) (ascends_from w most l) r

  rising_last : ascends_from w most l ≡ true
  unfolding ascends_from
  rising_last = last (ltb low w) (leb w most) (ascends_from w most l) r

rising_ascends : (low most : ℕ) (l : List ℕ) → ascends_from low most l ≡ true → ascends l ≡ true
unfolding ascends
rising_ascends low most [] r = refl
rising_ascends low most (w ∷ []) r = refl
rising_ascends low most (v ∷ w ∷ l) r =
    let rest : ascends_from v most (w ∷ l) ≡ true = rising_last low most v (w ∷ l) r in
    and_both (ltb v w) (ascends (w ∷ l)) (lt-ltb v w (rising_first v most w l rest)) (rising_ascends v most (w ∷ l) rest)

rising_within : (low most : ℕ) (l : List ℕ) → ascends_from low most l ≡ true → within most l ≡ true
unfolding within
rising_within low most [] r = refl
rising_within low most (w ∷ l) r =
    let a : low < w = rising_first low most w l r in
    three (leb 1 w) (leb w most) (within most l) (le-leb 1 w (omega arith)) (rising_middle low most w l r)
    (rising_within w most l (rising_last low most w l r))

rises : (low most w : ℕ) (l : List ℕ) → low < w → ascends (w ∷ l) ≡ true → within most (w ∷ l) ≡ true → ascends_from low most (w ∷ l) ≡ true
unfolding ascends_from ascends within
rises low most w [] h a i = three (ltb low w) (leb w most) true (lt-ltb low w h) (middle (leb 1 w) (leb w most) true i) refl
rises low most w (x ∷ l) h a i =
    three (ltb low w) (leb w most) (ascends_from w most (x ∷ l)) (lt-ltb low w h) (middle (leb 1 w) (leb w most) (within most (x ∷ l)) i)
    (rises w most x l (ltb-true w x (and_left (ltb w x) (ascends (x ∷ l)) a)) (and_right (ltb w x) (ascends (x ∷ l)) a)
    (last (leb 1 w) (leb w most) (within most (x ∷ l)) i))

-- a list rises from 1 to at most `most` exactly where it ascends within those bounds
rising_is : (most : ℕ) (l : List ℕ) → ascends_from 0 most l ≡ ascends l && within most l
unfolding ascends_from ascends within
rising_is most [] = refl
rising_is most (w ∷ l) = same_test (ascends_from 0 most (w ∷ l)) (ascends (w ∷ l) && within most (w ∷ l))
    (λ r. and_both (ascends (w ∷ l)) (within most (w ∷ l)) (rising_ascends 0 most (w ∷ l) r) (rising_within 0 most (w ∷ l) r))
    (λ b. let i : within most (w ∷ l) ≡ true = and_right (ascends (w ∷ l)) (within most (w ∷ l)) b in
    rises 0 most w l (leb-true 1 w (first (leb 1 w) (leb w most) (within most l) i)) (and_left (ascends (w ∷ l)) (within most (w ∷ l)) b) i)

ltb_leb : (m n : ℕ) → ltb m n ≡ not (leb n m)
ltb_leb m n = by_lt m n (λ h. rw (lt-ltb m n h, lt-leb n m h)) (λ h. rw (le-ltb m n h, le-leb n m h))

-- the tests of a list's first wire and of the others, in the code's order and in document 01's
fits_order : (low high is_u is_v rest u v : Bool) →
    not (low || high || is_u || is_v) && (rest && not u && not v) ≡ (not low && not high && rest) && not (is_u || u) && not (is_v || v)
fits_order true high is_u is_v rest u v = refl
fits_order false true is_u is_v rest u v = refl
fits_order false false true is_v true u v = refl
fits_order false false true is_v false u v = refl
fits_order false false false true rest u v = sym (and-false (rest && not u))
fits_order false false false false rest u v = refl

fits_rises : (low most u v : ℕ) (l : List ℕ) → list_fits low most u v l ≡ ascends_from low most l && not (member u l) && not (member v l)
unfolding list_fits ascends_from member
fits_rises low most u v [] = refl
fits_rises low most u v (w ∷ l) =
    rw (fits_rises w most u v l, ltb_leb low w, ltb_leb most w)
    (fits_order (leb w low) (not (leb w most)) (eqb u w) (eqb v w) (ascends_from w most l) (member u l) (member v l)
    ∙ rw (not_not (leb w most)))

-- a list that fits ascends within its bounds, and neither u nor v is in it
fits_is : (most u v : ℕ) (l : List ℕ) → list_fits 0 most u v l ≡ ascends l && within most l && not (member u l) && not (member v l)
fits_is most u v l = rw (fits_rises 0 most u v l, rising_is most l)

not_or : (a b : Bool) → not (a || b) ≡ not a && not b
not_or true b = refl
not_or false b = refl

-- two ascending lists have no wire twice exactly where no wire of the first is in the set of the second
distinct_is : (most : ℕ) → most < wire_count → (l m : List ℕ) → ascends l ≡ true → within most l ≡ true → ascends m ≡ true →
    distinct (l ++ m) ≡ not (any_in (set_of m) l)
unfolding distinct any_in
distinct_is most h [] m a i b = ascends_distinct m b
distinct_is most h (w ∷ l) m a i b =
    let k : w ≤ most = (within_head most w l i).1 in
    rw (
      member_append w l m,
      ascends_fresh w l a,
      distinct_is most h l m (ascends_tail w l a) (within_tail most w l i) b,
      set_has m w (omega arith),
    )
    (sym (not_or (member w m) (any_in (set_of m) l)))

eqb_below : (u v : ℕ) → ltb u v ≡ true → eqb u v ≡ false
eqb_below u v l = ne_eqb u v (λ e. let h : u < v = ltb-true u v l in omega arith)

-- the conjunctions of a gate's checks, in document 01's order and in the code's
flip_order : (in₁ in₂ shared own zeros : Bool) →
    not (in₁ || in₂) && not shared && (own && zeros) && true ≡ own && (not in₁ && not in₁) && (zeros && not in₂ && not in₂) && not shared
flip_order true in₂ shared own zeros = simp and-false
flip_order false true shared own zeros = simp and-false
flip_order false false true own zeros = simp and-false
flip_order false false false own zeros = simp and-true

swap_order : (in₁ in₂ in₃ in₄ shared own zeros : Bool) →
    not (in₁ || in₂) && (not (in₃ || in₄) && not shared) && (own && zeros) && true
    ≡ own && (not in₁ && not in₃) && (zeros && not in₂ && not in₄) && not shared
swap_order true in₂ in₃ in₄ shared own zeros = simp and-false
swap_order false true in₃ in₄ shared own zeros = simp and-false
swap_order false false true in₄ shared own zeros = simp and-false
swap_order false false false true shared own zeros = simp and-false
swap_order false false false false true own zeros = simp and-false
swap_order false false false false false own zeros = simp and-true

-- the code's checks are document 01's
module _ (most : ℕ) (h : most < wire_count) (ones zeros : List ℕ) where
  abbrev Same : Action → Type 0
  Same a = gate_is_well_formed most (gate_with a (record { ones = ones; zeros = zeros })) ≡ checked most a ones zeros

  -- the checks of a list that does not ascend, or not within the bounds, fail on both sides
  same_lists : (a : Action) → (ascends ones ≡ true → ascends zeros ≡ true → within most ones ≡ true → Same a) → Same a
  unfolding gate_is_well_formed controls_of within wires
  same_lists act f = by_bool (ascends ones)
      (λ a. by_bool (ascends zeros)
      (λ b. by_bool (within most ones)
      (λ i. f a b i)
      (λ i. by_within act i))
      (λ b. by_zeros act b))
      (λ a. by_ones act a)
    where
      by_ones : (act : Action) → ascends ones ≡ false → Same act
      by_ones (Not u) a = simp (fits_is, a, and-false)
      by_ones (Swap u v) a = simp (fits_is, a, and-false)

      by_zeros : (act : Action) → ascends zeros ≡ false → Same act
      by_zeros (Not u) a = simp (fits_is, a, and-false)
      by_zeros (Swap u v) a = simp (fits_is, a, and-false)

      by_within : (act : Action) → within most ones ≡ false → Same act
      by_within (Not u) a = simp (fits_is, within_append, a, and-false)
      by_within (Swap u v) a = simp (fits_is, within_append, a, and-false)

  pub checked_is : (a : Action) → Same a
  unfolding gate_is_well_formed wires controls_of lower_first distinct within member
  checked_is (Not u) = same_lists (Not u) (λ a b i. rw (
    a,
    b,
    fits_is most u u ones,
    fits_is most u u zeros,
    a,
    b,
    i,
    distinct_is most h ones zeros a i b,
    member_append u ones zeros,
    within_append most ones zeros,
    i,
  )
      (flip_order (member u ones) (member u zeros) (any_in (set_of zeros) ones) (leb 1 u && leb u most) (within most zeros)))
  checked_is (Swap u v) = same_lists (Swap u v) (λ a b i. by_bool (ltb u v)
      (λ l. by_bool (leb v most)
      (λ m. let p : u < v = ltb-true u v l in let q : v ≤ most = leb-true v most m in rw (
        a,
        b,
        l,
        m,
        le-leb u most (omega arith),
        le-leb 1 v (omega arith),
        fits_is most u v ones,
        fits_is most u v zeros,
        a,
        b,
        i,
        distinct_is most h ones zeros a i b,
        eqb_below u v l,
        member_append u ones zeros,
        member_append v ones zeros,
        within_append most ones zeros,
        i,
        and-true (leb 1 u),
        and-true (leb 1 u),
      )
      (swap_order (member u ones) (member u zeros) (member v ones) (member v zeros) (any_in (set_of zeros) ones) (leb 1 u) (within most zeros)))
      (λ m. simp (m, and-false)))
      (λ l. simp (l, and-false)))
