-- Reach and rank: the computed reach is "one or more calls"; the rank of a procedure falls at each non-recursive call and does not rise at a
-- recursive one, which carries a removal where refusal 10 has passed.
use mathlib.Core.Path.{◌≡◌, refl, sym, subst}
use mathlib.Core.Logic.{◌≢◌}
use mathlib.Core.Bool.{Bool, true, false, ◌&&◌, ◌||◌, true≢false, false≢true}
use mathlib.Core.List.{List, [], ◌∷◌}
use Prim.Native.Nat.{ℕ, zero, suc, ◌≤◌, ◌<◌, zero-le, suc-le-suc}
use native.Mathlib.Nat.{not-suc-le-zero}
use native.Mathlib.Omega.{arith}
use borrow.Author.Tests.{eqb-true, ne_eqb, ltb-false}
use lib.ListN.{get_or-eq_default}
use lib.Dec.{eqb, ltb}
use Rattle.model.specs.Syntax.{Number, Statement, skip, NOT, sequence, if, qcase, call, Program, count, body}
use Rattle.model.specs.Reach.{
  calls,
  Reaches,
  direct,
  onward,
  reaches_below,
  reaches,
  recursive,
  is_empty,
  lacks_removal,
  width,
  any_lacks_removal,
  any_too_wide,
}
use Rattle.model.proofs.BooleanLaws.{
  by_bool,
  by_eq,
  by_lt,
  eqb_same,
  clash,
  not_true_false,
  and_left,
  and_right,
  and_both,
  or_cases,
  or_left,
  or_right,
  or-false,
  or_false_left,
  or_false_right,
  any_false,
}
use Rattle.model.proofs.ListLaws.{Carries}

-- every call names a procedure: 1 to p. Reading gives 6 otherwise.
abbrev pub Named : Program → Type 0
Named P = (f g : ℕ) → calls (body P f) g ≡ true → (0 < g) × (g ≤ count P)

-- behind the last procedure there is nothing
pub body_out : (P : Program) (f : ℕ) → count P < f → body P f ≡ skip
body_out P f h = get_or-eq_default (P.main ∷ P.procedures) skip h

-- reach, computed by letting calls pass through one procedure more at a time
more_reach : (P : Program) (v f g : ℕ) → reaches_below P v f g ≡ true → reaches_below P (suc v) f g ≡ true
unfolding reaches_below
more_reach P v f g h = or_left (reaches_below P v f g) (reaches_below P v f v && reaches_below P v v g) h

direct_reach : (P : Program) (v f g : ℕ) → calls (body P f) g ≡ true → reaches_below P v f g ≡ true
unfolding reaches_below
direct_reach P zero f g h = h
direct_reach P (suc v) f g h = more_reach P v f g (direct_reach P v f g h)

-- it goes on through any procedure below v
onward_reach : (P : Program) (v f h g : ℕ) → h < v → reaches_below P v f h ≡ true → reaches_below P v h g ≡ true → reaches_below P v f g ≡ true
unfolding reaches_below
onward_reach P zero f h g lt a b = absurd (not-suc-le-zero lt)
onward_reach P (suc v) f h g lt a b =
    let R : ℕ → ℕ → Bool = reaches_below P v in
    let last : R f v ≡ true → R v g ≡ true → reaches_below P (suc v) f g ≡ true =
    λ x y. or_right (R f g) (R f v && R v g) (and_both (R f v) (R v g) x y) in
    or_cases (R f h) (R f v && R v h) a
    (λ fh. or_cases (R h g) (R h v && R v g) b
    (λ hg. by_eq h v
    (λ e. last (subst (λ (x : ℕ). R f x ≡ true) e fh) (subst (λ (x : ℕ). R x g ≡ true) e hg))
    (λ ne. more_reach P v f g (onward_reach P v f h g (omega arith) fh hg)))
    (λ hvg. let vg = and_right (R h v) (R v g) hvg in
    by_eq h v
    (λ e. last (subst (λ (x : ℕ). R f x ≡ true) e fh) vg)
    (λ ne. last (onward_reach P v f h v (omega arith) fh (and_left (R h v) (R v g) hvg)) vg)))
    (λ fvh. let fv = and_left (R f v) (R v h) fvh in
    or_cases (R h g) (R h v && R v g) b
    (λ hg. by_eq h v
    (λ e. last fv (subst (λ (x : ℕ). R x g ≡ true) e hg))
    (λ ne. last fv (onward_reach P v v h g (omega arith) (and_right (R f v) (R v h) fvh) hg)))
    (λ hvg. last fv (and_right (R h v) (R v g) hvg)))

Reaches-trans : (P : Program) {f h g : ℕ} → Reaches P f h → Reaches P h g → Reaches P f g
Reaches-trans P (direct c) y = onward c y
Reaches-trans P (onward c x) y = onward c (Reaches-trans P x y)

below_sound : (P : Program) (v f g : ℕ) → reaches_below P v f g ≡ true → Reaches P f g
unfolding reaches_below
below_sound P zero f g h = direct h
below_sound P (suc v) f g h = or_cases (reaches_below P v f g) (reaches_below P v f v && reaches_below P v v g) h
    (λ x. below_sound P v f g x)
    (λ x. Reaches-trans P
    (below_sound P v f v (and_left (reaches_below P v f v) (reaches_below P v v g) x))
    (below_sound P v v g (and_right (reaches_below P v f v) (reaches_below P v v g) x)))

-- what is computed is "one or more calls": it reaches all that calls lead to, and only that
pub reach_complete : (P : Program) → Named P → {f g : ℕ} → Reaches P f g → reaches P f g ≡ true
reach_complete P N {f} {g} (direct c) = direct_reach P (suc (count P)) f g c
reach_complete P N (onward {f = f} {h = h} {g = g} c r) =
    onward_reach P (suc (count P)) f h g (suc-le-suc (N f h c).1) (direct_reach P (suc (count P)) f h c) (reach_complete P N r)

pub reach_sound : (P : Program) (f g : ℕ) → reaches P f g ≡ true → Reaches P f g
reach_sound P f g h = below_sound P (suc (count P)) f g h

pub reach_trans : (P : Program) (f h g : ℕ) → h ≤ count P → reaches P f h ≡ true → reaches P h g ≡ true → reaches P f g ≡ true
reach_trans P f h g le a b = onward_reach P (suc (count P)) f h g (suc-le-suc le) a b

pub reach_call : (P : Program) (f g : ℕ) → calls (body P f) g ≡ true → reaches P f g ≡ true
reach_call P f g c = direct_reach P (suc (count P)) f g c

-- what is reached is a procedure
pub reached_named : (P : Program) → Named P → {f g : ℕ} → Reaches P f g → (0 < g) × (g ≤ count P)
reached_named P N (direct {f = f} {g = g} c) = N f g c
reached_named P N (onward c r) = reached_named P N r

-- so nothing reaches main
pub main_unreached : (P : Program) → Named P → (f : ℕ) → reaches P f 0 ≡ false
main_unreached P N f = not_true_false (reaches P f 0) (λ h. not-suc-le-zero (reached_named P N (reach_sound P f 0 h)).0)

-- how many numbers below k pass a test
unfoldable pub how_many : (ℕ → Bool) → ℕ → ℕ
how_many b zero = 0
how_many b (suc k) = elim (b k) [ true ↦ suc (how_many b k) | false ↦ how_many b k ]

how_many_yes : (b : ℕ → Bool) (k : ℕ) → b k ≡ true → how_many b (suc k) ≡ suc (how_many b k)
unfolding how_many
how_many_yes b k e = rw (e, how_many)

how_many_no : (b : ℕ → Bool) (k : ℕ) → b k ≡ false → how_many b (suc k) ≡ how_many b k
unfolding how_many
how_many_no b k e = rw (e, how_many)

how_many_subset : (a b : ℕ → Bool) → ((x : ℕ) → a x ≡ true → b x ≡ true) → (k : ℕ) → how_many a k ≤ how_many b k
unfolding how_many
how_many_subset a b h zero = zero-le
how_many_subset a b h (suc k) = let ih = how_many_subset a b h k in by_bool (a k)
    (λ e. rw (how_many_yes a k e, how_many_yes b k (h k e)) (omega arith))
    (λ e. by_bool (b k)
    (λ f. rw (how_many_no a k e, how_many_yes b k f) (omega arith))
    (λ f. rw (how_many_no a k e, how_many_no b k f) ih))

how_many_less : (a b : ℕ → Bool) → ((x : ℕ) → a x ≡ true → b x ≡ true) → (k y : ℕ) → y < k → a y ≡ false → b y ≡ true → how_many a k < how_many b k
unfolding how_many
how_many_less a b h zero y lt na yb = absurd (not-suc-le-zero lt)
how_many_less a b h (suc k) y lt na yb = by_eq y k
    (λ e. let ih = how_many_subset a b h k in
    rw (how_many_no a k (subst (λ (x : ℕ). a x ≡ false) e na), how_many_yes b k (subst (λ (x : ℕ). b x ≡ true) e yb)) (omega arith))
    (λ ne. let ih = how_many_less a b h k y (omega arith) na yb in by_bool (a k)
    (λ e. rw (how_many_yes a k e, how_many_yes b k (h k e)) (omega arith))
    (λ e. by_bool (b k)
    (λ f. rw (how_many_no a k e, how_many_yes b k f) (omega arith))
    (λ f. rw (how_many_no a k e, how_many_no b k f) ih)))

how_many_all : (b : ℕ → Bool) (k : ℕ) → how_many b k ≤ k
unfolding how_many
how_many_all b zero = zero-le
how_many_all b (suc k) = let ih = how_many_all b k in by_bool (b k)
    (λ e. rw (how_many_yes b k e) (omega arith))
    (λ e. rw (how_many_no b k e) (omega arith))

-- where 0 does not pass, one less
how_many_most : (b : ℕ → Bool) → b 0 ≡ false → (k : ℕ) → how_many b (suc k) ≤ k
unfolding how_many
how_many_most b z zero = rw (how_many_no b 0 z) zero-le
how_many_most b z (suc k) = let ih = how_many_most b z k in by_bool (b (suc k))
    (λ e. rw (how_many_yes b (suc k) e) (omega arith))
    (λ e. rw (how_many_no b (suc k) e) (omega arith))

-- the procedures that f reaches, itself among them
unfoldable pub from : Program → ℕ → ℕ → Bool
from P f x = eqb x f || reaches P f x

-- rank: how many they are
unfoldable pub rank : Program → ℕ → ℕ
rank P f = how_many (from P f) (suc (count P))

from_self : (P : Program) (f : ℕ) → from P f f ≡ true
unfolding from
from_self P f = or_left (eqb f f) (reaches P f f) (eqb_same f)

pub rank_positive : (P : Program) (f : ℕ) → f ≤ count P → 0 < rank P f
unfolding rank how_many
rank_positive P f h =
    let z = how_many_less (λ x. false) (from P f) (λ x e. absurd (false≢true e)) (suc (count P)) f (suc-le-suc h) refl (from_self P f) in omega arith

-- main at 0 counts too
pub rank_all : (P : Program) (f : ℕ) → rank P f ≤ suc (count P)
unfolding rank
rank_all P f = how_many_all (from P f) (suc (count P))

pub rank_most : (P : Program) → Named P → (f : ℕ) → 0 < f → rank P f ≤ count P
unfolding rank from
rank_most P N f h = how_many_most (from P f) (or-false (eqb 0 f) (reaches P f 0) (ne_eqb 0 f (positive f h)) (main_unreached P N f)) (count P)
  where
    positive : (f : ℕ) → 0 < f → 0 ≢ f
    positive f h = omega arith

module _ (P : Program) where
  -- g lies below f: all that g reaches, and g itself, f reaches
  below_from : (f g : ℕ) → g ≤ count P → reaches P f g ≡ true → (x : ℕ) → from P g x ≡ true → reaches P f x ≡ true
  unfolding from
  below_from f g le c x h = or_cases (eqb x g) (reaches P g x) h
      (λ e. subst (λ (v : ℕ). reaches P f v ≡ true) (sym (eqb-true x g e)) c)
      (λ r. reach_trans P f g x le c r)

  pub rank_reach : (f g : ℕ) → g ≤ count P → reaches P f g ≡ true → rank P g ≤ rank P f
  unfolding rank from
  rank_reach f g le c =
      how_many_subset (from P g) (from P f) (λ x h. or_right (eqb x f) (reaches P f x) (below_from f g le c x h)) (suc (count P))

  -- f reaches g, and g does not reach f
  pub rank_falls : (f g : ℕ) → f ≤ count P → g ≤ count P → reaches P f g ≡ true → reaches P g f ≡ false → rank P g < rank P f
  unfolding rank from
  rank_falls f g lf lg c nr =
      how_many_less (from P g) (from P f) (λ x h. or_right (eqb x f) (reaches P f x) (below_from f g lg c x h)) (suc (count P)) f (suc-le-suc lf)
      (or-false (eqb f g) (reaches P g f) (ne_eqb f g (λ e.
      clash (subst (λ (v : ℕ). reaches P v f ≡ true) e (subst (λ (v : ℕ). reaches P f v ≡ true) (sym e) c)) nr)) nr)
      (from_self P f)

-- the calls of a statement in a procedure of rank k, where r says which are recursive: those do not rise in rank and carry a removal, the others fall
abbrev pub Ranked : (ℕ → ℕ) → (ℕ → Bool) → ℕ → Statement → Type 0
Ranked rank r k skip = Unit {0}
Ranked rank r k (NOT rs a) = Unit {0}
Ranked rank r k (sequence s t) = Ranked rank r k s × Ranked rank r k t
Ranked rank r k (if c s t) = Ranked rank r k s × Ranked rank r k t
Ranked rank r k (qcase rs a s t) = Ranked rank r k s × Ranked rank r k t
Ranked rank r k (call rs f) = (r f ≡ true → (rank f ≤ k) × Carries rs) × (r f ≡ false → rank f < k)

pub carries_of : (rs : List Number) → is_empty rs ≡ false → Carries rs
unfolding is_empty
carries_of [] e = true≢false e
carries_of (a ∷ rs) e = tt

-- the calls of a part are calls of the whole
abbrev CallsOf : Statement → Statement → Type 0
CallsOf s t = (g : ℕ) → calls s g ≡ true → calls t g ≡ true

module _ (P : Program) (N : Named P) (f : ℕ) (lf : f ≤ count P) where
  abbrev lacks : Statement → Bool
  lacks = lacks_removal (recursive P f)

  ranked_part : (s : Statement) → CallsOf s (body P f) → lacks s ≡ false → Ranked (rank P) (recursive P f) (rank P f) s
  unfolding calls lacks_removal
  ranked_part skip h c = tt
  ranked_part (NOT rs a) h c = tt
  ranked_part (sequence s t) h c = (
    ranked_part s (λ g e. h g (or_left (calls s g) (calls t g) e)) (or_false_left (lacks s) (lacks t) c),
    ranked_part t (λ g e. h g (or_right (calls s g) (calls t g) e)) (or_false_right (lacks s) (lacks t) c),
  )
  ranked_part (if i s t) h c = (
    ranked_part s (λ g e. h g (or_left (calls s g) (calls t g) e)) (or_false_left (lacks s) (lacks t) c),
    ranked_part t (λ g e. h g (or_right (calls s g) (calls t g) e)) (or_false_right (lacks s) (lacks t) c),
  )
  ranked_part (qcase rs a s t) h c = (
    ranked_part s (λ g e. h g (or_left (calls s g) (calls t g) e)) (or_false_left (lacks s) (lacks t) c),
    ranked_part t (λ g e. h g (or_right (calls s g) (calls t g) e)) (or_false_right (lacks s) (lacks t) c),
  )
  ranked_part (call rs g) h c =
      let calls_g = h g (eqb_same g) in
      let lg = (N f g calls_g).1 in (
        (λ e. (rank_reach P f g lg (reach_call P f g calls_g), carries_of rs (removal_there e))),
        (λ e. rank_falls P f g lf lg (reach_call P f g calls_g) e),
      )
    where
      removal_there : recursive P f g ≡ true → is_empty rs ≡ false
      removal_there e = not_true_false (is_empty rs) (λ m. clash (and_both (recursive P f g) (is_empty rs) e m) c)

-- refusal 10 passed: every recursive call carries a removal
pub all_removing : (P : Program) → any_lacks_removal P ≡ false → (f : ℕ) → lacks_removal (recursive P f) (body P f) ≡ false
unfolding any_lacks_removal lacks_removal
all_removing P h f = by_lt f (suc (count P))
    (λ lt. any_false (suc (count P)) (λ x. lacks_removal (recursive P x) (body P x)) h f lt)
    (λ ge. rw (body_out P f ge))

-- and every body's calls are ranked
pub all_ranked : (P : Program) → Named P → any_lacks_removal P ≡ false → (f : ℕ) → Ranked (rank P) (recursive P f) (rank P f) (body P f)
all_ranked P N h f = by_lt f (suc (count P))
    (λ lt. ranked_part P N f (omega arith) (body P f) (λ g e. e) (all_removing P h f))
    (λ ge. subst (λ (s : Statement). Ranked (rank P) (recursive P f) (rank P f) s) (sym (body_out P f ge)) tt)

-- refusal 11 passed: every body has width at most 1
pub all_narrow : (P : Program) → any_too_wide P ≡ false → (f : ℕ) → width (recursive P f) (body P f) ≤ 1
unfolding any_too_wide width
all_narrow P h f = by_lt f (suc (count P))
    (λ lt. ltb-false 1 (width (recursive P f) (body P f))
    (any_false (suc (count P)) (λ x. ltb 1 (width (recursive P x) (body P x))) h f lt))
    (λ ge. rw (body_out P f ge) zero-le)
