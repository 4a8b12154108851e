-- Splitting on computed tests, and the few facts of Bool that the proofs need beside those of borrow.Author.Tests.
use Prim.Native.Nat.{ℕ, zero, suc, ◌≤◌, ◌<◌}
use native.Mathlib.Nat.{lt_irrefl, lt_of_lt_of_le, not-suc-le-zero}
use native.Mathlib.Omega.{arith}
use mathlib.Core.Path.{◌≡◌, refl, sym}
use mathlib.Core.Logic.{◌≢◌}
use mathlib.Core.Bool.{Bool, true, false, not, ◌&&◌, ◌||◌, true≢false, false≢true}
use lib.Dec.{eqb, ltb}
use Rattle.model.specs.Reach.{any_below}
use borrow.Author.Tests.{eqb-true, eqb-false, eq-eqb, ltb-true, ltb-false}

-- split on a test, and keep what it says
pub by_bool {ℓ} : {A : Type ℓ} (b : Bool) → (b ≡ true → A) → (b ≡ false → A) → A
by_bool true f g = f refl
by_bool false f g = g refl

-- split on two numbers being equal
pub by_eq {ℓ} : {A : Type ℓ} (m n : ℕ) → (m ≡ n → A) → (m ≢ n → A) → A
by_eq m n f g = by_bool (eqb m n) (λ e. f (eqb-true m n e)) (λ e. g (eqb-false m n e))

-- split on one number being less than another
pub by_lt {ℓ} : {A : Type ℓ} (m n : ℕ) → (m < n → A) → (n ≤ m → A) → A
by_lt m n f g = by_bool (ltb m n) (λ e. f (ltb-true m n e)) (λ e. g (ltb-false m n e))

-- split on the order of two numbers
pub by_order {ℓ} : {A : Type ℓ} (m n : ℕ) → (m < n → A) → (m ≡ n → A) → (n < m → A) → A
by_order m n f e g = by_lt m n f (λ h. by_eq m n e (λ ne. g (omega arith)))

pub eqb_same : (n : ℕ) → eqb n n ≡ true
eqb_same n = eq-eqb n n refl

-- a test cannot say both
pub clash {ℓ} : {A : Type ℓ} {b : Bool} → b ≡ true → b ≡ false → A
clash {b = true} p q = absurd (true≢false q)
clash {b = false} p q = absurd (false≢true p)

-- two tests that imply each other are equal
pub same_test : (a b : Bool) → (a ≡ true → b ≡ true) → (b ≡ true → a ≡ true) → a ≡ b
same_test true b f g = sym (f refl)
same_test false true f g = g refl
same_test false false f g = refl

-- what cannot be: a successor that is 0, a number below another that is not above it
pub not_zero : (k : ℕ) → ◌≡◌ {A = ℕ} (suc k) 0 → ⊥
not_zero k e = omega arith

pub not_below {ℓ} : {A : Type ℓ} (m n : ℕ) → n ≤ m → m < n → A
not_below m n h l = absurd (lt_irrefl m (lt_of_lt_of_le l h))

-- what is not true is false
pub not_true_false : (b : Bool) → (b ≡ true → ⊥) → b ≡ false
not_true_false b h = by_bool b (λ e. absurd (h e)) (λ e. e)

pub and_left : (a b : Bool) → a && b ≡ true → a ≡ true
and_left true b e = refl
and_left false b e = e

pub and_right : (a b : Bool) → a && b ≡ true → b ≡ true
and_right true b e = e
and_right false b e = absurd (false≢true e)

pub and_both : (a b : Bool) → a ≡ true → b ≡ true → a && b ≡ true
and_both true b e f = f
and_both false b e f = e

pub and_false_right : (a b : Bool) → b ≡ false → a && b ≡ false
and_false_right true b e = e
and_false_right false b e = refl

pub or_left : (a b : Bool) → a ≡ true → a || b ≡ true
or_left true b e = refl
or_left false b e = absurd (false≢true e)

pub or_right : (a b : Bool) → b ≡ true → a || b ≡ true
or_right true b e = refl
or_right false b e = e

pub or_cases {ℓ} : {A : Type ℓ} (a b : Bool) → a || b ≡ true → (a ≡ true → A) → (b ≡ true → A) → A
or_cases true b e f g = f refl
or_cases false b e f g = g e

pub or-false : (a b : Bool) → a ≡ false → b ≡ false → a || b ≡ false
or-false true b e f = e
or-false false b e f = f

pub or_false_left : (a b : Bool) → a || b ≡ false → a ≡ false
or_false_left true b e = e
or_false_left false b e = refl

pub or_false_right : (a b : Bool) → a || b ≡ false → b ≡ false
or_false_right true b e = absurd (true≢false e)
or_false_right false b e = e

pub not_not : (a : Bool) → not (not a) ≡ a
not_not true = refl
not_not false = refl

-- a search below k: what passes is found, what is found passes, where nothing is found nothing passes, and tests that agree find alike
pub any_here : (k : ℕ) (test : ℕ → Bool) (t : ℕ) → t < k → test t ≡ true → any_below k test ≡ true
unfolding any_below
any_here zero test t lt h = absurd (not-suc-le-zero lt)
any_here (suc k) test t lt h = by_eq t k
    (λ e. or_right (any_below k test) (test k) (rw e at h))
    (λ ne. or_left (any_below k test) (test k) (any_here k test t (omega arith) h))

pub any_cases {ℓ} : {A : Type ℓ} (k : ℕ) (test : ℕ → Bool) → any_below k test ≡ true → ((t : ℕ) → t < k → test t ≡ true → A) → A
unfolding any_below
any_cases zero test h f = absurd (false≢true h)
any_cases (suc k) test h f = or_cases (any_below k test) (test k) h
    (λ i. any_cases k test i (λ t lt e. f t (omega arith) e))
    (λ e. f k (omega arith) e)

pub any_false : (k : ℕ) (test : ℕ → Bool) → any_below k test ≡ false → (t : ℕ) → t < k → test t ≡ false
any_false k test h t lt = not_true_false (test t) (λ e. clash (any_here k test t lt e) h)

pub any_same : (k : ℕ) (a b : ℕ → Bool) → ((t : ℕ) → t < k → a t ≡ b t) → any_below k a ≡ any_below k b
unfolding any_below
any_same zero a b h = refl
any_same (suc k) a b h = rw (any_same k a b (λ t lt. h t (omega arith)), h k (omega arith))
