-- An outcome is a result or a refusal, not both, and says which; a result went through every requirement on the way to it.
use mathlib.Core.Path.{◌≡◌, refl, sym, ap}
use mathlib.Core.Bool.{Bool, true, false, true≢false}
use Prim.Native.Nat.{ℕ}
use Rattle.model.specs.Answers.{Outcome, gives, refuses, after, require, value_or}

unfoldable is_given : {A : Type 0} → Outcome A → Bool
is_given (gives a) = true
is_given (refuses k) = false

pub not_both {ℓ} : {A : Type 0} {B : Type ℓ} {a : A} {k : ℕ} → refuses k ≡ gives a → B
unfolding is_given
not_both e = absurd (true≢false (sym (ap is_given e)))

pub gives_same : {A : Type 0} {a b : A} → gives a ≡ gives b → a ≡ b
unfolding value_or
gives_same {a = a} e = ap (value_or a) e

-- a requirement that is passed holds, and what comes behind it gives the result
pub required : {A : Type 0} (b : Bool) (k : ℕ) (x : Outcome A) {a : A} → require b k x ≡ gives a → (b ≡ true) × (x ≡ gives a)
unfolding require
required true k x e = (refl, e)
required false k x e = not_both e

-- a first outcome that was gone on from gave something
pub record Gave {A B : Type 0} (x : Outcome A) (f : A → Outcome B) (b : B) : Type 0 where
  pub first : A
  pub first_is : x ≡ gives first
  pub then_is : f first ≡ gives b

pub gave : {A B : Type 0} (x : Outcome A) (f : A → Outcome B) {b : B} → after x f ≡ gives b → Gave x f b
unfolding after
gave (gives a) f e = record { first = a; first_is = refl; then_is = e }
gave (refuses k) f e = not_both e
