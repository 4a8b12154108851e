-- The digits that a listing or a page writes are those of the number, and how many they are.
use mathlib.Core.Path.{◌≡◌, refl}
use mathlib.Core.List.{List, [], ◌∷◌, ◌++◌}
use Prim.Native.Nat.{ℕ, zero, suc, ◌+◌, ◌*◌, ◌-◌, ◌/◌, ◌%◌, ◌^◌, ◌≤◌, ◌<◌, zero-le}
use native.Mathlib.Omega.{arith}
use borrow.Author.Tests.{lt-ltb, le-ltb}
use lib.ListN.{length, length-append}
use Rattle.model.specs.Listing.{digit_zero, digits_within, decimal}
use Rattle.model.specs.Page.{spelled}
use Rattle.model.proofs.BooleanLaws.{by_lt}

spelled_append : (k : ℕ) (ds es : List ℕ) → spelled k (ds ++ es) ≡ spelled (spelled k ds) es
unfolding spelled
spelled_append k [] es = refl
spelled_append k (d ∷ ds) es = spelled_append (10 * k + (d - digit_zero)) ds es

-- one digit, and more than one
pub digits_one : (most k : ℕ) → k < 10 → digits_within (suc most) k ≡ (digit_zero + k) ∷ []
unfolding digits_within
digits_one most k h = rw (lt-ltb k 10 h, digits_within)

pub digits_more : (most k : ℕ) → 10 ≤ k → digits_within (suc most) k ≡ digits_within most (k / 10) ++ ((digit_zero + k % 10) ∷ [])
unfolding digits_within
digits_more most k h = rw (le-ltb k 10 h, digits_within)

digits_spell : (most k : ℕ) → k < most → spelled 0 (digits_within most k) ≡ k
unfolding spelled
digits_spell zero k h = absurd (omega arith)
digits_spell (suc most) k h =
    by_lt k 10
    (λ l. rw (digits_one most k l) (omega arith))
    (λ l. rw (
      digits_more most k l,
      spelled_append 0 (digits_within most (k / 10)) ((digit_zero + k % 10) ∷ []),
      digits_spell most (k / 10) (omega arith),
    ) (omega arith))

-- `most` is enough: the digits spell the number
pub decimal_spells : (k : ℕ) → spelled 0 (decimal k) ≡ k
decimal_spells k = digits_spell (suc k) k (omega arith)

-- a number below a power of ten has at most as many digits as the power has noughts
digits_few : (n most k : ℕ) → k < 10 ^ suc n → length (digits_within most k) ≤ suc n
unfolding digits_within
digits_few n zero k h = zero-le
digits_few zero (suc most) k h = rw (digits_one most k h) (omega arith)
digits_few (suc n) (suc most) k h = by_lt k 10
    (λ l. rw (digits_one most k l) (omega arith))
    (λ l. rw (digits_more most k l, length-append (digits_within most (k / 10)) ((digit_zero + k % 10) ∷ []))
    (omega (arith, digits_few n most (k / 10) (omega arith))))

pub decimal_few : (n k : ℕ) → k < 10 ^ suc n → length (decimal k) ≤ suc n
decimal_few n k h = digits_few n (suc k) k h
