-- The digits of a number are those of its tenth, and one more; so they are put two at a time, and counted one by one.
use mathlib.Core.Path.{◌≡◌}
use mathlib.Core.List.{[], ◌∷◌, ◌++◌, append_assoc}
use Prim.Native.Nat.{ℕ, zero, suc, ◌+◌, ◌*◌, ◌/◌, ◌%◌, ◌^◌, ◌≤◌, ◌<◌}
use native.Mathlib.Omega.{arith}
use borrow.Author.Rules.{rules}
use lib.ListN.{length, length-append}
use Rattle.model.specs.Listing.{digit_zero, digits_within, decimal}
use Rattle.model.proofs.BooleanLaws.{by_lt}
use Rattle.model.proofs.DecimalDigits.{digits_one, digits_more}
use Rattle.text.specs.declared.Writer.{Writer}
use Rattle.text.specs.AppendedBytes.{place_after, last_two, puts}
use Rattle.text.proofs.AppendLaws.{moved, puts_past, put_then, put_next}

-- more places than digits change nothing
digits_enough : (most more k : ℕ) → k < most → k < more → digits_within most k ≡ digits_within more k
digits_enough zero more k h l = absurd (omega arith)
digits_enough (suc most) zero k h l = absurd (omega arith)
digits_enough (suc most) (suc more) k h l = by_lt k 10
    (λ s. rw (digits_one most k s, digits_one more k s))
    (λ s. rw (digits_more most k s, digits_more more k s, digits_enough most more (k / 10) (omega arith) (omega arith)))

pub decimal_low : (k : ℕ) → k < 10 → decimal k ≡ (digit_zero + k) ∷ []
decimal_low k h = digits_one k k h

pub decimal_high : (k : ℕ) → 10 ≤ k → decimal k ≡ decimal (k / 10) ++ ((digit_zero + k % 10) ∷ [])
decimal_high k h = rw (digits_more k k h, digits_enough k (suc (k / 10)) (k / 10) (omega arith) (omega arith))

-- two digits at a time
decimal_two : (k : ℕ) → 10 ≤ k → k < 100 → decimal k ≡ last_two k
decimal_two k h l =
    let tens : k / 10 ≡ k / 10 % 10 = omega arith in
    rw (decimal_high k h, decimal_low (k / 10) (omega arith), ← tens)

decimal_hundreds : (k : ℕ) → 100 ≤ k → decimal k ≡ decimal (k / 100) ++ last_two k
decimal_hundreds k h =
    let hundreds : k / 10 / 10 ≡ k / 100 = omega arith in
    rw (decimal_high k (omega arith), decimal_high (k / 10) (omega arith), hundreds)
    (append_assoc (decimal (k / 100)) ((digit_zero + k / 10 % 10) ∷ []) ((digit_zero + k % 10) ∷ []))

-- from a power of ten up to the next, a number has a digit for each nought of the power, and one
pub digits_between : (n k : ℕ) → 10 ^ n ≤ k → k < 10 * 10 ^ n → length (decimal k) ≡ n + 1
digits_between zero k h l = rw (decimal_low k (omega arith)) (omega arith)
digits_between (suc n) k h l =
    let tenth = digits_between n (k / 10) (omega arith) (omega arith) in
    rw (decimal_high k (omega arith), length-append (decimal (k / 10)) ((digit_zero + k % 10) ∷ []), tenth) (omega arith)

pub ruleset counting = (rules, decimal_low, digits_between)

-- the ways out of `put_two` and `put_decimal`
module _ (k : ℕ) (w end : Writer) where
  pub digits_past : length w.text.now ≤ w.at → w.at < 2 ^ 64 → (at : ℕ) → at ≡ place_after w.at (length (decimal k)) → moved w w.text.now at ≡ puts (decimal k) w
  digits_past h l at e = rw (puts_past (decimal k) w h l, e)

  pub digits_low : k < 10 → end ≡ puts ((48 + k) ∷ []) w → end ≡ puts (decimal k) w
  digits_low h p = rw (decimal_low k h) p

  pub digits_two : 10 ≤ k → k < 100 → end ≡ puts (last_two k) w → end ≡ puts (decimal k) w
  digits_two h l p = rw (decimal_two k h l) p

  pub digits_high : 100 ≤ k → (middle : Writer) → middle ≡ puts (decimal (k / 100)) w → end ≡ puts (last_two k) middle → end ≡ puts (decimal k) w
  digits_high h middle p q = rw (decimal_hundreds k h) (put_then (decimal (k / 100)) (last_two k) w middle end p q)

pub ruleset digits = (rules, put_next, digits_past, digits_low, digits_two, digits_high)
