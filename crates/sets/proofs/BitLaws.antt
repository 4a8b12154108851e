-- The bits of words: one bit more or less, the lowest and the highest that stands, and how many do.
use mathlib.Core.Path.{◌≡◌, refl, sym, ap, ◌∙◌, subst}
use mathlib.Core.Logic.{◌≢◌}
use mathlib.Core.Bool.{true, false, ◌||◌, ◌&&◌, or-false}
use Prim.Native.Nat.{ℕ, zero, suc, ◌-◌, ◌*◌, ◌/◌, ◌%◌, ◌^◌, ◌≤◌, ◌<◌}
use native.Mathlib.Nat.{le-div_iff_mul-le, one-mul, mod-lt, zero-lt-suc, div-one, pow-succ', div-div-eq-div-mul, not-suc-le-zero}
use native.Mathlib.Numerals.{add-one, one-add}
use native.Mathlib.Omega.{arith}
use borrow.Author.Tests.{eq-eqb, ne_eqb, eqb-true, eqb-false}
use lib.Dec.{eqb}
use lib.Bits.{bit_and, bit_or, bit_xor, or_shr, or_mod, and_shr, and_mod, and_step, and_self}
use lib.Pow.{pow_pos, shr_lt}
use lib.Count.{count_trailing_zeros, count_leading_zeros, leading_top}
use Rattle.model.specs.Meaning.{bit}
use Rattle.model.proofs.BooleanLaws.{by_eq, by_lt, clash}
use Rattle.model.proofs.WordBits.{flip_same, flip_other, zero_bit, past_bit}

-- a bit of a word is its lowest bit, or one of its half
pub lowest_bit : (x : ℕ) → bit x 0 ≡ eqb (x % 2) 1
lowest_bit x = ap (λ (y : ℕ). eqb (y % 2) 1) (div-one x)

pub higher_bit : (x k : ℕ) → bit x (suc k) ≡ bit (x / 2) k
higher_bit x k = ap (λ (y : ℕ). eqb (y % 2) 1)
    (ap (λ (y : ℕ). x / y) (pow-succ' 2 k) ∙ sym (div-div-eq-div-mul x 2 (2 ^ k)))

pub half_below : (n x : ℕ) → x < 2 ^ suc n → x / 2 < 2 ^ n
half_below n x h = shr_lt n 1 (subst (λ (m : ℕ). x < 2 ^ m) (sym (add-one n)) h)

pub odd_bit : (x : ℕ) → x % 2 ≡ 1 → bit x 0 ≡ true
odd_bit x e = lowest_bit x ∙ eq-eqb (x % 2) 1 e

pub even_bit : (x : ℕ) → x % 2 ≡ 0 → bit x 0 ≡ false
even_bit x e = lowest_bit x ∙ ne_eqb (x % 2) 1 (omega arith)

-- even or odd
pub by_parity {ℓ} : {A : Type ℓ} (x : ℕ) → (x % 2 ≡ 1 → A) → (x % 2 ≡ 0 → A) → A
by_parity x f g = by_eq (x % 2) 1 f (λ ne. g (omega arith))

-- joined words
either : (x y : ℕ) → x < 2 → y < 2 → eqb (bit_or x y) 1 ≡ eqb x 1 || eqb y 1
either zero zero h l = refl
either zero (suc zero) h l = refl
either (suc zero) zero h l = refl
either (suc zero) (suc zero) h l = refl
either zero (suc (suc y)) h l = absurd (omega arith)
either (suc zero) (suc (suc y)) h l = absurd (omega arith)
either (suc (suc x)) y h l = absurd (omega arith)

pub or_bit : (n m k : ℕ) → bit (bit_or n m) k ≡ bit n k || bit m k
or_bit n m k =
    ap (λ (x : ℕ). eqb x 1) (ap (λ (x : ℕ). x % 2) (or_shr n m k) ∙ or_mod (n / 2 ^ k) (m / 2 ^ k) 1)
    ∙ either (n / 2 ^ k % 2) (m / 2 ^ k % 2) (mod-lt (n / 2 ^ k) (zero-lt-suc 1)) (mod-lt (m / 2 ^ k) (zero-lt-suc 1))

pub power_same : (k : ℕ) → bit (2 ^ k) k ≡ true
power_same k = flip_same 0 k ∙ rw (zero_bit k)

both : (x y : ℕ) → x < 2 → y < 2 → eqb (bit_and x y) 1 ≡ eqb x 1 && eqb y 1
both zero zero h l = refl
both zero (suc zero) h l = refl
both (suc zero) zero h l = refl
both (suc zero) (suc zero) h l = refl
both zero (suc (suc y)) h l = absurd (omega arith)
both (suc zero) (suc (suc y)) h l = absurd (omega arith)
both (suc (suc x)) y h l = absurd (omega arith)

pub and_bit : (n m k : ℕ) → bit (bit_and n m) k ≡ bit n k && bit m k
and_bit n m k =
    ap (λ (x : ℕ). eqb x 1) (ap (λ (x : ℕ). x % 2) (and_shr n m k) ∙ and_mod (n / 2 ^ k) (m / 2 ^ k) 1)
    ∙ both (n / 2 ^ k % 2) (m / 2 ^ k % 2) (mod-lt (n / 2 ^ k) (zero-lt-suc 1)) (mod-lt (m / 2 ^ k) (zero-lt-suc 1))

pub power_other : (k j : ℕ) → j ≢ k → bit (2 ^ k) j ≡ false
power_other k j ne = flip_other 0 k j ne ∙ zero_bit j

-- w has bit k and otherwise the bits of v, which lacks it
pub record More (w v k : ℕ) : Type 0 where
  pub has : bit w k ≡ true
  pub lacks : bit v k ≡ false
  pub same : (j : ℕ) → j ≢ k → bit w j ≡ bit v j

pub more_or : (v k : ℕ) → bit v k ≡ false → More (bit_or v (2 ^ k)) v k
more_or v k e = record {
  has = or_bit v (2 ^ k) k ∙ rw (e, power_same k);
  lacks = e;
  same = λ j ne. or_bit v (2 ^ k) j ∙ rw (power_other k j ne) (or-false (bit v j));
}

pub more_xor : (w k : ℕ) → bit w k ≡ true → More w (bit_xor w (2 ^ k)) k
more_xor w k e = record {
  has = e;
  lacks = flip_same w k ∙ rw e;
  same = λ j ne. sym (flip_other w k j ne);
}

-- the lowest bit that stands, among n, and the word without it
abbrev pub cleared : ℕ → ℕ
cleared w = bit_and w (w - 1)

odd_cleared : (w : ℕ) → w % 2 ≡ 1 → cleared w ≡ w / 2 * 2
odd_cleared w e =
    let half : (w - 1) / 2 ≡ w / 2 = omega arith in
    let rest : (w - 1) % 2 ≡ 0 = omega arith in
    and_step w (w - 1) ∙ rw (half, rest, e, and_self (w / 2)) (omega arith)

even_cleared : (w : ℕ) → w % 2 ≡ 0 → 0 < w → cleared w ≡ cleared (w / 2) * 2
even_cleared w e h =
    let half : (w - 1) / 2 ≡ w / 2 - 1 = omega arith in
    let rest : (w - 1) % 2 ≡ 1 = omega arith in
    and_step w (w - 1) ∙ rw (half, rest, e) (omega arith)

-- bit t stands in w and none below it
pub record Lowest (w t : ℕ) : Type 0 where
  pub more : More w (cleared w) t
  pub none : (j : ℕ) → j < t → bit w j ≡ false

pub trailing_odd : (n w : ℕ) → w % 2 ≡ 1 → count_trailing_zeros (suc n) w ≡ 0
unfolding count_trailing_zeros
trailing_odd n w e = rw e

pub trailing_even : (n w : ℕ) → w % 2 ≡ 0 → count_trailing_zeros (suc n) w ≡ suc (count_trailing_zeros n (w / 2))
unfolding count_trailing_zeros
trailing_even n w e = rw e

same_from : (w v : ℕ) → w / 2 ≡ v / 2 → (j : ℕ) → j ≢ 0 → bit w j ≡ bit v j
same_from w v e zero ne = absurd (ne refl)
same_from w v e (suc j) ne = higher_bit w j ∙ ap (λ (x : ℕ). bit x j) e ∙ sym (higher_bit v j)

more_twice : (w v t : ℕ) → bit w 0 ≡ bit v 0 → More (w / 2) (v / 2) t → More w v (suc t)
more_twice w v t e m = record {
  has = higher_bit w t ∙ m.has;
  lacks = higher_bit v t ∙ m.lacks;
  same = all;
}
  where
    all : (j : ℕ) → j ≢ suc t → bit w j ≡ bit v j
    all zero ne = e
    all (suc j) ne = higher_bit w j ∙ m.same j (λ s. ne (ap suc s)) ∙ sym (higher_bit v j)

lowest_odd : (w : ℕ) → w % 2 ≡ 1 → Lowest w 0
lowest_odd w o =
    let half : cleared w / 2 ≡ w / 2 = ap (λ (x : ℕ). x / 2) (odd_cleared w o) ∙ omega arith in
    record {
      more = record {
        has = odd_bit w o;
        lacks = even_bit (cleared w) (ap (λ (x : ℕ). x % 2) (odd_cleared w o) ∙ omega arith);
        same = same_from w (cleared w) (sym half);
      };
      none = λ j l. absurd (not-suc-le-zero l);
    }

lowest_even : (w t : ℕ) → w % 2 ≡ 0 → 0 < w → Lowest (w / 2) t → Lowest w (suc t)
lowest_even w t e h low =
    let half : cleared w / 2 ≡ cleared (w / 2) = ap (λ (x : ℕ). x / 2) (even_cleared w e h) ∙ omega arith in
    let rest : cleared w % 2 ≡ 0 = ap (λ (x : ℕ). x % 2) (even_cleared w e h) ∙ omega arith in
    record {
      more = more_twice w (cleared w) t (even_bit w e ∙ sym (even_bit (cleared w) rest)) (rw half low.more);
      none = below;
    }
  where
    below : (j : ℕ) → j < suc t → bit w j ≡ false
    below zero l = even_bit w e
    below (suc j) l = higher_bit w j ∙ low.none j (omega arith)

-- `u64::trailing_zeros` finds it
pub lowest : (n w : ℕ) → 0 < w → w < 2 ^ n → Lowest w (count_trailing_zeros n w)
lowest zero w h b = absurd (omega arith)
lowest (suc n) w h b = by_parity w
    (λ o. rw (trailing_odd n w o) (lowest_odd w o))
    (λ e. rw (trailing_even n w e) (lowest_even w (count_trailing_zeros n (w / 2)) e h (lowest n (w / 2) (omega arith) (half_below n w b))))

pub lowest_below : (n w : ℕ) → 0 < w → w < 2 ^ n → count_trailing_zeros n w < n
lowest_below n w h b = by_lt (count_trailing_zeros n w) n (λ l. l)
    (λ g. clash (lowest n w h b).more.has (past_bit n w (count_trailing_zeros n w) b g))

-- bit t stands in w and none above it
pub record Highest (w t : ℕ) : Type 0 where
  pub has : bit w t ≡ true
  pub none : (j : ℕ) → t < j → bit w j ≡ false

highest_at : (w t : ℕ) → 2 ^ t ≤ w → w < 2 ^ suc t → Highest w t
highest_at w t l h =
    let less : w / 2 ^ t < 2 = shr_lt 1 t (subst (λ (m : ℕ). w < 2 ^ m) (sym (one-add t)) h) in
    let some : 1 ≤ w / 2 ^ t = (le-div_iff_mul-le (pow_pos t)).1 (rw (one-mul (2 ^ t)) l) in
    let one : w / 2 ^ t ≡ 1 = omega arith in
    record { has = rw one; none = λ j g. past_bit (suc t) w j h g }

-- `u64::leading_zeros` finds it
pub highest : (w : ℕ) → 0 < w → w < 2 ^ 64 → Highest w (63 - count_leading_zeros 64 w)
highest w h b =
    let top = leading_top 64 w h b in
    let at : 63 - count_leading_zeros 64 w ≡ top.0 = omega (arith, top.1) in
    rw at (highest_at w top.0 top.2 top.3)

pub leading_below : (w : ℕ) → 0 < w → w < 2 ^ 64 → count_leading_zeros 64 w < 64
leading_below w h b = let top = leading_top 64 w h b in omega (arith, top.1)

-- a word of n ones
ones_half : (n : ℕ) → (2 ^ suc n - 1) / 2 ≡ 2 ^ n - 1
ones_half n = let p : 1 ≤ 2 ^ n = pow_pos n in rw (pow-succ' 2 n) (omega arith)

ones_odd : (n : ℕ) → (2 ^ suc n - 1) % 2 ≡ 1
ones_odd n = let p : 1 ≤ 2 ^ n = pow_pos n in rw (pow-succ' 2 n) (omega arith)

pub ones_bit : (n j : ℕ) → j < n → bit (2 ^ n - 1) j ≡ true
ones_bit zero j h = absurd (not-suc-le-zero h)
ones_bit (suc n) zero h = odd_bit (2 ^ suc n - 1) (ones_odd n)
ones_bit (suc n) (suc j) h = higher_bit (2 ^ suc n - 1) j ∙ ap (λ (x : ℕ). bit x j) (ones_half n) ∙ ones_bit n j (omega arith)

-- words of n bits that have the same bits are the same
pub same_bits : (n x y : ℕ) → x < 2 ^ n → y < 2 ^ n → ((k : ℕ) → k < n → bit x k ≡ bit y k) → x ≡ y
same_bits zero x y h l e = omega arith
same_bits (suc n) x y h l e =
    let halves : x / 2 ≡ y / 2 = same_bits n (x / 2) (y / 2) (half_below n x h) (half_below n y l)
    (λ k g. sym (higher_bit x k) ∙ e (suc k) (omega arith) ∙ higher_bit y k) in
    let low : eqb (x % 2) 1 ≡ eqb (y % 2) 1 = sym (lowest_bit x) ∙ e 0 (omega arith) ∙ lowest_bit y in
    by_parity x
    (λ o. let p : y % 2 ≡ 1 = eqb-true (y % 2) 1 (sym low ∙ eq-eqb (x % 2) 1 o) in omega arith)
    (λ z. let no : y % 2 ≡ 1 → ⊥ = eqb-false (y % 2) 1 (sym low ∙ ne_eqb (x % 2) 1 (omega arith)) in
    by_parity y (λ p. absurd (no p)) (λ p. omega arith))
