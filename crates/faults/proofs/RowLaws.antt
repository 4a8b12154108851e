-- Sets as words: what they say, and what the steps on them do. Any set is the word of its bits, up to number 63.
use mathlib.Core.Path.{◌≡◌, refl, sym, ap, ◌∙◌, subst}
use mathlib.Core.Logic.{◌≢◌}
use mathlib.Core.Bool.{Bool, true, false, ◌&&◌, ◌||◌, or-false}
use Prim.Native.Nat.{ℕ, suc, ◌+◌, ◌-◌, ◌*◌, ◌/◌, ◌%◌, ◌^◌, ◌≤◌, ◌<◌}
use native.Mathlib.Nat.{mul_assoc}
use native.Mathlib.Omega.{arith}
use borrow.Author.Tests.{lt-ltb, le-ltb, eq-eqb, ne_eqb}
use lib.Bits.{bit_or, or_lt, shifted_even}
use lib.Pow.{pow-lt, pow-add, shl-shr, shr-shr, field, mod-mod-pow}
use lib.Dec.{eqb}
use Rattle.model.specs.Meaning.{bit, digit, word_from}
use Rattle.model.proofs.BooleanLaws.{by_bool, by_eq, by_lt}
use Rattle.model.proofs.WordBits.{flip_same, flip_other, zero_bit, past_bit, word_bit, word_below, word_is}
use Rattle.sets.proofs.BitLaws.{or_bit}
use Rattle.faults.specs.TouchedPositions.{Touched, touches_none, touches_one, joined, closes}
use Rattle.faults.specs.Rows.{row_of, row_is, marked, closed_row}

-- 2 ^ k has bit k and no other: it is 0 with that bit flipped
power_bit : (k t : ℕ) → bit (2 ^ k) t ≡ eqb t k
power_bit k t = by_eq t k
    (λ e. rw (e, eq-eqb k k refl) (flip_same 0 k ∙ rw (zero_bit k)))
    (λ ne. rw (ne_eqb t k ne) (flip_other 0 k t ne ∙ zero_bit t))

-- the bits of a word of which 64 stay
bit_mod : (x t d : ℕ) → bit (x % 2 ^ (suc d + t)) t ≡ bit x t
bit_mod x t d =
    let e : d + 1 ≡ suc d = omega arith in
    ap (λ (y : ℕ). eqb y 1)
    (ap (λ (y : ℕ). y % 2) (field x (suc d) t)
    ∙ subst (λ (w : ℕ). x / 2 ^ t % 2 ^ w % 2 ≡ x / 2 ^ t % 2) e (mod-mod-pow (x / 2 ^ t) d 1))

bit_kept : (x t : ℕ) → t < 64 → bit (x % 2 ^ 64) t ≡ bit x t
bit_kept x t l =
    let e : suc (63 - t) + t ≡ 64 = omega arith in
    subst (λ (w : ℕ). bit (x % 2 ^ w) t ≡ bit x t) e (bit_mod x t (63 - t))

bit_shifted : (x j k : ℕ) → bit (x * 2 ^ j) (j + k) ≡ bit x k
bit_shifted x j k = ap (λ (y : ℕ). eqb (y % 2) 1) (sym (shr-shr (x * 2 ^ j) j k) ∙ ap (λ (y : ℕ). y / 2 ^ k) (shl-shr x j))

bit_under : (x t d : ℕ) → bit (x * 2 ^ (suc d + t)) t ≡ false
bit_under x t d = ap (λ (y : ℕ). eqb y 1)
    (ap (λ (y : ℕ). y / 2 ^ t % 2) (ap (λ (y : ℕ). x * y) (pow-add 2 (suc d) t) ∙ sym (mul_assoc x (2 ^ suc d) (2 ^ t)))
    ∙ ap (λ (y : ℕ). y % 2) (shl-shr (x * 2 ^ suc d) t) ∙ shifted_even x d)

-- a word shifted up, of which 64 bits stay
abbrev pub up : ℕ → ℕ → ℕ
up x j = (x * 2 ^ j) % 2 ^ 64

pub up_at : (x j k : ℕ) → j + k < 64 → bit (up x j) (j + k) ≡ bit x k
up_at x j k l = bit_kept (x * 2 ^ j) (j + k) l ∙ bit_shifted x j k

pub up_below : (x j t : ℕ) → t < j → t < 64 → bit (up x j) t ≡ false
up_below x j t h l =
    let e : suc (j - t - 1) + t ≡ j = omega arith in
    bit_kept (x * 2 ^ j) t l ∙ subst (λ (w : ℕ). bit (x * 2 ^ w) t ≡ false) e (bit_under x t (j - t - 1))

-- a row says up to 63 what it was made of, and nothing past that
pub row_at_lem : (x : Touched) (t : ℕ) → t < 64 → row_is (row_of x) t ≡ x t
row_at_lem x t h = word_bit 64 0 x t h ∙ ap x (omega arith)

row_past : (x : Touched) (t : ℕ) → 64 ≤ t → row_is (row_of x) t ≡ false
row_past x t h = past_bit 64 (row_of x) t (word_below 64 0 x) h

-- the bits of a word up to 63 make it
pub row_is_lem : (x : Touched) (row : ℕ) → row < 2 ^ 64 → ((t : ℕ) → t < 64 → row_is row t ≡ x t) → row ≡ row_of x
row_is_lem x row h e = sym (word_is 64 0 x row h (λ t l. ap x (omega arith) ∙ sym (e t l)))

same_row : (x y : Touched) → ((t : ℕ) → t < 64 → x t ≡ y t) → row_of x ≡ row_of y
same_row x y h = row_is_lem y (row_of x) (word_below 64 0 x) (λ t l. row_at_lem x t l ∙ h t l)

pub none_row : 0 ≡ row_of touches_none
unfolding word_from digit
none_row = refl

-- rows joined
pub joined_row : (x y : Touched) → bit_or (row_of x) (row_of y) ≡ row_of (joined x y)
joined_row x y = row_is_lem (joined x y) (bit_or (row_of x) (row_of y)) (or_lt 64 (row_of x) (row_of y) (word_below 64 0 x) (word_below 64 0 y))
    (λ t h. or_bit (row_of x) (row_of y) t ∙ rw (row_at_lem x t h, row_at_lem y t h))

-- one number more
marked_row : (x : Touched) (q : ℕ) → marked (row_of x) q ≡ row_of (joined x (touches_one q))
unfolding marked
marked_row x q = by_lt q 64
    (λ l. rw (lt-ltb q 64 l) (row_is_lem (joined x (touches_one q)) (bit_or (row_of x) (2 ^ q)) (or_lt 64 (row_of x) (2 ^ q) (word_below 64 0 x) (pow-lt l))
    (λ t h. or_bit (row_of x) (2 ^ q) t ∙ rw (row_at_lem x t h, power_bit q t))))
    (λ ge. rw (le-ltb q 64 ge) (same_row x (joined x (touches_one q))
    (λ t lt. let ne : t ≢ q = omega arith in rw (ne_eqb t q ne) (sym (or-false (x t))))))

pub one_row : (q : ℕ) → marked 0 q ≡ row_of (touches_one q)
one_row q = ap (λ (row : ℕ). marked row q) none_row ∙ marked_row touches_none q

-- position q closed
closing : (x : Bool) (here at : Bool) → (x || here) || at ≡ (here || x) || (at && true)
closing true true true = refl
closing true true false = refl
closing true false true = refl
closing true false false = refl
closing false true true = refl
closing false true false = refl
closing false false true = refl
closing false false false = refl

closing_not : (x : Bool) (here at : Bool) → x || here ≡ (here || x) || (at && false)
closing_not true true true = refl
closing_not true true false = refl
closing_not true false true = refl
closing_not true false false = refl
closing_not false true true = refl
closing_not false true false = refl
closing_not false false true = refl
closing_not false false false = refl

-- a row has no position past 63: then nothing may touch q
pub closed_row_lem : (q : ℕ) (x : Touched) → (64 ≤ q → x q ≡ false) → closed_row q (row_of x) ≡ row_of (closes q x)
unfolding closed_row
closed_row_lem q x out = rw (says, marked_row x q) (by_bool (x q)
    (λ e. rw (e, marked_row (joined x (touches_one q)) 0) (same_row (joined (joined x (touches_one q)) (touches_one 0)) (closes q x)
    (λ t lt. rw e (closing (x t) (eqb t q) (eqb t 0)))))
    (λ e. rw e (same_row (joined x (touches_one q)) (closes q x) (λ t lt. rw e (closing_not (x t) (eqb t q) (eqb t 0))))))
  where
    says : row_is (row_of x) q ≡ x q
    says = by_lt q 64 (λ l. row_at_lem x q l) (λ ge. row_past x q ge ∙ sym (out ge))
