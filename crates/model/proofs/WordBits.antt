-- Words and states: the bits of a word, one of them flipped, and the word of a state's bits.
use mathlib.Core.Path.{◌≡◌, refl, ap, sym, ◌∙◌, subst}
use mathlib.Core.Bool.{Bool, true, false, not}
use Prim.Native.Nat.{ℕ, zero, suc, ◌+◌, ◌*◌, ◌/◌, ◌%◌, ◌^◌, ◌≤◌, ◌<◌, ◌-◌}
use native.Mathlib.Nat.{add-zero, not-suc-le-zero, lt_of_lt_of_le, div-eq_of_lt, div-one, zero-div, pow-succ', div-div-eq-div-mul, one-mul, mod-lt, zero-lt-suc}
use native.Mathlib.Numerals.{add-one}
use native.Mathlib.Omega.{arith}
use borrow.Author.Tests.{eq-eqb, ne_eqb}
use lib.Dec.{eqb, lit<}
use lib.ListN.{get_or}
use lib.Pow.{pow_mono, shr_lt, pow-lt, pow-add, shl-shr, shl_exact}
use Rattle.model.specs.Limits.{block_length}
use Rattle.model.specs.Meaning.{State, bit, state_of, digit, word_from, word_of}
use Rattle.model.specs.Circuit.{wire_bit, block_from, block_of}
use Rattle.model.proofs.BooleanLaws.{by_lt}
use mathlib.Core.Logic.{◌≢◌}
use lib.Bits.{bit_and, bit_xor, and_mask, xor_shr, xor_mod, xor_zero_r, shifted_even}

-- `(n >> k) & 1 == 1` is bit k
pub tested : (n k : ℕ) → eqb (bit_and (n / 2 ^ k) 1) 1 ≡ bit n k
tested n k = ap (λ (x : ℕ). eqb x 1) (and_mask (n / 2 ^ k) 1)

-- `1 << k` at w bits
pub shifted : (w k : ℕ) → k < w → (1 * 2 ^ k) % 2 ^ w ≡ 2 ^ k
shifted w k h = shl_exact {a = 1} 1 k w (lit< tt) (omega arith) ∙ one-mul (2 ^ k)

remainder_xor : (n m j : ℕ) → bit_xor n m / 2 ^ j % 2 ≡ bit_xor (n / 2 ^ j % 2) (m / 2 ^ j % 2)
remainder_xor n m j = ap (λ (x : ℕ). x % 2) (xor_shr n m j) ∙ xor_mod (n / 2 ^ j) (m / 2 ^ j) 1

-- 2 ^ k has bit k and no other
power_same : (k : ℕ) → 2 ^ k / 2 ^ k % 2 ≡ 1
power_same k = ap (λ (x : ℕ). x / 2 ^ k % 2) (sym (one-mul (2 ^ k))) ∙ ap (λ (x : ℕ). x % 2) (shl-shr 1 k)

power_below : (j d : ℕ) → 2 ^ (suc d + j) / 2 ^ j % 2 ≡ 0
power_below j d =
    ap (λ (x : ℕ). x / 2 ^ j % 2) (pow-add 2 (suc d) j)
    ∙ ap (λ (x : ℕ). x % 2) (shl-shr (2 ^ suc d) j)
    ∙ ap (λ (x : ℕ). x % 2) (sym (one-mul (2 ^ suc d)))
    ∙ shifted_even 1 d

power_other : (k j : ℕ) → j ≢ k → 2 ^ k / 2 ^ j % 2 ≡ 0
power_other k j ne = by_lt k j
    (λ h. ap (λ (x : ℕ). x % 2) (div-eq_of_lt (pow-lt h)))
    (λ h. subst (λ (x : ℕ). 2 ^ x / 2 ^ j % 2 ≡ 0) (omega arith) (power_below j (k - j - 1)))

opposite : (x : ℕ) → x < 2 → eqb (bit_xor x 1) 1 ≡ not (eqb x 1)
opposite zero h = refl
opposite (suc zero) h = refl
opposite (suc (suc x)) h = absurd (omega arith)

-- a number with bit k flipped has the other bit there
pub flip_same : (n k : ℕ) → bit (bit_xor n (2 ^ k)) k ≡ not (bit n k)
flip_same n k =
    ap (λ (x : ℕ). eqb x 1) (remainder_xor n (2 ^ k) k ∙ ap (bit_xor (n / 2 ^ k % 2)) (power_same k))
    ∙ opposite (n / 2 ^ k % 2) (mod-lt (n / 2 ^ k) (zero-lt-suc 1))

-- and every other bit as it was
pub flip_other : (n k j : ℕ) → j ≢ k → bit (bit_xor n (2 ^ k)) j ≡ bit n j
flip_other n k j ne =
    ap (λ (x : ℕ). eqb x 1)
    (remainder_xor n (2 ^ k) j ∙ ap (bit_xor (n / 2 ^ j % 2)) (power_other k j ne) ∙ xor_zero_r (n / 2 ^ j % 2))

-- zero has no bit
pub zero_bit : (k : ℕ) → bit 0 k ≡ false
zero_bit k = ap (λ (x : ℕ). eqb (x % 2) 1) (zero-div (2 ^ k))

-- a number below 2 ^ n has no bit from n on
pub past_bit : (n x k : ℕ) → x < 2 ^ n → n ≤ k → bit x k ≡ false
past_bit n x k h l = ap (λ (y : ℕ). eqb (y % 2) 1) (div-eq_of_lt (lt_of_lt_of_le h (pow_mono l)))

lowest_bit : (x : ℕ) → bit x 0 ≡ eqb (x % 2) 1
lowest_bit x = ap (λ (y : ℕ). eqb (y % 2) 1) (div-one x)

higher_bit : (x k : ℕ) → bit x (suc k) ≡ bit (x / 2) k
higher_bit x k = ap (λ (y : ℕ). eqb (y % 2) 1)
    (ap (λ (y : ℕ). x / y) (pow-succ' 2 k) ∙ sym (div-div-eq-div-mul x 2 (2 ^ k)))

digit_below : (b : Bool) → digit b < 2
unfolding digit
digit_below true = lit< tt
digit_below false = lit< tt

half : (b : Bool) (m : ℕ) → (digit b + 2 * m) / 2 ≡ m
unfolding digit
half true m = omega arith
half false m = omega arith

rest : (b : Bool) (m : ℕ) → eqb ((digit b + 2 * m) % 2) 1 ≡ b
unfolding digit
rest true m = eq-eqb ((1 + 2 * m) % 2) 1 (omega arith)
rest false m = ne_eqb ((0 + 2 * m) % 2) 1 (λ e. omega arith)

digit_of : (x : ℕ) → x < 2 → digit (eqb x 1) ≡ x
unfolding digit
digit_of zero h = refl
digit_of (suc zero) h = refl
digit_of (suc (suc x)) h = absurd (omega arith)

-- bit k of the word of n wires from wire a on is what wire a + k holds
pub word_bit : (n a : ℕ) (s : State) (k : ℕ) → k < n → bit (word_from n a s) k ≡ s (a + k)
unfolding word_from
word_bit zero a s k h = absurd (not-suc-le-zero h)
word_bit (suc n) a s zero h =
    lowest_bit (digit (s a) + 2 * word_from n (suc a) s) ∙ rest (s a) (word_from n (suc a) s) ∙ ap s (sym (add-zero a))
word_bit (suc n) a s (suc k) h =
    higher_bit (digit (s a) + 2 * word_from n (suc a) s) k
    ∙ ap (λ (x : ℕ). bit x k) (half (s a) (word_from n (suc a) s))
    ∙ word_bit n (suc a) s k (omega arith)
    ∙ ap s (omega arith)

-- the word of n wires is below 2 ^ n
pub word_below : (n a : ℕ) (s : State) → word_from n a s < 2 ^ n
unfolding word_from
word_below zero a s = lit< tt
word_below (suc n) a s =
    let low : digit (s a) < 2 = digit_below (s a) in
    let high : word_from n (suc a) s < 2 ^ n = word_below n (suc a) s in
    rw (pow-succ' 2 n) (omega arith)

-- a number below 2 ^ n is the word of the wires that hold its bits
pub word_is : (n a : ℕ) (s : State) (x : ℕ) → x < 2 ^ n → ((k : ℕ) → k < n → s (a + k) ≡ bit x k) → word_from n a s ≡ x
unfolding word_from
word_is zero a s x h e = omega arith
word_is (suc n) a s x h e =
    let low : digit (s a) ≡ x % 2 =
    ap digit (ap s (sym (add-zero a)) ∙ e 0 (omega arith) ∙ lowest_bit x) ∙ digit_of (x % 2) (omega arith) in
    let high : word_from n (suc a) s ≡ x / 2 =
    word_is n (suc a) s (x / 2) (shr_lt n 1 (subst (λ (m : ℕ). x < 2 ^ m) (sym (add-one n)) h))
    (λ k l. ap s (omega arith) ∙ e (suc k) (omega arith) ∙ higher_bit x k) in
    rw (low, high) (omega arith)

-- the state of a word of n qubits is zero past wire n
pub word_zero : (n word : ℕ) → word < 2 ^ n → (w : ℕ) → suc n ≤ w → state_of word w ≡ false
unfolding state_of
word_zero n word h zero l = refl
word_zero n word h (suc k) l = past_bit n word k h (omega arith)

-- a state that is zero past wire n holds the bits of its word
pub word_wire : (n : ℕ) (s : State) → ((w : ℕ) → suc n ≤ w → s w ≡ false) → (w : ℕ) → 1 ≤ w → state_of (word_of n s) w ≡ s w
unfolding state_of
word_wire n s past zero h = absurd (not-suc-le-zero h)
word_wire n s past (suc k) h = by_lt k n
    (λ l. word_bit n 1 s k l ∙ ap s (omega arith))
    (λ g. past_bit n (word_of n s) k (word_below n 1 s) g ∙ sym (past (suc k) (omega arith)))

-- words and blocks go by the wires that they take
same_word : (n a : ℕ) (s t : State) → ((w : ℕ) → a ≤ w → s w ≡ t w) → word_from n a s ≡ word_from n a t
unfolding word_from
same_word zero a s t h = refl
same_word (suc n) a s t h = rw (h a (omega arith), same_word n (suc a) s t (λ w l. h w (omega arith)))

pub same_block : (k a : ℕ) (s t : State) → ((w : ℕ) → a ≤ w → s w ≡ t w) → block_from k a s ≡ block_from k a t
unfolding block_from
same_block zero a s t h = refl
same_block (suc k) a s t h = rw (same_word 8 a s t h, same_block k (a + 8) s t (λ w l. h w (omega arith)))

-- the digit of a test says what it said
pub digit_mark : (b : Bool) → eqb (digit b) 1 ≡ b
unfolding digit
digit_mark true = refl
digit_mark false = refl

-- bit k of byte j is the wire 8j + k further on
block_from_lem : (count a : ℕ) (s : State) (j k : ℕ) → j < count → k < 8 → bit (get_or (block_from count a s) j 0) k ≡ s (a + (8 * j + k))
unfolding block_from
block_from_lem zero a s j k h l = absurd (omega arith)
block_from_lem (suc count) a s zero k h l = word_bit 8 a s k l ∙ ap s (let same : a + k ≡ a + (8 * 0 + k) = omega arith in same)
block_from_lem (suc count) a s (suc j) k h l =
    block_from_lem count (a + 8) s j k (omega arith) l ∙ ap s (let same : a + 8 + (8 * j + k) ≡ a + (8 * suc j + k) = omega arith in same)

-- "Wire w is bit (w − 1) mod 8 of byte (w − 1) div 8": in the block of a state each wire holds what it does in the state
pub block_wire : (s : State) (w : ℕ) → 1 ≤ w → w ≤ 8 * block_length → wire_bit (block_of s) w ≡ s w
block_wire s w some few = block_from_lem block_length 1 s ((w - 1) / 8) ((w - 1) % 8) (omega arith) (omega arith) ∙
    ap s (let same : 1 + (8 * ((w - 1) / 8) + (w - 1) % 8) ≡ w = omega arith in same)

-- so in the block of a word wire i holds bit i − 1
pub block_bit : (word i : ℕ) → 1 ≤ i → i ≤ 8 * block_length → wire_bit (block_of (state_of word)) i ≡ bit word (i - 1)
unfolding state_of
block_bit word zero some few = absurd (omega arith)
block_bit word (suc k) some few =
    block_wire (state_of word) (suc k) some few ∙ ap (bit word) (let same : k ≡ suc k - 1 = omega arith in same)
