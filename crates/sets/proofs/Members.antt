-- The members of a set: which they are, how many, and one more or less.
use mathlib.Core.Path.{◌≡◌, refl, sym, ap, ◌∙◌}
use mathlib.Core.Logic.{◌≢◌}
use mathlib.Core.Bool.{Bool, true, false, ◌&&◌, and-true}
use mathlib.Core.List.{[], ◌∷◌, ◌++◌, map}
use Prim.Native.Nat.{ℕ, zero, suc, ◌+◌, ◌-◌, ◌*◌, ◌/◌, ◌^◌, ◌≤◌, ◌<◌}
use native.Mathlib.Nat.{not-suc-le-zero}
use native.Mathlib.Omega.{arith}
use lib.Bits.{bit_and, bit_xor}
use lib.Pow.{ones_lt}
use lib.Count.{ones, ones_step, count_trailing_zeros, count_leading_zeros}
use lib.ListN.{length, get_or}
use Rattle.model.specs.Lists.{qubits, delete, member}
use Rattle.model.specs.Circuit.{ascends}
use Rattle.model.specs.Meaning.{bit, state_of}
use Rattle.model.proofs.BooleanLaws.{not_true_false, and_false_right}
use Rattle.model.proofs.WordBits.{past_bit, zero_bit, word_zero}
use Rattle.sets.specs.Sets.{members_within, members_of}
use Rattle.sets.proofs.Filtering.{
  get_d_in,
  picked,
  picked_zero,
  picked_yes,
  picked_no,
  picked_same,
  picked_none,
  picked_shorter,
  picked_all,
  picked_next,
  picked_bounds,
  picked_member,
  picked_ascends,
  picked_length,
  picked_first,
  picked_last,
  picked_delete,
}
use Rattle.sets.proofs.BitLaws.{
  higher_bit,
  half_below,
  odd_bit,
  even_bit,
  by_parity,
  and_bit,
  More,
  more_xor,
  cleared,
  lowest,
  lowest_below,
  highest,
  ones_bit,
  same_bits,
}

-- "qubit i is bit i − 1"
pub state_bit : (w k : ℕ) → state_of w (suc k) ≡ bit w k
unfolding state_of
state_bit w k = refl

pub state_zero : (w : ℕ) → state_of w 0 ≡ false
unfolding state_of
state_zero w = refl

-- the members ascend, and are the qubits 1 to 64 whose bits stand
pub members_ascend : (w : ℕ) → ascends (members_of w) ≡ true
members_ascend w = picked_ascends 64 1 (state_of w)

pub members_bounds : (w q : ℕ) → member q (members_of w) ≡ true → (1 ≤ q) × (q ≤ 64)
members_bounds w q m = let b = picked_bounds 64 1 (state_of w) q m in (omega arith, omega arith)

pub members_length : (w : ℕ) → length (members_of w) ≤ 64
members_length w = picked_length 64 1 (state_of w)

pub members_at : (w i : ℕ) → i < length (members_of w) → (1 ≤ get_or (members_of w) i 0) × (get_or (members_of w) i 0 ≤ 64)
members_at w i h = members_bounds w (get_or (members_of w) i 0) (get_d_in (members_of w) i h)

pub member_bit : (w k : ℕ) → k < 64 → member (suc k) (members_of w) ≡ bit w k
member_bit w k h = picked_member 64 1 (state_of w) (suc k) (omega arith) (omega arith) ∙ state_bit w k

-- no other number is a member
pub member_none : (w : ℕ) → member 0 (members_of w) ≡ false
member_none w = not_true_false (member 0 (members_of w)) (λ m. let b = members_bounds w 0 m in omega arith)

pub member_past : (w q : ℕ) → 64 < q → member q (members_of w) ≡ false
member_past w q h = not_true_false (member q (members_of w)) (λ m. let b = members_bounds w q m in omega arith)

-- a state that says what a word's bits say, up to 64
same_state : (w v : ℕ) → ((k : ℕ) → k < 64 → bit w k ≡ bit v k) → (q : ℕ) → 1 ≤ q → q < 1 + 64 → state_of w q ≡ state_of v q
same_state w v h zero l g = absurd (not-suc-le-zero l)
same_state w v h (suc k) l g = state_bit w k ∙ h k (omega arith) ∙ sym (state_bit v k)

pub same_members : (w v : ℕ) → ((k : ℕ) → k < 64 → bit w k ≡ bit v k) → members_of w ≡ members_of v
same_members w v h = picked_same 64 1 (state_of w) (state_of v) (same_state w v h)

-- sets with the same members are the same word
pub same_word : (w v : ℕ) → w < 2 ^ 64 → v < 2 ^ 64 → members_of w ≡ members_of v → w ≡ v
same_word w v f g e = same_bits 64 w v f g (λ k h. sym (member_bit w k h) ∙ ap (member (suc k)) e ∙ member_bit v k h)

-- the empty set, and qubits 1 to n
pub members_empty : members_of 0 ≡ []
members_empty = picked_none 64 1 (state_of 0) none
  where
    none : (q : ℕ) → 1 ≤ q → q < 1 + 64 → state_of 0 q ≡ false
    none zero l g = state_zero 0
    none (suc k) l g = state_bit 0 k ∙ zero_bit k

ones_state : (n q : ℕ) → 1 ≤ q → q < 1 + n → state_of (2 ^ n - 1) q ≡ true
ones_state n zero l g = absurd (not-suc-le-zero l)
ones_state n (suc k) l g = state_bit (2 ^ n - 1) k ∙ ones_bit n k (omega arith)

ones_past : (n q : ℕ) → 1 + n ≤ q → state_of (2 ^ n - 1) q ≡ false
ones_past n zero l = state_zero (2 ^ n - 1)
ones_past n (suc k) l = state_bit (2 ^ n - 1) k ∙ past_bit n (2 ^ n - 1) k (ones_lt n) (omega arith)

state_and : (w v q : ℕ) → state_of (bit_and w v) q ≡ state_of w q && state_of v q
state_and w v zero = rw (state_zero (bit_and w v), state_zero w)
state_and w v (suc k) = rw (state_bit (bit_and w v) k, state_bit w k, state_bit v k) (and_bit w v k)

pub members_full : (n : ℕ) → n ≤ 64 → members_of (2 ^ n - 1) ≡ qubits n
members_full n h =
    picked_shorter 64 n 1 (state_of (2 ^ n - 1)) h (λ q l g. ones_past n q l) ∙ picked_all n 1 (state_of (2 ^ n - 1)) (ones_state n)

-- a set cut off behind qubit n
pub members_cut : (row n : ℕ) → n ≤ 64 → members_of (bit_and row (2 ^ n - 1)) ≡ members_within n row
members_cut row n h =
    picked_shorter 64 n 1 (state_of (bit_and row (2 ^ n - 1))) h
    (λ q l g. state_and row (2 ^ n - 1) q ∙ and_false_right (state_of row q) (state_of (2 ^ n - 1) q) (ones_past n q l))
    ∙ picked_same n 1 (state_of (bit_and row (2 ^ n - 1))) (state_of row)
    (λ q l g. state_and row (2 ^ n - 1) q ∙ ap (λ (b : Bool). state_of row q && b) (ones_state n q l g) ∙ and-true (state_of row q))

-- every member one higher
pub members_double : (w : ℕ) → w < 2 ^ 63 → members_of (w * 2) ≡ map suc (members_of w)
members_double w h =
    picked_no (state_of (w * 2)) 63 1 (state_bit (w * 2) 0 ∙ even_bit (w * 2) (omega arith))
    ∙ picked_next 63 1 (state_of (w * 2)) (state_of w) next
    ∙ ap (map suc) (sym (picked_shorter 64 63 1 (state_of w) (omega arith) (λ q l g. word_zero 63 w h q l)))
  where
    next : (q : ℕ) → 1 ≤ q → state_of (w * 2) (suc q) ≡ state_of w q
    next zero l = absurd (not-suc-le-zero l)
    next (suc k) l =
        let half : w * 2 / 2 ≡ w = omega arith in
        state_bit (w * 2) (suc k) ∙ higher_bit (w * 2) k ∙ ap (λ (x : ℕ). bit x k) half ∙ sym (state_bit w k)

-- how many they are
abbrev pub from : ℕ → ℕ → ℕ → Bool
from a w = λ q. bit w (q - a)

pub from_half : (a w q : ℕ) → suc a ≤ q → from a w q ≡ from (suc a) (w / 2) q
from_half a w q l =
    let e : q - a ≡ suc (q - suc a) = omega arith in
    rw e (higher_bit w (q - suc a))

ones_zero : ones 0 ≡ 0
unfolding ones
ones_zero = refl

ones_picked : (n a w : ℕ) → w < 2 ^ n → ones w ≡ length (picked (from a w) n a)
ones_picked zero a w h = let e : w ≡ 0 = omega arith in rw (picked_zero (from a w) a, e) ones_zero
ones_picked (suc n) a w h =
    let rest : picked (from a w) n (suc a) ≡ picked (from (suc a) (w / 2)) n (suc a) =
    picked_same n (suc a) (from a w) (from (suc a) (w / 2)) (λ q l g. from_half a w q l) in
    let more : ones (w / 2) ≡ length (picked (from (suc a) (w / 2)) n (suc a)) = ones_picked n (suc a) (w / 2) (half_below n w h) in
    let at : a - a ≡ 0 = omega arith in
    by_parity w
    (λ o. let here : from a w a ≡ true = rw at (odd_bit w o) in
    rw (picked_yes (from a w) n a here, rest, ← more, ones_step w, o) (omega arith))
    (λ e. let here : from a w a ≡ false = rw at (even_bit w e) in
    rw (picked_no (from a w) n a here, rest, ← more, ones_step w, e) (omega arith))

pub from_state : (w q : ℕ) → 1 ≤ q → from 1 w q ≡ state_of w q
from_state w zero l = absurd (not-suc-le-zero l)
from_state w (suc k) l = let e : suc k - 1 ≡ k = omega arith in rw e (sym (state_bit w k))

pub size_ones : (w : ℕ) → w < 2 ^ 64 → ones w ≡ length (members_of w)
size_ones w h = ones_picked 64 1 w h ∙ ap length (picked_same 64 1 (from 1 w) (state_of w) (λ q l g. from_state w q l))

-- one member more
module _ (w v k : ℕ) (m : More w v k) (inside : k < 64) where
  more_here : state_of w (suc k) ≡ true
  more_here = state_bit w k ∙ m.has

  less_here : state_of v (suc k) ≡ false
  less_here = state_bit v k ∙ m.lacks

  same_off : (x : ℕ) → x ≢ suc k → state_of w x ≡ state_of v x
  same_off zero ne = state_zero w ∙ sym (state_zero v)
  same_off (suc j) ne = state_bit w j ∙ m.same j (λ e. ne (ap suc e)) ∙ sym (state_bit v j)

  none_at : (q : ℕ) → 1 ≤ q → ((j : ℕ) → q ≡ suc j → bit w j ≡ false) → state_of w q ≡ false
  none_at zero l h = state_zero w
  none_at (suc j) l h = state_bit w j ∙ h j refl

  pub members_first : ((j : ℕ) → j < k → bit w j ≡ false) → members_of w ≡ suc k ∷ members_of v
  members_first low = picked_first (state_of w) (state_of v) (suc k) more_here less_here same_off 64 1 (omega arith) (omega arith)
      (λ x l g. none_at x l (λ j e. low j (omega arith)))

  pub members_last : ((j : ℕ) → k < j → bit w j ≡ false) → members_of w ≡ members_of v ++ (suc k ∷ [])
  members_last high = picked_last (state_of w) (state_of v) (suc k) more_here less_here same_off 64 1 (omega arith) (omega arith)
      (λ x l g. none_at x (omega arith) (λ j e. high j (omega arith)))

  pub members_delete : (i : ℕ) → get_or (members_of w) i 0 ≡ suc k → i < length (members_of w) → members_of v ≡ delete i (members_of w)
  members_delete i e h = picked_delete (state_of w) (state_of v) (suc k) more_here less_here same_off 64 1 i e h

-- the lowest member, and the rest
pub members_lowest : (w : ℕ) → (w ≡ 0 → ⊥) → w < 2 ^ 64 → members_of w ≡ suc (count_trailing_zeros 64 w) ∷ members_of (cleared w)
members_lowest w some b =
    let low = lowest 64 w (omega arith) b in
    members_first w (cleared w) (count_trailing_zeros 64 w) low.more (lowest_below 64 w (omega arith) b) low.none

-- the others, and the highest
pub members_highest : (w : ℕ) → (w ≡ 0 → ⊥) → w < 2 ^ 64 →
    members_of w ≡ members_of (bit_xor w (2 ^ (63 - count_leading_zeros 64 w))) ++ (suc (63 - count_leading_zeros 64 w) ∷ [])
members_highest w some b =
    let high = highest w (omega arith) b in
    members_last w (bit_xor w (2 ^ (63 - count_leading_zeros 64 w))) (63 - count_leading_zeros 64 w) (more_xor w (63 - count_leading_zeros 64 w) high.has) (omega arith)
    high.none
