-- One law for each way out of a function: its premises are the tests passed and what the calls on that way ensure, in the code's order.
use mathlib.Core.Path.{◌≡◌, sym, ap, ◌∙◌}
use mathlib.Core.List.{List, [], ◌∷◌, ◌++◌}
use Prim.Native.Nat.{ℕ, suc, ◌+◌, ◌-◌, ◌*◌, ◌%◌, ◌^◌, ◌≤◌, ◌<◌, min}
use native.Mathlib.Nat.{min-eq_left, min-eq_right}
use native.Mathlib.Numerals.{add-one}
use native.Mathlib.Omega.{arith}
use borrow.Author.Rules.{rules}
use lib.Bits.{bit_xor}
use lib.Count.{ones, count_trailing_zeros, count_leading_zeros, leading_of_zero}
use lib.ListN.{length, take, drop, length-append}
use lib.Seq.{get_or-append_seam, take-append_seam, take-nil}
use mir.Syntax.{w64}
use mir.Val.{Fits}
use Rattle.model.specs.Lists.{qubits, entry}
use Rattle.model.proofs.BooleanLaws.{by_eq}
use Rattle.model.proofs.WordBits.{shifted}
use Rattle.sets.specs.Sets.{members_of}
use Rattle.sets.proofs.BitLaws.{cleared, leading_below}
use Rattle.sets.proofs.Members.{members_empty, members_full, size_ones, members_lowest, members_highest}

-- a list that ends in x
without_last : (l m : List ℕ) (x : ℕ) → l ≡ m ++ (x ∷ []) → m ≡ take (length l - 1) l
without_last l m x e =
    let n : length l - 1 ≡ length m = omega (arith, ap length e, length-append m (x ∷ [])) in
    rw (n, e) (sym (take-append_seam m (x ∷ [])))

at_last : (l m : List ℕ) (x : ℕ) → l ≡ m ++ (x ∷ []) → entry l (length l) ≡ x
at_last l m x e =
    let n : length l ≡ suc (length m) = omega (arith, ap length e, length-append m (x ∷ [])) in
    rw (n, e) (get_or-append_seam m x [] 0)

-- the word of one member
abbrev pub one : ℕ → ℕ
one k = (1 * 2 ^ k) % 2 ^ 64

-- how many members
module _ (w : ℕ) (f : Fits w64 w) where
  pub size_is : ones w ≡ length (members_of w)
  size_is = size_ones w f.fits

-- qubits 1 to n
module _ (n : ℕ) where
  pub full_below : n < 64 → members_of (one n - 1) ≡ qubits (min n 64)
  full_below h =
      let e : min n 64 ≡ n = min-eq_left (omega arith) in
      rw (shifted 64 n h, e) (members_full n (omega arith))

  pub full_all : 64 ≤ n → members_of 18446744073709551615 ≡ qubits (min n 64)
  full_all h =
      let e : min n 64 ≡ 64 = min-eq_right h in
      rw e (members_full 64 (omega arith))

-- the lowest member
module _ (w : ℕ) (f : Fits w64 w) where
  pub next_none : w ≡ 0 → 0 ≡ entry (members_of w) 1
  next_none e = rw (e, members_empty)

  pub lowest_none : w ≡ 0 → members_of 0 ≡ drop 1 (members_of w)
  lowest_none e = rw (e, members_empty)

  pub highest_none : w ≡ 0 → members_of 0 ≡ take (length (members_of w) - 1) (members_of w)
  highest_none e = rw (e, members_empty) (sym (take-nil (0 - 1)))

  module _ (some : w ≡ 0 → ⊥) where
    positive : 0 < w
    positive = omega arith

    first : members_of w ≡ suc (count_trailing_zeros 64 w) ∷ members_of (cleared w)
    first = members_lowest w some f.fits

    pub next_is : count_trailing_zeros 64 w + 1 ≡ entry (members_of w) 1
    next_is = rw first (add-one (count_trailing_zeros 64 w))

    pub lowest_gone : members_of (cleared w) ≡ drop 1 (members_of w)
    lowest_gone = rw first

    -- the highest member
    leading_small : count_leading_zeros 64 w ≤ 63
    leading_small = let h = leading_below w positive f.fits in omega arith

    abbrev top : ℕ
    top = 63 - count_leading_zeros 64 w

    last : members_of w ≡ members_of (bit_xor w (2 ^ top)) ++ (suc top ∷ [])
    last = members_highest w some f.fits

    pub highest_gone : members_of (bit_xor w (one (63 - count_leading_zeros 64 w))) ≡ take (length (members_of w) - 1) (members_of w)
    highest_gone = rw (shifted 64 top (omega arith)) (without_last (members_of w) (members_of (bit_xor w (2 ^ top))) (suc top) last)

  pub last_is : 64 - count_leading_zeros 64 w ≡ entry (members_of w) (length (members_of w))
  last_is = by_eq w 0
      (λ e. rw (e, members_empty, leading_of_zero 64))
      (λ ne. let e : 64 - count_leading_zeros 64 w ≡ suc (top ne) = let h = leading_small ne in omega arith in
      e ∙ sym (at_last (members_of w) (members_of (bit_xor w (2 ^ top ne))) (suc (top ne)) (last ne)))

pub ruleset basics = (rules, size_is, full_below, full_all, next_none, next_is, highest_none, highest_gone, last_is)
