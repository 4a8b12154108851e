-- The lengths that calls lead to: the sums of the numbers of removals that calls carry are closed.
use mathlib.Core.Path.{◌≡◌, refl, sym, ap, ◌∙◌, subst}
use mathlib.Core.Bool.{true, false}
use Prim.Native.Nat.{ℕ, zero, suc, ◌+◌, ◌≤◌, ◌<◌, zero-le}
use native.Mathlib.Nat.{not-suc-le-zero}
use native.Mathlib.Decide.{le_ind}
use native.Mathlib.Omega.{arith}
use lib.Bits.{bit_or}
use Rattle.model.specs.Meaning.{bit}
use Rattle.model.proofs.BooleanLaws.{by_bool, by_eq, clash, or_left, or_right, or_cases}
use Rattle.sets.proofs.BitLaws.{or_bit}
use Rattle.decoded.specs.declared.Program as decoded
use Rattle.decoded.specs.DecodedTable.{body_at}
use Rattle.faults.specs.Rows.{row_of, row_is}
use Rattle.faults.specs.CallLengths.{removal_counts, counts_below, sums_below}
use Rattle.faults.proofs.RowLaws.{row_at_lem, up, up_at, up_below}

-- the sums: what is there stays, a sum below j is there before j, and so is what a number of the set more makes of it
module _ (counts : ℕ) where
  sums_yes : (j : ℕ) → row_is (sums_below counts j) j ≡ true → sums_below counts (suc j) ≡ bit_or (sums_below counts j) (up counts j)
  unfolding sums_below
  sums_yes j e = rw e

  sums_no : (j : ℕ) → row_is (sums_below counts j) j ≡ false → sums_below counts (suc j) ≡ sums_below counts j
  unfolding sums_below
  sums_no j e = rw e

  sums_stay : (j t : ℕ) → row_is (sums_below counts j) t ≡ true → row_is (sums_below counts (suc j)) t ≡ true
  sums_stay j t h = by_bool (row_is (sums_below counts j) j)
      (λ e. rw (sums_yes j e, or_bit (sums_below counts j) (up counts j) t, h))
      (λ e. rw (sums_no j e) h)

  sums_before : (j t : ℕ) → t ≤ j → t < 64 → row_is (sums_below counts (suc j)) t ≡ true → row_is (sums_below counts j) t ≡ true
  sums_before j t le l h = by_bool (row_is (sums_below counts j) j)
      (λ e. by_eq t j (λ same. rw same e) (λ other.
      or_cases (row_is (sums_below counts j) t) (bit (up counts j) t)
      (sym (or_bit (sums_below counts j) (up counts j) t) ∙ sym (ap (λ (w : ℕ). bit w t) (sums_yes j e)) ∙ h)
      (λ i. i)
      (λ i. clash i (up_below counts j t (omega arith) l))))
      (λ e. sym (ap (λ (w : ℕ). bit w t) (sums_no j e)) ∙ h)

  sums_first : row_is (sums_below counts 0) 0 ≡ true
  unfolding sums_below
  sums_first = refl

  sums_up : (j n t : ℕ) → j ≤ n → row_is (sums_below counts j) t ≡ true → row_is (sums_below counts n) t ≡ true
  sums_up j n t le h = le_ind (λ (m : ℕ). row_is (sums_below counts m) t ≡ true) h (λ m k e. sums_stay m t e) n le

  sums_down : (j n : ℕ) → j ≤ n → j < 64 → row_is (sums_below counts n) j ≡ true → row_is (sums_below counts j) j ≡ true
  sums_down j n le l = le_ind (λ (m : ℕ). row_is (sums_below counts m) j ≡ true → row_is (sums_below counts j) j ≡ true)
      (λ h. h) (λ m k e h. e (sums_before m j k l h)) n le

  pub sums_zero : (n : ℕ) → row_is (sums_below counts n) 0 ≡ true
  sums_zero n = sums_up 0 n 0 zero-le sums_first

  pub sums_closed : (n j k : ℕ) → j < n → j + k < 64 → row_is (sums_below counts n) j ≡ true → row_is counts k ≡ true →
      row_is (sums_below counts n) (j + k) ≡ true
  sums_closed n j k l small h c =
      let there : row_is (sums_below counts j) j ≡ true = sums_down j n (omega arith) (omega arith) h in
      sums_up (suc j) n (j + k) l
      (ap (λ (w : ℕ). bit w (j + k)) (sums_yes j there) ∙ or_bit (sums_below counts j) (up counts j) (j + k)
      ∙ or_right (bit (sums_below counts j) (j + k)) (bit (up counts j) (j + k)) (up_at counts j k small ∙ c))

-- what the calls of one body carry is among what those of all bodies carry
pub counts_there : (g : decoded.Program) (n f k : ℕ) → f < n → k < 64 → removal_counts (body_at g f) k ≡ true →
    row_is (counts_below g n) k ≡ true
unfolding counts_below
counts_there g zero f k l small h = absurd (not-suc-le-zero l)
counts_there g (suc n) f k l small h =
    or_bit (counts_below g n) (row_of (removal_counts (body_at g n))) k ∙ by_eq f n
    (λ e. or_right (row_is (counts_below g n) k) (row_is (row_of (removal_counts (body_at g n))) k)
    (row_at_lem (removal_counts (body_at g n)) k small ∙ subst (λ (h : ℕ). removal_counts (body_at g h) k ≡ true) e h))
    (λ ne. or_left (row_is (counts_below g n) k) (row_is (row_of (removal_counts (body_at g n))) k)
    (counts_there g n f k (omega arith) small h))
