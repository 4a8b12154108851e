-- Values of numbers: a sum with a size stays in i32.
use Prim.Native.Nat.{ℕ, suc, ◌-◌, ◌≤◌, ◌<◌}
use native.Mathlib.Omega.{arith}
use mathlib.Core.Path.{◌≡◌, sym, ◌∙◌}
use mathlib.Core.Bool.{true, false, ◌&&◌}
use borrow.Author.Tests.{ltb-false, lt-ltb, le-ltb, le-leb, lt-leb, eq-eqb, ne_eqb}
use lib.Dec.{leb, eqb}
use lib.IntN.{ℤ, pos, negsuc, ◌+ℤ◌}
use lib.ListN.{length}
use lib.Signed.{lt_z, le_z, mag}
use mir.Syntax.{w32}
use mir.Val.{SFits, to_z, of_z}
use mir.Facts.{to_z-of_z, to_z_pos}
use Rattle.limits.specs.Sizes.{most_constant}
use Rattle.model.proofs.BooleanLaws.{by_eq, by_lt, eqb_same}
use Rattle.records.specs.declared.Number.{Number}
use Rattle.records.specs.declared.Number.TheVariants.{Constant, SizePlus, LeftPlus}
use Rattle.sets.specs.Sets.{members_of}
use Rattle.step.specs.declared.Lists.{Lists}
use Rattle.step.specs.Values.{sum_of, value_of}

-- a byte, read as signed, is itself
pub byte_signed : (n : ℕ) → n < 256 → to_z w32 n ≡ pos n
byte_signed n h = to_z_pos w32 (omega arith)

-- a sum of at most 32767 and a byte stays in i32
sum_magnitude : (z : ℤ) (n : ℕ) → mag z < 2147483648 → lt_z (pos most_constant) z ≡ false → n < 256 → mag (z +ℤ pos n) < 2147483648
sum_magnitude (pos a) n f t h = let b : a ≤ most_constant = ltb-false most_constant a t in omega arith
sum_magnitude (negsuc a) n f t h = by_lt n (suc a)
    (λ l. rw (lt-ltb n (suc a) l) (omega arith))
    (λ l. rw (le-ltb n (suc a) l) (omega arith))

sum_fits : (z : ℤ) (n : ℕ) → SFits w32 z → lt_z (pos most_constant) z ≡ false → n < 256 → SFits w32 (z +ℤ pos n)
sum_fits z n f t h = record { sfits = sum_magnitude z n f.sfits t h }

-- in the machine's terms, which reads signed numbers back from their bits
module _ (z : ℤ) (n : ℕ) (f : SFits w32 z) (h : n < 256) where
  -- the sum behind the guard fits
  pub sum_stays : lt_z (pos most_constant) (to_z w32 (of_z w32 z)) ≡ false → SFits w32 (to_z w32 (of_z w32 z) +ℤ to_z w32 n)
  sum_stays t = rw (byte_signed n h, to_z-of_z f) (sum_fits z n f (rw (to_z-of_z f) at t) h)

  -- and is the sum of the integers
  pub sum_is : lt_z (pos most_constant) (to_z w32 (of_z w32 z)) ≡ false → to_z w32 (of_z w32 (to_z w32 (of_z w32 z) +ℤ to_z w32 n)) ≡ sum_of z n
  unfolding sum_of
  sum_is t = let s : lt_z (pos most_constant) z ≡ false = rw (to_z-of_z f) at t in rw (to_z-of_z (sum_stays t)) (rw (byte_signed n h, to_z-of_z f, s))

  -- a constant of more than 16 bits gives 0
  pub sum_guarded : lt_z (pos most_constant) (to_z w32 (of_z w32 z)) ≡ true → pos 0 ≡ sum_of z n
  unfolding sum_of
  sum_guarded t = let s : lt_z (pos most_constant) z ≡ true = rw (to_z-of_z f) at t in rw s

-- the ways out of `value`, one for each base
module _ (a : Number) (z : ℤ) (s : Lists) (f : SFits w32 z) where
  pub value_constant : a ≡ Constant z → to_z w32 (of_z w32 z) ≡ value_of a s
  unfolding value_of
  value_constant e = rw e (to_z-of_z f)

  pub value_size : a ≡ SizePlus z → (n : ℕ) (k : ℤ) → n ≡ length (members_of s.whole) → k ≡ sum_of (to_z w32 (of_z w32 z)) n → k ≡ value_of a s
  unfolding value_of
  value_size e n k size h = h ∙ rw (to_z-of_z f, e, size)

  pub value_left : a ≡ LeftPlus z → (n : ℕ) (k : ℤ) → n ≡ length (members_of s.left) → k ≡ sum_of (to_z w32 (of_z w32 z)) n → k ≡ value_of a s
  unfolding value_of
  value_left e n k size h = h ∙ rw (to_z-of_z f, e, size)

-- equal is at most, both ways
both_ways : (a b : ℕ) → eqb a b ≡ leb a b && leb b a
both_ways a b = by_eq a b
    (λ e. rw (eq-eqb a b e, le-leb a b (omega arith), le-leb b a (omega arith)))
    (λ n. rw (ne_eqb a b n) (by_lt a b
    (λ l. rw (le-leb a b (omega arith), lt-leb b a l))
    (λ l. rw (lt-leb a b (omega (arith, n))))))

-- two signed numbers are equal where their bits are
equal_bits : (x y : ℤ) → mag x < 2147483648 → mag y < 2147483648 → eqb (of_z w32 x) (of_z w32 y) ≡ le_z x y && le_z y x
equal_bits (pos a) (pos b) f g = both_ways a b
equal_bits (pos a) (negsuc b) f g = ne_eqb a (4294967296 - suc b) (omega arith)
equal_bits (negsuc a) (pos b) f g = ne_eqb (4294967296 - suc a) b (omega arith)
equal_bits (negsuc a) (negsuc b) f g = by_eq a b
    (λ e. rw (e, eqb_same (4294967296 - suc b)) (sym (same_way b)))
    (λ n. rw (ne_eqb (4294967296 - suc a) (4294967296 - suc b) (omega (arith, n))) (sym (sym (both_ways b a) ∙ ne_eqb b a (omega (arith, n)))))
  where
    same_way : (b : ℕ) → leb b b && leb b b ≡ true
    same_way b = sym (both_ways b b) ∙ eqb_same b

module _ (x y : ℤ) (f : SFits w32 x) (g : SFits w32 y) where
  -- the code's `==`, `<` and `<=` on i32 are those of the integers
  pub equal_signed : eqb (of_z w32 x) (of_z w32 y) ≡ le_z x y && le_z y x
  equal_signed = equal_bits x y f.sfits g.sfits

  pub less_signed : lt_z (to_z w32 (of_z w32 x)) (to_z w32 (of_z w32 y)) ≡ lt_z x y
  less_signed = rw (to_z-of_z f, to_z-of_z g)

  pub at_most_signed : le_z (to_z w32 (of_z w32 x)) (to_z w32 (of_z w32 y)) ≡ le_z x y
  at_most_signed = rw (to_z-of_z f, to_z-of_z g)
