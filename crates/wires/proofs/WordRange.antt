-- A word without a bit at n or above is below 2 ^ n.
use mathlib.Core.Path.{◌≡◌, sym}
use mathlib.Core.Bool.{true}
use Prim.Native.Nat.{ℕ, ◌+◌, ◌-◌, ◌*◌, ◌/◌, ◌%◌, ◌^◌, ◌<◌}
use native.Mathlib.Nat.{lt_of_lt_of_le, div-eq_of_lt, mod-lt}
use native.Mathlib.Omega.{arith}
use borrow.Author.Rules.{rules}
use borrow.Author.Tests.{eq-eqb, ne_eqb, lt-ltb, le-ltb}
use lib.Dec.{eqb, ltb}
use lib.Pow.{pow_mono, split, ones_lt}
use Rattle.model.proofs.BooleanLaws.{by_lt}

-- the ways out of `fits`
module _ (word n : ℕ) where
  pub fits_wide : word < 2 ^ 64 → 63 < n → true ≡ ltb word (2 ^ n)
  fits_wide h l = sym (lt-ltb word (2 ^ n) (lt_of_lt_of_le h (pow_mono {i = 64} (omega arith))))

  below : word / 2 ^ n ≡ 0 → word < 2 ^ n
  below e =
      let s : 0 * 2 ^ n + word % 2 ^ n ≡ word = rw e at (split word n) in
      let l : 2 ^ n - 1 < 2 ^ n = ones_lt n in
      let m : word % 2 ^ n < 2 ^ n = mod-lt word (omega arith) in
      omega arith

  pub fits_shift : eqb (word / 2 ^ n) 0 ≡ ltb word (2 ^ n)
  fits_shift = by_lt word (2 ^ n)
      (λ l. rw (eq-eqb (word / 2 ^ n) 0 (div-eq_of_lt l), lt-ltb word (2 ^ n) l))
      (λ g. rw (ne_eqb (word / 2 ^ n) 0 (λ e. let b : word < 2 ^ n = below e in omega arith), le-ltb word (2 ^ n) g))

pub ruleset fitting = (rules, fits_wide, fits_shift)
