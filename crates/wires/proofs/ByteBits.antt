-- The bits of a byte: one of them flipped, and a byte taken out of a number.
use mathlib.Core.Path.{◌≡◌, ap, ◌∙◌}
use Prim.Native.Nat.{ℕ, ◌+◌, ◌-◌, ◌/◌, ◌%◌, ◌^◌, ◌<◌}
use native.Mathlib.Omega.{arith}
use lib.Dec.{eqb}
use lib.Bits.{bit_xor, xor_lt}
use lib.Pow.{pow-lt, shr-shr, field, mod-mod-pow}
use Rattle.model.specs.Meaning.{bit}

-- a byte with a bit flipped is a byte
pub flip_byte : (n k : ℕ) → n < 256 → k < 8 → bit_xor n (2 ^ k) < 256
flip_byte n k h hk = xor_lt 8 n (2 ^ k) h (pow-lt hk)

-- bit k of the byte that starts at bit a
pub byte_bit : (n a k : ℕ) → k < 8 → bit (n / 2 ^ a % 256) k ≡ bit n (a + k)
byte_bit n a k h = ap (λ (x : ℕ). eqb x 1)
    (ap (λ (m : ℕ). n / 2 ^ a % 2 ^ m / 2 ^ k % 2) eight
    ∙ ap (λ (x : ℕ). x % 2) (field (n / 2 ^ a) (7 - k + 1) k)
    ∙ mod-mod-pow (n / 2 ^ a / 2 ^ k) (7 - k) 1
    ∙ ap (λ (x : ℕ). x % 2) (shr-shr n a k))
  where
    eight : 8 ≡ 7 - k + 1 + k
    eight = omega arith
