-- Bytes stored one after the other into a room.
use mathlib.Core.Path.{◌≡◌, refl}
use mathlib.Core.List.{List, [], ◌∷◌, ◌++◌}
use Prim.Native.Nat.{ℕ, zero, suc, ◌+◌, ◌≤◌, ◌<◌}
use native.Mathlib.Numerals.{add-one}
use native.Mathlib.Nat.{add-zero}
use native.Mathlib.Omega.{arith}
use borrow.Author.Rules.{rules}
use lib.ListN.{length, set, take, get_or}
use lib.Seq.{sets, set_out}

-- stores behind the room's end change nothing
pub sets_past : (room : List ℕ) (at : ℕ) (bytes : List ℕ) → length room ≤ at → room ≡ sets room at bytes
sets_past room at [] h = refl
sets_past room at (b ∷ bytes) h = rw (set_out room at b h) (sets_past room (suc at) bytes (omega arith))

-- stores one after the other are the stores of both lists of bytes
pub sets_append : (room : List ℕ) (at : ℕ) (a b : List ℕ) → sets room at (a ++ b) ≡ sets (sets room at a) (at + length a) b
sets_append room at [] b = rw (add-zero at)
sets_append room at (x ∷ a) b = let e : suc at + length a ≡ at + suc (length a) = omega arith in rw (← e) (sets_append (set room at x) (suc at) a b)

-- one byte more
pub sets_more : (room : List ℕ) (at : ℕ) (bytes : List ℕ) (i : ℕ) → i < length bytes →
    set (sets room at (take i bytes)) (at + i) (get_or bytes i 0) ≡ sets room at (take (i + 1) bytes)
sets_more room at [] i h = absurd (omega arith)
sets_more room at (b ∷ bytes) zero h = rw add-zero
sets_more room at (b ∷ bytes) (suc i) h =
    let e : at + suc i ≡ suc at + i = omega arith in rw (e, add-one) (rw (add-one) at (sets_more (set room at b) (suc at) bytes i (omega arith)))

pub ruleset stores = (rules, sets_past, sets_more)
