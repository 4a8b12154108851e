-- Positions in the list of a set's members: which one is meant, the member that stands there, reached from either end, and the set without it.
use mathlib.Core.Path.{◌≡◌, refl, sym, ap, ◌∙◌}
use mathlib.Core.Bool.{true}
use mathlib.Core.List.{List, [], ◌∷◌}
use Prim.Native.Nat.{ℕ, zero, suc, ◌+◌, ◌-◌, ◌^◌, ◌≤◌, ◌<◌, min}
use native.Mathlib.Nat.{not-suc-le-zero}
use native.Mathlib.Omega.{arith}
use borrow.Author.Rules.{rules}
use borrow.Author.Tests.{lt-ltb, le-ltb}
use lib.IntN.{ℤ, pos, negsuc}
use lib.Bits.{bit_xor}
use lib.ListN.{length, get_or, get_or-eq_default}
use mir.Syntax.{w32}
use mir.Val.{SFits, to_z, of_z}
use mir.Facts.{to_z-of_z}
use Rattle.std.specs.Prelude.{unsigned_abs}
use Rattle.std.specs.Int.{FitsUnsignedBits}
use Rattle.model.specs.Lists.{qubits, range, position, entry, remove, member}
use Rattle.model.specs.Meaning.{bit}
use Rattle.model.proofs.BooleanLaws.{by_lt}
use Rattle.model.proofs.ListLaws.{range_length, remove_in, remove_out}
use Rattle.model.proofs.WordBits.{shifted}
use Rattle.sets.specs.Sets.{members_of}
use Rattle.sets.proofs.BitLaws.{more_xor}
use Rattle.sets.proofs.Members.{member_bit, members_delete, members_length, members_at, members_empty}
use Rattle.sets.proofs.Filtering.{get_d_in}
use Rattle.sets.proofs.Ways.{one}

-- a position that no byte holds is at or below zero, or past every member
module _ (k : ℤ) (f : SFits w32 k) where
  pub past_members : (w : ℕ) → (FitsUnsignedBits 8 (to_z w32 (of_z w32 k)) → ⊥) → 0 ≡ entry (members_of w) (position k)
  past_members w unfit = outside k (rw (to_z-of_z f) at unfit)
    where
      outside : (z : ℤ) → (FitsUnsignedBits 8 z → ⊥) → 0 ≡ entry (members_of w) (position z)
      outside (pos n) unfit = by_lt n 256
          (λ h. absurd (unfit h))
          (λ h. sym (get_or-eq_default (0 ∷ members_of w) 0 (let l = members_length w in omega arith)))
      outside (negsuc n) unfit = refl

  pub byte_position : (x : ℕ) → FitsUnsignedBits 8 (to_z w32 (of_z w32 k)) × (x ≡ unsigned_abs (to_z w32 (of_z w32 k))) → x ≡ position k
  byte_position x h = positive k (rw (to_z-of_z f) at h)
    where
      positive : (z : ℤ) → FitsUnsignedBits 8 z × (x ≡ unsigned_abs z) → x ≡ position z
      positive (pos n) h = h.1
      positive (negsuc n) h = absurd h.0

-- the member at a position
range_at : (n a k : ℕ) → k < n → get_or (range n a) k 0 ≡ a + k
unfolding range
range_at zero a k h = absurd (not-suc-le-zero h)
range_at (suc n) a zero h = omega arith
range_at (suc n) a (suc k) h = range_at n (suc a) k (omega arith) ∙ omega arith

pub entry_qubits : (n i : ℕ) → i ≤ n → entry (qubits n) i ≡ i
entry_qubits n zero h = refl
entry_qubits n (suc i) h = range_at n 1 i h ∙ omega arith

-- in qubits 1 to n each position is its own qubit
pub entry_full : (w v n i : ℕ) → n ≡ length (members_of w) → members_of v ≡ qubits (min n 64) → w ≡ v → i ≤ n → i ≡ entry (members_of w) i
entry_full w v n i size full same h =
    let all : members_of w ≡ qubits (min n 64) = ap members_of same ∙ full in
    let m : length (members_of w) ≡ min n 64 = ap length all ∙ range_length (min n 64) 1 in
    sym (ap (λ (l : List ℕ). entry l i) all ∙ entry_qubits (min n 64) i (omega arith))

-- the set without it
module _ (w : ℕ) where
  remove_empty : (p : ℕ) → entry (members_of w) p ≡ 0 → remove p (members_of w) ≡ []
  unfolding remove
  remove_empty zero e = refl
  remove_empty (suc i) e = by_lt i (length (members_of w))
      (λ h. let b = members_at w i h in absurd (omega arith))
      (λ h. remove_out i (members_of w) (le-ltb i (length (members_of w)) h))

  remove_member : (p q : ℕ) → q ≡ entry (members_of w) p → (q ≡ 0 → ⊥) → (q ≤ 64) × (members_of (bit_xor w (2 ^ (q - 1))) ≡ remove p (members_of w))
  remove_member zero q e some = absurd (some e)
  remove_member (suc i) q e some = by_lt i (length (members_of w))
      (λ h. let b = members_at w i h in
      let low : q ≤ 64 = omega arith in
      let back : suc (q - 1) ≡ q = omega arith in
      let at : get_or (members_of w) i 0 ≡ suc (q - 1) = sym e ∙ sym back in
      let has : bit w (q - 1) ≡ true =
      sym (member_bit w (q - 1) (omega arith)) ∙ ap (λ (x : ℕ). member x (members_of w)) (sym at) ∙ get_d_in (members_of w) i h in (
        low,
        members_delete w (bit_xor w (2 ^ (q - 1))) (q - 1) (more_xor w (q - 1) has) (omega arith) i at h
            ∙ sym (remove_in i (members_of w) (lt-ltb i (length (members_of w)) h)),
      ))
      (λ h. absurd (some (e ∙ get_or-eq_default (members_of w) 0 h)))

module _ (w : ℕ) (k : ℤ) (q : ℕ) (f : SFits w32 k) (found : q ≡ entry (members_of w) (position (to_z w32 (of_z w32 k)))) where
  there : q ≡ entry (members_of w) (position k)
  there = found ∙ rw (to_z-of_z f)

  pub remove_none : q ≡ 0 → members_of 0 ≡ remove (position k) (members_of w)
  remove_none e = members_empty ∙ sym (remove_empty w (position k) (sym there ∙ e))

  module _ (some : q ≡ 0 → ⊥) where
    pub remove_shift : q - 1 < 64
    remove_shift = let b : q ≤ 64 = (remove_member w (position k) q there some).0 in omega arith

    pub remove_one : members_of (bit_xor w (one (q - 1))) ≡ remove (position k) (members_of w)
    remove_one = rw (shifted 64 (q - 1) remove_shift) (remove_member w (position k) q there some).1

pub ruleset entries = (
  rules,
  remove_none,
  remove_shift,
  remove_one,
)
