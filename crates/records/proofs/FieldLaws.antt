-- Laws of the readers of fields, turned as the code's needs are.
use mathlib.Core.Path.{◌≡◌, sym, ap, ◌∙◌}
use mathlib.Core.List.{List}
use Prim.Native.Nat.{ℕ, zero, suc, ◌+◌, ◌-◌, ◌*◌, ◌≤◌, ◌<◌}
use native.Mathlib.Numerals.{add-one}
use native.Mathlib.Omega.{arith}
use borrow.Author.Tests.{lt-ltb, le-ltb, ne_eqb}
use lib.ListN.{length, get_or, get_or-eq_default}
use lib.IntN.{pos}
use mir.Syntax.{w8, w16}
use mir.Val.{Fits, to_z}
use mir.Facts.{to_z_pos, to_z-neg}
use Rattle.std.specs.Prelude.{Result, Ok, Err, IsErrAnd}
use Rattle.std.proofs.lemmas.Result.{err_from_is_err_and}
use Rattle.limits.specs.Sizes.{kind_count}
use Rattle.limits.specs.declared.Refusal.{Refusal}
use Rattle.model.specs.Reading.{permitted_maps, signed16, required_map}
use Rattle.model.proofs.BooleanLaws.{by_lt}
use Rattle.records.specs.declared.Number.{Number}
use Rattle.records.specs.declared.Number.TheVariants as base
use Rattle.records.specs.declared.Record.TheVariants as kind
use Rattle.records.specs.Fields.{based, written_at, number_at, numbers_at, plain_record}

-- what goes out where a `?` hands out a refusal
pub handed_out : {T : Type 0} (r : Result T Refusal) (why : Refusal) → IsErrAnd r (λ w. w ≡ why) → r ≡ Err why
handed_out r why e = let p = err_from_is_err_and r e in p.1 ∙ ap Err p.2

-- so many numbers, one after the other: the first is refused, or the others stand behind it
pub numbers_refused : (bs : List ℕ) (at n : ℕ) (why : Refusal) → 0 < n → number_at bs at ≡ Err why → numbers_at n bs at ≡ Err why
unfolding numbers_at
numbers_refused bs at zero why l e = absurd (omega arith)
numbers_refused bs at (suc n) why l e = rw e

pub numbers_behind :
    (bs : List ℕ) (at n m : ℕ) (a : Number) (next : ℕ) → n ≡ m + 1 → number_at bs at ≡ Ok (a, next) → numbers_at n bs at ≡ numbers_at m bs next
unfolding numbers_at
numbers_behind bs at n m a next l e = rw (l, add-one, numbers_at, e)

-- two bytes as a signed number: their bits below 32768, and 65536 less from there on
pub signed_bytes : (low high : ℕ) → Fits w8 low → Fits w8 high → to_z w16 (low + high * 256) ≡ signed16 low high
unfolding signed16
signed_bytes low high f g = by_lt (low + 256 * high) 32768
    (λ l. rw (to_z_pos w16 {n = low + high * 256} (omega arith), lt-ltb (low + 256 * high) 32768 l) (ap pos (omega arith)))
    (λ l.
    let e : low + high * 256 ≡ 65536 - suc (65535 - (low + 256 * high)) = omega arith in
    rw (e, le-ltb (low + 256 * high) 32768 l) (to_z-neg w16 (65535 - (low + 256 * high)) (omega arith)))

-- what stands past the end is 0, and a number there the constant 0
past_end : (l : List ℕ) (i : ℕ) → length l ≤ i → 0 ≡ get_or l i 0
past_end l i h = sym (get_or-eq_default l 0 h)

pub written_past : (bs : List ℕ) (at : ℕ) → length bs ≤ at → base.Constant (pos 0) ≡ written_at bs at
unfolding based signed16
written_past bs at h = rw (← past_end bs at h, ← past_end bs (at + 1) (omega arith), ← past_end bs (at + 2) (omega arith))

-- what is no kind counts as skip, and no bit must stand in its map
pub plain_last : (k : ℕ) → (k ≡ 2 → ⊥) → (k ≡ 3 → ⊥) → (k ≡ 9 → ⊥) → (k ≡ 10 → ⊥) → (k ≡ 11 → ⊥) → kind.Skip ≡ plain_record k
unfolding plain_record
plain_last k f2 f3 f9 f10 f11 = rw (ne_eqb k 2 f2, ne_eqb k 3 f3, ne_eqb k 9 f9, ne_eqb k 10 f10, ne_eqb k 11 f11)

pub required_none : (k i : ℕ) → i ≡ k → kind_count ≤ i → 0 ≡ required_map k
required_none k i e l = rw (get_or-eq_default permitted_maps 0 {n = k} (omega arith))
