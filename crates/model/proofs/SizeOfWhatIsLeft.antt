-- Document 02, S-2: what base 2 of a number adds, by where the number stands.
use Prim.Native.Nat.{ℕ, zero, suc, ◌+◌, ◌<◌}
use native.Mathlib.Nat.{not-suc-le-zero, le_of_suc-le-suc}
use native.Mathlib.Omega.{arith}
use mathlib.Core.Path.{◌≡◌, refl, ap}
use mathlib.Core.List.{List, [], ◌∷◌, ◌++◌}
use borrow.Author.Tests.{lt-ltb, ltb-true}
use lib.ListN.{length}
use lib.Dec.{ltb}
use lib.IntN.{ℤ, pos, negsuc}
use Rattle.model.specs.Syntax.{Number, size_plus, left_plus}
use Rattle.model.specs.Lists.{sizes, value, compared_value, position, delete, remove, remove_all, remaining}
use Rattle.model.proofs.BooleanLaws.{by_bool}
use Rattle.model.proofs.ListLaws.{remove_in, remove_out, remove_all_append}

-- "the size of the list left by the removals already done in that record": a removal takes the size of what those before it left, whatever comes behind it
pub removal_takes : (done : List Number) (a : Number) (rest : List Number) (l : List ℕ) →
    remaining (done ++ a ∷ rest) l ≡ remove_all l rest (remove (position (value a (sizes l (remaining done l)))) (remaining done l))
unfolding remove_all
removal_takes done a rest l = remove_all_append l done (a ∷ rest) l

-- so in the first removal it equals base 1
pub first_removal : (z : ℤ) (rest : List Number) (l : List ℕ) → remaining (left_plus z ∷ rest) l ≡ remaining (size_plus z ∷ rest) l
unfolding remove_all
first_removal z rest l = refl

-- "in a comparison it equals base 1"
pub comparison_equals : (z : ℤ) (l : List ℕ) → compared_value (left_plus z) l ≡ compared_value (size_plus z) l
comparison_equals z l = refl

-- once the list is empty it adds 0
pub nothing_left : (z : ℤ) (l : List ℕ) → value (left_plus z) (sizes l []) ≡ z
nothing_left (pos k) l = ap pos (omega arith)
nothing_left (negsuc k) l = rw (lt-ltb 0 (suc k) (omega arith)) (ap negsuc (omega arith))

-- what a writer computes by hand: a removal takes one entry, as long as any is left
delete_length : (i : ℕ) (l : List ℕ) → i < length l → suc (length (delete i l)) ≡ length l
unfolding delete
delete_length i [] h = absurd (not-suc-le-zero h)
delete_length zero (x ∷ l) h = refl
delete_length (suc i) (x ∷ l) h = ap suc (delete_length i l (le_of_suc-le-suc h))

remove_length : (k : ℕ) (l : List ℕ) → 0 < length (remove k l) → suc (length (remove k l)) ≡ length l
unfolding remove
remove_length zero l some = absurd (not-suc-le-zero some)
remove_length (suc i) l some = by_bool (ltb i (length l))
    (λ e. rw (remove_in i l e) (delete_length i l (ltb-true i (length l) e)))
    (λ e. absurd (not-suc-le-zero (rw (remove_out i l e) at some)))

remove_all_length : (l : List ℕ) (rs : List Number) (now : List ℕ) → 0 < length (remove_all l rs now) → length (remove_all l rs now) + length rs ≡ length now
unfolding remove_all
remove_all_length l [] now some = omega arith
remove_all_length l (a ∷ rs) now some =
    let k = position (value a (sizes l now)) in
    let rest : List ℕ = remove k now in
    let less : length (remove_all l rs rest) + length rs ≡ length rest = remove_all_length l rs rest some in
    let one : suc (length rest) ≡ length now = remove_length k now (omega arith) in
    omega arith

pub remaining_length : (rs : List Number) (l : List ℕ) → 0 < length (remaining rs l) → length (remaining rs l) + length rs ≡ length l
remaining_length rs l some = remove_all_length l rs l some
