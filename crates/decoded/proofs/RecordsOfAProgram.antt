-- What was put down of a record is the record that was read, with its removals.
use Rattle.std.proofs.Common.{get_or-set_same, get_or-set_other, length-set, ℕ, zero, suc, ◌+◌, ◌-◌, ◌*◌, ◌<◌, ◌≤◌, ◌≡◌, refl, sym, ap, ◌∙◌, length, List, [], ◌∷◌, slice_set, arith, Bool, true, false}
use Rattle.std.proofs.lemmas.List.Edits.{sets}
use mathlib.Core.Bool.{cond}
use borrow.Author.Tests.{ltb-true, le-ltb, lt-ltb, ne_eqb}
use lib.Dec.{eqb, ltb}
use lib.ListN.{get_or}
use lib.IntN.{pos}
use lib.Signed.{lt_z}
use Rattle.limits.specs.Sizes.{place_count, most_constant}
use Rattle.model.specs.Limits.{most_removals}
use Rattle.model.specs.Reading.{required_map, signed16}
use Rattle.model.proofs.BooleanLaws.{by_eq, by_bool}
use Rattle.records.specs.declared.Number.{Number}
use Rattle.records.specs.declared.Record.{Record}
use Rattle.records.specs.Fields.{
  byte_at,
  based,
  written_at,
  number_of,
  numbers_from,
  removals_of,
  place_of,
  after_removals,
  plain_record,
  touch_record,
  comparison_record,
  call_record,
  record_of,
}
use Rattle.decoded.specs.declared.Program.{Program}
use Rattle.decoded.specs.DecodedTable.{kept, kept_record, no_number, no_removals, entry_of, record_in, start_of, removal_number, removals_from, removals_in}
use Rattle.decoded.specs.RecordsPutDown.{removals_place, numbers_written, removal_count, removals_read, place_kept}

from_length : (n : ℕ) (g : Program) (i k : ℕ) → length (removals_from n g i k) ≡ n
unfolding removals_from
from_length zero g i k = refl
from_length (suc n) g i k = ap suc (from_length n g i (k + 1))

-- as many as were put down
pub removals_length : (g : Program) (i : ℕ) → length (removals_in g i) ≡ (entry_of g i).removals.count
removals_length g i = from_length (entry_of g i).removals.count g i 0

-- one number more is put down, and those that are left stand three bytes further
number_more : (xs : List Number) (k n : ℕ) (bs : List ℕ) (at : ℕ) → k < n →
    sets xs k (numbers_written (n - k) bs (at + 3 * k)) ≡
    sets (slice_set xs k (written_at bs (at + 3 * k))) (k + 1) (numbers_written (n - (k + 1)) bs (at + 3 * (k + 1)))
unfolding numbers_written
number_more xs k n bs at l =
    let s : k + 1 ≡ suc k = omega arith in
    let e : n - k ≡ suc (n - suc k) = omega arith in
    let f : at + 3 * suc k ≡ at + 3 * k + 3 = omega arith in
    rw (s, e, f)

pub number_put : (xs all : List Number) (k n : ℕ) (bs : List ℕ) (at : ℕ) (x : Number) → x ≡ written_at bs (at + 3 * k) → k < n →
    sets xs k (numbers_written (n - k) bs (at + 3 * k)) ≡ all → sets (slice_set xs k x) (k + 1) (numbers_written (n - (k + 1)) bs (at + 3 * (k + 1))) ≡ all
number_put xs all k n bs at x e l p = rw e (sym (number_more xs k n bs at l) ∙ p)

-- none is left
pub number_done : (xs : List Number) (k n : ℕ) (bs : List ℕ) (at : ℕ) → n ≤ k → sets xs k (numbers_written (n - k) bs at) ≡ xs
unfolding numbers_written
number_done xs k n bs at l = let e : n - k ≡ 0 = omega arith in rw e

-- numbers stored one after the other: before them all is as it was, and each stands at its place
numbers_before : (xs l : List Number) (at k : ℕ) → k < at → get_or (sets l at xs) k no_number ≡ get_or l k no_number
numbers_before [] l at k h = refl
numbers_before (x ∷ xs) l at k h = numbers_before xs (slice_set l at x) (suc at) k (omega arith) ∙ get_or-set_other l at k x no_number (λ e. omega arith)

numbers_there : (xs l : List Number) (at k : ℕ) → k < length xs → at + length xs ≤ length l → get_or (sets l at xs) (at + k) no_number ≡ get_or xs k no_number
numbers_there [] l at k h m = absurd (omega arith)
numbers_there (x ∷ xs) l at zero h m =
    let e : at + 0 ≡ at = omega arith in
    rw e (numbers_before xs (slice_set l at x) (suc at) at (omega arith) ∙ get_or-set_same l at x no_number (omega arith))
numbers_there (x ∷ xs) l at (suc k) h m =
    let e : at + suc k ≡ suc at + k = omega arith in
    rw e (numbers_there xs (slice_set l at x) (suc at) k (omega arith) (rw (length-set l at x) (omega arith)))

written_length : (n : ℕ) (bs : List ℕ) (at : ℕ) → length (numbers_written n bs at) ≡ n
unfolding numbers_written
written_length zero bs at = refl
written_length (suc n) bs at = ap suc (written_length n bs (at + 3))

written_there : (n : ℕ) (bs : List ℕ) (at k : ℕ) → k < n → get_or (numbers_written n bs at) k no_number ≡ written_at bs (at + 3 * k)
unfolding numbers_written
written_there zero bs at k h = absurd (omega arith)
written_there (suc n) bs at zero h = let e : at + 3 * 0 ≡ at = omega arith in rw e
written_there (suc n) bs at (suc k) h = let e : at + 3 * suc k ≡ at + 3 + 3 * k = omega arith in rw e (written_there n bs (at + 3) k (omega arith))

-- a number of the table is kept as it is
constant_small : (low high : ℕ) → lt_z (pos most_constant) (signed16 low high) ≡ false
unfolding signed16
constant_small low high = by_bool (ltb (low + 256 * high) 32768)
    (λ e. rw e (le-ltb most_constant (low + 256 * high) (omega (arith, ltb-true (low + 256 * high) 32768 e))))
    (λ e. rw e)

pub number_kept : (b low high : ℕ) → kept (based b (signed16 low high)) ≡ based b (signed16 low high)
unfolding based kept
number_kept zero low high = rw (constant_small low high)
number_kept (suc zero) low high = rw (constant_small low high)
number_kept (suc (suc b)) low high = rw (constant_small low high)

written_kept : (bs : List ℕ) (at : ℕ) → kept (written_at bs at) ≡ written_at bs at
written_kept bs at = number_kept (byte_at bs at) (byte_at bs (at + 1)) (byte_at bs (at + 2))

-- n removals that are the numbers of a table are what the definition reads there
removals_are : (n : ℕ) (bs : List ℕ) (g : Program) (i at k : ℕ) → ((j : ℕ) → j < n → removal_number g i (k + j) ≡ written_at bs (at + 3 * j)) →
    removals_from n g i k ≡ numbers_from n bs at
unfolding removals_from numbers_from
removals_are zero bs g i at k h = refl
removals_are (suc n) bs g i at k h =
    let e : k + 0 ≡ k = omega arith in
    let f : at + 3 * 0 ≡ at = omega arith in
    let first : removal_number g i k ≡ written_at bs at = rw (e, f) at (h 0 (omega arith)) in
    rw first
    (ap (λ l. number_of (written_at bs at) ∷ l)
    (removals_are n bs g i (at + 3) (k + 1) λ j l.
    let a : k + 1 + j ≡ k + suc j = omega arith in
    let b : at + 3 + 3 * j ≡ at + 3 * suc j = omega arith in
    rw (a, b) (h (suc j) (omega arith))))

-- the removals that were put down are those whose count stands at a place of the table, where there are no more than there is room for
module _ (bs : List ℕ) (g : Program) (i q : ℕ) (put : (entry_of g i).removals ≡ removals_read bs q) where
  module _ (n : q ≡ 0 → ⊥) (few : byte_at bs q ≤ most_removals) where
    count : ℕ
    count = byte_at bs q

    all_of_them : removal_count bs q ≡ count
    unfolding count
    all_of_them = omega arith

    read : removals_read bs q ≡ record { count = count; numbers = sets no_removals.numbers 0 (numbers_written count bs (q + 1)) }
    unfolding removals_read
    read = rw (ne_eqb q 0 n, all_of_them)

    one : (j : ℕ) → j < count → removal_number g i (0 + j) ≡ written_at bs (q + 1 + 3 * j)
    unfolding count
    one j l =
        rw (put, read)
        (ap kept
        (numbers_there (numbers_written count bs (q + 1)) no_removals.numbers 0 j (rw (written_length count bs (q + 1)) l)
        (rw (written_length count bs (q + 1)) (omega arith))
        ∙ written_there count bs (q + 1) j l)
        ∙ written_kept bs (q + 1 + 3 * j))

    there : (p : ℕ) → (p ≡ 0 → ⊥) → removals_of bs p ≡ numbers_from (byte_at bs p) bs (p + 1)
    unfolding removals_of
    there zero f = absurd (f refl)
    there (suc p) f = let e : suc p + 1 ≡ suc (suc p) = omega arith in rw e

    some : removals_in g i ≡ removals_of bs q
    unfolding count
    some = rw (put, read) (removals_are count bs g i (q + 1) 0 one) ∙ sym (there q n)

  none : q ≡ 0 → removals_in g i ≡ removals_of bs q
  unfolding removals_of removals_from removals_read
  none z = rw (put, z)

  pub removals_put : (0 < q → byte_at bs q ≤ most_removals) → removals_in g i ≡ removals_of bs q
  removals_put few = by_eq q 0 none (λ n. some n (few (omega (arith, n))))

-- what was put down as record i is this record, which stands at a place
pub record Row (bs : List ℕ) (r : Record) (g : Program) (i at : ℕ) : Type 0 where
  pub read : (entry_of g i).read ≡ r
  pub removals : (entry_of g i).removals ≡ removals_read bs (removals_place r)
  pub place : start_of g i ≡ place_kept at

-- a record whose numbers are kept as they are
abbrev pub Sound : Record → Type 0
Sound r = kept_record r ≡ r

-- what the program says of record i
pub record Decoded (bs : List ℕ) (g : Program) (i at : ℕ) (r : Record) : Type 0 where
  pub carries : record_in g i ≡ r
  pub removes : removals_in g i ≡ removals_of bs (removals_place r)
  pub starts : start_of g i ≡ at

pub decoded : (bs : List ℕ) (g : Program) (at i : ℕ) (r : Record) → Sound r → (0 < removals_place r → byte_at bs (removals_place r) ≤ most_removals) → at < place_count →
    Row bs r g i at → Decoded bs g i at r
unfolding place_kept
decoded bs g at i r sound few l row =
    record {
      carries = ap kept_record row.read ∙ sound;
      removes = removals_put bs g i (removals_place r) row.removals few;
      starts = row.place ∙ rw (lt-ltb at place_count l);
    }

-- what holds of two records holds of the one that is chosen
either : (P : Record → Type 0) (b : Bool) (x y : Record) → P x → P y → P (cond b x y)
either P true x y p q = p
either P false x y p q = q

-- a record as it is written in the table is one
pub written_sound : (p k : ℕ) (b : Bool) (bs : List ℕ) (at : ℕ) → Sound (record_of p k b bs at)
unfolding record_of touch_record comparison_record call_record plain_record kept_record
written_sound p k b bs at =
    let f = byte_at bs (after_removals b bs at) in
    let a = written_kept bs (after_removals b bs at) in
    let c = written_kept bs at in
    let d = written_kept bs (at + 3) in
    either Sound (eqb (required_map k) 2) _ _ (either Sound (eqb k 1) _ _ (rw a) (rw a))
    (either Sound (eqb (required_map k) 6) _ _ (either Sound (eqb k 6) _ _ (rw (c, d)) (either Sound (eqb k 7) _ _ (rw (c, d)) (rw (c, d))))
    (either Sound (eqb (required_map k) 8) _ _ (either Sound (eqb f 0) _ _ refl (either Sound (ltb p f) _ _ refl refl))
    (either Sound (eqb k 2) _ _ refl (either Sound (eqb k 3) _ _ refl (either Sound (eqb k 9) _ _ refl (either Sound (eqb k 10) _ _ refl (either Sound (eqb k 11) _ _ refl refl)))))))

-- the removals of a record as it is written in the table stand behind its kind, if anywhere
pub written_place : (p k : ℕ) (b : Bool) (bs : List ℕ) (at : ℕ) → 0 < removals_place (record_of p k b bs at) → removals_place (record_of p k b bs at) ≡ place_of b at
unfolding record_of touch_record comparison_record call_record plain_record removals_place
written_place p k b bs at =
    let f = byte_at bs (after_removals b bs at) in
    either P (eqb (required_map k) 2) _ _ (either P (eqb k 1) _ _ (λ l. refl) (λ l. refl))
    (either P (eqb (required_map k) 6) _ _ (either P (eqb k 6) _ _ no (either P (eqb k 7) _ _ no no))
    (either P (eqb (required_map k) 8) _ _ (either P (eqb f 0) _ _ no (either P (ltb p f) _ _ no (λ l. refl)))
    (either P (eqb k 2) _ _ no (either P (eqb k 3) _ _ no (either P (eqb k 9) _ _ no (either P (eqb k 10) _ _ no (either P (eqb k 11) _ _ no no)))))))
  where
    P : Record → Type 0
    P r = 0 < removals_place r → removals_place r ≡ place_of b at

    no : 0 < 0 → 0 ≡ place_of b at
    no l = absurd (omega arith)
