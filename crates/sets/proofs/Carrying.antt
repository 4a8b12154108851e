-- Positions of a list carried to its members: in a list of neighbours by one shift, in others member by member, while the row of positions is shifted down.
use mathlib.Core.Path.{◌≡◌, refl, sym, ap, ◌∙◌}
use mathlib.Core.Bool.{true, false}
use mathlib.Core.List.{List, [], ◌∷◌, ◌++◌, map, map-id, append_assoc, append-nil, cons≢nil, head-eq_of_cons-eq, tail-eq_of_cons-eq}
use Prim.Native.Nat.{ℕ, zero, suc, ◌-◌, ◌*◌, ◌/◌, ◌%◌, ◌^◌, ◌≤◌, ◌<◌, min}
use native.Mathlib.Nat.{
  min-le_right,
  not-suc-le-zero,
  lt_of_lt_of_le,
  lt_of_le_of_lt,
  zero-mul,
  mul-one,
  mul_comm,
  mul_assoc,
  mul-le-mul_right,
  div-one,
  div-div-eq-div-mul,
  mod-eq_of_lt,
  pow-succ',
}
use native.Mathlib.Omega.{arith}
use borrow.Author.Rules.{rules}
use lib.Bits.{bit_and, bit_or, and_mask, or_zero_r, or_lt, and_le_l, and_le_r}
use lib.Pow.{pow_pos, pow-lt, pow_mono, ones_lt, shr_le, split}
use lib.Count.{count_trailing_zeros, trailing_le}
use lib.ListN.{length, get_or}
use mir.Syntax.{w64}
use mir.Val.{Fits}
use Rattle.model.specs.Lists.{qubits, entry}
use Rattle.model.specs.Meaning.{bit, state_of}
use Rattle.model.proofs.BooleanLaws.{by_lt, by_eq, clash}
use Rattle.model.proofs.ListLaws.{range_length}
use Rattle.model.proofs.WordBits.{shifted, past_bit}
use Rattle.sets.specs.Sets.{members_within, members_of, entries_at}
use Rattle.sets.proofs.Filtering.{picked, picked_zero, picked_yes, picked_no, picked_same, picked_map}
use Rattle.sets.proofs.BitLaws.{half_below, odd_bit, even_bit, by_parity, trailing_odd, trailing_even, more_or, cleared, lowest, lowest_below}
use Rattle.sets.proofs.Members.{
  members_empty,
  members_full,
  members_cut,
  members_double,
  same_word,
  members_lowest,
  members_last,
  from,
  from_half,
  from_state,
}
use Rattle.sets.proofs.Positions.{entry_qubits}
use Rattle.sets.proofs.Readings.{empty_word}

-- the entries of a list whose positions are in a row, the lowest bit of which is the first position
unfoldable pub deposit : ℕ → List ℕ → List ℕ
deposit row [] = []
deposit row (x ∷ l) = elim (bit row 0) [ true ↦ x ∷ deposit (row / 2) l | false ↦ deposit (row / 2) l ]

deposit_odd : (row x : ℕ) (l : List ℕ) → row % 2 ≡ 1 → deposit row (x ∷ l) ≡ x ∷ deposit (row / 2) l
unfolding deposit
deposit_odd row x l o = rw (odd_bit row o, deposit)

deposit_even : (row x : ℕ) (l : List ℕ) → row % 2 ≡ 0 → deposit row (x ∷ l) ≡ deposit (row / 2) l
unfolding deposit
deposit_even row x l e = rw (even_bit row e, deposit)

deposit_nil : (row : ℕ) → deposit row [] ≡ []
unfolding deposit
deposit_nil row = refl

deposit_zero : (l : List ℕ) → deposit 0 l ≡ []
unfolding deposit
deposit_zero [] = refl
deposit_zero (x ∷ l) = deposit_even 0 x l refl ∙ deposit_zero l

-- they are the entries at those positions
abbrev at : ℕ → List ℕ → ℕ → ℕ
at a l = λ q. get_or l (q - a) 0

at_tail : (a x : ℕ) (l : List ℕ) (q : ℕ) → suc a ≤ q → at a (x ∷ l) q ≡ at (suc a) l q
at_tail a x l q h = let e : q - a ≡ suc (q - suc a) = omega arith in rw e

deposit_from : (a row : ℕ) (l : List ℕ) → deposit row l ≡ map (at a l) (picked (from a row) (length l) a)
deposit_from a row [] = rw (picked_zero (from a row) a) (deposit_nil row)
deposit_from a row (x ∷ l) =
    let n : ℕ = length l in
    let here : a - a ≡ 0 = omega arith in
    let same : picked (from a row) n (suc a) ≡ picked (from (suc a) (row / 2)) n (suc a) =
    picked_same n (suc a) (from a row) (from (suc a) (row / 2)) (λ q h g. from_half a row q h) in
    let rest : map (at a (x ∷ l)) (picked (from a row) n (suc a)) ≡ deposit (row / 2) l =
    ap (map (at a (x ∷ l))) same
    ∙ picked_map n (suc a) (from (suc a) (row / 2)) (at a (x ∷ l)) (at (suc a) l) (λ q h g. at_tail a x l q h)
    ∙ sym (deposit_from (suc a) (row / 2) l) in
    by_parity row
    (λ o. let yes : from a row a ≡ true = rw here (odd_bit row o) in
    rw (picked_yes (from a row) n a yes, rest, here) (deposit_odd row x l o))
    (λ e. let no : from a row a ≡ false = rw here (even_bit row e) in
    rw (picked_no (from a row) n a no, rest) (deposit_even row x l e))

pub deposit_entries : (row : ℕ) (l : List ℕ) → deposit row l ≡ entries_at row l
deposit_entries row l =
    deposit_from 1 row l
    ∙ ap (map (at 1 l)) (picked_same (length l) 1 (from 1 row) (state_of row) (λ q h g. from_state row q h))
    ∙ picked_map (length l) 1 (state_of row) (at 1 l) (entry l) (λ q h g. behind q h)
  where
    behind : (q : ℕ) → 1 ≤ q → at 1 l q ≡ entry l q
    behind zero h = absurd (not-suc-le-zero h)
    behind (suc q) h = let e : suc q - 1 ≡ q = omega arith in rw e

-- in qubits 1 to n each position is its own qubit
entries_qubits : (row n : ℕ) → entries_at row (qubits n) ≡ members_within n row
entries_qubits row n =
    ap (λ (k : ℕ). map (entry (qubits n)) (members_within k row)) (range_length n 1)
    ∙ picked_map n 1 (state_of row) (entry (qubits n)) (λ q. q) (λ q l g. entry_qubits n q (omega arith))
    ∙ map-id (members_within n row)

carry_full : (row w n v : ℕ) → w < 2 ^ 64 → members_of v ≡ qubits (min n 64) → w ≡ v → members_of (bit_and row w) ≡ entries_at row (members_of w)
carry_full row w n v f full same =
    let low : min n 64 ≤ 64 = min-le_right n 64 in
    let all : members_of w ≡ qubits (min n 64) = ap members_of same ∙ full in
    let word : w ≡ 2 ^ min n 64 - 1 = same_word w (2 ^ min n 64 - 1) f
    (lt_of_lt_of_le (ones_lt (min n 64)) (pow_mono low)) (all ∙ sym (members_full (min n 64) low)) in
    ap (λ (x : ℕ). members_of (bit_and row x)) word ∙ members_cut row (min n 64) low ∙ sym (entries_qubits row (min n 64)) ∙ ap (entries_at row) (sym all)

-- entries that are one higher
deposit_next : (row : ℕ) (l : List ℕ) → deposit row (map suc l) ≡ map suc (deposit row l)
deposit_next row [] = rw (deposit_nil row)
deposit_next row (x ∷ l) = by_parity row
    (λ o. rw (deposit_odd row (suc x) (map suc l) o, deposit_odd row x l o, deposit_next (row / 2) l))
    (λ e. rw (deposit_even row (suc x) (map suc l) e, deposit_even row x l e, deposit_next (row / 2) l))

-- what is found in a list whose lowest member is brought down to 1 is, as far up again, what is found in the list
below_le : (x w t : ℕ) → x ≤ w / 2 ^ t → x * 2 ^ t ≤ w
below_le x w t l = let a = mul-le-mul_right (2 ^ t) l in let b = split w t in omega arith

module _ (row x w t : ℕ) where
  no_further : t ≡ 0 → members_of x ≡ deposit row (members_of (w / 2 ^ t)) → members_of (x * 2 ^ t) ≡ deposit row (members_of w)
  no_further z e = rw (z, mul-one x) (rw (z, div-one w) at e)

  one_further : w < 2 ^ 64 → w % 2 ≡ 0 → x ≤ w / 2 ^ suc t → members_of (x * 2 ^ t) ≡ deposit row (members_of (w / 2)) →
      members_of (x * 2 ^ suc t) ≡ deposit row (members_of w)
  one_further b even l e =
      let further : x * 2 ^ suc t ≡ x * 2 ^ t * 2 = ap (λ (y : ℕ). x * y) (pow-succ' 2 t ∙ mul_comm 2 (2 ^ t)) ∙ sym (mul_assoc x (2 ^ t) 2) in
      let under : x * 2 ^ suc t ≤ w = below_le x w (suc t) l in
      let twice : w / 2 * 2 ≡ w = omega arith in
      ap members_of further ∙ members_double (x * 2 ^ t) (omega arith) ∙ ap (map suc) e ∙ sym (deposit_next row (members_of (w / 2)))
      ∙ ap (deposit row) (sym (members_double (w / 2) (half_below 63 w b)) ∙ ap members_of twice)

shifted_run : (n row x w : ℕ) → w < 2 ^ 64 → x ≤ w / 2 ^ count_trailing_zeros n w → members_of x ≡ deposit row (members_of (w / 2 ^ count_trailing_zeros n w)) →
    members_of (x * 2 ^ count_trailing_zeros n w) ≡ deposit row (members_of w)
shifted_run zero row x w b l e = no_further row x w (count_trailing_zeros 0 w) (omega (arith, trailing_le 0 w)) e
shifted_run (suc n) row x w b l e = by_parity w
    (λ odd. no_further row x w (count_trailing_zeros (suc n) w) (trailing_odd n w odd) e)
    (λ even.
    let t : ℕ = count_trailing_zeros n (w / 2) in
    let next : count_trailing_zeros (suc n) w ≡ suc t = trailing_even n w even in
    let half : w / 2 ^ suc t ≡ w / 2 / 2 ^ t = ap (λ (y : ℕ). w / y) (pow-succ' 2 t) ∙ sym (div-div-eq-div-mul w 2 (2 ^ t)) in
    rw next (one_further row x w t b even (rw next at l)
    (shifted_run n row x (w / 2) (omega arith) (rw (next, half) at l) (rw (next, half) at e))))

pub carry_empty : (row w : ℕ) → w ≡ 0 → members_of 0 ≡ entries_at row (members_of w)
carry_empty row w e = rw (e, members_empty) (sym (deposit_nil row) ∙ deposit_entries row [])

module _ (w : ℕ) (f : Fits w64 w) (some : w ≡ 0 → ⊥) where
  -- how many places are below the lowest member
  carry_inside : count_trailing_zeros 64 w < 64
  carry_inside = lowest_below 64 w (omega arith) f.fits

-- in a list of neighbours
module _ (row w n v : ℕ) (f : Fits w64 w) (full : members_of v ≡ qubits (min n 64)) where
  pub carry_run : w / 2 ^ count_trailing_zeros 64 w ≡ v →
      members_of ((bit_and row (w / 2 ^ count_trailing_zeros 64 w) * 2 ^ count_trailing_zeros 64 w) % 2 ^ 64) ≡ entries_at row (members_of w)
  carry_run same =
      let t : ℕ = count_trailing_zeros 64 w in
      let run : ℕ = w / 2 ^ t in
      let low : run < 2 ^ 64 = lt_of_le_of_lt (shr_le w t) f.fits in
      let under : bit_and row run * 2 ^ t ≤ w = below_le (bit_and row run) w t (and_le_r row run) in
      ap members_of (mod-eq_of_lt (lt_of_le_of_lt under f.fits))
      ∙ shifted_run 64 row (bit_and row run) w f.fits (and_le_r row run) (carry_full row run n v low full same ∙ sym (deposit_entries row (members_of run)))
      ∙ deposit_entries row (members_of w)

-- with the rest of the list as a word: what was found, and what the rest of the row finds in the rest, is what the whole row finds in the whole list;
-- all that was found is below the rest
pub record Carries (row list found rest left : ℕ) : Type 0 where
  pub so : members_of found ++ deposit left (members_of rest) ≡ deposit row (members_of list)
  pub under : (rest ≡ 0 → ⊥) → found < 2 ^ count_trailing_zeros 64 rest
  pub bound : rest < 2 ^ 64

carry_start : (row list : ℕ) → Fits w64 list → Carries row list 0 list row
carry_start row list f = record { so = rw members_empty; under = λ some. pow_pos (count_trailing_zeros 64 list); bound = f.fits }

-- a member above all that was found
module _ (found t : ℕ) (low : found < 2 ^ t) (inside : t < 64) where
  above : bit_or found (2 ^ t) < 2 ^ suc t
  above = or_lt (suc t) found (2 ^ t) (lt_of_lt_of_le low (pow_mono (omega arith))) (pow-lt (omega arith))

  append : members_of (bit_or found (2 ^ t)) ≡ members_of found ++ (suc t ∷ [])
  append = members_last (bit_or found (2 ^ t)) found t (more_or found t (past_bit t found t low (omega arith))) inside
      (λ j h. past_bit (suc t) (bit_or found (2 ^ t)) j above h)

-- the lowest member goes
module _ (w : ℕ) (some : w ≡ 0 → ⊥) (b : w < 2 ^ 64) where
  abbrev t : ℕ
  t = count_trailing_zeros 64 w

  first : members_of w ≡ suc t ∷ members_of (cleared w)
  first = members_lowest w some b

  bound_less : cleared w < 2 ^ 64
  bound_less = lt_of_le_of_lt (and_le_l w (w - 1)) b

  higher : (cleared w ≡ 0 → ⊥) → t < count_trailing_zeros 64 (cleared w)
  higher more = by_lt t (count_trailing_zeros 64 (cleared w)) (λ h. h) (λ h.
      let low = lowest 64 w (omega arith) b in
      let next = lowest 64 (cleared w) (omega arith) bound_less in
      by_eq (count_trailing_zeros 64 (cleared w)) t
      (λ e. clash (ap (bit (cleared w)) (sym e) ∙ next.more.has) low.more.lacks)
      (λ ne. clash (low.more.same (count_trailing_zeros 64 (cleared w)) ne ∙ next.more.has) (low.none (count_trailing_zeros 64 (cleared w)) (omega arith))))

-- one bit, or none
abbrev bit_at : ℕ → ℕ → ℕ
bit_at left t = (bit_and left 1 * 2 ^ t) % 2 ^ 64

bit_odd : (left t : ℕ) → left % 2 ≡ 1 → t < 64 → bit_at left t ≡ 2 ^ t
bit_odd left t o h = ap (λ (x : ℕ). (x * 2 ^ t) % 2 ^ 64) (and_mask left 1 ∙ o) ∙ shifted 64 t h

bit_even : (left t : ℕ) → left % 2 ≡ 0 → bit_at left t ≡ 0
bit_even left t e = ap (λ (x : ℕ). (x * 2 ^ t) % 2 ^ 64) (and_mask left 1 ∙ e) ∙ ap (λ (x : ℕ). x % 2 ^ 64) (zero-mul (2 ^ t))

module _ (row list found rest left : ℕ) (c : Carries row list found rest left) where
  done : deposit left (members_of rest) ≡ [] → members_of found ≡ entries_at row (members_of list)
  done e = sym (append-nil (members_of found)) ∙ ap (λ (l : List ℕ). members_of found ++ l) (sym e) ∙ c.so ∙ deposit_entries row (members_of list)

  carry_none : rest ≡ 0 → members_of found ≡ entries_at row (members_of list)
  carry_none e = done (rw (e, members_empty) (deposit_nil left))

  carry_end : left ≡ 0 → members_of found ≡ entries_at row (members_of list)
  carry_end e = done (rw e (deposit_zero (members_of rest)))

  module _ (some : rest ≡ 0 → ⊥) where
    below : count_trailing_zeros 64 rest < 64
    below = lowest_below 64 rest (omega arith) c.bound

    abbrev place : ℕ
    place = count_trailing_zeros 64 rest

    -- the lowest member is found where its position is in the row
    carry_odd : left % 2 ≡ 1 → Carries row list (bit_or found (2 ^ place)) (cleared rest) (left / 2)
    carry_odd o = record {
      so = rw (append found place (c.under some) below)
          (append_assoc (members_of found) (suc place ∷ []) (deposit (left / 2) (members_of (cleared rest)))
          ∙ ap (λ (l : List ℕ). members_of found ++ l)
          (sym (ap (deposit left) (first rest some c.bound) ∙ deposit_odd left (suc place) (members_of (cleared rest)) o))
          ∙ c.so);
      under = λ more. lt_of_lt_of_le (above found place (c.under some) below) (pow_mono (higher rest some c.bound more));
      bound = bound_less rest some c.bound;
    }

    carry_even : left % 2 ≡ 0 → Carries row list found (cleared rest) (left / 2)
    carry_even e = record {
      so = ap (λ (l : List ℕ). members_of found ++ l)
          (sym (ap (deposit left) (first rest some c.bound) ∙ deposit_even left (suc place) (members_of (cleared rest)) e))
          ∙ c.so;
      under = λ more. lt_of_lt_of_le (c.under some) (pow_mono (let h = higher rest some c.bound more in omega arith));
      bound = bound_less rest some c.bound;
    }

    carry_more : Carries row list (bit_or found ((bit_and left 1 * 2 ^ count_trailing_zeros 64 rest) % 2 ^ 64)) (bit_and rest (rest - 1)) (left / 2)
    carry_more = by_parity left
        (λ o. rw (bit_odd left place o below) (carry_odd o))
        (λ e. rw (bit_even left place e, or_zero_r found) (carry_even e))

-- what the loop keeps: the same of the members that the iterator has left, which are those of a word
pub record CarriesOn (row list found : ℕ) (rest : List ℕ) (left : ℕ) : Type 0 where
  pub word : ℕ
  pub members : rest ≡ members_of word
  pub carries : Carries row list found word left

pub carry_from_all : (row list : ℕ) (l : List ℕ) → Fits w64 list → l ≡ members_of list → CarriesOn row list 0 l row
carry_from_all row list l f e = record { word = list; members = e; carries = carry_start row list f }

module _ (row list found : ℕ) (rest : List ℕ) (left : ℕ) (c : CarriesOn row list found rest left) where
  pub carry_all : rest ≡ [] → members_of found ≡ entries_at row (members_of list)
  carry_all e = carry_none row list found c.word left c.carries (empty_word c.word c.carries.bound (sym c.members ∙ e))

  pub carry_rest : left ≡ 0 → members_of found ≡ entries_at row (members_of list)
  carry_rest e = carry_end row list found c.word left c.carries e

  module _ (q : ℕ) (others : List ℕ) (split : rest ≡ q ∷ others) where
    some : c.word ≡ 0 → ⊥
    some e = cons≢nil (sym split ∙ c.members ∙ ap members_of e ∙ members_empty)

    lists : q ∷ others ≡ suc (count_trailing_zeros 64 c.word) ∷ members_of (cleared c.word)
    lists = sym split ∙ c.members ∙ first c.word some c.carries.bound

    lowest_is : q ≡ suc (count_trailing_zeros 64 c.word)
    lowest_is = head-eq_of_cons-eq lists

    pub carry_place : (1 ≤ q) × (q - 1 < 64)
    carry_place = let h = carry_inside c.word (record { fits = c.carries.bound }) some in let e = lowest_is in (omega arith, omega arith)

    pub carry_next : CarriesOn row list (bit_or found ((bit_and left 1 * 2 ^ (q - 1)) % 2 ^ 64)) others (left / 2)
    carry_next =
        let at : q - 1 ≡ count_trailing_zeros 64 c.word = let e = lowest_is in omega arith in
        record { word = cleared c.word; members = tail-eq_of_cons-eq lists; carries = rw at (carry_more row list found c.word left c.carries some) }

pub ruleset carrying = (rules, carry_empty, carry_run)
