-- One law for each way out of a function: its premises are the tests passed and what the calls on that way ensure, in the code's order.
use mathlib.Core.Path.{◌≡◌, refl, sym, ap, ◌∙◌, subst}
use mathlib.Core.Bool.{Bool, true, false, ◌&&◌, and-true, and-false, or-false}
use mathlib.Core.List.{List, [], ◌∷◌}
use Prim.Native.Nat.{ℕ, zero, suc, ◌+◌, ◌*◌, ◌/◌, ◌%◌, ◌^◌, ◌≤◌, ◌<◌, zero-le, suc-le-suc}
use native.Mathlib.Nat.{le_of_suc-le-suc, lt_of_le_of_lt, mod-lt}
use native.Mathlib.Omega.{arith}
use borrow.Author.Rules.{rules}
use borrow.Author.Tests.{lt-ltb, le-ltb, ne_eqb, eqb-true}
use lib.Bits.{bit_and, bit_or, and_le_r, or_lt, or_zero_r}
use lib.Pow.{pow_pos}
use lib.ListN.{length, get_or}
use lib.Dec.{eqb, lit<}
use mir.Syntax.{w64}
use mir.Val.{Fits}
use Rattle.std.specs.Prelude.{Option, Some, None}
use Rattle.std.specs.Option.{SomeIff, unwrap_or}
use Rattle.limits.specs.Sizes.{row_count}
use Rattle.model.specs.Lists.{entry, member}
use Rattle.model.specs.Meaning.{bit, state_of}
use Rattle.model.specs.Reach.{any_below}
use Rattle.model.proofs.BooleanLaws.{by_lt, eqb_same, same_test, and_left, and_right, and_both, any_here, any_cases, any_same}
use Rattle.model.proofs.WordBits.{tested, shifted, zero_bit, past_bit}
use Rattle.sets.specs.Sets.{members_of, entries_at}
use Rattle.sets.proofs.BitLaws.{higher_bit, or_bit, and_bit}
use Rattle.sets.proofs.Members.{state_bit, state_zero, members_at, member_bit, members_empty}
use Rattle.sets.proofs.Readings.{empty_word, entries_member}
use Rattle.faults.specs.TouchedPositions.{carried, call_touches}
use Rattle.faults.specs.Rows.{row_of, row_is, marked, closed_row, place, known_row, known_touches}
use Rattle.faults.proofs.RowLaws.{up, up_at, up_below, none_row, row_is_lem}

module _ (row q : ℕ) where
  -- one number more
  pub mark_is : (shifted_to : Option ℕ) (b : ℕ) → SomeIff shifted_to (q < 64) ((1 * 2 ^ q) % 2 ^ 64) → b ≡ unwrap_or shifted_to 0 →
      bit_or row b ≡ marked row q
  unfolding marked
  mark_is (Some x) b (l, e) is = rw (lt-ltb q 64 l, is, e, shifted 64 q l)
  mark_is None b past is = by_lt q 64 (λ l. absurd (past l)) (λ l. rw (le-ltb q 64 l, is) (or_zero_r row))

  -- is it there?
  pub contains_within : q < 64 → eqb (bit_and (row / 2 ^ q) 1) 1 ≡ row_is row q
  contains_within l = tested row q

  pub contains_past : Fits w64 row → 64 ≤ q → false ≡ row_is row q
  contains_past h l = sym (past_bit 64 row q h.fits l)

  -- position q closed
  module _ (closed : ℕ) (b : Bool) (m : closed ≡ marked row q) (e : b ≡ row_is row q) where
    pub closes_again : (r : ℕ) → b ≡ true → r ≡ marked closed 0 → r ≡ closed_row q row
    unfolding closed_row
    closes_again r y d = rw (← e, y, ← m) d

    pub closes_once : b ≡ false → closed ≡ closed_row q row
    unfolding closed_row
    closes_once y = rw (← e, y) m

-- the table's rows
module _ (known : List ℕ) (f m at : ℕ) (here : at ≡ place f m) where
  pub known_within : at < row_count → get_or known at 0 ≡ known_row known f m
  known_within l = rw (← here, lt-ltb at row_count l)

  pub known_past : row_count ≤ at → 0 ≡ known_row known f m
  known_past l = rw (← here, le-ltb at row_count l)

pub ruleset rows = (rules, mark_is, contains_within, contains_past, closes_again, closes_once, known_within, known_past)

-- what a call touches: the positions of the callee's list as the entries that stand there, of which none is 0
module _ (known : List ℕ) (f list : ℕ) where
  pub called_empty : list ≡ 0 → 0 ≡ row_of (call_touches (known_touches known) f (members_of list))
  unfolding call_touches
  called_empty e = rw (e, members_empty) none_row

  some_called : (k : List ℕ) → (k ≡ [] → ⊥) → call_touches (known_touches known) f k ≡ carried k (known_touches known f (length k))
  unfolding call_touches
  some_called [] some = absurd (some refl)
  some_called (x ∷ k) some = refl

  module _ (m callee r : ℕ) (size : m ≡ length (members_of list)) (looked : callee ≡ known_row known f m)
      (brought : members_of r ≡ entries_at (callee / 2 ^ 1) (members_of list)) where
    abbrev l : List ℕ
    l = members_of list

    abbrev test : ℕ → ℕ → Bool
    test t u = row_is callee u && eqb (entry l u) t

    -- a fault comes from a fault alone
    only_fault : carried l (row_is callee) 0 ≡ row_is callee 0
    only_fault = same_test (any_below (suc (length l)) (test 0)) (row_is callee 0)
        (λ h. any_cases (suc (length l)) (test 0) h at)
        (λ h. any_here (suc (length l)) (test 0) 0 (suc-le-suc zero-le) (and_both (row_is callee 0) (eqb 0 0) h (eqb_same 0)))
      where
        at : (u : ℕ) → u < suc (length l) → test 0 u ≡ true → row_is callee 0 ≡ true
        at zero lu e = and_left (row_is callee 0) (eqb 0 0) e
        at (suc u) lu e =
            let none : entry l (suc u) ≡ 0 = eqb-true (entry l (suc u)) 0 (and_right (row_is callee (suc u)) (eqb (entry l (suc u)) 0) e) in
            let some = members_at list u (le_of_suc-le-suc lu) in absurd (omega arith)

    -- other positions are brought by `sets::carried`, which counts them from bit 0
    brought_bit : (k : ℕ) → k < 64 → bit r k ≡ carried l (row_is callee) (suc k)
    brought_bit k h = sym (member_bit r k h) ∙ ap (member (suc k)) brought ∙ entries_member (callee / 2 ^ 1) (suc k) l
        ∙ any_same (suc (length l)) (λ u. state_of (callee / 2 ^ 1) u && eqb (entry l u) (suc k)) (test (suc k)) at
      where
        at : (u : ℕ) → u < suc (length l) → state_of (callee / 2 ^ 1) u && eqb (entry l u) (suc k) ≡ test (suc k) u
        at zero lu = rw (state_zero (callee / 2 ^ 1), ne_eqb 0 (suc k) (omega arith)) (sym (and-false (row_is callee 0)))
        at (suc u) lu = ap (λ (b : Bool). b && eqb (entry l (suc u)) (suc k)) (state_bit (callee / 2 ^ 1) u ∙ sym (higher_bit callee u))

    bits : (t : ℕ) → t < 64 → row_is (bit_or (up r 1) (bit_and callee 1)) t ≡ carried l (row_is callee) t
    bits zero h = or_bit (up r 1) (bit_and callee 1) 0
        ∙ rw (up_below r 1 0 (lit< tt) h, and_bit callee 1 0) (and-true (row_is callee 0) ∙ sym only_fault)
    bits (suc k) h = or_bit (up r 1) (bit_and callee 1) (suc k)
        ∙ rw (above, and_bit callee 1 (suc k), one, and-false (row_is callee (suc k))) (or-false (bit r k) ∙ brought_bit k (omega arith))
      where
        above : bit (up r 1) (suc k) ≡ bit r k
        above = let e : 1 + k ≡ suc k = omega arith in subst (λ (t : ℕ). bit (up r 1) t ≡ bit r k) e (up_at r 1 k (omega arith))

        one : bit 1 (suc k) ≡ false
        one = higher_bit 1 k ∙ zero_bit k

    pub called_some : (list ≡ 0 → ⊥) → Fits w64 list →
        bit_or ((r * 2 ^ 1) % 2 ^ 64) (bit_and callee 1) ≡ row_of (call_touches (known_touches known) f (members_of list))
    called_some some fits =
        rw (some_called l (λ e. some (empty_word list fits.fits e)), ← size, ← looked)
        (row_is_lem (carried l (row_is callee)) (bit_or (up r 1) (bit_and callee 1)) below bits)
      where
        below : bit_or (up r 1) (bit_and callee 1) < 2 ^ 64
        below = or_lt 64 (up r 1) (bit_and callee 1) (mod-lt (r * 2 ^ 1) (pow_pos 64)) (lt_of_le_of_lt (and_le_r callee 1) (lit< tt))

pub ruleset calling = (rules, called_empty, called_some)
