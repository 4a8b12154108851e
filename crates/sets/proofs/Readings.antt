-- Sets in the terms of those who use them: as states, as rows of positions, as lists that are followed member by member.
use mathlib.Core.Path.{◌≡◌, refl, sym, ap, ◌∙◌}
use mathlib.Core.Bool.{Bool, true, ◌&&◌, ◌||◌}
use mathlib.Core.List.{List, [], ◌∷◌, map}
use Prim.Native.Nat.{ℕ, zero, suc, ◌+◌, ◌^◌, ◌≤◌, ◌<◌}
use native.Mathlib.Omega.{arith}
use borrow.Author.Tests.{eq-eqb, eqb-true}
use lib.Dec.{eqb, lit<}
use lib.Bits.{bit_or}
use lib.ListN.{length, drop}
use mir.Syntax.{w64}
use mir.Val.{Fits}
use Rattle.model.specs.Lists.{range, qubits, entry, member}
use Rattle.model.specs.Meaning.{State, state_of, word_of}
use Rattle.model.specs.Reach.{any_below}
use Rattle.model.proofs.BooleanLaws.{by_lt, clash, same_test, and_left, and_right, and_both, any_here, any_cases}
use Rattle.model.proofs.ListLaws.{member_head, member_tail, member_cases, not_in_nil}
use Rattle.model.proofs.WordBits.{past_bit, word_bit}
use Rattle.sets.specs.Sets.{filter, members_within, members_of, entries_at}
use Rattle.sets.proofs.Filtering.{picked_bounds, picked_member, picked_same}
use Rattle.sets.proofs.BitLaws.{or_bit}
use Rattle.sets.proofs.Members.{state_bit, state_zero, member_bit, member_none, member_past, members_empty, same_word}

-- a word says of every number what its members say
pub member_state : (w : ℕ) → w < 2 ^ 64 → (q : ℕ) → member q (members_of w) ≡ state_of w q
member_state w h zero = member_none w ∙ sym (state_zero w)
member_state w h (suc k) = by_lt k 64
    (λ l. member_bit w k l ∙ sym (state_bit w k))
    (λ g. member_past w (suc k) (omega arith) ∙ sym (state_bit w k ∙ past_bit 64 w k h g))

-- the word of a state has the qubits that the state holds
pub members_state : (s : State) → members_of (word_of 64 s) ≡ filter s (qubits 64)
members_state s = picked_same 64 1 (state_of (word_of 64 s)) s each
  where
    each : (q : ℕ) → 1 ≤ q → q < 1 + 64 → state_of (word_of 64 s) q ≡ s q
    each zero l g = absurd (omega arith)
    each (suc k) l g = state_bit (word_of 64 s) k ∙ word_bit 64 1 s k (omega arith) ∙ ap s (omega arith)

-- the members of two sets together
pub member_or : (w v q : ℕ) → member q (members_of (bit_or w v)) ≡ member q (members_of w) || member q (members_of v)
member_or w v zero = rw (member_none (bit_or w v), member_none w, member_none v)
member_or w v (suc k) = by_lt k 64
    (λ l. rw (member_bit (bit_or w v) k l, member_bit w k l, member_bit v k l) (or_bit w v k))
    (λ g. let h : 64 < suc k = omega arith in rw (member_past (bit_or w v) (suc k) h, member_past w (suc k) h, member_past v (suc k) h))

-- only the word 0 has no member; any other has a first, and the rest
pub empty_word : (w : ℕ) → w < 2 ^ 64 → members_of w ≡ [] → w ≡ 0
empty_word w h e = same_word w 0 h (lit< tt) (e ∙ sym members_empty)

pub members_split : (w : ℕ) → Fits w64 w → (w ≡ 0 → ⊥) → members_of w ≡ entry (members_of w) 1 ∷ drop 1 (members_of w)
members_split w f some = split (members_of w) (λ e. some (empty_word w f.fits e))
  where
    split : (l : List ℕ) → (l ≡ [] → ⊥) → l ≡ entry l 1 ∷ drop 1 l
    split [] n = absurd (n refl)
    split (x ∷ l) n = refl

-- members of a list that a function is applied to
map_member : (f : ℕ → ℕ) (u : ℕ) (l : List ℕ) → member u l ≡ true → member (f u) (map f l) ≡ true
map_member f u [] m = not_in_nil u m
map_member f u (x ∷ l) m = member_cases u x l m
    (λ e. rw e (member_head (f x) (map f l)))
    (λ i. member_tail (f u) (f x) (map f l) (map_member f u l i))

map_cases {ℓ} : {A : Type ℓ} (f : ℕ → ℕ) (t : ℕ) (l : List ℕ) → member t (map f l) ≡ true → ((u : ℕ) → member u l ≡ true → f u ≡ t → A) → A
map_cases f t [] m k = not_in_nil t m
map_cases f t (x ∷ l) m k = member_cases t (f x) (map f l) m
    (λ e. k x (member_head x l) (sym e))
    (λ i. map_cases f t l i (λ u n e. k u (member_tail u x l n) e))

-- positions carried to a list's entries, as one search over the positions
pub entries_member : (row t : ℕ) (l : List ℕ) → member t (entries_at row l) ≡ any_below (suc (length l)) (λ u. state_of row u && eqb (entry l u) t)
entries_member row t l = same_test (member t (entries_at row l)) (any_below (suc (length l)) test)
    (λ m. map_cases (entry l) t (members_within (length l) row) m
    (λ u n e. let b = picked_bounds (length l) 1 (state_of row) u n in
    any_here (suc (length l)) test u (omega arith)
    (and_both (state_of row u) (eqb (entry l u) t)
    (sym (picked_member (length l) 1 (state_of row) u b.0 b.1) ∙ n) (eq-eqb (entry l u) t e))))
    (λ a. any_cases (suc (length l)) test a
    (λ u h e. let in_row : state_of row u ≡ true = and_left (state_of row u) (eqb (entry l u) t) e in
    let at : entry l u ≡ t = eqb-true (entry l u) t (and_right (state_of row u) (eqb (entry l u) t) e) in
    let some : 1 ≤ u = positive u in_row in
    rw (← at) (map_member (entry l) u (members_within (length l) row)
    (picked_member (length l) 1 (state_of row) u some (omega arith) ∙ in_row))))
  where
    test : ℕ → Bool
    test u = state_of row u && eqb (entry l u) t

    positive : (u : ℕ) → state_of row u ≡ true → 1 ≤ u
    positive zero e = clash e (state_zero row)
    positive (suc u) e = omega arith

pub ruleset readings = (member_state, members_state, member_or, empty_word, members_split, entries_member)

-- worked: {1, 2, 4}, its members, and its positions 2 and 3 in {3, 5, 9}
worked_members : members_of 11 ≡ 1 ∷ 2 ∷ 4 ∷ []
unfolding filter range state_of
worked_members = refl

worked_carried : entries_at 6 (3 ∷ 5 ∷ 9 ∷ []) ≡ 5 ∷ 9 ∷ []
unfolding filter range state_of
worked_carried = refl
