-- Removals of a record, taken one after the other, and the qubit that is touched in what they leave.
use Prim.Native.Nat.{ℕ, zero, suc, ◌+◌, ◌-◌, ◌≤◌, ◌<◌, zero-le, min}
use native.Mathlib.Nat.{not-suc-le-zero}
use native.Mathlib.Numerals.{sub-one}
use native.Mathlib.Omega.{arith}
use mathlib.Core.Path.{◌≡◌, refl, sym, ap, ◌∙◌}
use mathlib.Core.List.{List, [], ◌∷◌}
use borrow.Author.Rules.{rules}
use borrow.Author.Tests.{le-ltb}
use lib.ListN.{length, get_or-eq_default}
use lib.IntN.{ℤ}
use mir.Syntax.{w32}
use mir.Val.{SFits, to_z, of_z}
use mir.Facts.{to_z-of_z}
use Rattle.limits.specs.Sizes.{set_length}
use Rattle.model.specs.Limits.{most_qubits}
use Rattle.model.specs.Syntax.{Number}
use Rattle.model.specs.Lists.{sizes, value, position, entry, remove, remove_all, remaining, qubits}
use Rattle.model.proofs.ListLaws.{remove_out}
use Rattle.model.proofs.BooleanLaws.{by_lt}
use Rattle.records.specs.declared.Number as code
use Rattle.records.specs.Fields.{number_of}
use Rattle.sets.specs.Sets.{members_of}
use Rattle.sets.proofs.Members.{members_empty, members_at}
use Rattle.decoded.specs.DecodedTable.{first_number, second_number, removal_number, removals_from, removals_in}
use Rattle.decoded.specs.Steps.{touched_by}
use Rattle.decoded.specs.declared.Program.{Program}
use Rattle.decoded.proofs.RecordsOfAProgram.{removals_length}
use Rattle.step.specs.declared.Lists.{Lists}
use Rattle.step.specs.Values.{value_of, nothing_removed, first_value, second_value}
use Rattle.step.proofs.ConstantRange.{kept_fair, first_fair, second_fair}

-- nothing is left of nothing
remove_nothing : (k : ℕ) → remove k [] ≡ []
unfolding remove
remove_nothing zero = refl
remove_nothing (suc i) = remove_out i [] (le-ltb i 0 zero-le)

remove_all_nothing : (l : List ℕ) (rs : List Number) → remove_all l rs [] ≡ []
unfolding remove_all
remove_all_nothing l [] = refl
remove_all_nothing l (a ∷ rs) = rw (remove_nothing (position (value a (sizes l [])))) (remove_all_nothing l rs)

pub removed_nothing : (g : Program) (at left k : ℕ) (l w : List ℕ) (rest : ℕ) → rest ≡ 0 → remove_all l (removals_from left g at k) (members_of rest) ≡ w →
    members_of rest ≡ w
removed_nothing g at left k l w rest e h =
    ap members_of e ∙ members_empty ∙ sym (remove_all_nothing l (removals_from left g at k)) ∙ ap (remove_all l (removals_from left g at k)) (sym members_empty ∙ ap members_of (sym e)) ∙ h

-- a number, as the code reads, values and removes it, and then those behind it are all from here on
removals_more : (g : Program) (at left k : ℕ) (l now : List ℕ) → 0 < left
    → remove_all l (removals_from (left - 1) g at (k + 1)) (remove (position (value (number_of (removal_number g at k)) (sizes l now))) now)
    ≡ remove_all l (removals_from left g at k) now
unfolding removals_from remove_all
removals_more g at zero k l now h = absurd (not-suc-le-zero h)
removals_more g at (suc left) k l now h = rw (sub-one)

pub removed_more : (g : Program) (at left k list rest : ℕ) (a : code.Number) (z : ℤ) (r : List ℕ)
    → a ≡ removal_number g at k → SFits w32 z → z ≡ value_of a (record { whole = list; left = rest })
    → r ≡ remove (position (to_z w32 (of_z w32 z))) (members_of rest) → 0 < left → (others : ℕ) → others ≡ left - 1
    → remove_all (members_of list) (removals_from others g at (k + 1)) r ≡ remove_all (members_of list) (removals_from left g at k) (members_of rest)
removed_more g at left k list rest a z r number f valued removed h others less =
    let s : Lists = record { whole = list; left = rest } in
    let v : z ≡ value (number_of (removal_number g at k)) (sizes (members_of list) (members_of rest)) = valued ∙ rw number (kept_fair _ s) in
    let one : r ≡ remove (position (value (number_of (removal_number g at k)) (sizes (members_of list) (members_of rest)))) (members_of rest) =
    removed ∙ ap (λ (x : ℤ). remove (position x) (members_of rest)) (to_z-of_z f ∙ v) in
    rw less (ap (remove_all (members_of list) (removals_from (left - 1) g at (k + 1))) one ∙ removals_more g at left k (members_of list) (members_of rest) h)

-- at first all removals of the record are to come
pub removed_begins : (g : Program) (at list left all : ℕ) → left ≡ length (removals_in g at) → all ≡ left
    → remove_all (members_of list) (removals_from all g at 0) (members_of list) ≡ remaining (removals_in g at) (members_of list)
removed_begins g at list left all e same = rw (same, e, removals_length g at)

-- no number left: nothing is removed any more
pub removed_ends : (g : Program) (at left k : ℕ) (l now : List ℕ) → left ≤ 0 → now ≡ remove_all l (removals_from left g at k) now
unfolding removals_from remove_all
removed_ends g at zero k l now h = refl
removed_ends g at (suc left) k l now h = absurd (not-suc-le-zero h)

-- the entry at position a of the remaining list
pub touched_is : (g : Program) (at list rest r : ℕ) (a : code.Number) (z : ℤ) → members_of rest ≡ remaining (removals_in g at) (members_of list)
    → a ≡ first_number g at → SFits w32 z → z ≡ value_of a (record { whole = list; left = rest })
    → r ≡ entry (members_of rest) (position (to_z w32 (of_z w32 z))) → r ≡ touched_by g at (members_of list)
touched_is g at list rest r a z left number f valued entered =
    entered ∙ rw (to_z-of_z f, valued, number, first_fair g at (record { whole = list; left = rest }), left)

-- it is no more than the last qubit that a set can hold
pub entry_low : (rest k r : ℕ) → r ≡ entry (members_of rest) k → r ≤ set_length
entry_low rest zero r e = rw e zero-le
entry_low rest (suc k) r e = rw e (by_lt k (length (members_of rest))
    (λ lt. (members_at rest k lt).1)
    (λ ge. rw (get_or-eq_default (members_of rest) 0 ge) zero-le))

-- the values of the numbers of a comparison
module _ (g : Program) (at list : ℕ) (a : code.Number) (z : ℤ) (valued : z ≡ value_of a (nothing_removed list)) where
  pub first_is : a ≡ first_number g at → z ≡ first_value g at (members_of list)
  first_is number = valued ∙ rw number (first_fair g at (nothing_removed list))

  pub second_is : a ≡ second_number g at → z ≡ second_value g at (members_of list)
  second_is number = valued ∙ rw number (second_fair g at (nothing_removed list))

-- all qubits, of as many as there can be
pub all_are : (n m r : ℕ) → m ≡ min n most_qubits → members_of r ≡ qubits (min m 64) → members_of r ≡ qubits (min n most_qubits)
all_are n m r least e = let a : min m 64 ≡ min n most_qubits = omega arith in e ∙ ap qubits a

pub ruleset lists = (rules, touched_is, entry_low, all_are)
