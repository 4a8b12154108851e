-- One step of the iterator over a set's members, from either end.
use mathlib.Core.Path.{◌≡◌, refl, sym, ap, ◌∙◌}
use mathlib.Core.List.{List, [], ◌∷◌, ◌++◌, append-nil}
use Prim.Native.Nat.{ℕ, suc, ◌+◌, ◌-◌, ◌≤◌, ◌<◌}
use native.Mathlib.Numerals.{add-one}
use native.Mathlib.Omega.{arith}
use lib.ListN.{length, get_or-eq_default, take, drop, length-append}
use lib.Seq.{get_or-append_seam}
use mir.Syntax.{w64}
use mir.Val.{Fits}
use Rattle.std.specs.Prelude.{Option, Some, None}
use Rattle.std.specs.Iterator.{YieldsFirst, Yields, SkipsThenYields}
use Rattle.std.specs.Option.{unwrap_or}
use Rattle.model.specs.Lists.{entry}
use Rattle.sets.specs.Sets.{members_of}
use Rattle.sets.proofs.Members.{members_empty}
use Rattle.sets.proofs.Readings.{empty_word, members_split}

-- a list that is not empty ends in its last entry
ends_in : (x : ℕ) (l : List ℕ) → x ∷ l ≡ take (length l) (x ∷ l) ++ entry (x ∷ l) (suc (length l)) ∷ []
ends_in x [] = refl
ends_in x (y ∷ l) = ap (λ (m : List ℕ). x ∷ m) (ends_in y l)

split : (l : List ℕ) → (l ≡ [] → ⊥) → l ≡ take (length l - 1) l ++ entry l (length l) ∷ []
split [] n = absurd (n refl)
split (x ∷ l) n = let e : suc (length l) - 1 ≡ length l = omega arith in rw e (ends_in x l)

-- of the word w the list l is left
module _ (w : ℕ) (l : List ℕ) (left : l ≡ members_of w) where
  -- nothing, where the word is 0
  pub none_left : w ≡ 0 → (l ≡ []) × (l ≡ [])
  none_left e = let n : l ≡ [] = left ∙ ap members_of e ∙ members_empty in (n, n)

  module _ (f : Fits w64 w) (some : w ≡ 0 → ⊥) (q v : ℕ) where
    -- the lowest member and the others
    pub first_left : q ≡ entry (members_of w) 1 → members_of v ≡ drop 1 (members_of w) → l ≡ q ∷ members_of v
    first_left e r = left ∙ rw (e, r) (members_split w f some)

    -- the others and the highest member
    pub last_left : q ≡ entry (members_of w) (length (members_of w)) → members_of v ≡ take (length (members_of w) - 1) (members_of w) →
        l ≡ members_of v ++ q ∷ []
    last_left e r = left ∙ rw (e, r) (split (members_of w) (λ n. some (empty_word w f.fits n)))

    pub fewer_left : q ≡ entry (members_of w) (length (members_of w)) → members_of v ≡ take (length (members_of w) - 1) (members_of w) →
        length (members_of v) < length l
    fewer_left e r = omega (arith, ap length (last_left e r), length-append (members_of v) (q ∷ []))

-- the member that is given behind so many that are passed over
passed : (xs l m : List ℕ) → Yields (YieldsFirst (λ (s : List ℕ). s)) l xs m → l ≡ xs ++ m
passed [] l m y = y
passed (x ∷ xs) l m (j, first, rest) = first ∙ ap (λ (k : List ℕ). x ∷ k) (passed xs j m rest)

pub given_behind : (l u : List ℕ) (n : ℕ) (r : Option ℕ) → SkipsThenYields (YieldsFirst (λ (s : List ℕ). s)) l n r u →
    unwrap_or r 0 ≡ entry l (n + 1)
given_behind l u n None (xs, (m, run, (empty, _)), short) =
    let e : l ≡ xs = passed xs l m run ∙ ap (λ (k : List ℕ). xs ++ k) empty ∙ append-nil xs in
    let h : length l ≤ n = rw e short in
    rw (add-one n) (sym (get_or-eq_default l 0 h))
given_behind l u n (Some x) (xs, (m, run, first), same) =
    let e : l ≡ xs ++ x ∷ u = passed xs l m run ∙ ap (λ (k : List ℕ). xs ++ k) first in
    rw (add-one n, e, ← same) (sym (get_or-append_seam xs x u 0))
