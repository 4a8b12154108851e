-- Reading a list of wires: "count and wires".
use mathlib.Core.Path.{◌≡◌, refl}
use mathlib.Core.Bool.{Bool, true, false}
use mathlib.Core.List.{List, [], ◌∷◌}
use Prim.Native.Nat.{ℕ, zero, suc, ◌≤◌, ◌<◌}
use native.Mathlib.Omega.{arith}
use borrow.Author.Rules.{rules}
use borrow.Author.Tests.{le-leb, not-true, not-false}
use lib.ListN.{length, take, drop}
use Rattle.std.specs.Prelude.{Option, None, Some, MatchOption}
use Rattle.std.specs.Borrow.{Bor}
use Rattle.std.specs.List.{IsSplitAt}
use Rattle.model.specs.Limits.{not_well_formed, table_stops}
use Rattle.model.specs.Reading.{parsed, refused, and_then, provided, byte_of, optional}
use Rattle.model.specs.Circuit.{bytes, wire_list}
use Rattle.circuit.specs.GatesInBytes.{input_of, settled, list_read}

pub length-zero : (l : List ℕ) → length l ≡ 0 → l ≡ []
length-zero [] h = refl
length-zero (x ∷ l) h = absurd (omega arith)

-- n bytes, where they are there
bytes_there : (n : ℕ) (l : List ℕ) → n ≤ length l → bytes n (input_of l) ≡ parsed (take n l) (input_of (drop n l))
unfolding bytes byte_of and_then
bytes_there zero l h = refl
bytes_there (suc n) [] h = absurd (omega arith)
bytes_there (suc n) (b ∷ l) h = rw (bytes_there n l (omega arith))

-- n bytes of which some are missing
bytes_lack : (n : ℕ) (l : List ℕ) → length l < n → bytes n (input_of l) ≡ refused table_stops
unfolding bytes byte_of and_then
bytes_lack zero l h = absurd (omega arith)
bytes_lack (suc n) [] h = refl
bytes_lack (suc n) (b ∷ l) h = rw (bytes_lack n l (omega arith))

-- the ways out of `read_list`
module _ (bs : List ℕ) (stands : Bool) where
  abbrev Reads : Option (Bor (List ℕ) × Bor (List ℕ)) → Type 0
  Reads r = list_read r ≡ settled (optional stands wire_list [] (input_of bs))

  pub list_absent : stands ≡ false → parsed [] (input_of bs) ≡ settled (optional stands wire_list [] (input_of bs))
  unfolding settled optional
  list_absent e = rw e

  module _ (e : stands ≡ true) where
    pub list_past : (r : Option (Bor (List ℕ) × Bor (List ℕ))) → r ≡ None → length bs ≡ 0 → Reads r
    unfolding settled optional wire_list byte_of and_then
    list_past r f h = rw (f, e, length-zero bs h)

    module _ (n : ℕ) (l : List ℕ) (h : bs ≡ n ∷ l) where
      pub list_zero : n ≡ 0 → refused not_well_formed ≡ settled (optional stands wire_list [] (input_of bs))
      unfolding settled optional wire_list byte_of and_then provided
      list_zero z = rw (e, h, z)

      pub list_whole : (n ≡ 0 → ⊥) → (r : Option (Bor (List ℕ) × Bor (List ℕ))) →
          MatchOption r (length l < n) (λ p. IsSplitAt l n p.0.now p.1.now) → Reads r
      unfolding settled optional wire_list byte_of and_then provided
      list_whole f (Some p) q = rw (e, h, le-leb 1 n (omega arith), bytes_there n l q.0, q.1, q.2)
      list_whole f None q = rw (e, h, le-leb 1 n (omega arith), bytes_lack n l q)

pub ruleset lists = (rules, not-true, not-false, list_absent, list_past, list_zero, list_whole)
