-- What `draw` answers: the band that document 02 asks for, or 14.
use mathlib.Core.Path.{◌≡◌, refl, sym, ap, ◌∙◌}
use mathlib.Core.List.{List}
use Prim.Native.Nat.{ℕ, ◌+◌, ◌*◌, ◌^◌, ◌≤◌, ◌<◌}
use native.Mathlib.Nat.{zero-add}
use native.Mathlib.Omega.{arith}
use borrow.Author.Rules.{rules}
use lib.ListN.{length, take, replicate}
use Rattle.std.proofs.Common.{length-take-le}
use Rattle.model.specs.Limits.{not_well_formed}
use Rattle.model.specs.Reading.{Input, Parsed, parsed, refused, and_then}
use Rattle.model.specs.Gates.{Gate}
use Rattle.model.specs.Answers.{gives, refuses}
use Rattle.model.specs.Page.{band_gates, band, read_band, place_of, drawn, lent_after, text_after}
use Rattle.model.proofs.PageBands.{band_most}
use Rattle.circuit.specs.GatesInBytes.{input_of, settled}
use Rattle.answers.specs.Structs.{band_answer, refused_band}
use Rattle.answers.specs.declared.PageBand.{PageBand}
use Rattle.marks.specs.Columns.{Kept, mark_from}
use Rattle.bands.specs.MarkedRows.{rows_at}
use Rattle.bands.specs.Starts.{drawn_from}
use Rattle.bands.proofs.KeptMarks.{dashes, mark_gates, band_kept, mark_read, marked_read}
use Rattle.bands.proofs.BandText.{size_is}

-- what is kept and what is left
parsed_same : {A : Type 0} {a b : A} {i j : Input} → parsed a i ≡ parsed b j → (a ≡ b) × (i ≡ j)
parsed_same e = (cc, cc)

parsed_refused : {A B : Type 0} {a : A} {i : Input} {k : ℕ} → parsed a i ≡ refused k → B
parsed_refused e = let z : ◌≡◌ {A = ℕ} 0 1 = cc in absurd (omega arith)

-- the band, by what was marked in columns without marks
module _ (bs gates : List ℕ) (most : ℕ) (few : most < 2 ^ 8) where
  abbrev marking : Parsed Kept
  marking = settled (mark_from most band_gates 0 (input_of gates) (replicate band_gates dashes))

  marked : (x : Parsed Kept) → x ≡ marking → x ≡ settled (mark_read 0 (replicate band_gates dashes) (read_band most band_gates (input_of gates)))
  marked x is = is ∙ ap settled (marked_read most band_gates 0 (input_of gates) (replicate band_gates dashes))

  pub drawn_none : refused not_well_formed ≡ marking → drawn_from bs gates most ≡ refuses not_well_formed
  unfolding drawn settled and_then
  drawn_none is = go (read_band most band_gates (input_of gates)) (marked (refused not_well_formed) is)
    where
      go : (x : Parsed (List Gate)) → refused not_well_formed ≡ settled (mark_read 0 (replicate band_gates dashes) x) → drawn bs most x ≡ refuses not_well_formed
      go (parsed gs j) f = parsed_refused (sym f)
      go (refused k) f = refl

  pub drawn_some : (kept : List (List ℕ)) (count : ℕ) (left : List ℕ) → parsed (record { count = count; columns = kept }) (input_of left) ≡ marking →
      drawn_from bs gates most ≡ gives (record { text = rows_at (take count kept) most 1; next = place_of bs (input_of left) })
  unfolding drawn settled and_then
  drawn_some kept count left is = go (read_band most band_gates (input_of gates)) refl (marked (parsed (record { count = count; columns = kept }) (input_of left)) is)
    where
      go : (x : Parsed (List Gate)) → read_band most band_gates (input_of gates) ≡ x →
          parsed (record { count = count; columns = kept }) (input_of left) ≡ settled (mark_read 0 (replicate band_gates dashes) x) →
          drawn bs most x ≡ gives (record { text = rows_at (take count kept) most 1; next = place_of bs (input_of left) })
      go (parsed gs j) q f =
          let same = parsed_same f in
          let number : count ≡ length gs = ap (λ (x : Kept). x.count) same.0 ∙ zero-add (length gs) in
          let columns : kept ≡ mark_gates 0 gs (replicate band_gates dashes) = ap (λ (x : Kept). x.columns) same.0 in
          let rows : rows_at (take count kept) most 1 ≡ band most gs =
          rw (columns, number) (band_kept most (omega arith) gs (band_most most band_gates (input_of gates) gs j q)) in
          rw (rows, same.1)
      go (refused k) q f = parsed_refused f

  -- the answer and the text of a refusal, and of a band
  pub none_answer : refused not_well_formed ≡ marking → (a : PageBand) → a ≡ refused_band not_well_formed → a ≡ band_answer (drawn_from bs gates most)
  unfolding band_answer
  none_answer is a p = rw (drawn_none is) p

  pub none_text : refused not_well_formed ≡ marking → (text : List ℕ) → text ≡ text_after (drawn_from bs gates most) text
  unfolding text_after
  none_text is text = rw (drawn_none is)

  module _ (kept : List (List ℕ)) (count : ℕ) (left : List ℕ) (is : parsed (record { count = count; columns = kept }) (input_of left) ≡ marking)
      (low : count ≤ length kept) where
    size : most * (4 + 4 * count + 1) ≡ length (rows_at (take count kept) most 1)
    size = size_is (take count kept) count most few (length-take-le count kept low)

    pub some_answer : (next : ℕ) → next ≡ place_of bs (input_of left) →
        record { number = 0; length = most * (4 + 4 * count + 1); next = next } ≡ band_answer (drawn_from bs gates most)
    unfolding band_answer
    some_answer next p = rw (drawn_some kept count left is, p, size)

    pub some_text : (text text₁ : List ℕ) →
        (most * (4 + 4 * count + 1) ≡ length (rows_at (take count kept) most 1) → text₁ ≡ lent_after (rows_at (take count kept) most 1) text) →
        text₁ ≡ text_after (drawn_from bs gates most) text
    unfolding text_after
    some_text text text₁ p = rw (drawn_some kept count left is) (p size)

pub ruleset drawing = (rules, none_answer, none_text, some_answer, some_text)
