-- The ways out of `put_part` and `put_part_read`: a band or a refusal's line, and that the buffer is long enough to know which.
use mathlib.Core.Path.{◌≡◌, refl, sym, ap, ◌∙◌}
use mathlib.Core.List.{List, [], ◌∷◌, ◌++◌}
use Prim.Native.Nat.{ℕ, suc, ◌≤◌, min}
use native.Mathlib.Omega.{arith}
use borrow.Author.Tests.{le-leb}
use lib.ListN.{length, take, drop, length-append}
use lib.Seq.{take_all, take-append_seam}
use Rattle.model.specs.Limits.{most_circuit, most_band, not_well_formed}
use Rattle.model.specs.Answers.{Outcome, gives, refuses}
use Rattle.model.specs.Listing.{newline, decimal, refusal_line}
use Rattle.model.specs.Page.{Band, page_band, lent_after, text_after}
use Rattle.model.proofs.BooleanLaws.{by_lt}
use Rattle.model.proofs.DecimalDigits.{decimal_few}
use Rattle.model.proofs.PageBands.{enough_read}
use Rattle.answers.specs.Structs.{band_answer}
use Rattle.answers.specs.declared.PageBand.{PageBand}
use Rattle.io.specs.Counts.{IsPrefixLen}
use Rattle.text.specs.declared.Writer.{Writer}
use Rattle.text.specs.AppendedBytes.{nothing_put, puts}
use Rattle.text.specs.Inputs.{BeginsWith}
use Rattle.text.proofs.AppendLaws.{puts_count, puts_front}
use Rattle.page.specs.Parts.{part_of, page_part}
use Rattle.page.proofs.BandLimits.{Fourteen, band_fits, band_number}

-- 14 and a newline
refusal_short : (k : ℕ) → k ≡ not_well_formed → length (refusal_line k) ≤ most_band
refusal_short k e =
    let digits : length (decimal k) ≤ 2 = decimal_few 1 k (omega arith) in
    rw (length-append (decimal k) (newline ∷ [])) (omega arith)

-- what `put_part` promises of a part: how long it is, the next place, and the text, in front of which it stands
pub record Part (b : Band) (size next : ℕ) (end text : List ℕ) : Type 0 where
  pub length_value : size ≡ length b.text
  pub next_value : next ≡ b.next
  pub text_after : end ≡ b.text ++ drop size text
  pub prefix_len : IsPrefixLen size end

part : {b : Band} {size next : ℕ} {end text : List ℕ} → size ≡ length b.text → next ≡ b.next → end ≡ b.text ++ drop size text → Part b size next end text
part {b} {size} {next} {end} {text} l n t = record {
  length_value = l;
  next_value = n;
  text_after = t;
  prefix_len = (
    rw (t, length-append b.text (drop size text)) (omega (arith, l)),
    let e : take size end ≡ b.text = rw (t, l) (take-append_seam b.text _) in rw e l,
  );
}

-- the ways out of `put_part`, by what `page_band` answered
module _ (input text text₁ : List ℕ) (at : ℕ) (r : PageBand) (is : r ≡ band_answer (page_band input at)) (is_text : text₁ ≡ text_after (page_band input at) text)
    (long : length text ≡ most_band) where
  module _ (f : r.number ≡ 0 → ⊥) {place : ℕ × ℕ} {name : ℕ} {w₀ w : Writer} (p : w ≡ puts (refusal_line r.number) w₀)
      (starts : w₀ ≡ nothing_put (record { ref_ptr = place; ghost_name = name; now = text₁ })) where
    -- a refusal: the text has its line
    line : (w.at ≡ length (page_part input at).text) × (0 ≡ (page_part input at).next) × (w.text.now ≡ (page_part input at).text ++ drop w.at text)
    unfolding band_answer text_after part_of
    line = go (page_band input at) is is_text (band_number input at)
      where
        go : (o : Outcome Band) → r ≡ band_answer o → text₁ ≡ text_after o text → Fourteen o →
            (w.at ≡ length (part_of o).text) × (0 ≡ (part_of o).next) × (w.text.now ≡ (part_of o).text ++ drop w.at text)
        go (gives b) e t n = absurd (f (ap (λ (y : PageBand). y.number) e))
        go (refuses k) e t n =
            let number : r.number ≡ k = ap (λ (y : PageBand). y.number) e in
            let short : length (refusal_line r.number) ≤ most_band = refusal_short r.number (number ∙ n) in
            let count = puts_count (refusal_line r.number) p starts (omega arith) in
            let front = puts_front (refusal_line r.number) p starts (rw t (rw long short)) (rw t (rw long (omega arith))) in
            (rw (← number) count, refl, rw (← number) (rw count (rw t at front)))

    pub line_part : (size : ℕ) → size ≡ w.at → Part (page_part input at) size 0 w.text.now text
    line_part size is_size = rw is_size (part line.0 line.1 line.2)

  module _ (z : r.number ≡ 0) where
    -- a band: the text has it
    drawn : (r.length ≡ length (page_part input at).text) × (r.next ≡ (page_part input at).next) ×
        (text₁ ≡ (page_part input at).text ++ drop r.length text)
    unfolding band_answer text_after part_of
    drawn = go (page_band input at) refl is is_text (band_number input at)
      where
        go : (o : Outcome Band) → page_band input at ≡ o → r ≡ band_answer o → text₁ ≡ text_after o text → Fourteen o →
            (r.length ≡ length (part_of o).text) × (r.next ≡ (part_of o).next) × (text₁ ≡ (part_of o).text ++ drop r.length text)
        go (gives b) q e t n =
            let size : r.length ≡ length b.text = ap (λ (y : PageBand). y.length) e in
            let fits : length b.text ≤ length text = rw long (band_fits input at b q) in
            let bytes : text₁ ≡ b.text ++ drop (length b.text) text = rw (le-leb (length b.text) (length text) fits, lent_after) at t in
            (size, ap (λ (y : PageBand). y.next) e, rw size bytes)
        go (refuses k) q e t n = let number : r.number ≡ k = ap (λ (y : PageBand). y.number) e in absurd (omega arith)

    pub drawn_part : Part (page_part input at) r.length r.next text₁ text
    drawn_part = part drawn.0 drawn.1 drawn.2

-- as many bytes of an array as were read, however many are counted
pub front_same : (l : List ℕ) (k most : ℕ) → length l ≡ most → take (min k most) l ≡ take k l
front_same l k most e = by_lt k most (λ h. let z : min k most ≡ k = omega arith in rw z) (λ h.
    let z : min k most ≡ most = omega arith in
    rw (z, take_all most l (omega arith), take_all k l (omega arith)))

-- what was read into a buffer of one byte more than a circuit can have gives the parts of the whole input
pub part_same : (whole buffer : List ℕ) (count at k : ℕ) → k ≡ min count (suc most_circuit) → length buffer ≡ suc most_circuit → BeginsWith whole buffer count →
    page_part (take k buffer) at ≡ page_part whole at
part_same whole buffer count at k is e h =
    ap part_of (ap (λ (bs : List ℕ). page_band bs at) (rw is (front_same buffer count (suc most_circuit) e) ∙ sym h ∙ ap (λ k. take k whole) e) ∙ enough_read whole at)
