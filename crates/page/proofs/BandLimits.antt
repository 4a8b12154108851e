-- Of every band: it fits a text of 20,655 bytes, and where there is none the number is 14.
use mathlib.Core.Path.{◌≡◌, refl, ap}
use mathlib.Core.Bool.{Bool, true, false}
use mathlib.Core.List.{List}
use Prim.Native.Nat.{ℕ, zero, suc, ◌+◌, ◌*◌, ◌≤◌}
use native.Mathlib.Nat.{mul-le-mul}
use native.Mathlib.Omega.{arith}
use borrow.Author.Tests.{leb-true}
use lib.ListN.{length}
use lib.Dec.{leb}
use Rattle.model.specs.Limits.{most_wires, most_band, header_length, not_well_formed}
use Rattle.model.specs.Reading.{input_at, Parsed, parsed, refused}
use Rattle.model.specs.Gates.{Gate}
use Rattle.model.specs.Circuit.{Circuit}
use Rattle.model.specs.Answers.{Outcome, gives, refuses, after, require, circuit_read}
use Rattle.model.specs.Page.{band_gates, band, Band, read_band, drawn, header_wires, band_at, page_band}
use Rattle.model.proofs.OutcomeLaws.{not_both, gives_same, required, gave}
use Rattle.model.proofs.PageShape.{band_length}
use Rattle.model.proofs.PageBands.{band_most, refused_number}

-- a band of at most nineteen gates over at most 255 wires
few_fit : (most : ℕ) (gs : List Gate) → most ≤ most_wires → length gs ≤ band_gates → length (band most gs) ≤ most_band
few_fit most gs few h =
    let wide : 4 + 4 * length gs + 1 ≤ 81 = omega arith in
    rw (band_length most gs few) (mul-le-mul few wide)

-- what was read from a place on and drawn
drawn_fits : (bytes : List ℕ) (most at : ℕ) (b : Band) → most ≤ most_wires →
    drawn bytes most (read_band most band_gates (input_at bytes at 0)) ≡ gives b → length b.text ≤ most_band
unfolding drawn
drawn_fits bytes most at b few e = go (read_band most band_gates (input_at bytes at 0)) refl e
  where
    go : (x : Parsed (List Gate)) → read_band most band_gates (input_at bytes at 0) ≡ x → drawn bytes most x ≡ gives b → length b.text ≤ most_band
    go (parsed gs j) q f =
        let is : band most gs ≡ b.text = ap (λ (c : Band). c.text) (gives_same f) in
        rw (← is) (few_fit most gs few (band_most most band_gates (input_at bytes at 0) gs j q))
    go (refused k) q f = not_both f

band_at_fits : (bytes : List ℕ) (at : ℕ) (b : Band) → band_at bytes at ≡ gives b → length b.text ≤ most_band
band_at_fits bytes at b e =
    let most = header_wires bytes in
    let both = required (leb most most_wires) not_well_formed (drawn bytes most (read_band most band_gates (input_at bytes at 0))) e in
    drawn_fits bytes most at b (leb-true most most_wires both.0) both.1

pub band_fits : (bytes : List ℕ) (at : ℕ) (b : Band) → page_band bytes at ≡ gives b → length b.text ≤ most_band
unfolding page_band
band_fits bytes zero b e = band_at_fits bytes header_length b (gave _ _ e).then_is
band_fits bytes (suc k) b e = band_at_fits bytes (suc k) b (required _ not_well_formed (band_at bytes (suc k)) e).1

-- the number of a refusal
abbrev pub Fourteen : Outcome Band → Type 0
Fourteen (gives b) = Unit {0}
Fourteen (refuses k) = k ≡ not_well_formed

require_fourteen : (b : Bool) (x : Outcome Band) → Fourteen x → Fourteen (require b not_well_formed x)
unfolding require
require_fourteen true x h = h
require_fourteen false x h = refl

drawn_fourteen : (bytes : List ℕ) (most : ℕ) (x : Parsed (List Gate)) → Fourteen (drawn bytes most x)
unfolding drawn
drawn_fourteen bytes most (parsed gs j) = tt
drawn_fourteen bytes most (refused k) = refl

band_at_fourteen : (bytes : List ℕ) (at : ℕ) → Fourteen (band_at bytes at)
band_at_fourteen bytes at =
    let most = header_wires bytes in
    let x = drawn bytes most (read_band most band_gates (input_at bytes at 0)) in
    require_fourteen (leb most most_wires) x (drawn_fourteen bytes most (read_band most band_gates (input_at bytes at 0)))

pub band_number : (bytes : List ℕ) (at : ℕ) → Fourteen (page_band bytes at)
unfolding page_band after
band_number bytes zero = go (circuit_read bytes) refl
  where
    go : (x : Outcome Circuit) → circuit_read bytes ≡ x → Fourteen (after x (λ c. band_at bytes header_length))
    go (gives c) e = band_at_fourteen bytes header_length
    go (refuses k) e = refused_number bytes k e
band_number bytes (suc k) = require_fourteen _ (band_at bytes (suc k)) (band_at_fourteen bytes (suc k))
