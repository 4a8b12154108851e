-- The plain reading of `fit`: it gives 0 where every step fits, and otherwise the refusal of the first step that does not fit. What fits is
-- short enough, has wires of one byte and has fewer gates than four bytes count.
use mathlib.Core.Path.{◌≡◌, refl, sym, ◌∙◌}
use mathlib.Core.List.{List, [], ◌∷◌}
use Prim.Native.Nat.{ℕ, ◌+◌, ◌≤◌, ◌<◌}
use native.Mathlib.Nat.{not-suc-le-zero}
use native.Mathlib.Omega.{arith}
use borrow.Author.Tests.{lt-ltb, le-ltb, le-leb, lt-leb}
use lib.ListN.{length, length-append}
use Rattle.model.specs.Limits.{most_wires, many_wires, no_room}
use Rattle.model.specs.Syntax.{Program}
use Rattle.model.specs.Gates.{Gate}
use Rattle.model.specs.Emission.{Event, takes, places, frees, emission, gates, peak}
use Rattle.model.specs.Circuit.{encode, encode_all}
use Rattle.model.specs.Answers.{fit}
use Rattle.model.proofs.BooleanLaws.{by_lt, not_zero}
use Rattle.agreement.proofs.AncillaStack.{highest, peak_highest}

-- "at the first ancilla or gate that does not fit": k is its refusal, where `used` bytes of the room are filled
pub data FirstMisfit (room : ℕ) : ℕ → List Event → ℕ → Type 0 where
  wire_past_the_most : {used w : ℕ} {es : List Event} → most_wires < w → FirstMisfit room used (takes w ∷ es) many_wires
  gate_past_room : {used : ℕ} {g : Gate} {es : List Event} → room < used + length (encode g) → FirstMisfit room used (places g ∷ es) no_room
  after_takes : {used w k : ℕ} {es : List Event} → w ≤ most_wires → FirstMisfit room used es k → FirstMisfit room used (takes w ∷ es) k
  after_places : {used k : ℕ} {g : Gate} {es : List Event} → used + length (encode g) ≤ room →
      FirstMisfit room (used + length (encode g)) es k → FirstMisfit room used (places g ∷ es) k
  after_frees : {used a k : ℕ} {es : List Event} → FirstMisfit room used es k → FirstMisfit room used (frees a ∷ es) k

-- every step fits
abbrev pub AllFit : ℕ → ℕ → List Event → Type 0
AllFit room used [] = Unit {0}
AllFit room used (takes w ∷ es) = (w ≤ most_wires) × AllFit room used es
AllFit room used (places g ∷ es) = (used + length (encode g) ≤ room) × AllFit room (used + length (encode g)) es
AllFit room used (frees a ∷ es) = AllFit room used es

-- the clauses of `fit` by their tests
module _ (room used : ℕ) (es : List Event) where
  fit_wire : (w : ℕ) → w ≤ most_wires → fit room used (takes w ∷ es) ≡ fit room used es
  unfolding fit
  fit_wire w h = rw (le-ltb most_wires w h, fit)

  fit_no_wire : (w : ℕ) → most_wires < w → fit room used (takes w ∷ es) ≡ many_wires
  unfolding fit
  fit_no_wire w h = rw (lt-ltb most_wires w h, fit)

  fit_gate : (g : Gate) → used + length (encode g) ≤ room → fit room used (places g ∷ es) ≡ fit room (used + length (encode g)) es
  unfolding fit
  fit_gate g h = rw (le-leb (used + length (encode g)) room h, fit)

  fit_no_gate : (g : Gate) → room < used + length (encode g) → fit room used (places g ∷ es) ≡ no_room
  unfolding fit
  fit_no_gate g h = rw (lt-leb (used + length (encode g)) room h, fit)

-- where it gives 0 every step fits
pub fit_all : (room used : ℕ) (es : List Event) → fit room used es ≡ 0 → AllFit room used es
unfolding fit
fit_all room used [] e = tt
fit_all room used (takes w ∷ es) e = by_lt most_wires w
    (λ h. absurd (not_zero 21 (sym (fit_no_wire room used es w h) ∙ e)))
    (λ h. (h, fit_all room used es (sym (fit_wire room used es w h) ∙ e)))
fit_all room used (places g ∷ es) e = by_lt room (used + length (encode g))
    (λ h. absurd (not_zero 22 (sym (fit_no_gate room used es g h) ∙ e)))
    (λ h. (h, fit_all room (used + length (encode g)) es (sym (fit_gate room used es g h) ∙ e)))
fit_all room used (frees a ∷ es) e = fit_all room used es e

-- where every step fits it gives 0
pub all_fit : (room used : ℕ) (es : List Event) → AllFit room used es → fit room used es ≡ 0
unfolding fit
all_fit room used [] h = refl
all_fit room used (takes w ∷ es) h = fit_wire room used es w h.0 ∙ all_fit room used es h.1
all_fit room used (places g ∷ es) h = fit_gate room used es g h.0 ∙ all_fit room (used + length (encode g)) es h.1
all_fit room used (frees a ∷ es) h = all_fit room used es h

-- where it gives another number, that is the refusal of the first step that does not fit
pub fit_first : (room used : ℕ) (es : List Event) → 0 < fit room used es → FirstMisfit room used es (fit room used es)
unfolding fit
fit_first room used [] h = absurd (not-suc-le-zero h)
fit_first room used (takes w ∷ es) h = by_lt most_wires w
    (λ lt. rw (fit_no_wire room used es w lt) (wire_past_the_most lt))
    (λ le. rw (fit_wire room used es w le) (after_takes le (fit_first room used es (rw (fit_wire room used es w le) at h))))
fit_first room used (places g ∷ es) h = by_lt room (used + length (encode g))
    (λ lt. rw (fit_no_gate room used es g lt) (gate_past_room lt))
    (λ le. rw (fit_gate room used es g le)
    (after_places le (fit_first room (used + length (encode g)) es (rw (fit_gate room used es g le) at h))))
fit_first room used (frees a ∷ es) h = after_frees (fit_first room used es h)

-- the refusal of the first step that does not fit is what it gives, and is not 0
pub first_fit : (room : ℕ) {used k : ℕ} {es : List Event} → FirstMisfit room used es k → (fit room used es ≡ k) × (0 < k)
unfolding fit
first_fit room (wire_past_the_most {used = used} {w = w} {es = es} h) = (fit_no_wire room used es w h, omega arith)
first_fit room (gate_past_room {used = used} {g = g} {es = es} h) = (fit_no_gate room used es g h, omega arith)
first_fit room (after_takes {used = used} {w = w} {es = es} h m) = let r = first_fit room m in (fit_wire room used es w h ∙ r.0, r.1)
first_fit room (after_places {used = used} {g = g} {es = es} h m) = let r = first_fit room m in (fit_gate room used es g h ∙ r.0, r.1)
first_fit room (after_frees m) = first_fit room m

-- the room that the gates take
pub fits_length : (room used : ℕ) (es : List Event) → used ≤ room → AllFit room used es → used + length (encode_all (gates es)) ≤ room
unfolding gates encode_all
fits_length room used [] le h = omega arith
fits_length room used (takes w ∷ es) le h = fits_length room used es le h.1
fits_length room used (places g ∷ es) le h =
    let ih = fits_length room (used + length (encode g)) es h.0 h.1 in rw length-append (omega arith)
fits_length room used (frees a ∷ es) le h = fits_length room used es le h

highest_fits : (n room used : ℕ) (es : List Event) → n ≤ most_wires → AllFit room used es → highest n es ≤ most_wires
unfolding highest
highest_fits n room used [] le h = le
highest_fits n room used (takes w ∷ es) le h = let a = h.0 in let ih = highest_fits n room used es le h.1 in omega arith
highest_fits n room used (places g ∷ es) le h = highest_fits n room (used + length (encode g)) es le h.1
highest_fits n room used (frees a ∷ es) le h = highest_fits n room used es le h

-- all wires of an emission that fits are one byte
pub fits_wires : (P : Program) (n room used : ℕ) → n ≤ most_wires → fit room used (emission P n) ≡ 0 → n + peak [] (emission P n) ≤ most_wires
fits_wires P n room used le e =
    let p = peak_highest P n in
    let h = highest_fits n room used (emission P n) le (fit_all room used (emission P n) e) in
    omega arith
