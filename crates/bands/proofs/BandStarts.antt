-- Where a band begins: the ways out of `band_start`.
use mathlib.Core.Path.{◌≡◌, refl, sym, ap, ◌∙◌}
use mathlib.Core.Bool.{true, false, ◌&&◌}
use mathlib.Core.List.{List}
use Prim.Native.Nat.{ℕ, zero, suc, ◌-◌, ◌≤◌, ◌<◌}
use native.Mathlib.Omega.{arith}
use borrow.Author.Rules.{rules}
use borrow.Author.Tests.{le-leb, lt-leb, lt-ltb, le-ltb}
use lib.ListN.{length, take, drop, length-drop}
use lib.Seq.{take_all}
use lib.Dec.{ltb, leb}
use Rattle.model.specs.Limits.{most_wires, most_circuit, header_length, not_well_formed}
use Rattle.model.specs.Circuit.{Circuit}
use Rattle.model.specs.Answers.{Outcome, gives, refuses, after, require, circuit_read}
use Rattle.model.specs.Page.{header_wires, band_at, page_band}
use Rattle.model.proofs.BooleanLaws.{by_bool, by_lt, and_false_right}
use Rattle.model.proofs.PageBands.{page_refused, refused_number}
use Rattle.circuit.proofs.CircuitReading.{header_short, read_gives}
use Rattle.answers.specs.Structs.{header_of}
use Rattle.answers.specs.declared.CircuitHeader.{CircuitHeader}
use Rattle.bands.specs.Starts.{drawn_from}

-- a whole circuit that is refused is refused as not well formed
whole_refused : (bs : List ℕ) (k : ℕ) → circuit_read bs ≡ refuses k → page_band bs 0 ≡ refuses not_well_formed
whole_refused bs k e = page_refused bs k e ∙ ap refuses (refused_number bs k e)

-- no later band begins at this place, or one does
later_none : (bs : List ℕ) (k : ℕ) → leb (length bs) most_circuit && ltb header_length (suc k) && ltb (suc k) (length bs) ≡ false →
    page_band bs (suc k) ≡ refuses not_well_formed
unfolding page_band require
later_none bs k e = rw e

later_some : (bs : List ℕ) (k : ℕ) → leb (length bs) most_circuit && ltb header_length (suc k) && ltb (suc k) (length bs) ≡ true →
    page_band bs (suc k) ≡ band_at bs (suc k)
unfolding page_band require
later_some bs k e = rw e

-- bytes that are too few for a header
pub start_short : (bs : List ℕ) (at : ℕ) → length bs < header_length → refuses not_well_formed ≡ page_band bs at
start_short bs zero h = sym (page_refused bs not_well_formed (sym (header_short bs (omega arith) h)))
start_short bs (suc k) h = sym (later_none bs k (by_lt header_length (suc k)
    (λ l. rw (le-ltb (suc k) (length bs) (omega arith)) (and_false_right (leb (length bs) most_circuit && ltb header_length (suc k)) false refl))
    (λ l. rw (le-ltb header_length (suc k) l) (ap (λ b. b && ltb (suc k) (length bs)) (and_false_right (leb (length bs) most_circuit) false refl)))))

-- a header with too many wires
many : (bs : List ℕ) (at : ℕ) → most_wires < header_wires bs → band_at bs at ≡ refuses not_well_formed
unfolding require
many bs at h = rw (lt-leb (header_wires bs) most_wires h)

pub start_many : (bs : List ℕ) (at : ℕ) → most_wires < header_wires bs → refuses not_well_formed ≡ page_band bs at
unfolding page_band after require
start_many bs zero h = go (circuit_read bs) refl
  where
    go : (x : Outcome Circuit) → circuit_read bs ≡ x → refuses not_well_formed ≡ page_band bs 0
    go (gives c) e = rw (e, many bs header_length h)
    go (refuses k) e = sym (whole_refused bs k e)
start_many bs (suc k) h =
    rw (many bs (suc k) h) (by_bool (leb (length bs) most_circuit && ltb header_length (suc k) && ltb (suc k) (length bs)) (λ e. rw e) (λ e. rw e))

few : (bs : List ℕ) (at wires : ℕ) → wires ≡ header_wires bs → wires ≤ most_wires → band_at bs at ≡ drawn_from bs (drop at bs) wires
unfolding require
few bs at wires is h = rw (is, le-leb (header_wires bs) most_wires (rw (← is) h))

-- what stands from a place on
abbrev rest_of : List ℕ → ℕ → List ℕ
rest_of bs at = take (length bs - at) (drop at bs)

rest_is : (bs : List ℕ) (at : ℕ) → rest_of bs at ≡ drop at bs
rest_is bs at = take_all (length bs - at) (drop at bs) (rw (length-drop at bs) (omega arith))

-- place 0: the whole circuit is read
pub start_bad : (bs : List ℕ) (at : ℕ) → at ≡ 0 → refuses not_well_formed ≡ circuit_read bs → refuses not_well_formed ≡ page_band bs at
start_bad bs at z is = rw z (sym (page_refused bs not_well_formed (sym is)))

pub start_first : (bs : List ℕ) (at : ℕ) → at ≡ 0 → (h : CircuitHeader) → h ≡ header_of (circuit_read bs) → h.number ≡ 0 → (wires : ℕ) →
    wires ≡ header_wires bs → wires ≤ most_wires → drawn_from bs (rest_of bs header_length) wires ≡ page_band bs at
unfolding page_band after
start_first bs at z h is n wires e l = rw (rest_is bs header_length, z, (read_gives bs h is n).1) (sym (few bs header_length wires e l))

-- a later place
module _ (bs : List ℕ) (at : ℕ) (f : at ≡ 0 → ⊥) where
  away : leb (length bs) most_circuit && ltb header_length at && ltb at (length bs) ≡ false → refuses not_well_formed ≡ page_band bs at
  away = go at f
    where
      go : (k : ℕ) → (k ≡ 0 → ⊥) → leb (length bs) most_circuit && ltb header_length k && ltb k (length bs) ≡ false → refuses not_well_formed ≡ page_band bs k
      go zero g e = absurd (g refl)
      go (suc k) g e = sym (later_none bs k e)

  pub start_long : most_circuit < length bs → refuses not_well_formed ≡ page_band bs at
  start_long h = away (rw (lt-leb (length bs) most_circuit h))

  pub start_early : at ≤ header_length → refuses not_well_formed ≡ page_band bs at
  start_early h = away (rw (le-ltb header_length at h) (ap (λ b. b && ltb at (length bs)) (and_false_right (leb (length bs) most_circuit) false refl)))

  pub start_past : length bs ≤ at → refuses not_well_formed ≡ page_band bs at
  start_past h = away (rw (le-ltb at (length bs) h) (and_false_right (leb (length bs) most_circuit && ltb header_length at) false refl))

  pub start_later : length bs ≤ most_circuit → header_length < at → at < length bs → (wires : ℕ) → wires ≡ header_wires bs → wires ≤ most_wires →
      drawn_from bs (rest_of bs at) wires ≡ page_band bs at
  start_later l h m wires e few_wires = rw (rest_is bs at) (go at h m)
    where
      go : (k : ℕ) → header_length < k → k < length bs → drawn_from bs (drop k bs) wires ≡ page_band bs k
      go zero a b = absurd (omega arith)
      go (suc k) a b = sym (later_some bs k (rw (le-leb (length bs) most_circuit l, lt-ltb header_length (suc k) a, lt-ltb (suc k) (length bs) b)) ∙
          few bs (suc k) wires e few_wires)

pub ruleset starting = (rules, start_short, start_many, start_bad, start_first, start_long, start_early, start_past, start_later)
