-- The gates of a band, one column for each: what the loop of `mark_band` keeps.
use Rattle.std.proofs.Common.{◌≡◌, ℕ, zero, suc, ◌+◌, ◌-◌, ◌≤◌, ◌<◌, List, length, get_or, set, refl, arith, add-one, eq-eqb, rules}
use Rattle.std.specs.Prelude.{[], None}
use borrow.Author.Tests.{ne_eqb}
use Rattle.model.specs.Limits.{not_well_formed}
use Rattle.model.specs.Reading.{Input, Parsed, parsed, refused, and_then}
use Rattle.model.specs.Circuit.{read_gate}
use Rattle.model.specs.Page.{band_gates}
use Rattle.circuit.specs.GatesInBytes.{input_of, settled, gate_in}
use Rattle.circuit.specs.declared.Gate.{Gate}
use Rattle.circuit.proofs.GateReading.{settled_parsed, settled_refused}
use Rattle.marks.specs.Columns.{mark_gate, Kept, mark_from, band_parsed}

-- no byte is left, and some are
pub from_end_lem : (most k column : ℕ) (i : Input) (kept : List (List ℕ)) → length i.bytes ≡ 0 →
    mark_from most k column i kept ≡ parsed (record { count = column; columns = kept }) i
unfolding mark_from
from_end_lem most zero column i kept e = refl
from_end_lem most (suc k) column i kept e = rw (eq-eqb (length i.bytes) 0 e, mark_from)

pub from_more : (most k column : ℕ) (i : Input) (kept : List (List ℕ)) → 0 < k → (length i.bytes ≡ 0 → ⊥) →
    mark_from most k column i kept ≡
    and_then (read_gate most i) (λ g j. mark_from most (k - 1) (suc column) j (set kept column (mark_gate g (get_or kept column []))))
unfolding mark_from
from_more most zero column i kept h f = absurd (omega arith)
from_more most (suc k) column i kept h f = let e : suc k - 1 ≡ k = omega arith in rw (ne_eqb (length i.bytes) 0 f, mark_from, e)

module _ (most column : ℕ) (left : List ℕ) (kept : List (List ℕ)) (whole : Parsed Kept)
    (inv : whole ≡ mark_from most (band_gates - column) column (input_of left) kept) where
  pub band_full : band_gates ≤ column → parsed (record { count = column; columns = kept }) (input_of left) ≡ settled whole
  unfolding mark_from settled
  band_full h = let z : band_gates - column ≡ 0 = omega arith in rw (inv, z)

  pub band_ended : length left ≡ 0 → parsed (record { count = column; columns = kept }) (input_of left) ≡ settled whole
  unfolding settled
  band_ended e = rw (inv, from_end_lem most (band_gates - column) column (input_of left) kept e)

  module _ (l : column < band_gates) (f : length left ≡ 0 → ⊥) where
    pub band_none : refused not_well_formed ≡ settled (read_gate most (input_of left)) → band_parsed None kept ≡ settled whole
    band_none p = rw (inv, from_more most (band_gates - column) column (input_of left) kept (omega arith) f) (settled_refused _ _ _ p)

    pub band_next : (g : Gate) (rest : List ℕ) → parsed (gate_in g) (input_of rest) ≡ settled (read_gate most (input_of left)) →
        whole ≡ mark_from most (band_gates - (column + 1)) (column + 1) (input_of rest) (set kept column (mark_gate (gate_in g) (get_or kept column [])))
    unfolding and_then
    band_next g rest p =
        let found : read_gate most (input_of left) ≡ parsed (gate_in g) (input_of rest) = settled_parsed _ (gate_in g) (input_of rest) p in
        let z : band_gates - column - 1 ≡ band_gates - suc column = omega arith in
        rw (inv, from_more most (band_gates - column) column (input_of left) kept (omega arith) f, found, z, add-one)

pub ruleset banding = (rules, band_full, band_ended, band_none, band_next)
