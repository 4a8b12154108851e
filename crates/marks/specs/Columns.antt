-- The marks of a band as the code keeps them: a column for each gate, a byte for each number of a wire. That what is kept there are the marks of the gates is
-- `band_kept` in crates/bands/proofs/KeptMarks.antt.
use Rattle.std.specs.Prelude.{ℕ, zero, suc, ◌-◌, min, max, true, false, List, [], ◌∷◌, length, get_or, set, fold, eqb, Option, None, Some}
use Rattle.std.specs.Borrow.{Bor}
use Rattle.model.specs.Limits.{not_well_formed}
use Rattle.model.specs.Reading.{Input, Parsed, parsed, refused, and_then}
use Rattle.model.specs.Lists.{range}
use Rattle.model.specs.Gates.{Controls, Gate, targets}
use Rattle.model.specs.Circuit.{wires, controls_of, read_gate}
use Rattle.model.specs.Listing.{plus}
use Rattle.model.specs.Page.{bar, letter_o, letter}
use Rattle.circuit.specs.GatesInBytes.{input_of}
use Rattle.marks.specs.declared.Span.{Span}

-- the outermost of these and a wire, and of these and others
abbrev pub wider : Span → ℕ → Span
wider s w = record { low = min s.low w; high = max s.high w }

abbrev pub span_from : Span → List ℕ → Span
span_from s l = fold wider s l

unfoldable pub span_of : List ℕ → Span
span_of [] = record { low = 0; high = 0 }
span_of (w ∷ l) = span_from (record { low = w; high = w }) l

-- the wires between two
abbrev pub inside : Span → List ℕ
inside s = range (s.high - suc s.low) (suc s.low)

-- one mark on each of these wires of a column
abbrev pub mark_all : ℕ → List ℕ → List ℕ → List ℕ
mark_all sign ws column = fold (λ kept w. set kept w sign) column ws

-- the bars of a gate over these wires
abbrev pub mark_bars : List ℕ → List ℕ → List ℕ
mark_bars ws column = mark_all bar (inside (span_of ws)) column

abbrev pub mark_controls : Controls → List ℕ → List ℕ
mark_controls cs column = mark_all plus cs.ones (mark_all letter_o cs.zeros column)

-- all marks of a gate: those that come later stand over those before
abbrev pub mark_gate : Gate → List ℕ → List ℕ
mark_gate g column = mark_all (letter g) (targets g) (mark_controls (controls_of g) (mark_bars (wires g) column))

-- what is kept of the gates of a band: how many there are, and their marks
pub record Kept : Type 0 where
  pub count : ℕ
  pub columns : List (List ℕ)

-- at most k gates over wires 1 to `most`, as many as there are, each marked as it is read, in the columns from this one on
unfoldable pub mark_from : ℕ → ℕ → ℕ → Input → List (List ℕ) → Parsed Kept
mark_from most zero column i kept = parsed (record { count = column; columns = kept }) i
mark_from most (suc k) column i kept = elim (eqb (length i.bytes) 0) [
  | true ↦ parsed (record { count = column; columns = kept }) i
  | false ↦
      and_then (read_gate most i) (λ g j. mark_from most k (suc column) j (set kept column (mark_gate g (get_or kept column []))))
]

-- the code's answer and the columns behind it: what is kept of the gates and what is left behind them, or "14 circuit not well formed"
abbrev pub band_parsed : Option (ℕ × Bor (List ℕ)) → List (List ℕ) → Parsed Kept
band_parsed (Some p) kept = parsed (record { count = p.0; columns = kept }) (input_of p.1.now)
band_parsed None kept = refused not_well_formed
