-- All columns are those that are left, behind those that were marked.
use Rattle.std.proofs.Common.{◌≡◌, ◌-◌}
use Rattle.model.specs.Page.{band_gates}
use Rattle.circuit.specs.GatesInBytes.{input_of}
use Rattle.marks.specs.Columns.{mark_from}
use Rattle.marks.proofs.mark_band.Given as goal

abbrev pub invariant-loop-count : goal.invariant-loop-count
invariant-loop-count l =
    mark_from l.most band_gates 0 (input_of l.input) l.initial.columns ≡ mark_from l.most (band_gates - l.count) l.count (input_of l.left) l.columns
