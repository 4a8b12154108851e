-- A gate's outermost wires are those of its own wires, then of its controls.
use Rattle.std.proofs.Common.{◌≡◌, min, max, arith}
use Rattle.std.proofs.lemmas.List.Sums.{fold-append}
use Rattle.model.specs.Gates.{Controls, targets}
use Rattle.model.specs.Circuit.{wires}
use Rattle.circuit.specs.GatesInBytes.{gate_with}
use Rattle.circuit.specs.GateChecks.{own_wires}
use Rattle.circuit.specs.declared.Action.{Action}
use Rattle.circuit.specs.declared.Action.TheVariants.{Not, Swap}
use Rattle.marks.specs.declared.Span.{Span}
use Rattle.marks.specs.Columns.{wider, span_from, span_of}

abbrev pub own_span : Action → Span
own_span a = record { low = min (own_wires a).0 (own_wires a).1; high = max (own_wires a).0 (own_wires a).1 }

pub gate_span : (a : Action) (cs : Controls) → span_of (wires (gate_with a cs)) ≡ span_from (span_from (own_span a) cs.ones) cs.zeros
unfolding span_of wires targets
gate_span (Not u) cs =
    let low : min u u ≡ u = omega arith in let high : max u u ≡ u = omega arith in
    rw (low, high) (fold-append wider (record { low = u; high = u }) cs.ones cs.zeros)
gate_span (Swap u v) cs = fold-append wider (record { low = min u v; high = max u v }) cs.ones cs.zeros
