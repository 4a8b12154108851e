-- `read_whole`: a header, then gates that fill what is left.
use Rattle.circuit.proofs.CircuitReading.{whole_none, whole_bad, whole_good}
use Rattle.circuit.proofs.read_whole.Goals as goal

pub returns-in_err-header : goal.returns-in_err-header
returns-in_err-header c =
    rw c.from_residual.ensures (record { circuit = c.in_err-header.ensures.circuit; header = whole_none _ c.in_err-header.ensures.circuit; gates = tt })

pub returns-then-not-gates_fill : goal.returns-then-not-gates_fill
returns-then-not-gates_fill c = record {
  circuit = whole_bad _ _ _ _ _ _ c.in_ok-header.ensures.circuit _ c.gates_fill.ensures c.if-not-gates_fill.true;
  header = whole_none _ (whole_bad _ _ _ _ _ _ c.in_ok-header.ensures.circuit _ c.gates_fill.ensures c.if-not-gates_fill.true);
  gates = tt;
}

pub returns : goal.returns
returns c = record {
  circuit = c.in_ok-header.ensures.circuit;
  header = whole_good _ _ _ _ _ _ c.in_ok-header.ensures.circuit _ c.gates_fill.ensures c.if-not-gates_fill.false;
  gates = c.in_ok-header.ensures.gates;
}
