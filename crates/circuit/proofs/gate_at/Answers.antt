-- `gate_at`: each way out is one law.
use borrow.Author.Rules.{rules}
use borrow.Author.Tests.{not-false}
use Rattle.circuit.proofs.GateReading.{gates, gate_swap}
use Rattle.circuit.proofs.gate_at.Goals as goal

pub returns-in_default : goal.returns-in_default
returns-in_default c = search gates

pub returns-then-map-gt7 : goal.returns-then-map-gt7
returns-then-map-gt7 c = search gates

pub returns-in_err-ones : goal.returns-in_err-ones
returns-in_err-ones c = rw c.from_residual.ensures (search (gates, c.in_err-ones.ensures))

pub returns-in_err-zeros : goal.returns-in_err-zeros
returns-in_err-zeros c = rw c.from_residual-in_err-zeros.ensures (search (gates, c.in_err-zeros.ensures))

pub returns-then-not-stands : goal.returns-then-not-stands
returns-then-not-stands c = search gates

pub returns-in_err-second : goal.returns-in_err-second
returns-in_err-second c = rw c.from_residual-in_err-second.ensures (search (gates, c.in_err-second.ensures.cases))

pub returns : goal.returns
returns c = gate_swap c.args.input.now c.in-len2-up.len_at_least c.if-map-gt7.false _ c.stands.ensures _ _ c.in_ok-ones.ensures
    _ c.stands-2.ensures _ _ c.in_ok-zeros.ensures _ c.stands-3.ensures (search (rules, not-false)) _ _ c.in_ok-second.ensures.cases.0
