use Rattle.std.proofs.Common.{arith}
use Rattle.lines.proofs.CircuitListing.{lines_end, lines_bad, lines_next}
use Rattle.lines.proofs.gate_lines.Goals as goal

pub returns-in_default : goal.returns-in_default
returns-in_default c = lines_bad _ _ _ _ _ c.loop-number.invariant c.loop-number-test.true c.in_default.ensures

pub loop-number-preserved : goal.loop-number-preserved
loop-number-preserved c = lines_next _ _ _ _ _ c.loop-number.invariant c.loop-number-test.true c.in-Some.gate _ c.in-Some.ensures _ c.gate_line.ensures

pub returns : goal.returns
returns c = lines_end _ _ _ _ _ c.loop-number.invariant c.loop-number-test.false

pub returns-in-Some : goal.returns-in-Some
returns-in-Some c =
    lines_end _ _ _ _ _ (lines_next _ _ _ _ _ c.loop-number.invariant c.loop-number-test.true c.in-Some.gate _ c.in-Some.ensures _ c.gate_line.ensures) (omega arith)
