-- `read_list`: each way out is one law.
use Rattle.circuit.proofs.WireListReading.{lists}
use Rattle.circuit.proofs.read_list.Goals as goal

pub returns-then-not-stands : goal.returns-then-not-stands
returns-then-not-stands c = search lists

pub returns-in_err-count : goal.returns-in_err-count
returns-in_err-count c = search (lists, c.in_err-count.ensures.cases)

pub returns-then-count-eq0 : goal.returns-then-count-eq0
returns-then-count-eq0 c = search (lists, c.in_ok-count.ensures.cases.0)

pub returns : goal.returns
returns c = search (lists, c.in_ok-count.ensures.cases.0, c.split_at_checked.ensures.cases)
