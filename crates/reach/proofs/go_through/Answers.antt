-- `go_through` meets its contract: each row is joined with the row of v.
use Rattle.reach.proofs.MatrixOperations.{rows}
use Rattle.reach.proofs.go_through.Goals as goal

pub loop-row-preserved : goal.loop-row-preserved
loop-row-preserved c = search rows

pub returns : goal.returns
returns c = search rows
