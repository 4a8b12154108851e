-- A text that is long enough takes all the rows.
use Rattle.std.proofs.Common.{arith, rules, length, ◌≤◌, List, ℕ}
use Rattle.text.proofs.AppendLaws.{left_front}
use Rattle.bands.specs.MarkedRows.{rows_at}
use Rattle.bands.proofs.BandText.{long_taken}
use Rattle.bands.proofs.put_band.Goals as goal

pub returns-then-size-text : goal.returns-then-size-text
returns-then-size-text c = λ e.
    let rows : List ℕ = rows_at c.args.columns.now c.args.most 1 in
    let fits : length rows ≤ length c.args.text.now = omega arith in
    long_taken rows _ _ fits (left_front rows c.put_rows.ensures c.new-writer.ensures fits (search rules) (search rules))
