use Rattle.std.proofs.Common.{◌+◌, ◌*◌, sym, ◌∙◌, rules}
use Rattle.decoded.specs.RecordsPutDown.{removals_read}
use Rattle.decoded.proofs.RecordsOfAProgram.{number_done}
use Rattle.decoded.proofs.write.removals_read.Goals as goal

pub returns : goal.returns
unfolding removals_read
returns c =
    let done = number_done c.loop-k.numbers c.loop-k.k c.min-count.result c.args.table.now (c.args.at + 1 + 3 * c.loop-k.k) c.loop-k-test.false in
    rw (sym done ∙ c.loop-k.invariant) (search rules)
