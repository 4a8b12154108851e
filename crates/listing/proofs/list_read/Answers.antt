use Rattle.std.proofs.Common.{arith}
use Rattle.listing.proofs.ListingText.{read_count, read_text}
use Rattle.listing.proofs.list_read.Goals as goal

pub returns-clause-by_index : goal.returns-clause-by_index
returns-clause-by_index c = read_count c.args.buffer.now c.args.text.now c.list.new.text c.args.count _ _ _ c.min.ensures (omega arith) (omega arith) c.list.ensures.value

pub returns-clause-by_index_2 : goal.returns-clause-by_index_2
returns-clause-by_index_2 c = read_text c.args.buffer.now c.args.text.now c.list.new.text c.args.count _ _ _ c.min.ensures (omega arith) (omega arith) c.list.ensures.text_after
