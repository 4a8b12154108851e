use Rattle.text.proofs.AppendLaws.{all_end, all_next}
use Rattle.text.proofs.Writer.put_all.Goals as goal

pub loop-byte-preserved : goal.loop-byte-preserved
loop-byte-preserved c = all_next _ _ _ _ c.loop-byte.invariant c.loop-byte-test.true _ c.put.ensures

pub returns : goal.returns
returns c = all_end _ _ _ _ c.loop-byte.invariant c.loop-byte-test.false
