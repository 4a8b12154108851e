-- `emit_text` meets its contract: a text of the longest circuit takes what is usable of any room.
use Rattle.compile.proofs.TextAndRoom.{delivering}
use Rattle.compile.proofs.emit_text.Goals as goal

pub returns : goal.returns
returns c = search delivering
