-- `emit_main` meets its contract: main is walked over from the start.
use Rattle.emit.proofs.EmissionOfMain.{emitting}
use Rattle.emit.proofs.emit_main.Goals as goal

pub returns : goal.returns
returns c = search emitting
