-- `emit_front`: what comes back is the front of the text.
use Rattle.compile.proofs.TextAndRoom.{delivering, front_emitted}
use Rattle.compile.proofs.emit_front.Goals as goal

pub returns : goal.returns
returns c =
    let args = c.args in
    front_emitted args.end args.text.now c.emit_main.new.room _ (search delivering) (search delivering) (search delivering)
