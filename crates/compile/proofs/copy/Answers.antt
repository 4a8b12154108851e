-- `copy`: the bytes that fit are put in front of the room.
use Rattle.compile.proofs.TextAndRoom.{copied}
use Rattle.compile.proofs.copy.Goals as goal

pub returns : goal.returns
returns c = copied _ _ _ _ _ _ c.min.ensures c.min-count.ensures c.copy_from_slice.ensures.after
