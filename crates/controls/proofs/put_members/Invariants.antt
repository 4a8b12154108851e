-- `put_members`: storing all members in the room as it was is storing those that are left in the room as it is.
use Rattle.std.specs.Iterator.Adapters.{zip_first, zip_second}
use Rattle.sets.specs.Sets.{members_of}
use Rattle.controls.proofs.ControlBytes.{Storing}
use Rattle.controls.proofs.put_members.Given as goal

abbrev pub invariant-loop-place : goal.invariant-loop-place
invariant-loop-place l = Storing l.fn.room l.fn.at (members_of l.fn.set) l.room (zip_first l.place-iterator).start (zip_first l.place-iterator).end (zip_second l.place-iterator)
