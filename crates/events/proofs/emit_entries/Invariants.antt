-- reversed: the gates from slot a on are placed; in order: what is still to be placed makes of the room what all of it makes
use Rattle.events.specs.Scan.{emit_in, progress}
use Rattle.events.proofs.EntryGates.{Entering, Leaving}
use Rattle.events.proofs.emit_entries.Given as goal

abbrev pub invariant-loop-a : goal.invariant-loop-a
invariant-loop-a l = Leaving l.slots l.d l.e l.upto (progress (emit_in l.initial.state) l.initial.room) (progress (emit_in l.state) l.room) l.a

abbrev pub invariant-loop-a-2 : goal.invariant-loop-a-2
invariant-loop-a-2 l = Entering l.slots l.d l.e l.upto (progress (emit_in l.initial.state) l.initial.room) (progress (emit_in l.state) l.room) l.a
