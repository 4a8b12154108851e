-- reversed: the swaps behind what is left are placed; in order: what is still to be placed makes of the room what all of it makes
use Rattle.std.specs.Iterator.Adapters.{rev_source}
use Rattle.std.specs.Slice.Iter.{iter_rest}
use Rattle.events.specs.Scan.{emit_in, progress}
use Rattle.events.proofs.EntryGates.{Forth, Back}
use Rattle.events.proofs.emit_swaps.Given as goal

abbrev pub invariant-loop-first : goal.invariant-loop-first
invariant-loop-first l =
    Back l.e l.pairs (progress (emit_in l.initial.state) l.initial.room) (progress (emit_in l.state) l.room) (iter_rest (rev_source l.first-iterator))

abbrev pub invariant-loop-first-2 : goal.invariant-loop-first-2
invariant-loop-first-2 l = Forth l.e l.pairs (progress (emit_in l.initial.state) l.initial.room) (progress (emit_in l.state) l.room) l.first-index
