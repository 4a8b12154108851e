-- The fuel falls at each call, the depth within a body. The statement at record `at` makes of the word as it is now what the whole statement makes of the word
-- given.
use Rattle.std.proofs.Common.{◌≡◌, ◌+◌, ◌*◌, ◌≤◌}
use Rattle.sets.specs.Sets.{members_of}
use Rattle.run.specs.RunOnWords.{walked}
use Rattle.run.proofs.+walking.Given as goal

abbrev pub decreases-call : goal.decreases-call
decreases-call l = l.fuel * 256

abbrev pub decreases-walk : goal.decreases-walk
decreases-walk l = l.fuel * 256 + l.depth

abbrev pub invariant-walk-loop-left : goal.invariant-walk-loop-left
invariant-walk-loop-left l =
    (l.left ≤ l.depth) ×
    (walked l.program l.left l.at (members_of l.list) l.fuel l.current ≡ walked l.program l.depth l.i (members_of l.list) l.fuel l.word)
