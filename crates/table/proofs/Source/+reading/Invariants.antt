use Rattle.std.proofs.Common.{◌≡◌, ◌+◌, ◌-◌, ◌*◌}
use Rattle.table.specs.TreeReading.{many, tree_at}
use Rattle.table.proofs.Source.+reading.Given as goal

-- the depth falls from a record to its children
abbrev pub decreases-read_children : goal.decreases-read_children
decreases-read_children l = 3 * l.depth + 2

abbrev pub decreases-read_many : goal.decreases-read_many
decreases-read_many l = 3 * l.depth + 1

abbrev pub decreases-read_tree : goal.decreases-read_tree
decreases-read_tree l = 3 * l.depth

-- the trees that are left stand from the place on that was reached
abbrev pub invariant-read_many-loop : goal.invariant-read_many-loop
invariant-read_many-loop l =
    many (tree_at l.self.p l.self.table.now l.depth l.tests) (l.count - l.counter) l.come.at l.come.records l.program
    ≡ many (tree_at l.self.p l.self.table.now l.depth l.tests) l.count l.fn.from.at l.fn.from.records l.fn.program
