use Rattle.std.proofs.Common.{◌≡◌, ◌+◌, ◌-◌}
use Rattle.table.specs.TreeReading.{bodies_at}
use Rattle.table.proofs.Source.read_bodies.Given as goal

-- the bodies that are left stand from the place on that was reached
abbrev pub invariant-loop-f : goal.invariant-loop-f
invariant-loop-f l =
    bodies_at l.self.p l.self.table.now (l.self.p + 1 - l.f) l.f l.come.at l.come.records l.program
    ≡ bodies_at l.self.p l.self.table.now (l.self.p + 1) 0 2 0 l.fn.program
