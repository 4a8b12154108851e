use Rattle.std.proofs.Common.{◌≡◌, ◌-◌}
use Rattle.records.specs.Fields.{numbers_at}
use Rattle.records.proofs.read_numbers.Given as goal

-- the numbers that are left stand from the place on that was reached
abbrev pub invariant-loop : goal.invariant-loop
invariant-loop l = numbers_at (l.count - l.counter) l.table l.next ≡ numbers_at l.count l.table l.fn.at
