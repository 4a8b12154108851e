-- `swap` exchanges two wires: it flips both where they differ.
use borrow.Author.Rules.{rules}
use Rattle.wires.proofs.WireOperations.{is_block, swaps_same, swaps_differ}
use Rattle.wires.proofs.swap.Goals as goal

pub returns-then-holds : goal.returns-then-holds
returns-then-holds c = search (rules, is_block, swaps_same, swaps_differ)

pub returns : goal.returns
returns c = search (rules, is_block, swaps_same, swaps_differ)
