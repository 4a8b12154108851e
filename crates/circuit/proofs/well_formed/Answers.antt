-- `well_formed`: each way out is one law.
use native.Mathlib.Omega.{arith}
use borrow.Author.Rules.{rules}
use Rattle.circuit.proofs.GateCheckLaws.{formed_own, formed_ones, formed_zeros, formed_shared}
use Rattle.circuit.proofs.well_formed.Goals as goal
use Rattle.circuit.proofs.well_formed.Goals.{then-placed, else-placed, then-list_fits, else-list_fits}

pub returns-then-list_fits-2 : goal.returns-then-list_fits-2
returns-then-list_fits-2 c = grind (arith, formed_shared)

pub returns-else-list_fits-2 : goal.returns-else-list_fits-2
returns-else-list_fits-2 c = elim c.if-list_fits.branch [
  | then-list_fits w ↦ elim c.if-placed.branch [
    | then-placed v ↦ grind (arith, formed_zeros)
    | else-placed v ↦ search rules
  ]
  | else-list_fits w ↦ elim c.if-placed.branch [
    | then-placed v ↦ grind (arith, formed_ones)
    | else-placed v ↦ grind (arith, formed_own)
  ]
]
