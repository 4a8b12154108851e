-- `flip` flips the bit of its wire and no other.
use Rattle.wires.proofs.WireOperations.{flipping, flips_bit}
use Rattle.wires.proofs.flip.Goals as goal

pub returns-in_default : goal.returns-in_default
returns-in_default c = search flipping

pub loop-i-init : goal.loop-i-init
loop-i-init c = search flipping

pub loop-i-preserved : goal.loop-i-preserved
loop-i-preserved c = search flipping

pub returns : goal.returns
returns c =
    flips_bit c.args.wires _ _ (search flipping) c.in-Some.ensures (search flipping) c.loop-i.i _ (search flipping) c.loop-i.invariant
