-- `put_header`: the gate count's bytes are "4 bytes little-endian".
use borrow.Author.Rules.{rules}
use Rattle.model.specs.Circuit.{four_bytes}
use Rattle.circuit.proofs.write.put_header.Goals as goal

pub returns : goal.returns
unfolding four_bytes
returns c = search rules
