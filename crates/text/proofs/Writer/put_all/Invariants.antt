-- all the bytes are those that are left, behind those that were put
use Rattle.std.proofs.Common.{◌≡◌, drop}
use Rattle.text.specs.AppendedBytes.{puts}
use Rattle.text.proofs.Writer.put_all.Given as goal

abbrev pub invariant-loop-byte : goal.invariant-loop-byte
invariant-loop-byte l = puts l.bytes l.initial.self ≡ puts (drop l.byte-index l.bytes) l.self
