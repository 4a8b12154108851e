-- `compile_emission` meets its contract: each way out is one law.
use Rattle.std.proofs.Common.{refl, arith}
use Rattle.compile.proofs.TextAndRoom.{no_header, text_refused, text_delivered}
use Rattle.compile.proofs.compile_emission.Goals as goal

pub returns-then-room-lt-HEADER_LENGTH : goal.returns-then-room-lt-HEADER_LENGTH
returns-then-room-lt-HEADER_LENGTH c = no_header c.if-room-lt-HEADER_LENGTH.true

pub returns-in-Some : goal.returns-in-Some
returns-in-Some c = text_refused c.emit_text-state.result.refusal _ (omega arith) c.emit_text-state.ensures refl c.in-Some.is

pub returns : goal.returns
returns c = text_delivered c.emit_text-state.result.refusal (omega arith) c.emit_text-state.ensures refl c.in_default.is c.put_circuit.ensures
