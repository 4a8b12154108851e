-- Class rank, precedence and depth fall.
use Rattle.std.proofs.Common.{◌+◌, ◌*◌}
use Rattle.emit.proofs.+emitting.Given as goal

abbrev pub decreases-emit_bodies : goal.decreases-emit_bodies
decreases-emit_bodies l = 268435456 * l.k + (8 * l.last + 1000)

abbrev pub decreases-emit_body : goal.decreases-emit_body
decreases-emit_body l = 268435456 * l.k + (8 * l.last + 1007)

abbrev pub decreases-emit_body_left : goal.decreases-emit_body_left
decreases-emit_body_left l = 268435456 * l.k + 600

abbrev pub decreases-emit_body_right : goal.decreases-emit_body_right
decreases-emit_body_right l = 268435456 * l.k + 600

abbrev pub decreases-emit_call : goal.decreases-emit_call
decreases-emit_call l = 268435456 * l.k

abbrev pub decreases-emit_inner : goal.decreases-emit_inner
decreases-emit_inner l = 268435456 * l.k + (8 * l.last + 1006)

abbrev pub decreases-emit_left : goal.decreases-emit_left
decreases-emit_left l = 268435456 * l.k + (l.depth + 300)

abbrev pub decreases-emit_rest : goal.decreases-emit_rest
decreases-emit_rest l = 268435456 * l.k + (8 * l.last + 1005)

abbrev pub decreases-emit_right : goal.decreases-emit_right
decreases-emit_right l = 268435456 * l.k + (l.depth + 300)

abbrev pub decreases-emit_whole : goal.decreases-emit_whole
decreases-emit_whole l = 268435456 * l.k + (l.depth + 1)
