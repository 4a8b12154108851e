-- `entry` gives the member at a position: none where it fits no byte; in qubits 1 to n each stands at its own position.
use mathlib.Core.Path.{ap, ◌∙◌}
use Rattle.std.proofs.lemmas.Result.{OkIff-at_ok, OkIff-at_err}
use Rattle.model.specs.Lists.{entry}
use Rattle.sets.specs.Sets.{members_of}
use Rattle.sets.proofs.Positions.{past_members, byte_position, entry_full}
use Rattle.sets.proofs.entry.Goals as goal

pub returns-in_default-2 : goal.returns-in_default-2
returns-in_default-2 c = past_members c.args.k c.ranges.k c.args.set (OkIff-at_err c.try_from.result _ _ _ c.try_from.ensures c.in_default.is)

pub returns-then-set-full : goal.returns-then-set-full
returns-then-set-full c =
    let at = byte_position c.args.k c.ranges.k _ (OkIff-at_ok c.try_from.result _ _ _ c.try_from.ensures c.in-Ok-1-to-255.is) in
    entry_full c.args.set c.full.result c.size-n.result _ c.size-n.ensures c.full.ensures c.if-set-full.true c.if-n-k.false
    ∙ ap (entry (members_of c.args.set)) at
