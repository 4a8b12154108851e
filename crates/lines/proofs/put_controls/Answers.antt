use Rattle.std.proofs.lemmas.List.Sums.{prefix_len-le-length}
use Rattle.lines.proofs.ControlText.{controls_end, controls_next}
use Rattle.lines.proofs.put_controls.Goals as goal

pub split_at-requires : goal.split_at-requires
split_at-requires c = rw c.count_below.ensures (prefix_len-le-length _ _)

pub loop-wire-preserved : goal.loop-wire-preserved
loop-wire-preserved c =
    controls_next _ _ _ _ _ c.loop-wire.invariant c.loop-wire-test.true _ c.count_below.ensures _ _ c.split_at.ensures.front c.split_at.ensures.back _ _
    c.put_hyphens.ensures c.put_control.ensures

pub returns : goal.returns
returns c = controls_end _ _ _ _ _ c.loop-wire.invariant c.loop-wire-test.false _ c.put_hyphens-2.ensures
