-- `with_member` meets its contract.
use Rattle.controls.proofs.ControlSets.{member_none, member_more}
use Rattle.controls.proofs.with_member.Goals as goal

pub returns-then-q-eq0 : goal.returns-then-q-eq0
returns-then-q-eq0 c = member_none _ _ c.then-q-eq0.either

pub returns : goal.returns
returns c = member_more _ _ c.if-q-gt-MOST_MEMBERS.false c.if-q-eq0.false
