-- The walkers meet their contracts: each way out is one law.
use borrow.Author.Rules.{rules}
use mathlib.Core.Path.{refl}
use Rattle.emit.proofs.WholeStatement.{wholes, idle_else, whole_idle}
use Rattle.emit.proofs.LeftPart.{lefts, left_stopped, left_idle}
use Rattle.emit.proofs.RightPart.{rights, right_stopped, right_else}
use Rattle.emit.proofs.ChainsAndBodies.{chaining, bodies_stopped, bodies_none, bodies_found}
use Rattle.emit.proofs.+emitting.Goals as goal

pub emit_bodies-returns-then-is_some : goal.emit_bodies-returns-then-is_some
emit_bodies-returns-then-is_some t c = bodies_stopped _ (search rules)

pub emit_bodies-returns-in-Some : goal.emit_bodies-returns-in-Some
emit_bodies-returns-in-Some t c = bodies_found c.in-Some.ensures c.slot_in-precedence.ensures c.emit_body.ensures

pub emit_bodies-returns-in_default : goal.emit_bodies-returns-in_default
emit_bodies-returns-in_default t c = bodies_none c.in_default.ensures

pub emit_body-returns : goal.emit_body-returns
emit_body-returns t c = search chaining

pub emit_body_left-returns : goal.emit_body_left-returns
emit_body_left-returns t c = search chaining

pub emit_body_right-returns : goal.emit_body_right-returns
emit_body_right-returns t c = search chaining

pub emit_call-returns-then-is_some : goal.emit_call-returns-then-is_some
emit_call-returns-then-is_some t c = search chaining

pub emit_call-returns-then-m-eq0 : goal.emit_call-returns-then-m-eq0
emit_call-returns-then-m-eq0 t c = search chaining

pub emit_call-returns-then-k-eq0 : goal.emit_call-returns-then-k-eq0
emit_call-returns-then-k-eq0 t c = search chaining

pub emit_call-returns : goal.emit_call-returns
emit_call-returns t c = search chaining

pub emit_inner-returns : goal.emit_inner-returns
emit_inner-returns t c = search chaining

pub emit_left-returns-then-is_some : goal.emit_left-returns-then-is_some
emit_left-returns-then-is_some t c = left_stopped _ (search rules)

pub emit_left-returns-then-depth-eq0 : goal.emit_left-returns-then-depth-eq0
emit_left-returns-then-depth-eq0 t c = search lefts

pub emit_left-returns-then-is_wide : goal.emit_left-returns-then-is_wide
emit_left-returns-then-is_wide t c = search lefts

pub emit_left-returns-then-is_wide-2 : goal.emit_left-returns-then-is_wide-2
emit_left-returns-then-is_wide-2 t c = search lefts

pub emit_left-returns-in-Touches : goal.emit_left-returns-in-Touches
emit_left-returns-in-Touches t c = search lefts

pub emit_left-returns-else-is_wide : goal.emit_left-returns-else-is_wide
emit_left-returns-else-is_wide t c = search lefts

pub emit_left-returns-in-Chooses : goal.emit_left-returns-in-Chooses
emit_left-returns-in-Chooses t c = search lefts

pub emit_left-returns-in-Branches : goal.emit_left-returns-in-Branches
emit_left-returns-in-Branches t c = search lefts

pub emit_left-returns-else-is_wide-2 : goal.emit_left-returns-else-is_wide-2
emit_left-returns-else-is_wide-2 t c = search lefts

pub emit_rest-returns : goal.emit_rest-returns
emit_rest-returns t c = search chaining

pub emit_right-returns-then-is_some : goal.emit_right-returns-then-is_some
emit_right-returns-then-is_some t c = right_stopped _ (search rules)

pub emit_right-returns-then-depth-eq0 : goal.emit_right-returns-then-depth-eq0
emit_right-returns-then-depth-eq0 t c = search rights

pub emit_right-returns-then-narrow : goal.emit_right-returns-then-narrow
emit_right-returns-then-narrow t c = search rights

pub emit_right-returns-then-is_wide : goal.emit_right-returns-then-is_wide
emit_right-returns-then-is_wide t c = search rights

pub emit_right-returns-else-is_wide : goal.emit_right-returns-else-is_wide
emit_right-returns-else-is_wide t c = search rights

pub emit_right-returns-in-Chooses : goal.emit_right-returns-in-Chooses
emit_right-returns-in-Chooses t c = search rights

pub emit_right-returns-in-Branches : goal.emit_right-returns-in-Branches
emit_right-returns-in-Branches t c = search rights

pub emit_right-returns-in-Calls : goal.emit_right-returns-in-Calls
emit_right-returns-in-Calls t c = search rights

pub emit_whole-returns-then-is_some : goal.emit_whole-returns-then-is_some
emit_whole-returns-then-is_some t c = search wholes

pub emit_whole-returns-then-depth-eq0 : goal.emit_whole-returns-then-depth-eq0
emit_whole-returns-then-depth-eq0 t c = search wholes

pub emit_whole-returns-in-Touches : goal.emit_whole-returns-in-Touches
emit_whole-returns-in-Touches t c = search wholes

pub emit_whole-returns-in-Sequence : goal.emit_whole-returns-in-Sequence
emit_whole-returns-in-Sequence t c = search wholes

pub emit_whole-returns-in-Chooses : goal.emit_whole-returns-in-Chooses
emit_whole-returns-in-Chooses t c = search wholes

pub emit_whole-returns-in-Branches : goal.emit_whole-returns-in-Branches
emit_whole-returns-in-Branches t c = search wholes

pub emit_whole-returns-in-Calls : goal.emit_whole-returns-in-Calls
emit_whole-returns-in-Calls t c = search wholes

pub emit_whole-returns-in_default : goal.emit_whole-returns-in_default
emit_whole-returns-in_default t c =
    whole_idle c.if-depth-eq0.false c.step_at.ensures _ refl (idle_else _ c.in_default.not-Touches c.in_default.not-Sequence c.in_default.not-Chooses c.in_default.not-Branches c.in_default.not-Calls)

pub emit_left-returns-in_default : goal.emit_left-returns-in_default
emit_left-returns-in_default t c =
    left_idle c.if-depth-eq0.false c.step_at.ensures _ refl (idle_else _ c.in_default.not-Touches c.in_default.not-Sequence c.in_default.not-Chooses c.in_default.not-Branches c.in_default.not-Calls)

pub emit_right-returns-in_default : goal.emit_right-returns-in_default
emit_right-returns-in_default t c =
    right_else c.if-depth-eq0.false c.step_at.ensures _ refl c.in_default.not-Sequence c.in_default.not-Chooses c.in_default.not-Branches c.in_default.not-Calls
