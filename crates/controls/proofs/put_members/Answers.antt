-- `put_members` meets its contract.
use mathlib.Core.Logic.{inl, inr}
use native.Mathlib.Omega.{arith}
use Rattle.controls.proofs.ControlBytes.{stored_all}
use Rattle.controls.proofs.put_members.Goals as goal

pub returns : goal.returns
returns c = stored_all _ _ _ _ _ _ _ c.loop-place.invariant (elim c.in-None.ensures.steps [ inl s ↦ inl (omega (arith, s.1.1.0)) | inr s ↦ inr s.1.0 ])
