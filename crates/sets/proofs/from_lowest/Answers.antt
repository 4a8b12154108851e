-- `from_lowest` gives the member that so many others are below.
use mathlib.Core.Path.{ap, ◌∙◌}
use mathlib.Core.List.{List}
use Prim.Native.Nat.{ℕ, ◌+◌}
use Rattle.model.specs.Lists.{entry}
use Rattle.sets.proofs.MemberSteps.{given_behind}
use Rattle.sets.proofs.from_lowest.Goals as goal

pub returns : goal.returns
returns c =
    c.unwrap_or.ensures ∙ given_behind _ _ c.args.below c.nth.result c.nth.ensures.ran
    ∙ ap (λ (l : List ℕ). entry l (c.args.below + 1)) c.members_of.ensures
