-- What a record does, and what it is for calls: the one step of check, run and emission.
use Rattle.std.specs.Prelude.{ℕ, ◌+◌, true, false, List}
use Rattle.model.specs.Lists.{touched}
use Rattle.records.specs.declared.Record.{Record}
use Rattle.records.specs.declared.Record.TheVariants as kind
use Rattle.records.specs.Fields.{number_of}
use Rattle.decoded.specs.declared.Program.{Program}
use Rattle.decoded.specs.DecodedTable.{end_of, first_number, removals_in, record_in}
use Rattle.decoded.specs.declared.Step.{Step}
use Rattle.decoded.specs.declared.Step.TheVariants as step
use Rattle.decoded.specs.declared.Parts.{Parts}
use Rattle.decoded.specs.declared.Parts.TheVariants as parts

-- one clause for each of the kinds 0 to 11
unfoldable pub step_of : Program → ℕ → Record → Step
step_of g i kind.Skip = step.Nothing
step_of g i (kind.Not at a) = step.Touches i
step_of g i kind.Sequence = step.Sequence (i + 1) (end_of g (i + 1))
step_of g i kind.If = step.Chooses (i + 1) (end_of g (i + 1)) (end_of g (end_of g (i + 1)))
step_of g i (kind.Qcase at a) = step.Branches i (i + 1) (end_of g (i + 1))
step_of g i (kind.Call at f) = step.Calls f i
step_of g i (kind.Greater a b) = step.Greater i
step_of g i (kind.AtLeast a b) = step.AtLeast i
step_of g i (kind.Equal a b) = step.Equal i
step_of g i kind.And = step.Both (i + 1) (end_of g (i + 1))
step_of g i kind.Or = step.Either (i + 1) (end_of g (i + 1))
step_of g i kind.Negation = step.Negates (i + 1)

-- the step of record i
abbrev pub step_at : Program → ℕ → Step
step_at g i = step_of g i (record_in g i)

-- the qubit that is touched in a whole list by record i: "the entry at position a of the remaining list"
abbrev pub touched_by : Program → ℕ → List ℕ → ℕ
touched_by g i l = touched (removals_in g i) (number_of (first_number g i)) l

-- what a step is for calls: two parts, in turn or one of them, a call, or neither
unfoldable pub parts_of : Step → Parts
parts_of step.Nothing = parts.Neither
parts_of (step.Touches at) = parts.Neither
parts_of (step.Sequence a b) = parts.Two a b true
parts_of (step.Chooses c a b) = parts.Two a b false
parts_of (step.Branches at a b) = parts.Two a b false
parts_of (step.Calls g at) = parts.Call g at
parts_of (step.Greater at) = parts.Neither
parts_of (step.AtLeast at) = parts.Neither
parts_of (step.Equal at) = parts.Neither
parts_of (step.Both a b) = parts.Neither
parts_of (step.Either a b) = parts.Neither
parts_of (step.Negates a) = parts.Neither

-- those of record i
abbrev pub parts_at : Program → ℕ → Parts
parts_at g i = parts_of (step_at g i)
