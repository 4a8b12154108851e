-- before body f no body below f is too wide
use mathlib.Core.Bool.{false}
use Rattle.widths.specs.KeptWidths.{Judged}
use Rattle.widths.proofs.any_too_wide.Given as goal

abbrev pub invariant-loop-f : goal.invariant-loop-f
invariant-loop-f l = Judged l.matrix l.initial.program l.f false l.program
