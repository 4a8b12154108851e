-- Which tables `OnlyOldBases` speaks of, at two that are known: PAIRS uses only bases 0 and 1, and the example of base 2 does not.
use mathlib.Core.Path.{subst}
use Rattle.model.specs.Reading.{and_then, provided, byte_of, signed16, number_of, number, numbers, removals, procedure, statement_kind, condition_kind}
use Rattle.model.specs.Reading.{optional, fields, known, opening, contents, two, condition_of, condition, statement_of, statement, statements, trees, read_table}
use Rattle.model.specs.Examples.{pairs, last_left}
use Rattle.model.proofs.ReadingLaws.{Reads, Anyhow}
use Rattle.plain.specs.ReadingBy.{numbers_by, removals_by, fields_by, contents_by, condition_by, statement_by, statements_by, trees_by, read_table_by}
use Rattle.plain.specs.OldBases.{old_number_of, number_or, OnlyOldBases}
use Rattle.plain.proofs.ReadersAlike.{Not, unbroken}
use Rattle.plain.proofs.BasesZeroAndOne.{table_stays}

-- PAIRS is read to its end
pub pairs_old : OnlyOldBases pairs
unfolding read_table_by trees_by statements_by statement_by condition_by contents_by fields_by removals_by numbers_by number_or old_number_of signed16 and_then provided
    byte_of procedure statement_kind condition_kind optional known opening two condition_of statement_of
pairs_old = (0, λ e. subst (Reads (λ P i. Unit {0}) (λ k. ⊥)) e tt)

-- this one is read today, and the old reader breaks off
pub left_not_old : Not (OnlyOldBases last_left)
unfolding read_table_by trees_by statements_by statement_by condition_by contents_by fields_by removals_by numbers_by number_or old_number_of signed16 and_then provided
    byte_of procedure statement_kind condition_kind optional known opening two condition_of statement_of
    read_table trees statements statement condition contents fields removals numbers number number_of
left_not_old only = subst (Reads (λ P i. ⊥) Anyhow) ((unbroken (table_stays last_left) only.0 (λ c. only.1)).0 0) tt
