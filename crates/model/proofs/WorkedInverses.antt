-- Worked inverses: sequences within sequences and within a qcase, PAIRS, and the order of refusals 12 and 24.
use mathlib.Core.Path.{◌≡◌, refl}
use Rattle.model.specs.Reading.{
  and_then,
  provided,
  byte_of,
  signed16,
  number_of,
  numbers,
  removals,
  procedure,
  statement_kind,
  condition_kind,
  optional,
  fields,
  known,
  opening,
  contents,
  two,
  condition_of,
  condition,
  statement_of,
  statement,
  statements,
  trees,
  read_table,
}
use Rattle.model.specs.Reading as reading
use Rattle.model.specs.Lists.{range, delete, remove, remove_all, holds, member}
use Rattle.model.specs.Faults.{call_faults, faults, call_faults_within, program_faults}
use Rattle.model.specs.Reach.{calls, reaches_below, is_empty, lacks_removal, width, any_below, any_lacks_removal, any_too_wide}
use Rattle.model.specs.Writing.{
  bits16,
  number_bytes,
  numbers_bytes,
  where_stands,
  field_bytes,
  condition_bytes,
  head_bytes,
  statement_bytes,
  statements_bytes,
  write_table,
}
use Rattle.model.specs.Inverse.{inverse, inverse_program}
use Rattle.model.specs.Answers.{gives, refuses, after, require, outcome, accepted, inverse_table}
use Rattle.model.specs.Examples.{pairs, sequences, sequences_turned}

pub record Facts : Type 0 where
  -- "sequences turned round, everything else kept", in a room exactly as long
  pub turned_round : inverse_table sequences 3 35 ≡ gives sequences_turned
  pub turned_back : inverse_table sequences_turned 3 35 ≡ gives sequences
  -- PAIRS has no sequence
  pub pairs_kept : inverse_table pairs 3 59 ≡ gives pairs
  -- "24, the table's room is shorter than the source table, after 12": with one qubit NOT [2] is an access fault
  pub room_too_short : inverse_table sequences 3 34 ≡ refuses 24
  pub fault_first : inverse_table sequences 1 34 ≡ refuses 12

pub worked : Facts
unfolding and_then provided byte_of signed16 number_of reading.number numbers removals procedure statement_kind condition_kind optional fields known
    opening contents two condition_of condition statement_of statement statements trees read_table range delete remove remove_all holds member call_faults
    faults call_faults_within program_faults calls reaches_below is_empty lacks_removal width any_below any_lacks_removal any_too_wide bits16 number_bytes
    numbers_bytes where_stands field_bytes condition_bytes head_bytes statement_bytes statements_bytes write_table inverse inverse_program after require outcome
    accepted inverse_table
worked = record { turned_round = refl; turned_back = refl; pairs_kept = refl; room_too_short = refl; fault_first = refl }
