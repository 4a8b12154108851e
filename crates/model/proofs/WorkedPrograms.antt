-- The worked programs of document 01, proved together: the table of examples, the order of refusals, five circuits byte for byte, four
-- programs whose circuits are compared with their runs on every word, and the listing.
use Prim.Native.Nat.{ℕ, ◌^◌}
use mathlib.Core.Path.{◌≡◌, refl}
use mathlib.Core.List.{List, [], ◌∷◌, ◌++◌, map}
use Rattle.model.specs.Limits.{most_circuit, least_workspace}
use Rattle.model.specs.Examples.{
  Example,
  examples,
  examples_left,
  orders,
  Compared,
  compared,
  pairs,
  pairs_circuit,
  pairs_listing,
  needs_swap,
  swap_circuit,
  equal_lengths,
  equal_circuit,
  two_entries,
  entries_circuit,
  right_part,
  right_circuit,
}
use Rattle.model.specs.Reading.{
  and_then,
  provided,
  byte_of,
  signed16,
  number_of,
  numbers,
  removals,
  procedure,
  statement_kind,
  condition_kind,
  optional,
  fields,
  known,
  opening,
  contents,
  two,
  condition_of,
  condition,
  statement_of,
  statement,
  statements,
  trees,
  read_table,
}
use Rattle.model.specs.Reading as reading
use Rattle.model.specs.Lists.{range, delete, remove, remove_all, holds, member}
use Rattle.model.specs.Faults.{call_faults, faults, call_faults_within, program_faults}
use Rattle.model.specs.Meaning.{update, flipped, state_of, digit, word_from, call_does, does, call_does_within, end_state, end_word}
use Rattle.model.specs.Reach.{calls, reaches_below, is_empty, lacks_removal, width, any_below, any_lacks_removal, any_too_wide}
use Rattle.model.specs.Gates.{insert, asked, with_control, swap_of, exchange, renamed, all_one, all_zero, fires, act, acts}
use Rattle.model.specs.Emission.{
  start_chain,
  whole,
  invoked,
  invocations,
  invokes,
  returns,
  left,
  right,
  swaps,
  entry_gates,
  all_entry_gates,
  insert_key,
  keys,
  calls_to,
  around,
  shared,
  bodies,
  bodies_from,
  chains_within,
  emission,
  gates,
  below,
  in_use,
  peak,
}
use Rattle.model.specs.Circuit.{
  list_bit,
  list_bytes,
  encode,
  encode_all,
  four_bytes,
  write,
  wires,
  controls_of,
  ascends,
  distinct,
  within,
  lower_first,
  gate_is_well_formed,
  bytes,
  wire_list,
  gate_of,
  read_gate,
  read_gates,
  four_byte_number,
  circuit_of,
  read_circuit,
  block_from,
  block_of,
  circuit_block,
}
use Rattle.model.specs.Answers.{
  Outcome,
  gives,
  refuses,
  after,
  require,
  outcome,
  number,
  value_or,
  accepted,
  run,
  fit,
  fitted,
  circuit,
  compile,
  Block,
  well_formed,
  circuit_run,
}
use Rattle.model.specs.Listing.{digits_within, hyphens, placed, control_text, action_text, gate_lines, listed, listing}

pub record Result : Type 0 where
  pub number : ℕ
  pub end_word : ℕ

abbrev pub stated : Example → Result
stated e = record { number = e.number; end_word = e.end_word }

abbrev pub computed : Example → Result
computed e = record { number = number (run e.table e.n e.word e.workspace); end_word = value_or 0 (run e.table e.n e.word e.workspace) }

-- the bits that the run of a table's circuit ends with, and the block of the table's own end word
abbrev circuit_bits : Compared → ℕ → List ℕ
circuit_bits e word = bits_of (circuit_run (value_or [] (compile e.table e.n most_circuit least_workspace)) word)
  where
    bits_of : Outcome Block → List ℕ
    bits_of (gives b) = b.bits
    bits_of (refuses k) = []

abbrev run_bits : Compared → ℕ → List ℕ
run_bits e word = block_of (state_of (value_or 0 (run e.table e.n word least_workspace)))

-- what is proved of the worked programs
pub record Facts : Type 0 where
  pub examples_hold : map computed (examples ++ examples_left ++ orders) ≡ map stated (examples ++ examples_left ++ orders)
  -- the circuit of PAIRS, and the circuit of a body that needs a swap
  pub pairs_emitted : compile pairs 3 most_circuit least_workspace ≡ gives pairs_circuit
  pub swap_emitted : compile needs_swap 4 most_circuit least_workspace ≡ gives swap_circuit
  -- circuits that fix orders which the meaning leaves free: of bodies with equal lengths, of entries, of what goes right
  pub bodies_in_order : compile equal_lengths 2 most_circuit least_workspace ≡ gives equal_circuit
  pub entries_in_order : compile two_entries 5 most_circuit least_workspace ≡ gives entries_circuit
  pub right_part_emitted : compile right_part 2 most_circuit least_workspace ≡ gives right_circuit
  -- from every start word, each circuit ends as the run does, with every ancilla at zero
  pub circuits_agree :
      map (λ (e : Compared). map (circuit_bits e) (range (2 ^ e.n) 0)) compared ≡
      map (λ (e : Compared). map (run_bits e) (range (2 ^ e.n) 0)) compared
  -- the listing of PAIRS at n = 3, of empty input, and of a table that is refused
  pub pairs_listed : listing (3 ∷ pairs) ≡ pairs_listing
  pub empty_listed : listing [] ≡ 0x39 ∷ 0x0a ∷ []
  pub refusal_listed : listing (3 ∷ []) ≡ 0x31 ∷ 0x0a ∷ []

pub worked : Facts
unfolding and_then provided byte_of signed16 number_of reading.number numbers removals procedure statement_kind condition_kind optional fields known
    opening contents two condition_of condition statement_of statement statements trees read_table range delete remove remove_all holds member call_faults
    faults call_faults_within program_faults update flipped state_of digit word_from call_does does call_does_within end_state end_word calls reaches_below
    is_empty lacks_removal width any_below any_lacks_removal any_too_wide after require outcome number value_or accepted run insert asked with_control swap_of exchange
    start_chain whole invoked invocations invokes returns left right swaps entry_gates all_entry_gates insert_key keys calls_to around shared bodies bodies_from chains_within
    emission gates below in_use peak list_bit list_bytes encode encode_all four_bytes write fit fitted circuit compile renamed all_one all_zero fires act
    acts ascends distinct within lower_first gate_is_well_formed bytes wire_list gate_of read_gate read_gates four_byte_number circuit_of read_circuit block_from
    circuit_block wires controls_of well_formed circuit_run digits_within hyphens placed control_text action_text gate_lines listed listing
worked = record {
  examples_hold = refl;
  pairs_emitted = refl;
  swap_emitted = refl;
  bodies_in_order = refl;
  entries_in_order = refl;
  right_part_emitted = refl;
  circuits_agree = refl;
  pairs_listed = refl;
  empty_listed = refl;
  refusal_listed = refl;
}
