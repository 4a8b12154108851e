-- The refusals' numbers.
use Rattle.std.specs.Prelude.{ℕ}
use Rattle.model.specs.Limits.{
  table_stops,
  wrong_edition,
  many_procedures,
  wrong_kind,
  wrong_map,
  wrong_field,
  too_deep,
  bytes_left,
  wrong_qubits,
  no_removal,
  too_wide,
  access_fault,
  high_bit,
  not_well_formed,
  short_workspace,
  many_wires,
  no_room,
  short_table_room,
}
use Rattle.limits.specs.declared.Refusal.{Refusal}
use Rattle.limits.specs.declared.Refusal.TheVariants.{
  TableStops,
  WrongEdition,
  ManyProcedures,
  WrongKind,
  WrongMap,
  WrongField,
  TooDeep,
  BytesLeft,
  WrongQubits,
  NoRemoval,
  TooWide,
  AccessFault,
  HighBit,
  NotWellFormed,
  ShortWorkspace,
  ManyWires,
  NoRoom,
  ShortTableRoom,
}

-- "Refusals from the input" and "refusals from the state": the number of each
abbrev pub number_of : Refusal → ℕ
number_of TableStops = table_stops
number_of WrongEdition = wrong_edition
number_of ManyProcedures = many_procedures
number_of WrongKind = wrong_kind
number_of WrongMap = wrong_map
number_of WrongField = wrong_field
number_of TooDeep = too_deep
number_of BytesLeft = bytes_left
number_of WrongQubits = wrong_qubits
number_of NoRemoval = no_removal
number_of TooWide = too_wide
number_of AccessFault = access_fault
number_of HighBit = high_bit
number_of NotWellFormed = not_well_formed
number_of ShortWorkspace = short_workspace
number_of ManyWires = many_wires
number_of NoRoom = no_room
number_of ShortTableRoom = short_table_room
