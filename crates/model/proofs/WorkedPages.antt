-- Worked pages: PAIRS at n = 3, a circuit of twenty gates in two bands, and bytes that are no circuit.
use mathlib.Core.Path.{◌≡◌, refl}
use mathlib.Core.List.{[], ◌∷◌}
use Rattle.model.specs.Reading.{and_then, provided, byte_of, optional}
use Rattle.model.specs.Lists.{member}
use Rattle.model.specs.Gates.{targets}
use Rattle.model.specs.Circuit.{
  wires,
  controls_of,
  ascends,
  distinct,
  within,
  lower_first,
  gate_is_well_formed,
  bytes,
  wire_list,
  gate_of,
  read_gate,
  read_gates,
  four_byte_number,
  circuit_of,
  read_circuit,
}
use Rattle.model.specs.Answers.{well_formed}
use Rattle.model.specs.Listing.{digits_within}
use Rattle.model.specs.Page.{letter, lowest, highest, between, mark, marks, rows, bands, page, paged, page_of}
use Rattle.model.specs.Examples.{pairs_circuit, pairs_page, twenty_nots, twenty_page}

pub record Facts : Type 0 where
  pub pairs_paged : page_of pairs_circuit ≡ pairs_page
  pub twenty_paged : page_of twenty_nots ≡ twenty_page
  pub refusal_paged : page_of [] ≡ 0x31 ∷ 0x34 ∷ 0x0a ∷ []

pub worked : Facts
unfolding and_then provided byte_of optional member wires controls_of ascends distinct within lower_first gate_is_well_formed bytes wire_list gate_of read_gate
    read_gates four_byte_number circuit_of read_circuit well_formed digits_within targets letter lowest highest between mark marks rows bands page paged
worked = record { pairs_paged = refl; twenty_paged = refl; refusal_paged = refl }
