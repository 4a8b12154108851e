-- Numbers that the code needs beside document 01's limits and refusals: of the form of a table, and the sizes of what the code keeps, each of which
-- follows from the limits.
use Rattle.std.specs.Prelude.{ℕ, ◌+◌, ◌-◌, ◌*◌, ◌^◌}
use Rattle.model.specs.Limits.{most_procedures, most_qubits, most_wires, block_length}
use Rattle.model.specs.Page.{number_columns, band_gates}

-- "Kinds: 0 skip; .. 5 call, procedure; 6 a > b; .. 11 not, one condition": kinds from 6 on are conditions
abbrev pub kind_count : ℕ
kind_count = 12

abbrev pub first_condition : ℕ
first_condition = 6

-- "a signed 16-bit constant": the greatest
abbrev pub most_constant : ℕ
most_constant = 32767

-- the bodies of a table: main and each procedure
abbrev pub body_count : ℕ
body_count = most_procedures + 1

-- the lengths of a list of qubits: 0 to the most
abbrev pub length_count : ℕ
length_count = most_qubits + 1

-- a set of qubits is a word: it has a member for each bit at most
abbrev pub set_length : ℕ
set_length = 64

-- what a body touches of a list: a row for each body and each length
abbrev pub row_count : ℕ
row_count = body_count * length_count

-- a place in a table is kept in 16 bits: reading comes to none past them
abbrev pub place_count : ℕ
place_count = 2 ^ 16

-- a swap under one control: map, target, count, control, second wire
abbrev pub swap_length : ℕ
swap_length = 5

-- the numbers of wires, 0 among them, which is none
abbrev pub wire_count : ℕ
wire_count = most_wires + 1

-- the entries of a lookup that are read and written are counted in 16 bits, and no further
abbrev pub most_count : ℕ
most_count = 2 ^ 16 - 1

-- the wires whose bits stand in a block
abbrev pub block_bits : ℕ
block_bits = 8 * block_length

-- "nineteen gates fill a line of 80": the wire number's columns and four for each gate
abbrev pub line_columns : ℕ
line_columns = number_columns + 4 * band_gates
