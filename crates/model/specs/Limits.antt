-- Every limit and every refusal of document 01, by name, and those of document 02 that C is to know.
use Rattle.std.specs.Prelude.{ℕ}

-- "Byte 0 is the edition, 1." "Byte 1 is p, the number of procedures, 0 to 16."
abbrev pub table_edition : ℕ
table_edition = 1

abbrev pub most_procedures : ℕ
most_procedures = 16

-- "At most 255 records; a tree is at most 32 records deep."
abbrev pub most_records : ℕ
most_records = 255

abbrev pub most_depth : ℕ
most_depth = 32

-- "removals: a count byte 1 to 8"
abbrev pub most_removals : ℕ
most_removals = 8

-- "n is 1 to 32", of a table's run (9) and of a circuit (14); "that sum is at most 255": a circuit's wires (14, 22)
abbrev pub most_qubits : ℕ
most_qubits = 32

abbrev pub most_wires : ℕ
most_wires = 255

-- "Edition byte 1, n, ancilla byte .., gate count in 4 bytes little-endian"; "at most 65,536 long"
abbrev pub circuit_edition : ℕ
circuit_edition = 1

abbrev pub header_length : ℕ
header_length = 7

abbrev pub most_circuit : ℕ
most_circuit = 65536

-- document 02, S-1: the longest band of a page, a line of 80 columns and a newline for each wire
abbrev pub most_band : ℕ
most_band = 20655

-- a text that is long enough for every listing: six bytes for each byte of the longest circuit
abbrev pub most_listing : ℕ
most_listing = 393216

-- "one block of 32 bytes"
abbrev pub block_length : ℕ
block_length = 32

-- the shortest workspace that is long enough: "shorter than 32,768 bytes" is refused
abbrev pub least_workspace : ℕ
least_workspace = 32768

-- "Success is number 0"
abbrev pub success : ℕ
success = 0

-- "Refusals from the input"

-- "1 the table stops too soon"
abbrev pub table_stops : ℕ
table_stops = 1

-- "2 edition"
abbrev pub wrong_edition : ℕ
wrong_edition = 2

-- "3 p over 16"
abbrev pub many_procedures : ℕ
many_procedures = 3

-- "4 kind unknown, or condition and statement exchanged"
abbrev pub wrong_kind : ℕ
wrong_kind = 4

-- "5 map"
abbrev pub wrong_map : ℕ
wrong_map = 5

-- "6 removal count, base or procedure byte"
abbrev pub wrong_field : ℕ
wrong_field = 6

-- "7 too deep, or a 256th record"
abbrev pub too_deep : ℕ
too_deep = 7

-- "8 bytes left over"
abbrev pub bytes_left : ℕ
bytes_left = 8

-- "9 n not 1 to 32"
abbrev pub wrong_qubits : ℕ
wrong_qubits = 9

-- "10 recursive call without removal"
abbrev pub no_removal : ℕ
no_removal = 10

-- "11 width over 1"
abbrev pub too_wide : ℕ
too_wide = 11

-- "12 access fault"
abbrev pub access_fault : ℕ
access_fault = 12

-- "13 a start word with a bit at n or above"
abbrev pub high_bit : ℕ
high_bit = 13

-- "14 circuit not well formed"
abbrev pub not_well_formed : ℕ
not_well_formed = 14

-- "Refusals from the state"

-- "21 workspace shorter than 32,768 bytes"
abbrev pub short_workspace : ℕ
short_workspace = 21

-- "22 a wire number above 255 would be taken"
abbrev pub many_wires : ℕ
many_wires = 22

-- "23 header or next gate would pass the room's end"; a listing, its text's end
abbrev pub no_room : ℕ
no_room = 23

-- document 02, S-5: "24, the table's room is shorter than the source table"
abbrev pub short_table_room : ℕ
short_table_room = 24
