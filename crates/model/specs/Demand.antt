-- "What demand 3 compares": what holds of the bytes that compile gives for a table and n.
use Rattle.std.specs.Prelude.{ℕ, ◌*◌, ◌-◌, ◌^◌, ◌≤◌, ◌<◌, ◌≡◌, false, List, [], length}
use Rattle.model.specs.Limits.{least_workspace, block_length}
use Rattle.model.specs.Syntax.{Program}
use Rattle.model.specs.Meaning.{bit, state_of, end_word}
use Rattle.model.specs.Emission.{emission, gates, peak}
use Rattle.model.specs.Circuit.{write, wire_bit, block_of}
use Rattle.model.specs.Bound.{gate_bound}
use Rattle.model.specs.Answers.{gives, accepted, circuit, run, circuit_read, Block, circuit_run}

pub record Demand3 (table : List ℕ) (n : ℕ) (bytes : List ℕ) : Type 0 where
  -- the program of the table, which is accepted at n
  pub program : Program
  pub accepts : accepted table n ≡ gives program
  -- "The room's bytes up to the length given are exactly the header and gates of the emission"
  pub written : bytes ≡ write (circuit program n)
  -- "the header's ancilla count is the most ancillas in use at one time, its gate count the number of gates emitted": reading the bytes gives both
  pub reads : circuit_read bytes ≡ gives (record { data_wires = n; ancillas = peak [] (emission program n); gates = gates (emission program n) })
  -- "and that is at most the bound"
  pub bounded : length (gates (emission program n)) ≤ gate_bound program n
  -- "The circuit run on those bytes and that word gives 0 and its block."
  pub runs : (word : ℕ) → word < 2 ^ n →
      circuit_run bytes word ≡ gives (record { data_wires = n; ancillas = peak [] (emission program n); bits = block_of (state_of (end_word program n word)) })
  -- "In the block, wire i from 1 to n holds bit i − 1 of the end word under Meaning"
  pub holds : (word : ℕ) → word < 2 ^ n → (block : Block) → circuit_run bytes word ≡ gives block →
      (i : ℕ) → 1 ≤ i → i ≤ n → wire_bit block.bits i ≡ bit (end_word program n word) (i - 1)
  -- ".. and every other bit is zero": of the ancillas, and past the last wire
  pub zeros : (word : ℕ) → word < 2 ^ n → (block : Block) → circuit_run bytes word ≡ gives block →
      (w : ℕ) → n < w → w ≤ 8 * block_length → wire_bit block.bits w ≡ false
  -- "which run answers wherever its workspace is long enough"
  pub answers : (word workspace : ℕ) → word < 2 ^ n → least_workspace ≤ workspace → run table n word workspace ≡ gives (end_word program n word)
