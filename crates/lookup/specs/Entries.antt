-- The entries of a lookup as the code keeps them: for each qubit the wire that holds it, and for each wire the qubit that it holds; and how many were read and written.
use Rattle.std.specs.Prelude.{ℕ, zero, suc, ◌+◌, min, ◌≡◌, cond, length, get_or, set, replicate, eqb, Option, Some, None}
use Rattle.limits.specs.Sizes.{wire_count, most_count}
use Rattle.lookup.specs.declared.Lookup.{Lookup}

-- one access more. A count has 16 bits and goes no further: no plan comes near that.
abbrev pub raised : ℕ → ℕ
raised count = min (count + 1) most_count

-- so many accesses more
unfoldable pub counted : ℕ → ℕ → ℕ
counted count zero = count
counted count (suc more) = raised (counted count more)

-- the wire that holds qubit q, and the qubit that wire w holds
abbrev pub wire_at : Lookup → ℕ → ℕ
wire_at l q = get_or l.wires q 0

abbrev pub qubit_at : Lookup → ℕ → ℕ
qubit_at l w = get_or l.qubits w 0

-- an entry for each number of a wire, in both directions
pub record Sized (l : Lookup) : Type 0 where
  pub wires : length l.wires ≡ wire_count
  pub qubits : length l.qubits ≡ wire_count

-- so many entries read
abbrev pub touched : Lookup → ℕ → Lookup
touched l entries = record { wires = l.wires; qubits = l.qubits; count = counted l.count entries }

-- qubit q put on wire w: two entries
unfoldable pub kept : Lookup → ℕ → ℕ → Lookup
kept l q w = record { wires = set l.wires q w; qubits = set l.qubits w q; count = counted l.count 2 }

-- a lookup of no qubit
unfoldable pub empty : Lookup
empty = record { wires = replicate wire_count 0; qubits = replicate wire_count 0; count = 0 }

-- each qubit from 1 on put on its own wire
unfoldable pub built : Lookup → ℕ → Lookup
built l zero = l
built l (suc q) = kept (built l q) (suc q) (suc q)

-- qubit q goes from its wire to another, and the qubit that it pushes away from there goes where q was
unfoldable pub pushed : Lookup → ℕ → ℕ → ℕ → Lookup
pushed l q from to = kept (kept (touched l 1) q to) (qubit_at l to) from

-- one k: unless qubit q is on wire `to` already, it goes there
unfoldable pub tracked : Lookup → ℕ → ℕ → Lookup
tracked l q to = cond (eqb (wire_at l q) to) (touched l 1) (pushed (touched l 1) q (wire_at l q) to)

-- the wire where qubit q was, if it goes
unfoldable pub moved : Lookup → ℕ → ℕ → Option ℕ
moved l q to = cond (eqb (wire_at l q) to) None (Some (wire_at l q))

-- how many entries that reads and writes
unfoldable pub accesses : Lookup → ℕ → ℕ → ℕ
accesses l q to = cond (eqb (wire_at l q) to) 1 6
