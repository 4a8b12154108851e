-- What a plan promises: its pairs are the swaps of the emission, and the entries of the lookup that were read and written for them are counted.
use Rattle.std.specs.Prelude.{ℕ, ◌+◌, ◌*◌, ◌≤◌, ◌<◌, min, ◌≡◌, true, cond, List, [], ◌∷◌, ◌++◌, length, take, eqb}
use Rattle.model.specs.Limits.{most_wires}
use Rattle.model.specs.Lists.{member}
use Rattle.model.specs.Gates.{swap_of, exchange}
use Rattle.model.specs.Emission.{Event, places, under, swaps}
use Rattle.lookup.specs.declared.Lookup.{Lookup}
use Rattle.lookup.specs.declared.plan.Plan.{Plan}
use Rattle.lookup.specs.Entries.{wire_at, qubit_at, Sized}

-- the swaps of a plan
abbrev pub pairs_of : Plan → List (ℕ × ℕ)
pairs_of r = take r.len r.pairs

-- pairs of wires swapped in order, under the ancilla e
unfoldable pub swaps_along : ℕ → List (ℕ × ℕ) → List Event
swaps_along e [] = []
swaps_along e (p ∷ ps) = places (swap_of (under e) p.0 p.1) ∷ swaps_along e ps

-- a list of qubits 1 to n
abbrev pub Within : ℕ → List ℕ → Type 0
Within n l = (w : ℕ) → member w l ≡ true → (0 < w) × (w ≤ n)

-- for lists of qubits 1 to n the pairs are exactly the definition's swaps
pub data PlansSwaps (n : ℕ) (first later : List ℕ) (r : Plan) : Type 0 where
  same_swaps : (Within n first → Within n later → (e : ℕ) → swaps_along e (pairs_of r) ≡ swaps e first later) → PlansSwaps n first later r

-- the wire that holds a qubit, and the qubit that a wire holds, after swaps of pairs of wires: at first each qubit is on its own wire
unfoldable pub holder : List (ℕ × ℕ) → ℕ → ℕ
holder [] q = q
holder (p ∷ ps) q = holder ps (exchange p.0 p.1 q)

unfoldable pub held : List (ℕ × ℕ) → ℕ → ℕ
held [] w = w
held (p ∷ ps) w = exchange p.0 p.1 (held ps w)

-- the swaps leave the n qubits on the n wires
pub record Inside (n : ℕ) (ps : List (ℕ × ℕ)) : Type 0 where
  pub wires : (q : ℕ) → q ≤ n → holder ps q ≤ n
  pub qubits : (w : ℕ) → w ≤ n → held ps w ≤ n

-- "it names exactly the wire that holds each qubit", of n qubits, `ps` being the swaps so far; and for each wire the qubit that it holds. It has an entry for each
pub record Names (n : ℕ) (l : Lookup) (ps : List (ℕ × ℕ)) : Type 0 where
  pub wires : (q : ℕ) → q ≤ n → wire_at l q ≡ holder ps q
  pub qubits : (w : ℕ) → w ≤ n → qubit_at l w ≡ held ps w
  pub inside : Inside n ps
  pub sized : Sized l

-- "unless equal": the pair of one k, or none
abbrev pub pair_of : ℕ → ℕ → List (ℕ × ℕ)
pair_of from to = cond (eqb from to) [] ((from, to) ∷ [])

-- "Build that lookup before the loop and update it at each swap: before each k it names exactly the wire that holds each qubit." One k, of qubit q and wire
-- `to`: where the lookup l names the wires after the swaps ps, the wire that holds q is swapped with `to`, unless equal, and afterwards the lookup names the
-- wires after all swaps until then
pub data PlansSwap (q to : ℕ) (l : Lookup) (ps : List (ℕ × ℕ)) (l₁ : Lookup) (ps₁ : List (ℕ × ℕ)) : Type 0 where
  names_again : ((n : ℕ) → n ≤ most_wires → q ≤ n → to ≤ n → Names n l ps → (ps₁ ≡ ps ++ pair_of (holder ps q) to) × Names n l₁ ps₁) →
      PlansSwap q to l ps l₁ ps₁

unfoldable pub swap_count : ℕ → ℕ → ℕ
swap_count from to = cond (eqb from to) 0 1

-- "Building and loop read and write": two entries for each qubit, one for each k, and five more for each swap
abbrev pub entries_touched : ℕ → List ℕ → List ℕ → ℕ → ℕ
entries_touched n first later swaps = 2 * n + min (length first) (length later) + 5 * swaps
