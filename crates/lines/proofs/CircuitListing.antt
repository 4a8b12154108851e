-- The listing of a circuit: what the loop over its gates keeps, and what `put_listing` leaves.
use mathlib.Core.Path.{◌≡◌, refl, sym, ap}
use mathlib.Core.List.{List, [], ◌∷◌, ◌++◌}
use Prim.Native.Nat.{ℕ, zero, suc, ◌+◌, ◌-◌, ◌≤◌, ◌<◌}
use native.Mathlib.Omega.{arith}
use lib.Dec.{eqb}
use lib.ListN.{length}
use Rattle.model.specs.Limits.{success, not_well_formed}
use Rattle.model.specs.Reading.{Input, Parsed, parsed, refused, and_then, provided}
use Rattle.model.specs.Gates as model
use Rattle.model.specs.Circuit.{Circuit, read_gate, read_gates, whole_circuit}
use Rattle.model.specs.Answers.{gives, refuses, well_formed, circuit_read}
use Rattle.model.specs.Listing.{gate_line, gate_lines, circuit_listing}
use Rattle.model.proofs.BooleanLaws.{by_bool}
use Rattle.circuit.specs.GatesInBytes.{input_of, settled, gate_in, gate_written}
use Rattle.circuit.specs.declared.Gate.{Gate}
use Rattle.circuit.specs.declared.Header.{Header}
use Rattle.circuit.specs.Header.{gates_after}
use Rattle.circuit.proofs.GateReading.{settled_parsed, read_written}
use Rattle.answers.specs.Structs.{header_of}
use Rattle.answers.specs.declared.CircuitHeader.{CircuitHeader}
use Rattle.text.specs.declared.Writer.{Writer}
use Rattle.text.specs.AppendedBytes.{puts}
use Rattle.text.proofs.AppendLaws.{put_after}
use Rattle.lines.specs.ListingRows.{line_then, lines_read, listing_read}

-- the line of the next gate, then the others
lines_more : (k count : ℕ) (i : Input) → k ≤ count →
    lines_read k (count + 1 - k) i ≡ line_then k (gate_written i) (lines_read (k + 1) (count + 1 - (k + 1)))
unfolding lines_read
lines_more k count i h =
    let one : count + 1 - k ≡ suc (count + 1 - (k + 1)) = omega arith in
    let next : suc k ≡ k + 1 = omega arith in
    rw (one, lines_read, next)

-- what is no gate has no line
no_line : (k : ℕ) (p : Parsed model.Gate) (others : Input → List ℕ) → refused not_well_formed ≡ settled p → line_then k p others ≡ []
unfolding settled line_then
no_line k (parsed g i) others e = let z : ◌≡◌ {A = ℕ} 0 1 = cc in absurd (omega arith)
no_line k (refused r) others e = refl

-- what the loop of `gate_lines` keeps
module _ (bs : List ℕ) (k count : ℕ) (w whole : Writer) (inv : whole ≡ puts (lines_read k (count + 1 - k) (input_of bs)) w) where
  pub lines_end : count < k → w ≡ whole
  unfolding lines_read puts
  lines_end l = let none : count + 1 - k ≡ 0 = omega arith in rw (inv, none)

  pub lines_bad : k ≤ count → refused not_well_formed ≡ settled (gate_written (input_of bs)) → w ≡ whole
  unfolding puts
  lines_bad l e = rw (inv, lines_more k count (input_of bs) l, no_line k (gate_written (input_of bs)) _ e)

  pub lines_next : k ≤ count → (g : Gate) (behind : List ℕ) → parsed (gate_in g) (input_of behind) ≡ settled (gate_written (input_of bs)) →
      (w₁ : Writer) → w₁ ≡ puts (gate_line k (gate_in g)) w → whole ≡ puts (lines_read (k + 1) (count + 1 - (k + 1)) (input_of behind)) w₁
  unfolding line_then
  lines_next l g behind p w₁ q =
      let found : gate_written (input_of bs) ≡ parsed (gate_in g) (input_of behind) = settled_parsed (gate_written (input_of bs)) (gate_in g) (input_of behind) p in
      rw (inv, lines_more k count (input_of bs) l, found) (put_after (gate_line k (gate_in g)) (lines_read (k + 1) (count + 1 - (k + 1)) (input_of behind)) w w₁ q)

-- the lines of gates that were read are the lines of the gates: the first of them, and those behind it
lines_first : (most k n : ℕ) (i j : Input) (gs : List model.Gate) →
    ((l m : Input) (hs : List model.Gate) → read_gates most n l ≡ parsed hs m → lines_read (suc k) n l ≡ gate_lines (suc k) hs) →
    read_gates most (suc n) i ≡ parsed gs j → line_then k (gate_written i) (lines_read (suc k) n) ≡ gate_lines k gs
unfolding read_gates and_then line_then gate_lines
lines_first most k n i j gs rest e = go (read_gate most i) refl e
  where
    behind : (l : Input) (g : model.Gate) (p : Parsed (List model.Gate)) → read_gates most n l ≡ p → and_then p (λ hs m. parsed (g ∷ hs) m) ≡ parsed gs j →
        gate_line k g ++ lines_read (suc k) n l ≡ gate_lines k gs
    behind l g (parsed hs m) q f =
        let same : g ∷ hs ≡ gs = cc in
        rw (← same, rest l m hs q)
    behind l g (refused r) q f = let z : ◌≡◌ {A = ℕ} 0 1 = cc in absurd (omega arith)

    go : (p : Parsed model.Gate) → read_gate most i ≡ p → and_then p (λ g l. and_then (read_gates most n l) (λ hs m. parsed (g ∷ hs) m)) ≡ parsed gs j →
        line_then k (gate_written i) (lines_read (suc k) n) ≡ gate_lines k gs
    go (parsed g l) q f = rw (read_written most i l g q) (behind l g (read_gates most n l) refl f)
    go (refused r) q f = let z : ◌≡◌ {A = ℕ} 0 1 = cc in absurd (omega arith)

lines_are : (most k n : ℕ) (i j : Input) (gs : List model.Gate) → read_gates most n i ≡ parsed gs j → lines_read k n i ≡ gate_lines k gs
unfolding read_gates lines_read gate_lines
lines_are most k zero i j [] e = refl
lines_are most k zero i j (g ∷ gs) e = let z : [] ≡ g ∷ gs = cc in cc
lines_are most k (suc n) i j gs e = lines_first most k n i j gs (λ l m hs q. lines_are most (suc k) n l m hs q) e

-- a header and the bytes behind it, of a circuit that was read: what is listed of them is the circuit's listing
pub listing_is : (bs : List ℕ) (h : Header) (l : List ℕ) → well_formed (whole_circuit h.qubits h.ancillas (gates_after h l)) ≡ circuit_read bs →
    record { number = success; qubits = h.qubits; ancillas = h.ancillas; gates = h.gates } ≡ header_of (circuit_read bs) →
    (c : Circuit) × (circuit_read bs ≡ gives c) × (listing_read h l ≡ circuit_listing c)
unfolding and_then provided well_formed header_of
listing_is bs h l whole header = go (gates_after h l) refl whole
  where
    none : circuit_read bs ≡ refuses not_well_formed → (c : Circuit) × (circuit_read bs ≡ gives c) × (listing_read h l ≡ circuit_listing c)
    none e =
        let f = rw e at header in
        let z : ◌≡◌ {A = ℕ} success not_well_formed = ap (λ (y : CircuitHeader). y.number) f in
        absurd (omega arith)

    go : (p : Parsed (List model.Gate)) → gates_after h l ≡ p → well_formed (whole_circuit h.qubits h.ancillas p) ≡ circuit_read bs →
        (c : Circuit) × (circuit_read bs ≡ gives c) × (listing_read h l ≡ circuit_listing c)
    go (parsed gs o) q e = by_bool (eqb (length o.bytes) 0)
        (λ b. let given : circuit_read bs ≡ gives (record { data_wires = h.qubits; ancillas = h.ancillas; gates = gs }) = sym (rw b at e) in
        let f = rw given at header in
        let count : h.gates ≡ length gs = ap (λ (y : CircuitHeader). y.gates) f in
        (record { data_wires = h.qubits; ancillas = h.ancillas; gates = gs }, given, rw (lines_are h.wires 1 h.gates (input_of l) o gs q, count)))
        (λ b. none (sym (rw b at e)))
    go (refused k) q e = none (sym e)
