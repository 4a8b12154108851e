-- The bytes of gates and circuits and what they are read to determine each other.
use mathlib.Core.Path.{◌≡◌, refl, sym, ap, ap₂, ◌∙◌, subst}
use mathlib.Core.Bool.{Bool, true, false, ◌&&◌}
use mathlib.Core.List.{List, [], ◌∷◌, ◌++◌, append_assoc, append-nil}
use Prim.Native.Nat.{ℕ, zero, suc, ◌+◌, ◌*◌, ◌/◌, ◌%◌, ◌^◌, ◌≤◌, ◌<◌, zero-le, suc-le-suc}
use native.Mathlib.Nat.{add-zero, div-div-eq-div-mul, div-eq_of_lt-le, mod-eq_of_lt, add-mul-mod_self_left}
use native.Mathlib.Omega.{arith}
use borrow.Author.Tests.{le-leb, leb-true, ltb-true, eqb-true}
use lib.ListN.{length, get_or, drop, length-append}
use lib.Dec.{eqb, ltb, leb}
use Rattle.model.specs.Limits.{most_qubits, most_wires, most_circuit, header_length, circuit_edition, not_well_formed}
use Rattle.model.specs.Reading.{Input, Parsed, parsed, refused, and_then, provided, byte_of, optional, stands}
use Rattle.model.specs.Gates.{Controls, Gate, flip, swap}
use Rattle.model.specs.Circuit.{Circuit, list_bit, list_bytes, control_map, control_bytes, encode, encode_all, four_bytes, write}
use Rattle.model.specs.Circuit.{wires, controls_of, ascends, distinct, within, lower_first, gate_is_well_formed}
use Rattle.model.specs.Circuit.{bytes, wire_list, gate_of, read_gate, read_gates, four_byte_number, circuit_of, read_circuit}
use Rattle.model.specs.Answers.{gives, well_formed, circuit_read}
use Rattle.model.proofs.BooleanLaws.{and_left, and_right}
use Rattle.model.proofs.ReadingLaws.{Reads, reads_then, reads_provided, reads_less, after_byte, Anyhow, valued, no_bytes}

-- these bytes are left, behind k records
abbrev pub left : List ℕ → ℕ → Input
left bs k = record { bytes = bs; records = k }

-- as many bytes as a list has are the list
bytes_back : (l rest : List ℕ) (k : ℕ) → bytes (length l) (left (l ++ rest) k) ≡ parsed l (left rest k)
unfolding bytes and_then byte_of
bytes_back [] rest k = refl
bytes_back (w ∷ l) rest k = rw (bytes_back l rest k)

-- does a list have a wire?
abbrev has_wire : List ℕ → Bool
has_wire [] = false
has_wire (w ∷ l) = true

-- a list of controls is read back, where its bit stands as it should
list_back : (l rest : List ℕ) (k : ℕ) → optional (has_wire l) wire_list [] (left (list_bytes l ++ rest) k) ≡ parsed l (left rest k)
unfolding optional wire_list list_bytes and_then byte_of provided
list_back [] rest k = refl
list_back (w ∷ l) rest k = rw (le-leb 1 (suc (length l)) (suc-le-suc zero-le)) (bytes_back (w ∷ l) rest k)

-- a map byte says which lists of controls there are, and whether the gate is a swap
abbrev MapHas : ℕ → Bool → List ℕ → List ℕ → Type 0
MapHas map b ones zeros = (ltb map 8 ≡ true) × (stands 0 map ≡ has_wire ones) × (stands 1 map ≡ has_wire zeros) × (stands 2 map ≡ b)

flip_map : (x y : List ℕ) → MapHas (list_bit 1 x + list_bit 2 y) false x y
unfolding list_bit
flip_map [] [] = (refl, refl, refl, refl)
flip_map [] (v ∷ y) = (refl, refl, refl, refl)
flip_map (u ∷ x) [] = (refl, refl, refl, refl)
flip_map (u ∷ x) (v ∷ y) = (refl, refl, refl, refl)

swap_map : (x y : List ℕ) → MapHas (list_bit 1 x + list_bit 2 y + 4) true x y
unfolding list_bit
swap_map [] [] = (refl, refl, refl, refl)
swap_map [] (v ∷ y) = (refl, refl, refl, refl)
swap_map (u ∷ x) [] = (refl, refl, refl, refl)
swap_map (u ∷ x) (v ∷ y) = (refl, refl, refl, refl)

-- a gate is read back behind its map, its target and its controls
gate_back : (most map t : ℕ) (b : Bool) (cs : Controls) (g : Gate) (more rest : List ℕ) (k : ℕ) →
    MapHas map b cs.ones cs.zeros → gate_is_well_formed most g ≡ true → gate_of b cs t (left more k) ≡ parsed g (left rest k) →
    read_gate most (left (map ∷ t ∷ (control_bytes cs ++ more)) k) ≡ parsed g (left rest k)
unfolding read_gate and_then byte_of provided
gate_back most map t b cs g more rest k bits ok e =
    rw (bits.0, bits.1, bits.2, bits.3, append_assoc (list_bytes cs.ones) (list_bytes cs.zeros) more)
    (rw (list_back cs.ones (list_bytes cs.zeros ++ more) k) (rw (list_back cs.zeros more k) (rw e (rw ok))))

-- the bytes of a gate are read back to the gate
pub read_encode : (most : ℕ) (g : Gate) → gate_is_well_formed most g ≡ true → (rest : List ℕ) (k : ℕ) →
    read_gate most (left (encode g ++ rest) k) ≡ parsed g (left rest k)
unfolding encode gate_of and_then byte_of
read_encode most (flip cs t) ok rest k = gate_back most (control_map cs) t false cs (flip cs t) rest rest k (flip_map cs.ones cs.zeros) ok refl
read_encode most (swap cs u v) ok rest k = rw (append_assoc (control_bytes cs) (v ∷ []) rest)
    (gate_back most (control_map cs + 4) u true cs (swap cs u v) (v ∷ rest) rest k (swap_map cs.ones cs.zeros) ok refl)

-- every gate is well formed over wires 1 to most
abbrev pub AllWellFormed : ℕ → List Gate → Type 0
AllWellFormed most [] = Unit {0}
AllWellFormed most (g ∷ gs) = (gate_is_well_formed most g ≡ true) × AllWellFormed most gs

-- so are those that are left behind the first ones
pub formed_drop : (most k : ℕ) (gs : List Gate) → AllWellFormed most gs → AllWellFormed most (drop k gs)
formed_drop most zero gs ok = ok
formed_drop most (suc k) [] ok = tt
formed_drop most (suc k) (g ∷ gs) ok = formed_drop most k gs ok.1

-- the bytes of gates are read back to the gates
read_all : (most : ℕ) (gs : List Gate) → AllWellFormed most gs → (rest : List ℕ) (k : ℕ) →
    read_gates most (length gs) (left (encode_all gs ++ rest) k) ≡ parsed gs (left rest k)
unfolding encode_all read_gates and_then
read_all most [] ok rest k = refl
read_all most (g ∷ gs) ok rest k =
    rw (append_assoc (encode g) (encode_all gs) rest, read_encode most g ok.0 (encode_all gs ++ rest) k) (rw (read_all most gs ok.1 rest k))

-- a number below 2 ^ 32 and its four digits to the base 256
four_digits : (n : ℕ) → n < 2 ^ 32 → n % 256 + 256 * (n / 256 % 256) + 65536 * (n / 65536 % 256) + 16777216 * (n / 16777216 % 256) ≡ n
four_digits n h =
    let a : n / 256 / 256 ≡ n / 65536 = div-div-eq-div-mul n 256 256 in
    let b : n / 65536 / 256 ≡ n / 16777216 = div-div-eq-div-mul n 65536 256 in
    let small : n / 16777216 < 256 = omega arith in
    let c = mod-eq_of_lt small in
    omega arith

-- four bytes little-endian are read back to the number
pub read_four : (n : ℕ) → n < 2 ^ 32 → (rest : List ℕ) (k : ℕ) → four_byte_number (left (four_bytes n ++ rest) k) ≡ parsed n (left rest k)
unfolding four_byte_number four_bytes and_then byte_of
read_four n h rest k = rw (four_digits n h)

-- a gate has at least a map and a target
pub encode_length : (g : Gate) → 2 ≤ length (encode g)
unfolding encode
encode_length (flip cs t) = suc-le-suc (suc-le-suc zero-le)
encode_length (swap cs u v) = suc-le-suc (suc-le-suc zero-le)

-- so gates are at most half as many as their bytes
pub encode_all_length : (gs : List Gate) → 2 * length gs ≤ length (encode_all gs)
unfolding encode_all
encode_all_length [] = zero-le
encode_all_length (g ∷ gs) = let a = encode_length g in let b = encode_all_length gs in rw (length-append (encode g) (encode_all gs)) (omega arith)

-- a circuit's length: the header and its gates
pub write_length : (c : Circuit) → length (write c) ≡ header_length + length (encode_all c.gates)
unfolding write four_bytes
write_length c = omega arith

-- behind its header a circuit's bytes are its gates
pub write_gates : (c : Circuit) → drop header_length (write c) ≡ encode_all c.gates
unfolding write four_bytes
write_gates c = refl

-- what document 01 asks of a circuit. That its gate count fits four bytes follows from its length.
pub record WellFormed (c : Circuit) : Type 0 where
  pub some_data : 1 ≤ c.data_wires
  pub few_data : c.data_wires ≤ most_qubits
  pub few_wires : c.data_wires + c.ancillas ≤ most_wires
  pub short : length (write c) ≤ most_circuit
  pub all_gates : AllWellFormed (c.data_wires + c.ancillas) c.gates

-- the bytes of a well-formed circuit are read back to the circuit, to the last byte
pub read_write : (c : Circuit) → WellFormed c → read_circuit (write c) ≡ parsed c (left [] 0)
unfolding read_circuit circuit_of write and_then byte_of provided
read_write c w =
    let n = c.data_wires in let a = c.ancillas in let gs = c.gates in
    let long = write_length c in let pairs = encode_all_length gs in
    let count : length gs < 2 ^ 32 = omega (arith, w.short) in
    let all : read_gates (n + a) (length gs) (left (encode_all gs) 0) ≡ parsed gs (left [] 0) =
    rw (append-nil (encode_all gs)) at (read_all (n + a) gs w.all_gates [] 0) in
    rw (le-leb (length (write c)) most_circuit w.short, provided)
    (rw (le-leb 1 n w.some_data, le-leb n most_qubits w.few_data)
    (rw (le-leb (n + a) most_wires w.few_wires)
    (rw (read_four (length gs) count (encode_all gs) 0) (rw all))))

-- so is what the circuit reader answers
pub circuit_read_write : (c : Circuit) → WellFormed c → circuit_read (write c) ≡ gives c
unfolding well_formed
circuit_read_write c w = rw (read_write c w)

-- The other way: what is read is what the bytes encode.

-- the bytes of i are l, then what is left
abbrev pub Spells : Input → List ℕ → Input → Type 0
Spells i l j = i.bytes ≡ l ++ j.bytes

reads_bytes : (n : ℕ) (i : Input) → Reads (λ l j. (length l ≡ n) × Spells i l j) Anyhow (bytes n i)
unfolding bytes
reads_bytes zero i = (refl, refl)
reads_bytes (suc n) i = after_byte (λ l j. (length l ≡ suc n) × Spells i l j) Anyhow i _ tt (λ b j e.
    reads_then (λ l k. (length l ≡ n) × Spells j l k) (λ l k. (length l ≡ suc n) × Spells i l k) Anyhow (bytes n j) _ (reads_bytes n j)
    (λ l k q. (ap suc q.0, e ∙ ap (λ x. b ∷ x) q.1)))

-- a list of controls and its bit
reads_list : (b : Bool) (i : Input) → Reads (λ l j. (has_wire l ≡ b) × Spells i (list_bytes l) j) Anyhow (optional b wire_list [] i)
unfolding optional wire_list list_bytes
reads_list false i = (refl, refl)
reads_list true i = after_byte (λ l j. (has_wire l ≡ true) × Spells i (list_bytes l) j) Anyhow i _ tt (λ n j e.
    reads_provided (λ l j. (has_wire l ≡ true) × Spells i (list_bytes l) j) Anyhow (leb 1 n) not_well_formed _ tt (λ pos.
    reads_less (λ l k. (length l ≡ n) × Spells j l k) (λ l k. (has_wire l ≡ true) × Spells i (list_bytes l) k) Anyhow (bytes n j)
    (λ l k q. filled n j e (leb-true 1 n pos) l k q.0 q.1) (reads_bytes n j)))
  where
    filled : (n : ℕ) (j : Input) → Spells i (n ∷ []) j → 1 ≤ n → (l : List ℕ) (k : Input) → length l ≡ n → Spells j l k →
        (has_wire l ≡ true) × Spells i (list_bytes l) k
    filled n j e pos [] k h q = absurd (omega arith)
    filled n j e pos (w ∷ l) k h q = (refl, cc)

-- a map below 8 is the sum of its three bits
map_bits : (map : ℕ) → map < 8 → map ≡ valued (stands 0 map) 1 + valued (stands 1 map) 2 + valued (stands 2 map) 4
map_bits zero h = refl
map_bits (suc zero) h = refl
map_bits (suc (suc zero)) h = refl
map_bits (suc (suc (suc zero))) h = refl
map_bits (suc (suc (suc (suc zero)))) h = refl
map_bits (suc (suc (suc (suc (suc zero))))) h = refl
map_bits (suc (suc (suc (suc (suc (suc zero)))))) h = refl
map_bits (suc (suc (suc (suc (suc (suc (suc zero))))))) h = refl
map_bits (suc (suc (suc (suc (suc (suc (suc (suc map)))))))) h = absurd (omega arith)

list_bit_valued : (v : ℕ) (l : List ℕ) → valued (has_wire l) v ≡ list_bit v l
unfolding list_bit
list_bit_valued v [] = refl
list_bit_valued v (w ∷ l) = refl

-- so a map that says which lists there are is the map of the controls
map_of_lem : (map : ℕ) (ones zeros : List ℕ) → map < 8 → has_wire ones ≡ stands 0 map → has_wire zeros ≡ stands 1 map →
    map ≡ list_bit 1 ones + list_bit 2 zeros + valued (stands 2 map) 4
map_of_lem map ones zeros h e f = map_bits map h ∙ ap₂ (λ x y. x + y + valued (stands 2 map) 4)
    (ap (λ b. valued b 1) (sym e) ∙ list_bit_valued 1 ones) (ap (λ b. valued b 2) (sym f) ∙ list_bit_valued 2 zeros)

reads_gate_of : (b : Bool) (cs : Controls) (u : ℕ) (i : Input) →
    Reads (λ g j. (control_map cs + valued b 4) ∷ u ∷ (control_bytes cs ++ i.bytes) ≡ encode g ++ j.bytes) Anyhow (gate_of b cs u i)
unfolding gate_of encode
reads_gate_of true cs u i = after_byte (λ g j. (control_map cs + 4) ∷ u ∷ (control_bytes cs ++ i.bytes) ≡ encode g ++ j.bytes) Anyhow i _ tt (λ v j e.
    rw (e, append_assoc (control_bytes cs) (v ∷ []) j.bytes))
reads_gate_of false cs u i = rw (add-zero (control_map cs))

-- a gate that was read is well formed, and its bytes are those that were read
abbrev pub GateRead : ℕ → Input → Gate → Input → Type 0
GateRead most i g j = (gate_is_well_formed most g ≡ true) × Spells i (encode g) j

-- what the reader of a gate gives
pub reads_gate : (most : ℕ) (i : Input) → Reads (GateRead most i) Anyhow (read_gate most i)
unfolding read_gate
reads_gate most i = let Q : Gate → Input → Type 0 = GateRead most i in
    after_byte Q Anyhow i _ tt (λ map j at_map. after_byte Q Anyhow j _ tt (λ target k at_target.
    reads_provided Q Anyhow (ltb map 8) not_well_formed _ tt (λ small.
    reads_then _ Q Anyhow (optional (stands 0 map) wire_list [] k) _ (reads_list (stands 0 map) k) (λ ones l at_ones.
    reads_then _ Q Anyhow (optional (stands 1 map) wire_list [] l) _ (reads_list (stands 1 map) l) (λ zeros m at_zeros.
    let cs : Controls = record { ones = ones; zeros = zeros } in
    reads_then _ Q Anyhow (gate_of (stands 2 map) cs target m) _ (reads_gate_of (stands 2 map) cs target m) (λ g o at_gate.
    let first = map_of_lem map ones zeros (ltb-true map 8 small) at_ones.0 at_zeros.0 in
    let then = append_assoc (list_bytes ones) (list_bytes zeros) m.bytes in
    reads_provided Q Anyhow (gate_is_well_formed most g) not_well_formed _ tt (λ ok. (ok, cc))))))))

-- so with gates, and they are as many as asked for
abbrev pub GatesRead : ℕ → ℕ → Input → List Gate → Input → Type 0
GatesRead most n i gs j = (length gs ≡ n) × AllWellFormed most gs × Spells i (encode_all gs) j

-- what the reader of gates gives
reads_gates : (most n : ℕ) (i : Input) → Reads (GatesRead most n i) Anyhow (read_gates most n i)
unfolding read_gates encode_all
reads_gates most zero i = (refl, tt, refl)
reads_gates most (suc n) i =
    reads_then (GateRead most i) (GatesRead most (suc n) i) Anyhow (read_gate most i) _ (reads_gate most i) (λ g j q.
    reads_then (GatesRead most n j) (GatesRead most (suc n) i) Anyhow (read_gates most n j) _ (reads_gates most n j) (λ gs k r.
    (ap suc r.0, (q.0, r.1), q.1 ∙ ap (λ x. encode g ++ x) r.2 ∙ sym (append_assoc (encode g) (encode_all gs) k.bytes))))

-- numbers that bytes hold
abbrev pub Bytes : List ℕ → Type 0
Bytes bs = (i : ℕ) → get_or bs i 0 < 256

low_byte : (x y : ℕ) → x < 256 → (x + 256 * y) % 256 ≡ x
low_byte x y h = add-mul-mod_self_left x 256 y ∙ mod-eq_of_lt h

-- four bytes make one number only
four_bytes_lem : (a b c d : ℕ) → a < 256 → b < 256 → c < 256 → d < 256 → four_bytes (a + 256 * b + 65536 * c + 16777216 * d) ≡ a ∷ b ∷ c ∷ d ∷ []
unfolding four_bytes
four_bytes_lem a b c d ha hb hc hd =
    let n : ℕ = a + 256 * b + 65536 * c + 16777216 * d in
    let q₁ : n / 256 ≡ b + 256 * (c + 256 * d) = div-eq_of_lt-le 256 (omega arith) (omega arith) in
    let q₂ : n / 65536 ≡ c + 256 * d = div-eq_of_lt-le 65536 (omega arith) (omega arith) in
    let q₃ : n / 16777216 ≡ d = div-eq_of_lt-le 16777216 (omega arith) (omega arith) in
    let e₀ : n % 256 ≡ a = omega arith in
    let e₁ : n / 256 % 256 ≡ b = rw q₁ (low_byte b (c + 256 * d) hb) in
    let e₂ : n / 65536 % 256 ≡ c = rw q₂ (low_byte c d hc) in
    let e₃ : n / 16777216 % 256 ≡ d = rw q₃ (mod-eq_of_lt hd) in
    rw (e₀, e₁, e₂, e₃)

-- a number of four bytes: below 256 each, they are its bytes
abbrev FourRead : Input → ℕ → Input → Type 0
FourRead i n j = (length i.bytes ≡ 4 + length j.bytes) × (Bytes i.bytes → Spells i (four_bytes n) j)

reads_four : (i : Input) → Reads (FourRead i) Anyhow (four_byte_number i)
unfolding four_byte_number
reads_four i = let Q : ℕ → Input → Type 0 = FourRead i in
    after_byte Q Anyhow i _ tt (λ a j at_a. after_byte Q Anyhow j _ tt (λ b k at_b.
    after_byte Q Anyhow k _ tt (λ c l at_c. after_byte Q Anyhow l _ tt (λ d m at_d.
    let all : i.bytes ≡ a ∷ b ∷ c ∷ d ∷ m.bytes = cc in (
      rw all (omega arith),
      λ ok.
          let each : Bytes (a ∷ b ∷ c ∷ d ∷ m.bytes) = subst (λ (bs : List ℕ). Bytes bs) all ok in
          all ∙ ap (λ l. l ++ m.bytes) (sym (four_bytes_lem a b c d (each 0) (each 1) (each 2) (each 3))),
    )))))

-- of a circuit that is read: it is well formed, and its bytes are those that were read
abbrev pub CircuitRead : List ℕ → Circuit → Input → Type 0
CircuitRead bs c j = WellFormed c × (Bytes bs → write c ≡ bs) × (j.bytes ≡ [])

reads_circuit_of : (bs : List ℕ) → length bs ≤ most_circuit → Reads (CircuitRead bs) Anyhow (circuit_of (left bs 0))
unfolding circuit_of write
reads_circuit_of bs short = let Q : Circuit → Input → Type 0 = CircuitRead bs in
    after_byte Q Anyhow (left bs 0) _ tt (λ edition j at_edition. reads_provided Q Anyhow (eqb edition circuit_edition) not_well_formed _ tt (λ one.
    after_byte Q Anyhow j _ tt (λ n k at_data. reads_provided Q Anyhow (leb 1 n && leb n most_qubits) not_well_formed _ tt (λ some.
    after_byte Q Anyhow k _ tt (λ a l at_ancillas. reads_provided Q Anyhow (leb (n + a) most_wires) not_well_formed _ tt (λ few.
    reads_then (FourRead l) Q Anyhow (four_byte_number l) _ (reads_four l) (λ count m at_count.
    reads_then (GatesRead (n + a) count m) Q Anyhow (read_gates (n + a) count m) _ (reads_gates (n + a) count m) (λ gs o at_gates.
    reads_provided Q Anyhow (eqb (length o.bytes) 0) not_well_formed _ tt (λ end.
    let c : Circuit = record { data_wires = n; ancillas = a; gates = gs } in
    let header : bs ≡ circuit_edition ∷ n ∷ a ∷ l.bytes = cc (eqb-true edition circuit_edition one) in
    let nothing : o.bytes ≡ [] = no_bytes o.bytes (eqb-true (length o.bytes) 0 end) in
    let body : m.bytes ≡ encode_all gs = at_gates.2 ∙ ap (λ x. encode_all gs ++ x) nothing ∙ append-nil (encode_all gs) in
    let long : length bs ≡ length (write c) = rw (header, write_length c) (omega (arith, at_count.0, ap length body)) in (
      record {
        some_data = leb-true 1 n (and_left (leb 1 n) (leb n most_qubits) some);
        few_data = leb-true n most_qubits (and_right (leb 1 n) (leb n most_qubits) some);
        few_wires = leb-true (n + a) most_wires few;
        short = omega arith;
        all_gates = at_gates.1;
      },
      (λ ok.
          let each : Bytes (circuit_edition ∷ n ∷ a ∷ l.bytes) = subst (λ (x : List ℕ). Bytes x) header ok in
          let behind = at_count.1 (λ i. each (suc (suc (suc i)))) in
          let counted = at_gates.0 in
          cc),
      nothing,
    ))))))))))

-- what the reader of circuits gives
reads_circuit : (bs : List ℕ) → Reads (CircuitRead bs) Anyhow (read_circuit bs)
unfolding read_circuit
reads_circuit bs = reads_provided (CircuitRead bs) Anyhow (leb (length bs) most_circuit) not_well_formed _ tt (λ short.
    reads_circuit_of bs (leb-true (length bs) most_circuit short))

-- what is read is a well-formed circuit
pub read_well_formed : (bs : List ℕ) {c : Circuit} {i : Input} → read_circuit bs ≡ parsed c i → WellFormed c
read_well_formed bs e = (rw e at (reads_circuit bs)).0

-- and its bytes are those that were read
pub write_read : (bs : List ℕ) {c : Circuit} {i : Input} → Bytes bs → read_circuit bs ≡ parsed c i → write c ≡ bs
write_read bs ok e = (rw e at (reads_circuit bs)).1 ok

-- the same of what the circuit reader answers
pub write_circuit_read : (bs : List ℕ) {c : Circuit} → circuit_read bs ≡ gives c → WellFormed c × (Bytes bs → write c ≡ bs)
unfolding well_formed
write_circuit_read bs {c} = go (read_circuit bs) (reads_circuit bs)
  where
    go : (x : Parsed Circuit) → Reads (CircuitRead bs) Anyhow x → well_formed x ≡ gives c → WellFormed c × (Bytes bs → write c ≡ bs)
    go (parsed d i) r e =
        let same : d ≡ c = cc in
        (subst (λ (x : Circuit). WellFormed x) same r.0, λ ok. subst (λ (x : Circuit). write x ≡ bs) same (r.1 ok))
    go (refused k) r e = let z : ◌≡◌ {A = ℕ} 0 1 = cc in absurd (omega arith)

-- what a well-formed gate keeps to, part by part
pub record Formed (most : ℕ) (g : Gate) : Type 0 where
  pub ones_ascend : ascends (controls_of g).ones ≡ true
  pub zeros_ascend : ascends (controls_of g).zeros ≡ true
  pub apart : distinct (wires g) ≡ true
  pub inside : within most (wires g) ≡ true
  pub lower : lower_first g ≡ true

-- its test gives all of them
pub formed : (most : ℕ) (g : Gate) → gate_is_well_formed most g ≡ true → Formed most g
unfolding gate_is_well_formed
formed most g ok =
    let up₁ = ascends (controls_of g).ones in let up₀ = ascends (controls_of g).zeros in
    let d = distinct (wires g) in let w = within most (wires g) in
    let four = and_left (up₁ && up₀ && d && w) (lower_first g) ok in
    let three = and_left (up₁ && up₀ && d) w four in
    let two = and_left (up₁ && up₀) d three in
    record {
      ones_ascend = and_left up₁ up₀ two;
      zeros_ascend = and_right up₁ up₀ two;
      apart = and_right (up₁ && up₀) d three;
      inside = and_right (up₁ && up₀ && d) w four;
      lower = and_right (up₁ && up₀ && d && w) (lower_first g) ok;
    }
