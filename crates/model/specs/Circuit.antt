-- "The circuit": its bytes, reading them (refusal 14), and the run of a circuit.
use Rattle.std.specs.Prelude.{ℕ, zero, suc, ◌+◌, ◌-◌, ◌*◌, ◌/◌, ◌%◌, Bool, true, false, not, ◌&&◌, List, [], ◌∷◌, ◌++◌, length, get_or, eqb, ltb, leb}
use Rattle.model.specs.Limits.{circuit_edition, most_qubits, most_wires, most_circuit, block_length, not_well_formed}
use Rattle.model.specs.Reading.{Input, Parsed, parsed, and_then, provided, byte, optional, stands}
use Rattle.model.specs.Lists.{member}
use Rattle.model.specs.Meaning.{State, bit, state_of, word_from}
use Rattle.model.specs.Gates.{Controls, Gate, flip, swap, acts}

-- "wires are 1 to n plus ancillas"
pub record Circuit : Type 0 where
  pub data_wires : ℕ
  pub ancillas : ℕ
  pub gates : List Gate

-- "bit 0, count and wires controlled on 1; bit 1, count and wires controlled on 0": a list's bit stands where it has a wire
unfoldable pub list_bit : ℕ → List ℕ → ℕ
list_bit value [] = 0
list_bit value (w ∷ l) = value

-- "Counts are at least 1"
unfoldable pub list_bytes : List ℕ → List ℕ
list_bytes [] = []
list_bytes (w ∷ l) = length (w ∷ l) ∷ w ∷ l

abbrev pub control_map : Controls → ℕ
control_map cs = list_bit 1 cs.ones + list_bit 2 cs.zeros

abbrev pub control_bytes : Controls → List ℕ
control_bytes cs = list_bytes cs.ones ++ list_bytes cs.zeros

-- "A gate is a map byte, the target wire, then" the controls, then "bit 2, the second wire of a swap"
unfoldable pub encode : Gate → List ℕ
encode (flip cs t) = control_map cs ∷ t ∷ control_bytes cs
encode (swap cs u v) = (control_map cs + 4) ∷ u ∷ (control_bytes cs ++ (v ∷ []))

unfoldable pub encode_all : List Gate → List ℕ
encode_all [] = []
encode_all (g ∷ gs) = encode g ++ encode_all gs

-- "4 bytes little-endian"
unfoldable pub four_bytes : ℕ → List ℕ
four_bytes k = k % 256 ∷ k / 256 % 256 ∷ k / 65536 % 256 ∷ k / 16777216 % 256 ∷ []

-- "Edition byte 1, n, ancilla byte .., gate count in 4 bytes little-endian, then gates."
unfoldable pub write : Circuit → List ℕ
write c = circuit_edition ∷ c.data_wires ∷ c.ancillas ∷ (four_bytes (length c.gates) ++ encode_all c.gates)

-- the wires of a gate
unfoldable pub wires : Gate → List ℕ
wires (flip cs t) = t ∷ (cs.ones ++ cs.zeros)
wires (swap cs u v) = u ∷ v ∷ (cs.ones ++ cs.zeros)

unfoldable pub controls_of : Gate → Controls
controls_of (flip cs t) = cs
controls_of (swap cs u v) = cs

-- "wires ascend"
unfoldable pub ascends : List ℕ → Bool
ascends [] = true
ascends (w ∷ []) = true
ascends (v ∷ w ∷ l) = ltb v w && ascends (w ∷ l)

-- "no wire occurs twice in a gate"
unfoldable pub distinct : List ℕ → Bool
distinct [] = true
distinct (w ∷ l) = not (member w l) && distinct l

-- "wires are 1 to n plus ancillas"
unfoldable pub within : ℕ → List ℕ → Bool
within most [] = true
within most (w ∷ l) = leb 1 w && leb w most && within most l

-- "a swap's target is its lower wire"
unfoldable pub lower_first : Gate → Bool
lower_first (flip cs t) = true
lower_first (swap cs u v) = ltb u v

unfoldable pub gate_is_well_formed : ℕ → Gate → Bool
gate_is_well_formed most g =
    ascends (controls_of g).ones && ascends (controls_of g).zeros && distinct (wires g) && within most (wires g) && lower_first g

unfoldable pub bytes : ℕ → Input → Parsed (List ℕ)
bytes zero i = parsed [] i
bytes (suc n) i = and_then (byte i) (λ b j. and_then (bytes n j) (λ bs k. parsed (b ∷ bs) k))

unfoldable pub wire_list : Input → Parsed (List ℕ)
wire_list i = and_then (byte i) (λ n j. provided (leb 1 n) not_well_formed (bytes n j))

unfoldable pub gate_of : Bool → Controls → ℕ → Input → Parsed Gate
gate_of true cs u i = and_then (byte i) (λ v j. parsed (swap cs u v) j)
gate_of false cs t i = parsed (flip cs t) i

-- one gate over wires 1 to `most`; "no other map bit stands"
unfoldable pub read_gate : ℕ → Input → Parsed Gate
read_gate most i =
    and_then (byte i) (λ map j. and_then (byte j) (λ target k. provided (ltb map 8) not_well_formed
    (and_then (optional (stands 0 map) wire_list [] k) (λ ones l.
    and_then (optional (stands 1 map) wire_list [] l) (λ zeros m.
    and_then (gate_of (stands 2 map) (record { ones = ones; zeros = zeros }) target m) (λ g o.
    provided (gate_is_well_formed most g) not_well_formed (parsed g o)))))))

unfoldable pub read_gates : ℕ → ℕ → Input → Parsed (List Gate)
read_gates most zero i = parsed [] i
read_gates most (suc n) i = and_then (read_gate most i) (λ g j. and_then (read_gates most n j) (λ gs k. parsed (g ∷ gs) k))

unfoldable pub four_byte_number : Input → Parsed ℕ
four_byte_number i =
    and_then (byte i) (λ a j. and_then (byte j) (λ b k. and_then (byte k) (λ c l. and_then (byte l) (λ d m.
    parsed (a + 256 * b + 65536 * c + 16777216 * d) m))))

-- "no byte is left": the circuit of the gates that were read
abbrev pub whole_circuit : ℕ → ℕ → Parsed (List Gate) → Parsed Circuit
whole_circuit n ancillas p =
    and_then p (λ gs i. provided (eqb (length i.bytes) 0) not_well_formed (parsed (record { data_wires = n; ancillas = ancillas; gates = gs }) i))

-- "A circuit is well formed if this holds, n is 1 to 32, .. that sum is at most 255, the count is true"
unfoldable pub circuit_of : Input → Parsed Circuit
circuit_of i =
    and_then (byte i) (λ edition j. provided (eqb edition circuit_edition) not_well_formed
    (and_then (byte j) (λ n k. provided (leb 1 n && leb n most_qubits) not_well_formed
    (and_then (byte k) (λ ancillas l. provided (leb (n + ancillas) most_wires) not_well_formed
    (and_then (four_byte_number l) (λ count m. whole_circuit n ancillas (read_gates (n + ancillas) count m))))))))

-- ".. and it is at most 65,536 long"
unfoldable pub read_circuit : List ℕ → Parsed Circuit
read_circuit bs = provided (leb (length bs) most_circuit) not_well_formed (circuit_of (record { bytes = bs; records = 0 }))

-- "Wire w is bit (w − 1) mod 8 of byte (w − 1) div 8, counted from 0 and from the lowest bit": the bit of wire w in a block
abbrev pub wire_bit : List ℕ → ℕ → Bool
wire_bit block w = bit (get_or block ((w - 1) / 8) 0) ((w - 1) % 8)

-- so the block of a state, k bytes, the first bit wire a's
unfoldable pub block_from : ℕ → ℕ → State → List ℕ
block_from zero a s = []
block_from (suc k) a s = word_from 8 a s ∷ block_from k (a + 8) s

abbrev pub block_of : State → List ℕ
block_of s = block_from block_length 1 s

-- "A circuit run starts with a data word and zero ancillas and gives the whole block."
unfoldable pub circuit_block : Circuit → ℕ → List ℕ
circuit_block c word = block_of (acts c.gates (state_of word))
