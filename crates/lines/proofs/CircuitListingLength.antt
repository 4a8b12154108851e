-- A circuit's listing is at most six times as long as its bytes.
use mathlib.Core.Path.{◌≡◌, refl}
use mathlib.Core.Bool.{true, ◌&&◌}
use mathlib.Core.List.{List, [], ◌∷◌, ◌++◌}
use Prim.Native.Nat.{ℕ, suc, ◌+◌, ◌*◌, ◌≤◌, ◌<◌}
use native.Mathlib.Omega.{arith}
use borrow.Author.Tests.{leb-true, lt-ltb, le-ltb, le-leb}
use lib.Dec.{leb}
use lib.ListN.{length, length-append}
use Rattle.model.specs.Limits.{most_wires, most_listing, not_well_formed}
use Rattle.model.specs.Reading.{Parsed, parsed, refused}
use Rattle.model.specs.Gates.{Gate, flip, swap}
use Rattle.model.specs.Circuit.{Circuit, list_bytes, encode, encode_all, write, wires, within, gate_is_well_formed, read_circuit, controls_of}
use Rattle.model.specs.Answers.{Outcome, gives, refuses, after, require, well_formed, circuit_read}
use Rattle.model.specs.Listing.{decimal, hyphens, placed, control_text, action_text, gate_line, gate_lines, size, circuit_listing, listed, circuit_list}
use Rattle.model.proofs.BooleanLaws.{by_lt, and_left, and_right}
use Rattle.model.proofs.RoundTrip.{Bytes, WellFormed, AllWellFormed, formed, encode_all_length, write_length, read_well_formed, write_circuit_read}
use Rattle.model.proofs.DecimalDigits.{decimal_few}

three_digits : (k : ℕ) → k < 1000 → length (decimal k) ≤ 3
three_digits k h = decimal_few 2 k h

five_digits : (k : ℕ) → k < 100000 → length (decimal k) ≤ 5
five_digits k h = decimal_few 4 k h

-- wires of at most three digits
abbrev Short : List ℕ → Type 0
Short [] = Unit {0}
Short (w ∷ l) = (w < 1000) × Short l

short : (most : ℕ) (l : List ℕ) → most ≤ most_wires → within most l ≡ true → Short l
unfolding within
short most [] few h = tt
short most (w ∷ l) few h =
    let head = and_left (leb 1 w && leb w most) (within most l) h in
    let low = leb-true w most (and_right (leb 1 w) (leb w most) head) in
    (omega arith, short most l few (and_right (leb 1 w && leb w most) (within most l) h))

short_both : (l m : List ℕ) → Short (l ++ m) → Short l × Short m
short_both [] m h = (tt, h)
short_both (w ∷ l) m h = let rest = short_both l m h.1 in ((h.0, rest.0), rest.1)

-- a control has at most five bytes
hyphens_length : (zeros : List ℕ) → Short zeros → length (hyphens zeros) ≤ 5 * length zeros
unfolding hyphens
hyphens_length [] h = omega arith
hyphens_length (z ∷ zeros) h =
    let digits = three_digits z h.0 in
    let rest = hyphens_length zeros h.1 in
    rw (length-append (decimal z) (hyphens zeros)) (omega arith)

placed_length : (w : ℕ) (zeros : List ℕ) (others : List ℕ → List ℕ) (n : ℕ) → w < 1000 → Short zeros →
    ((l : List ℕ) → Short l → length (others l) ≤ n + 5 * length l) → length (placed w zeros others) ≤ 5 + n + 5 * length zeros
unfolding placed
placed_length w [] others n low h rest =
    let digits = three_digits w low in
    let none = rest [] tt in
    rw (length-append (decimal w) (others [])) (omega arith)
placed_length w (z ∷ zeros) others n low h rest = by_lt z w
    (λ l. let digits = three_digits z h.0 in
    let more = placed_length w zeros others n low h.1 rest in
    rw (lt-ltb z w l, placed, length-append (decimal z) (placed w zeros others)) (omega arith))
    (λ l. let digits = three_digits w low in
    let more = rest (z ∷ zeros) h in
    rw (le-ltb z w l, placed, length-append (decimal w) (others (z ∷ zeros))) (omega arith))

controls_length : (ones zeros : List ℕ) → Short ones → Short zeros → length (control_text ones zeros) ≤ 5 * length ones + 5 * length zeros
unfolding control_text
controls_length [] zeros h k = let rest = hyphens_length zeros k in omega arith
controls_length (w ∷ ones) zeros h k =
    let all = placed_length w zeros (control_text ones) (5 * length ones) h.0 k (λ l s. controls_length ones l h.1 s) in
    omega arith

-- a list's bytes are no fewer than its wires
list_length : (l : List ℕ) → length l ≤ length (list_bytes l)
unfolding list_bytes
list_length [] = omega arith
list_length (w ∷ l) = omega arith

-- the line of a gate: at most 12 bytes and 5 for each control, for two bytes and one for each control; a swap has one byte more, and 4 in its line
line_length : (most k : ℕ) (g : Gate) → most ≤ most_wires → gate_is_well_formed most g ≡ true → k < 100000 →
    length (gate_line k g) ≤ 6 * length (encode g)
unfolding action_text controls_of encode wires
line_length most k (flip cs t) few ok small =
    let inside = short most (t ∷ (cs.ones ++ cs.zeros)) few (formed most (flip cs t) ok).inside in
    let both = short_both cs.ones cs.zeros inside.1 in
    let controls = controls_length cs.ones cs.zeros both.0 both.1 in
    let number = five_digits k small in
    let target = three_digits t inside.0 in
    let ones = list_length cs.ones in
    let zeros = list_length cs.zeros in
    simp length-append (omega arith)
line_length most k (swap cs u v) few ok small =
    let inside = short most (u ∷ v ∷ (cs.ones ++ cs.zeros)) few (formed most (swap cs u v) ok).inside in
    let both = short_both cs.ones cs.zeros inside.1.1 in
    let controls = controls_length cs.ones cs.zeros both.0 both.1 in
    let number = five_digits k small in
    let target = three_digits u inside.0 in
    let second = three_digits v inside.1.0 in
    let ones = list_length cs.ones in
    let zeros = list_length cs.zeros in
    simp length-append (omega arith)

lines_length : (most k : ℕ) (gs : List Gate) → most ≤ most_wires → AllWellFormed most gs → k + length gs ≤ 100000 →
    length (gate_lines k gs) ≤ 6 * length (encode_all gs)
unfolding gate_lines encode_all
lines_length most k [] few ok small = omega arith
lines_length most k (g ∷ gs) few ok small =
    let first = line_length most k g few ok.0 (omega arith) in
    let rest = lines_length most (suc k) gs few ok.1 (omega arith) in
    rw (length-append (gate_line k g) (gate_lines (suc k) gs), length-append (encode g) (encode_all gs)) (omega arith)

-- the first line has fewer bytes than six times the header
six_times : (c : Circuit) → WellFormed c → length (circuit_listing c) ≤ 6 * length (write c)
six_times c w =
    let whole = write_length c in
    let pairs = encode_all_length c.gates in
    let data_wires_lem = w.few_data in
    let all_wires = w.few_wires in
    let bytes = w.short in
    let qubits = three_digits c.data_wires (omega arith) in
    let ancillas = three_digits c.ancillas (omega arith) in
    let sum = five_digits (size c) (omega arith) in
    let lines = lines_length (c.data_wires + c.ancillas) 1 c.gates all_wires w.all_gates (omega arith) in
    simp length-append (omega arith)

-- a circuit's listing, beside the bytes that it was read from
pub listed_within : (bs : List ℕ) (c : Circuit) → Bytes bs → circuit_read bs ≡ gives c → length (listed (circuit_read bs)) ≤ 6 * length bs
unfolding listed
listed_within bs c ok e =
    let w = write_circuit_read bs e in
    let same : write c ≡ bs = w.1 ok in
    let few = six_times c w.0 in
    rw e (rw same at few)

-- a number of at most three digits and a newline
pub refusal_fits : (k : ℕ) → k < 1000 → length (listed (refuses k)) ≤ most_listing
unfolding listed
refusal_fits k h = let digits = three_digits k h in rw (length-append (decimal k) (10 ∷ [])) (omega arith)

-- the listing of bytes that are a circuit, and of bytes that are none
pub listed_fits : (bs : List ℕ) → length (listed (circuit_read bs)) ≤ most_listing
unfolding well_formed listed
listed_fits bs = go (read_circuit bs) refl
  where
    go : (x : Parsed Circuit) → read_circuit bs ≡ x → length (listed (well_formed x)) ≤ most_listing
    go (parsed c i) e =
        let w = read_well_formed bs e in
        let few = six_times c w in
        let bytes = w.short in
        omega arith
    go (refused k) e = refusal_fits not_well_formed (omega arith)

-- so a text that is long enough for every listing is never refused
pub never_short : (bs : List ℕ) (room : ℕ) → most_listing ≤ room → circuit_list bs room ≡ after (circuit_read bs) (λ c. gives (circuit_listing c))
unfolding circuit_list after require listed
never_short bs room long = go (circuit_read bs) refl
  where
    go : (x : Outcome Circuit) → circuit_read bs ≡ x → circuit_list bs room ≡ after x (λ c. gives (circuit_listing c))
    go (gives c) e =
        let few : length (circuit_listing c) ≤ most_listing = rw e at (listed_fits bs) in
        rw (e, le-leb (length (circuit_listing c)) room (omega arith))
    go (refuses k) e = rw e
