-- "Reading the marks off the page gives the gates that went in, in order."
use mathlib.Core.Path.{◌≡◌, refl, sym, ap, ap₂, ◌∙◌}
use mathlib.Core.Bool.{true}
use mathlib.Core.List.{List, [], ◌∷◌, ◌++◌, map, append_assoc}
use Prim.Native.Nat.{ℕ, zero, suc, ◌+◌, ◌*◌, ◌-◌, ◌≤◌, ◌<◌}
use native.Mathlib.Omega.{arith}
use borrow.Author.Tests.{ne_eqb, lt-ltb, le-ltb}
use lib.ListN.{length, get_or, take, drop, replicate, length-append, length-map, length-drop, take-append-drop}
use lib.Seq.{take_at}
use lib.Dec.{eqb}
use Rattle.model.specs.Limits.{most_wires}
use Rattle.model.specs.Lists.{range}
use Rattle.model.specs.Gates.{Gate, flip, swap}
use Rattle.model.specs.Circuit.{Circuit, controls_of, gate_is_well_formed}
use Rattle.model.specs.Answers.{gives, circuit_read}
use Rattle.model.specs.Listing.{space, plus, letter_x, letter_s, decimal}
use Rattle.model.specs.Page.{letter_o, number_columns, band_gates, mark, marks, right_aligned, band_count, bands, page, paged, page_of}
use Rattle.model.specs.Page.{unspaced, spelled, marks_in, Row, row_on, on_band, bands_of, wires_marked, not_marked, swap_marked}
use Rattle.model.specs.Page.{gate_marked, gates_in, gates_of_band, gates_of_bands, gates_on}
use Rattle.model.proofs.BooleanLaws.{by_bool}
use Rattle.model.proofs.RoundTrip.{WellFormed, AllWellFormed, formed_drop, write_circuit_read}
use Rattle.model.proofs.DecimalDigits.{decimal_spells}
use Rattle.model.proofs.PageLines.{AllDigits, digits_are, line, page_lines, lines_of_bands}
use Rattle.model.proofs.PageShape.{number_length_lem}
use Rattle.model.proofs.PageMarks.{passing, crossed, exchanged, marked}

-- A row.

-- spaces are left out, digits are not
unspaced_spaces : (k : ℕ) (l : List ℕ) → unspaced (replicate k space ++ l) ≡ unspaced l
unfolding unspaced
unspaced_spaces zero l = refl
unspaced_spaces (suc k) l = unspaced_spaces k l

unspaced_digits : (l : List ℕ) → AllDigits l → unspaced l ≡ l
unfolding unspaced
unspaced_digits [] h = refl
unspaced_digits (b ∷ l) h = rw (ne_eqb b space (omega arith), unspaced) (ap (λ r. b ∷ r) (unspaced_digits l h.1))

-- the wire number is read back
number_back : (w : ℕ) → spelled 0 (unspaced (right_aligned w)) ≡ w
number_back w =
    ap (spelled 0) (unspaced_spaces (number_columns - length (decimal w)) (decimal w) ∙ unspaced_digits (decimal w) (digits_are (suc w) w))
    ∙ decimal_spells w

-- columns that are skipped, and then a mark in the first of each four
marks_behind : (l m : List ℕ) → marks_in (length l) (l ++ m) ≡ marks_in 0 m
unfolding marks_in
marks_behind [] m = refl
marks_behind (b ∷ l) m = marks_behind l m

marks_back : (gs : List Gate) (w : ℕ) → marks_in 0 (marks gs w) ≡ map (λ g. mark g w) gs
unfolding marks marks_in
marks_back [] w = refl
marks_back (g ∷ gs) w = ap (λ r. mark g w ∷ r) (marks_back gs w)

-- the row of wire w
abbrev row_for : List Gate → ℕ → Row
row_for gs w = record { wire = w; marks = map (λ g. mark g w) gs }

-- a line is read back to its row
row_back : (gs : List Gate) (w : ℕ) → w ≤ most_wires → row_on (line gs w) ≡ row_for gs w
unfolding row_on
row_back gs w h =
    let long = number_length_lem w h in
    let number : spelled 0 (unspaced (take number_columns (line gs w))) ≡ w =
    ap (λ l. spelled 0 (unspaced l)) (take_at (right_aligned w) (marks gs w) number_columns long) ∙ number_back w in
    let skipped : marks_in number_columns (line gs w) ≡ map (λ g. mark g w) gs =
    ap (λ k. marks_in k (line gs w)) (sym long) ∙ marks_behind (right_aligned w) (marks gs w) ∙ marks_back gs w in
    λ i. record { wire = number i; marks = skipped i }

-- Bands.

-- the rows of a band, and the bands of a page
abbrev rows_for : ℕ → ℕ → List Gate → List Row
rows_for n a gs = map (row_for gs) (range n a)

page_bands : ℕ → ℕ → List Gate → List (List Row)
page_bands most zero gs = []
page_bands most (suc k) gs = rows_for most 1 (take band_gates gs) ∷ page_bands most k (drop band_gates gs)

-- the first of some bands, if there is one, starts with wire 1
abbrev StartsAtOne : List (List Row) → Type 0
StartsAtOne [] = Unit {0}
StartsAtOne ([] ∷ others) = ⊥
StartsAtOne ((r ∷ rs) ∷ others) = r.wire ≡ 1

-- before such bands a row is a band of its own; before a band that starts with a later wire it is that band's first
band_ends : (r : Row) (others : List (List Row)) → 1 ≤ r.wire → StartsAtOne others → on_band r others ≡ (r ∷ []) ∷ others
unfolding on_band
band_ends r [] h s = refl
band_ends r ([] ∷ others) h s = absurd s
band_ends r ((q ∷ rs) ∷ others) h s = rw (le-ltb r.wire q.wire (omega arith), on_band)

band_goes_on : (r q : Row) (rs : List Row) (others : List (List Row)) → r.wire < q.wire → on_band r ((q ∷ rs) ∷ others) ≡ (r ∷ q ∷ rs) ∷ others
unfolding on_band
band_goes_on r q rs others h = rw (lt-ltb r.wire q.wire h, on_band)

-- rows of ascending wires before such bands are one more band
one_band : (n a : ℕ) (gs : List Gate) (rest : List Row) → 1 ≤ a → StartsAtOne (bands_of rest) →
    bands_of (rows_for (suc n) a gs ++ rest) ≡ rows_for (suc n) a gs ∷ bands_of rest
unfolding bands_of range
one_band zero a gs rest h s = band_ends (row_for gs a) (bands_of rest) h s
one_band (suc n) a gs rest h s =
    ap (on_band (row_for gs a)) (one_band n (suc a) gs rest (omega arith) s)
    ∙ band_goes_on (row_for gs a) (row_for gs (suc a)) (rows_for n (suc (suc a)) gs) (bands_of rest) (omega arith)

-- the lines of a band are read to its rows
rows_back : (n a : ℕ) (gs : List Gate) (rest : List (List ℕ)) → n + a ≤ suc most_wires →
    map row_on (map (line gs) (range n a) ++ rest) ≡ rows_for n a gs ++ map row_on rest
unfolding range
rows_back zero a gs rest h = refl
rows_back (suc n) a gs rest h = ap₂ (λ r rs. r ∷ rs) (row_back gs a (omega arith)) (rows_back n (suc a) gs rest (omega arith))

-- the bands of a page start so
starts_at_one : (n k : ℕ) (gs : List Gate) → StartsAtOne (page_bands (suc n) k gs)
unfolding page_bands range
starts_at_one n zero gs = tt
starts_at_one n (suc k) gs = refl

-- the lines of a page are read to its bands
bands_back : (n k : ℕ) (gs : List Gate) → suc n ≤ most_wires → bands_of (map row_on (page_lines (suc n) k gs)) ≡ page_bands (suc n) k gs
unfolding page_lines page_bands bands_of
bands_back n zero gs h = refl
bands_back n (suc k) gs h =
    let rest = page_lines (suc n) k (drop band_gates gs) in
    let behind = bands_back n k (drop band_gates gs) h in
    ap bands_of (rows_back (suc n) 1 (take band_gates gs) rest (omega arith))
    ∙ one_band n 1 (take band_gates gs) (map row_on rest) (omega arith) (rw behind (starts_at_one n k (drop band_gates gs)))
    ∙ ap (λ bs. rows_for (suc n) 1 (take band_gates gs) ∷ bs) behind

-- The gates of a band.

-- the mark of the gate in a column
column_mark : (h : Gate → ℕ) (before : List Gate) (g : Gate) (behind : List Gate) → get_or (map h (before ++ (g ∷ behind))) (length before) 0 ≡ h g
column_mark h [] g behind = refl
column_mark h (x ∷ before) g behind = column_mark h before g behind

-- the wires that have this mark in a column
column_wires : (m n a : ℕ) (before : List Gate) (g : Gate) (behind : List Gate) →
    wires_marked m (length before) (rows_for n a (before ++ (g ∷ behind))) ≡ passing (λ w. eqb (mark g w) m) n a
unfolding wires_marked passing range
column_wires m zero a before g behind = refl
column_wires m (suc n) a before g behind =
    let below = column_wires m n (suc a) before g behind in
    let here = column_mark (λ x. mark x a) before g behind in
    by_bool (eqb (mark g a) m)
    (λ e. rw (here, e, wires_marked, passing) (ap (λ r. a ∷ r) below))
    (λ e. rw (here, e, wires_marked, passing) below)

-- the gate of such marks
gate_of_lem : (g : Gate) → not_marked (controls_of g) (crossed g) ++ swap_marked (controls_of g) (exchanged g) ≡ g ∷ []
unfolding controls_of crossed exchanged not_marked swap_marked
gate_of_lem (flip cs t) = refl
gate_of_lem (swap cs u v) = refl

-- a well-formed gate is read off its column
column_gate : (most : ℕ) (before : List Gate) (g : Gate) (behind : List Gate) → gate_is_well_formed most g ≡ true →
    gate_marked (length before) (rows_for most 1 (before ++ (g ∷ behind))) ≡ g ∷ []
column_gate most before g behind ok =
    let j = length before in let rs = rows_for most 1 (before ++ (g ∷ behind)) in
    let m = marked most g ok in
    let ones : wires_marked plus j rs ≡ (controls_of g).ones = column_wires plus most 1 before g behind ∙ m.by_plus in
    let zeros : wires_marked letter_o j rs ≡ (controls_of g).zeros = column_wires letter_o most 1 before g behind ∙ m.by_o in
    let xs : wires_marked letter_x j rs ≡ crossed g = column_wires letter_x most 1 before g behind ∙ m.by_x in
    let ss : wires_marked letter_s j rs ≡ exchanged g = column_wires letter_s most 1 before g behind ∙ m.by_s in
    rw (ones, zeros, xs, ss) (gate_of_lem g)

-- so are gates, column by column
columns_gates : (most : ℕ) (before behind : List Gate) → AllWellFormed most behind →
    gates_in (length behind) (length before) (rows_for most 1 (before ++ behind)) ≡ behind
unfolding gates_in
columns_gates most before [] ok = refl
columns_gates most before (g ∷ behind) ok =
    let long : length (before ++ (g ∷ [])) ≡ suc (length before) = omega (arith, length-append before (g ∷ [])) in
    let rest : gates_in (length behind) (suc (length before)) (rows_for most 1 (before ++ (g ∷ behind))) ≡ behind =
    rw (long, append_assoc before (g ∷ []) behind) at (columns_gates most (before ++ (g ∷ [])) behind ok.1) in
    ap₂ (λ a b. a ++ b) (column_gate most before g behind ok.0) rest

-- the gates of a band are read back
band_gates_lem : (n : ℕ) (gs : List Gate) → AllWellFormed (suc n) gs → gates_of_band (rows_for (suc n) 1 gs) ≡ gs
unfolding gates_of_band range
band_gates_lem n gs ok = ap (λ k. gates_in k 0 (rows_for (suc n) 1 gs)) (length-map gs (λ g. mark g 1)) ∙ columns_gates (suc n) [] gs ok

-- the first gates of well-formed ones are well formed
formed_take : (most k : ℕ) (gs : List Gate) → AllWellFormed most gs → AllWellFormed most (take k gs)
formed_take most zero gs ok = tt
formed_take most (suc k) [] ok = tt
formed_take most (suc k) (g ∷ gs) ok = (ok.0, formed_take most k gs ok.1)

-- enough bands have all gates
bands_gates : (n k : ℕ) (gs : List Gate) → AllWellFormed (suc n) gs → length gs ≤ k * band_gates → gates_of_bands (page_bands (suc n) k gs) ≡ gs
unfolding gates_of_bands page_bands
bands_gates n zero [] ok few = refl
bands_gates n zero (g ∷ gs) ok few = absurd (omega arith)
bands_gates n (suc k) gs ok few =
    ap₂ (λ a b. a ++ b)
    (band_gates_lem n (take band_gates gs) (formed_take (suc n) band_gates gs ok))
    (bands_gates n k (drop band_gates gs) (formed_drop (suc n) band_gates gs ok) (omega (arith, length-drop band_gates gs)))
    ∙ take-append-drop band_gates gs

-- The page.

-- the gates of bands over wires 1 to most are read back
text_back : (most k : ℕ) (gs : List Gate) → 1 ≤ most → most ≤ most_wires → AllWellFormed most gs → length gs ≤ k * band_gates →
    gates_on (bands most k gs) ≡ gs
unfolding gates_on
text_back zero k gs some few ok all = absurd (omega arith)
text_back (suc n) k gs some few ok all =
    ap (λ ls. gates_of_bands (bands_of (map row_on ls))) (lines_of_bands (suc n) k gs)
    ∙ ap gates_of_bands (bands_back n k gs few)
    ∙ bands_gates n k gs ok all

-- the gates of a well-formed circuit are read off its page, in order
pub read_back : (c : Circuit) → WellFormed c → gates_on (page c) ≡ c.gates
unfolding page
read_back c w = text_back (c.data_wires + c.ancillas) (band_count (length c.gates)) c.gates
    (omega (arith, w.some_data)) w.few_wires w.all_gates (omega arith)

-- so no two lists of gates have one page
pub one_page : (c d : Circuit) → WellFormed c → WellFormed d → page c ≡ page d → c.gates ≡ d.gates
one_page c d v w e = sym (read_back c v) ∙ ap gates_on e ∙ read_back d w

-- bytes that are a circuit's give a page from which its gates are read
pub read_back_bytes : (bytes : List ℕ) (c : Circuit) → circuit_read bytes ≡ gives c → gates_on (page_of bytes) ≡ c.gates
unfolding paged
read_back_bytes bytes c e = rw e (read_back c (write_circuit_read bytes e).0)
