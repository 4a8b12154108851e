-- The page's measures: how long a row and a band are, that no line passes 80 columns, and how many lines there are.
use mathlib.Core.Path.{◌≡◌, refl, ap, ◌∙◌}
use mathlib.Core.List.{List, [], ◌∷◌, ◌++◌, append-nil, map}
use Prim.Native.Nat.{ℕ, zero, suc, ◌+◌, ◌*◌, ◌-◌, ◌≤◌, ◌<◌}
use native.Mathlib.Omega.{arith}
use lib.ListN.{length, length-append, length-map, length-replicate, length-take, replicate, take, drop}
use Rattle.model.specs.Limits.{most_wires}
use Rattle.model.specs.Lists.{range}
use Rattle.model.specs.Gates.{Gate}
use Rattle.model.specs.Circuit.{Circuit}
use Rattle.model.specs.Listing.{space, newline, decimal}
use Rattle.model.specs.Page.{number_columns, band_gates, marks, right_aligned, row, rows, band, bands, band_count, page, lines_of}
use Rattle.model.proofs.ListLaws.{range_length}
use Rattle.model.proofs.RoundTrip.{WellFormed}
use Rattle.model.proofs.DecimalDigits.{decimal_few}
use Rattle.model.proofs.PageLines.{line, page_lines, lines_of_bands}

-- a wire number has at most three digits
wire_digits : (w : ℕ) → w ≤ most_wires → length (decimal w) ≤ 3
wire_digits w h = decimal_few 2 w (omega arith)

-- and with the spaces before it fills its columns
pub number_length_lem : (w : ℕ) → w ≤ most_wires → length (right_aligned w) ≡ number_columns
number_length_lem w h = rw (
  length-append (replicate (number_columns - length (decimal w)) space) (decimal w),
  length-replicate (number_columns - length (decimal w)) space,
) (omega (arith, wire_digits w h))

-- each gate takes four columns
marks_length_lem : (gs : List Gate) (w : ℕ) → length (marks gs w) ≡ 4 * length gs
unfolding marks
marks_length_lem [] w = refl
marks_length_lem (g ∷ gs) w = omega (arith, marks_length_lem gs w)

-- a row: the number columns, four columns a gate, and a newline
pub row_length : (gs : List Gate) (w : ℕ) → w ≤ most_wires → length (row gs w) ≡ number_columns + 4 * length gs + 1
row_length gs w h = rw (
  length-append (right_aligned w) (marks gs w ++ (newline ∷ [])),
  length-append (marks gs w) (newline ∷ []),
  number_length_lem w h,
  marks_length_lem gs w,
) (omega arith)

-- rows, each of that length
rows_length : (k w : ℕ) (gs : List Gate) → k + w ≤ suc most_wires → length (rows k w gs) ≡ k * (number_columns + 4 * length gs + 1)
unfolding rows
rows_length zero w gs h = omega arith
rows_length (suc k) w gs h =
    rw (length-append (row gs w) (rows k (suc w) gs), row_length gs w (omega arith), rows_length k (suc w) gs (omega arith)) (omega arith)

-- a band: a row for each wire
pub band_length : (most : ℕ) (gs : List Gate) → most ≤ most_wires → length (band most gs) ≡ most * (number_columns + 4 * length gs + 1)
band_length most gs h = rows_length most 1 gs (omega arith)

-- every line has at most `most` columns
abbrev pub AllShort : ℕ → List (List ℕ) → Type 0
AllShort most [] = Unit {0}
AllShort most (l ∷ lines) = (length l ≤ most) × AllShort most lines

-- short lines before short lines
short_append : (most : ℕ) (a b : List (List ℕ)) → AllShort most a → AllShort most b → AllShort most (a ++ b)
short_append most [] b h i = i
short_append most (l ∷ a) b h i = (h.0, short_append most a b h.1 i)

-- the lines of a band are short: nineteen gates fill 80 columns
line_short : (gs : List Gate) (w : ℕ) → w ≤ most_wires → length gs ≤ band_gates → length (line gs w) ≤ 80
line_short gs w h few = rw (length-append (right_aligned w) (marks gs w), number_length_lem w h, marks_length_lem gs w) (omega arith)

lines_short : (k w : ℕ) (gs : List Gate) → k + w ≤ suc most_wires → length gs ≤ band_gates → AllShort 80 (map (line gs) (range k w))
unfolding range
lines_short zero w gs h few = tt
lines_short (suc k) w gs h few = (line_short gs w (omega arith) few, lines_short k (suc w) gs (omega arith) few)

-- a band has nineteen gates at most
band_full : (gs : List Gate) → length (take band_gates gs) ≤ band_gates
band_full gs = omega (arith, length-take band_gates gs)

-- so all lines of its bands are short
page_short : (most k : ℕ) (gs : List Gate) → most ≤ most_wires → AllShort 80 (page_lines most k gs)
unfolding page_lines
page_short most zero gs h = tt
page_short most (suc k) gs h = short_append 80 (map (line (take band_gates gs)) (range most 1)) (page_lines most k (drop band_gates gs))
    (lines_short most 1 (take band_gates gs) (omega arith) (band_full gs)) (page_short most k (drop band_gates gs) h)

-- "an 80-column page"
pub lines_fit : (c : Circuit) → WellFormed c → AllShort 80 (lines_of (page c))
unfolding page
lines_fit c w =
    let most = c.data_wires + c.ancillas in let k = band_count (length c.gates) in
    rw (lines_of_bands most k c.gates) (page_short most k c.gates w.few_wires)

-- a band has a line for each wire
page_counted : (most k : ℕ) (gs : List Gate) → length (page_lines most k gs) ≡ most * k
unfolding page_lines
page_counted most zero gs = omega arith
page_counted most (suc k) gs =
    let first = map (line (take band_gates gs)) (range most 1) in
    let behind = page_lines most k (drop band_gates gs) in
    length-append first behind
    ∙ ap (λ n. n + length behind) (length-map (range most 1) (line (take band_gates gs)) ∙ range_length most 1)
    ∙ ap (λ n. most + n) (page_counted most k (drop band_gates gs))
    ∙ omega arith

-- "each with all wires and no line between them"
pub lines_counted : (c : Circuit) → WellFormed c → length (lines_of (page c)) ≡ (c.data_wires + c.ancillas) * band_count (length c.gates)
unfolding page
lines_counted c w =
    let most = c.data_wires + c.ancillas in let k = band_count (length c.gates) in
    ap length (lines_of_bands most k c.gates) ∙ page_counted most k c.gates

-- "A circuit without gates is one band of wire numbers."
pub no_gates : (n a : ℕ) → page (record { data_wires = n; ancillas = a; gates = [] }) ≡ band (n + a) []
unfolding page bands
no_gates n a = append-nil (band (n + a) [])

-- the bands take all gates, and all but the last one would not
pub bands_enough : (gates : ℕ) → gates ≤ band_gates * band_count gates
bands_enough gates = omega arith

pub bands_needed : (gates : ℕ) → 0 < gates → band_gates * (band_count gates - 1) < gates
bands_needed gates h = omega arith
