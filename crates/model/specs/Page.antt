-- Document 02, S-1, "Circuits drawn on an 80-column page": the bytes of a circuit's page, the gates read off a page, and a page one band at a time.
use Rattle.std.specs.Prelude.{ℕ, zero, suc, ◌+◌, ◌*◌, ◌-◌, ◌/◌, min, max, Bool, true, false, ◌&&◌, List, [], ◌∷◌, ◌++◌, map, length, get_or, take, drop, replicate, eqb, ltb, leb}
use Rattle.model.specs.Limits.{most_wires, most_circuit, header_length, not_well_formed}
use Rattle.model.specs.Reading.{Input, input_at, Parsed, parsed, refused, and_then}
use Rattle.model.specs.Lists.{member}
use Rattle.model.specs.Gates.{Controls, Gate, flip, swap, targets}
use Rattle.model.specs.Circuit.{Circuit, wires, controls_of, read_gate}
use Rattle.model.specs.Answers.{Outcome, gives, refuses, after, require, circuit_read}
use Rattle.model.specs.Listing.{newline, space, plus, hyphen, digit_zero, letter_s, letter_x, decimal, refusal_line}

-- "a bar (7C)", "a dash (2D)", and o
abbrev pub bar : ℕ
bar = 0x7C

abbrev pub dash : ℕ
dash = hyphen

abbrev pub letter_o : ℕ
letter_o = 111

-- "right-aligned in four columns, so nineteen gates fill a line of 80"
abbrev pub number_columns : ℕ
number_columns = 4

abbrev pub band_gates : ℕ
band_gates = 19

-- A mark.

-- "X for a NOT's target, S for each swapped wire"
unfoldable pub letter : Gate → ℕ
letter (flip cs t) = letter_x
letter (swap cs u v) = letter_s

-- the lowest and the highest of a wire and others
unfoldable pub lowest : ℕ → List ℕ → ℕ
lowest w [] = w
lowest w (v ∷ l) = lowest (min w v) l

unfoldable pub highest : ℕ → List ℕ → ℕ
highest w [] = w
highest w (v ∷ l) = highest (max w v) l

-- "between a gate's outermost wires": is w between those of some wires?
unfoldable pub between : List ℕ → ℕ → Bool
between [] w = false
between (v ∷ l) w = ltb (lowest v l) w && ltb w (highest v l)

-- "The mark is X for a NOT's target, S for each swapped wire, + or o for a control on 1 or 0, a bar (7C) on other rows between a gate's outermost wires,
-- else a dash (2D)."
unfoldable pub mark : Gate → ℕ → ℕ
mark g w = elim (member w (targets g)) [
  | true ↦ letter g
  | false ↦
      elim (member w (controls_of g).ones) [
        | true ↦ plus
        | false ↦
            elim (member w (controls_of g).zeros) [
              | true ↦ letter_o
              | false ↦
                  elim (between (wires g) w) [ true ↦ bar | false ↦ dash ]
            ]
      ]
]

-- The page.

-- "each gate takes four columns, a mark and three dashes": the gates on the row of wire w
unfoldable pub marks : List Gate → ℕ → List ℕ
marks [] w = []
marks (g ∷ gs) w = mark g w ∷ dash ∷ dash ∷ dash ∷ marks gs w

-- "its wire number, right-aligned in four columns"
abbrev pub right_aligned : ℕ → List ℕ
right_aligned w = replicate (number_columns - length (decimal w)) space ++ decimal w

-- "A row starts with its wire number"
abbrev pub row : List Gate → ℕ → List ℕ
row gs w = right_aligned w ++ (marks gs w ++ (newline ∷ []))

-- "Each wire is a row": k rows, the first of them wire w's
unfoldable pub rows : ℕ → ℕ → List Gate → List ℕ
rows zero w gs = []
rows (suc k) w gs = row gs w ++ rows k (suc w) gs

-- a band "with all wires", 1 to `most`
abbrev pub band : ℕ → List Gate → List ℕ
band most gs = rows most 1 gs

-- "Longer circuits go on in further bands, each with all wires and no line between them."
unfoldable pub bands : ℕ → ℕ → List Gate → List ℕ
bands most zero gs = []
bands most (suc k) gs = band most (take band_gates gs) ++ bands most k (drop band_gates gs)

-- as many bands as the gates fill, the last one in part; "A circuit without gates is one band of wire numbers."
abbrev pub band_count : ℕ → ℕ
band_count gates = suc ((gates - 1) / band_gates)

unfoldable pub page : Circuit → List ℕ
page c = bands (c.data_wires + c.ancillas) (band_count (length c.gates)) c.gates

-- "prints its page, or 14 alone where it is not well formed"
unfoldable pub paged : Outcome Circuit → List ℕ
paged (gives c) = page c
paged (refuses k) = refusal_line k

-- "A program reads a circuit on standard input": all that it writes
abbrev pub page_of : List ℕ → List ℕ
page_of input = paged (circuit_read input)

-- Reading: "Reading the marks off the page gives the gates that went in, in order."

-- a byte before the first line
unfoldable pub on_first : ℕ → List (List ℕ) → List (List ℕ)
on_first b [] = (b ∷ []) ∷ []
on_first b (line ∷ others) = (b ∷ line) ∷ others

-- the lines of a text, each ended by a newline
unfoldable pub lines_of : List ℕ → List (List ℕ)
lines_of [] = []
lines_of (b ∷ bytes) = elim (eqb b newline) [ true ↦ [] ∷ lines_of bytes | false ↦ on_first b (lines_of bytes) ]

-- without its spaces
unfoldable pub unspaced : List ℕ → List ℕ
unspaced [] = []
unspaced (b ∷ bytes) = elim (eqb b space) [ true ↦ unspaced bytes | false ↦ b ∷ unspaced bytes ]

-- the number that a row of digits spells behind a number
unfoldable pub spelled : ℕ → List ℕ → ℕ
spelled k [] = k
spelled k (d ∷ ds) = spelled (10 * k + (d - digit_zero)) ds

-- the marks behind `skipped` columns: a gate's mark stands in the first of its four columns
unfoldable pub marks_in : ℕ → List ℕ → List ℕ
marks_in skipped [] = []
marks_in zero (b ∷ line) = b ∷ marks_in 3 line
marks_in (suc skipped) (b ∷ line) = marks_in skipped line

-- a row as it is read: its wire number and its marks
pub record Row : Type 0 where
  pub wire : ℕ
  pub marks : List ℕ

unfoldable pub row_on : List ℕ → Row
row_on line = record { wire = spelled 0 (unspaced (take number_columns line)); marks = marks_in number_columns line }

-- a row before other bands: it is the first row of the first of them, or a band of its own where the numbers start again behind it
unfoldable pub on_band : Row → List (List Row) → List (List Row)
on_band r [] = (r ∷ []) ∷ []
on_band r ([] ∷ others) = (r ∷ []) ∷ others
on_band r ((s ∷ rs) ∷ others) = elim (ltb r.wire s.wire) [ true ↦ (r ∷ s ∷ rs) ∷ others | false ↦ (r ∷ []) ∷ (s ∷ rs) ∷ others ]

-- the bands of a page: "each with all wires"
unfoldable pub bands_of : List Row → List (List Row)
bands_of [] = []
bands_of (r ∷ rs) = on_band r (bands_of rs)

-- the wires on whose rows column j has this mark
unfoldable pub wires_marked : ℕ → ℕ → List Row → List ℕ
wires_marked m j [] = []
wires_marked m j (r ∷ rs) = elim (eqb (get_or r.marks j 0) m) [ true ↦ r.wire ∷ wires_marked m j rs | false ↦ wires_marked m j rs ]

-- one wire marked X makes a NOT
unfoldable pub not_marked : Controls → List ℕ → List Gate
not_marked cs [] = []
not_marked cs (t ∷ []) = flip cs t ∷ []
not_marked cs (t ∷ u ∷ others) = []

-- two wires marked S make a swap
unfoldable pub swap_marked : Controls → List ℕ → List Gate
swap_marked cs [] = []
swap_marked cs (u ∷ []) = []
swap_marked cs (u ∷ v ∷ []) = swap cs u v ∷ []
swap_marked cs (u ∷ v ∷ w ∷ others) = []

-- the controls in column j of a band, and its gate
abbrev pub controls_marked : ℕ → List Row → Controls
controls_marked j rs = record { ones = wires_marked plus j rs; zeros = wires_marked letter_o j rs }

abbrev pub gate_marked : ℕ → List Row → List Gate
gate_marked j rs = not_marked (controls_marked j rs) (wires_marked letter_x j rs) ++ swap_marked (controls_marked j rs) (wires_marked letter_s j rs)

-- the gates in k columns from column j on
unfoldable pub gates_in : ℕ → ℕ → List Row → List Gate
gates_in zero j rs = []
gates_in (suc k) j rs = gate_marked j rs ++ gates_in k (suc j) rs

-- the gates of a band: a column for each mark of its first row
unfoldable pub gates_of_band : List Row → List Gate
gates_of_band [] = []
gates_of_band (r ∷ rs) = gates_in (length r.marks) 0 (r ∷ rs)

unfoldable pub gates_of_bands : List (List Row) → List Gate
gates_of_bands [] = []
gates_of_bands (b ∷ bs) = gates_of_band b ++ gates_of_bands bs

-- the gates on a page, by its bytes alone
unfoldable pub gates_on : List ℕ → List Gate
gates_on bytes = gates_of_bands (bands_of (map row_on (lines_of bytes)))

-- The page one band at a time, since a whole page may have 35.6 megabytes. That the bands make up the page is `page_drawn` in proofs/PageBands.antt.

-- a band, and the place in the circuit's bytes where the next one's first gate stands: 0 behind the last band
pub record Band : Type 0 where
  pub text : List ℕ
  pub next : ℕ

-- at most k gates over wires 1 to `most`, as many as there are
unfoldable pub read_band : ℕ → ℕ → Input → Parsed (List Gate)
read_band most zero i = parsed [] i
read_band most (suc k) i = elim (eqb (length i.bytes) 0) [
  | true ↦ parsed [] i
  | false ↦
      and_then (read_gate most i) (λ g j. and_then (read_band most k j) (λ gs l. parsed (g ∷ gs) l))
]

-- where what is left begins; 0 where nothing is left
abbrev pub place_of : List ℕ → Input → ℕ
place_of bytes i = elim (eqb (length i.bytes) 0) [ true ↦ 0 | false ↦ length bytes - length i.bytes ]

-- the band of the gates that were read; 14 where what stands there is no gate
unfoldable pub drawn : List ℕ → ℕ → Parsed (List Gate) → Outcome Band
drawn bytes most (parsed gs i) = gives (record { text = band most gs; next = place_of bytes i })
drawn bytes most (refused k) = refuses not_well_formed

-- "wires are 1 to n plus ancillas", as the header says
abbrev pub header_wires : List ℕ → ℕ
header_wires bytes = get_or bytes 1 0 + get_or bytes 2 0

-- the band of the gates that stand from a place on
abbrev pub band_at : List ℕ → ℕ → Outcome Band
band_at bytes at =
    require (leb (header_wires bytes) most_wires) not_well_formed
    (drawn bytes (header_wires bytes) (read_band (header_wires bytes) band_gates (input_at bytes at 0)))

-- place 0 asks for the first band, and the whole circuit is read before it: "14 alone where it is not well formed". A later band begins behind the header's
-- first gate, where the one before it said; its own gates alone are read again.
unfoldable pub page_band : List ℕ → ℕ → Outcome Band
page_band bytes zero = after (circuit_read bytes) (λ c. band_at bytes header_length)
page_band bytes (suc k) =
    require (leb (length bytes) most_circuit && ltb header_length (suc k) && ltb (suc k) (length bytes)) not_well_formed (band_at bytes (suc k))

-- a lent text takes all the bytes, its rest unchanged, or nothing where it is too short for them
abbrev pub lent_after : List ℕ → List ℕ → List ℕ
lent_after bytes text = elim (leb (length bytes) (length text)) [ true ↦ bytes ++ drop (length bytes) text | false ↦ text ]

unfoldable pub text_after : Outcome Band → List ℕ → List ℕ
text_after (gives b) text = lent_after b.text text
text_after (refuses k) text = text
