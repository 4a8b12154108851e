-- The lines of a page: one for each row, with the wire's number and the gates' marks.
use mathlib.Core.Path.{◌≡◌, refl, sym, ap, ◌∙◌}
use mathlib.Core.Logic.{◌≢◌}
use mathlib.Core.Bool.{true, false}
use mathlib.Core.List.{List, [], ◌∷◌, ◌++◌, map, append_assoc}
use Prim.Native.Nat.{ℕ, zero, suc, ◌+◌, ◌-◌, ◌/◌, ◌%◌, ◌≤◌}
use native.Mathlib.Omega.{arith}
use borrow.Author.Tests.{ne_eqb}
use lib.ListN.{length, take, drop, replicate}
use Rattle.model.specs.Lists.{member, range}
use Rattle.model.specs.Gates.{Gate, flip, swap, targets}
use Rattle.model.specs.Circuit.{wires, controls_of}
use Rattle.model.specs.Listing.{newline, space, plus, digit_zero, digits_within, decimal}
use Rattle.model.specs.Page.{bar, dash, letter_o, number_columns, band_gates, letter, between, mark, marks, right_aligned, row, rows, bands}
use Rattle.model.specs.Page.{on_first, lines_of}
use Rattle.model.proofs.BooleanLaws.{by_bool, by_lt}
use Rattle.model.proofs.DecimalDigits.{digits_one, digits_more}

-- no byte of a text is a newline
abbrev NoNewline : List ℕ → Type 0
NoNewline [] = Unit {0}
NoNewline (b ∷ l) = (b ≢ newline) × NoNewline l

-- nor one of two that have none
no_newline_append : (l m : List ℕ) → NoNewline l → NoNewline m → NoNewline (l ++ m)
no_newline_append [] m h i = i
no_newline_append (b ∷ l) m h i = (h.0, no_newline_append l m h.1 i)

-- what stands before the first newline is the first line
first_line_lem : (l rest : List ℕ) → NoNewline l → lines_of (l ++ (newline ∷ rest)) ≡ l ∷ lines_of rest
unfolding lines_of on_first
first_line_lem [] rest h = refl
first_line_lem (b ∷ l) rest h = rw (ne_eqb b newline h.0, lines_of) (ap (on_first b) (first_line_lem l rest h.1))

-- a digit's byte is no less than that of 0
abbrev pub AllDigits : List ℕ → Type 0
AllDigits [] = Unit {0}
AllDigits (b ∷ l) = (digit_zero ≤ b) × AllDigits l

-- digits before digits
digits_append : (l m : List ℕ) → AllDigits l → AllDigits m → AllDigits (l ++ m)
digits_append [] m h i = i
digits_append (b ∷ l) m h i = (h.0, digits_append l m h.1 i)

-- a number is written in digits
pub digits_are : (most k : ℕ) → AllDigits (digits_within most k)
unfolding digits_within
digits_are zero k = tt
digits_are (suc most) k = by_lt k 10
    (λ l. rw (digits_one most k l) (omega arith, tt))
    (λ l. rw (digits_more most k l) (digits_append (digits_within most (k / 10)) ((digit_zero + k % 10) ∷ []) (digits_are most (k / 10)) (omega arith, tt)))

-- digits, spaces and marks are no newlines, so a wire's number and its marks have none
digits_no_newline : (l : List ℕ) → AllDigits l → NoNewline l
digits_no_newline [] h = tt
digits_no_newline (b ∷ l) h = (omega arith, digits_no_newline l h.1)

spaces_no_newline : (k : ℕ) → NoNewline (replicate k space)
spaces_no_newline zero = tt
spaces_no_newline (suc k) = (omega arith, spaces_no_newline k)

number_no_newline : (w : ℕ) → NoNewline (right_aligned w)
number_no_newline w = no_newline_append (replicate (number_columns - length (decimal w)) space) (decimal w)
    (spaces_no_newline (number_columns - length (decimal w))) (digits_no_newline (decimal w) (digits_are (suc w) w))

-- nor are X and S
letter_no_newline : (g : Gate) → letter g ≢ newline
unfolding letter
letter_no_newline (flip cs t) = omega arith
letter_no_newline (swap cs u v) = omega arith

-- a mark is its gate's letter, a plus, an o, a bar or a dash, each in its case
pub mark_cases : (g : Gate) (w : ℕ) (P : ℕ → Type 0) →
    (member w (targets g) ≡ true → P (letter g)) →
    (member w (targets g) ≡ false → member w (controls_of g).ones ≡ true → P plus) →
    (member w (targets g) ≡ false → member w (controls_of g).ones ≡ false → member w (controls_of g).zeros ≡ true → P letter_o) →
    (member w (targets g) ≡ false → member w (controls_of g).ones ≡ false → member w (controls_of g).zeros ≡ false → P bar × P dash) →
    P (mark g w)
unfolding mark
mark_cases g w P target one nought other =
    by_bool (member w (targets g)) (λ a. rw (a, mark) (target a)) (λ a.
    by_bool (member w (controls_of g).ones) (λ b. rw (a, b, mark) (one a b)) (λ b.
    by_bool (member w (controls_of g).zeros) (λ c. rw (a, b, c, mark) (nought a b c)) (λ c.
    by_bool (between (wires g) w) (λ d. rw (a, b, c, d, mark) (other a b c).0) (λ d. rw (a, b, c, d, mark) (other a b c).1))))

-- none of them is a newline
mark_no_newline : (g : Gate) (w : ℕ) → mark g w ≢ newline
mark_no_newline g w = mark_cases g w (λ m. m ≢ newline) (λ a. letter_no_newline g) (λ a b. omega arith) (λ a b c. omega arith)
    (λ a b c. (omega arith, omega arith))

marks_no_newline : (gs : List Gate) (w : ℕ) → NoNewline (marks gs w)
unfolding marks
marks_no_newline [] w = tt
marks_no_newline (g ∷ gs) w = (mark_no_newline g w, (omega arith, (omega arith, (omega arith, marks_no_newline gs w))))

-- a row without its newline
abbrev pub line : List Gate → ℕ → List ℕ
line gs w = right_aligned w ++ marks gs w

line_no_newline : (gs : List Gate) (w : ℕ) → NoNewline (line gs w)
line_no_newline gs w = no_newline_append (right_aligned w) (marks gs w) (number_no_newline w) (marks_no_newline gs w)

-- a row is its line and a newline
row_is_lem : (gs : List Gate) (w : ℕ) (rest : List ℕ) → row gs w ++ rest ≡ line gs w ++ (newline ∷ rest)
row_is_lem gs w rest = append_assoc (right_aligned w) (marks gs w ++ (newline ∷ [])) rest
    ∙ ap (λ l. right_aligned w ++ l) (append_assoc (marks gs w) (newline ∷ []) rest)
    ∙ sym (append_assoc (right_aligned w) (marks gs w) (newline ∷ rest))

-- so rows are a line for each wire
lines_of_rows : (k w : ℕ) (gs : List Gate) (rest : List ℕ) → lines_of (rows k w gs ++ rest) ≡ map (line gs) (range k w) ++ lines_of rest
unfolding rows range
lines_of_rows zero w gs rest = refl
lines_of_rows (suc k) w gs rest =
    ap lines_of (append_assoc (row gs w) (rows k (suc w) gs) rest ∙ row_is_lem gs w (rows k (suc w) gs ++ rest))
    ∙ first_line_lem (line gs w) (rows k (suc w) gs ++ rest) (line_no_newline gs w)
    ∙ ap (λ ls. line gs w ∷ ls) (lines_of_rows k (suc w) gs rest)

-- the lines of a page, band by band
unfoldable pub page_lines : ℕ → ℕ → List Gate → List (List ℕ)
page_lines most zero gs = []
page_lines most (suc k) gs = map (line (take band_gates gs)) (range most 1) ++ page_lines most k (drop band_gates gs)

-- they are those of its bytes
pub lines_of_bands : (most k : ℕ) (gs : List Gate) → lines_of (bands most k gs) ≡ page_lines most k gs
unfolding bands lines_of page_lines
lines_of_bands most zero gs = refl
lines_of_bands most (suc k) gs = lines_of_rows most 1 (take band_gates gs) (bands most k (drop band_gates gs))
    ∙ ap (λ ls. map (line (take band_gates gs)) (range most 1) ++ ls) (lines_of_bands most k (drop band_gates gs))
