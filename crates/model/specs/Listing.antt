-- "Worked programs", on the listing program: the bytes that it writes for the bytes that it reads. Document 02, S-4: the size on its first line.
use Rattle.std.specs.Prelude.{ℕ, zero, suc, ◌+◌, ◌/◌, ◌%◌, true, false, List, [], ◌∷◌, ◌++◌, length, ltb, leb}
use Rattle.model.specs.Limits.{most_circuit, least_workspace, no_room}
use Rattle.model.specs.Gates.{Gate, flip, swap}
use Rattle.model.specs.Circuit.{Circuit, controls_of}
use Rattle.model.specs.Answers.{Outcome, gives, refuses, after, require, compile, circuit_read}

-- the characters, by their codes
abbrev pub newline : ℕ
newline = 10

abbrev pub space : ℕ
space = 32

abbrev pub plus : ℕ
plus = 43

abbrev pub hyphen : ℕ
hyphen = 45

abbrev pub digit_zero : ℕ
digit_zero = 48

abbrev pub letter_s : ℕ
letter_s = 83

abbrev pub letter_x : ℕ
letter_x = 88

-- the decimal digits of a number, the highest first; `most` is more than there are
unfoldable pub digits_within : ℕ → ℕ → List ℕ
digits_within zero k = []
digits_within (suc most) k = elim (ltb k 10) [ true ↦ (digit_zero + k) ∷ [] | false ↦ digits_within most (k / 10) ++ ((digit_zero + k % 10) ∷ []) ]

-- a number has no more digits than itself and one
abbrev pub decimal : ℕ → List ℕ
decimal k = digits_within (suc k) k

-- a control: a space, its sign and its wire
abbrev pub signed : ℕ → ℕ → List ℕ
signed sign w = space ∷ sign ∷ decimal w

-- the controls on 0, each a hyphen and its wire
unfoldable pub hyphens : List ℕ → List ℕ
hyphens [] = []
hyphens (w ∷ zeros) = signed hyphen w ++ hyphens zeros

-- a control on 1 at wire w among the controls on 0: those below w, then its own plus, then what comes of the others
unfoldable pub placed : ℕ → List ℕ → (List ℕ → List ℕ) → List ℕ
placed w [] others = signed plus w ++ others []
placed w (z ∷ zeros) others = elim (ltb z w) [ true ↦ signed hyphen z ++ placed w zeros others | false ↦ signed plus w ++ others (z ∷ zeros) ]

-- "controls ascending (+ on 1, − on 0, printed as a hyphen)": two ascending lists in one ascending row
unfoldable pub control_text : List ℕ → List ℕ → List ℕ
control_text [] zeros = hyphens zeros
control_text (w ∷ ones) zeros = placed w zeros (control_text ones)

-- "X or S, target (for a swap both, lower first)"
unfoldable pub action_text : Gate → List ℕ
action_text (flip cs t) = letter_x ∷ space ∷ decimal t
action_text (swap cs u v) = letter_s ∷ space ∷ (decimal u ++ (space ∷ decimal v))

-- "then gate number, X or S, target .., controls": gate k
abbrev pub gate_line : ℕ → Gate → List ℕ
gate_line k g = decimal k ++ (space ∷ (action_text g ++ (control_text (controls_of g).ones (controls_of g).zeros ++ (newline ∷ []))))

-- the gates from number k on, one line each
unfoldable pub gate_lines : ℕ → List Gate → List ℕ
gate_lines k [] = []
gate_lines k (g ∷ gs) = gate_line k g ++ gate_lines (suc k) gs

-- Document 02, S-4: "Source document 000, just before definition 8, counts gates and wires in a circuit's size." It says there: "The size #C of a circuit C
-- is equal to the number of its gates and wires." So "The size on the listing's first line becomes gates plus data wires plus ancillas"; what document 01 calls
-- size, the gate count, is in the header as before, and "The polynomial of document 01 still limits the gates alone".
abbrev pub size : Circuit → ℕ
size c = length c.gates + c.data_wires + c.ancillas

-- "the first line is n, ancillas, size"
abbrev pub first_line : ℕ → ℕ → ℕ → List ℕ
first_line n ancillas size = decimal n ++ (space ∷ (decimal ancillas ++ (space ∷ (decimal size ++ (newline ∷ [])))))

-- "A refusal prints its number alone."
abbrev pub refusal_line : ℕ → List ℕ
refusal_line k = decimal k ++ (newline ∷ [])

-- all the lines of a circuit
abbrev pub circuit_listing : Circuit → List ℕ
circuit_listing c = first_line c.data_wires c.ancillas (size c) ++ gate_lines 1 c.gates

unfoldable pub listed : Outcome Circuit → List ℕ
listed (gives c) = circuit_listing c
listed (refuses k) = refusal_line k

-- "reads the byte n and then a table .., and lends compile a room of 65,536 bytes"
abbrev pub listing_of : ℕ → List ℕ → List ℕ
listing_of n table = listed (after (compile table n most_circuit least_workspace) circuit_read)

-- "Empty input counts as n = 0."
unfoldable pub listing : List ℕ → List ℕ
listing [] = listing_of 0 []
listing (n ∷ table) = listing_of n table

-- The listing of a circuit by itself, without its table.

-- for a text of that many bytes: 14 where the circuit is not well formed, then 23 where its listing would pass the text's end
unfoldable pub circuit_list : List ℕ → ℕ → Outcome (List ℕ)
circuit_list bytes room =
    after (circuit_read bytes) (λ c.
    require (leb (length (circuit_listing c)) room) no_room
    (gives (circuit_listing c)))
