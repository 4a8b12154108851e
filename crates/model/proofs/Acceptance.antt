-- Number 0 exactly where documents 01 and 02 accept: one law for each public operation, for every input. A refusal has a number from 1 to 24.
use mathlib.Core.Path.{◌≡◌, refl, sym, subst}
use mathlib.Core.Logic.{◌↔◌}
use mathlib.Core.Bool.{Bool, true, false, not, ◌&&◌}
use mathlib.Core.List.{List, [], ◌∷◌}
use Prim.Native.Nat.{ℕ, zero, suc, ◌+◌, ◌^◌, ◌≤◌, ◌<◌}
use native.Mathlib.Omega.{arith}
use borrow.Author.Tests.{ltb-true, leb-true, lt-ltb, le-ltb, le-leb, not-true}
use lib.ListN.{length}
use lib.Dec.{ltb, leb}
use Rattle.model.specs.Limits.{
  most_qubits,
  most_wires,
  header_length,
  least_workspace,
  success,
  wrong_qubits,
  no_removal,
  too_wide,
  access_fault,
  high_bit,
  short_workspace,
  no_room,
  short_table_room,
}
use Rattle.model.specs.Syntax.{Program}
use Rattle.model.specs.Reading.{Input, Parsed, parsed, refused, read_table}
use Rattle.model.specs.Faults.{program_faults}
use Rattle.model.specs.Reach.{any_lacks_removal, any_too_wide}
use Rattle.model.specs.Writing.{write_table}
use Rattle.model.specs.Inverse.{inverse_program}
use Rattle.model.specs.Emission.{Event, takes, places, frees, emission}
use Rattle.model.specs.Circuit.{Circuit, encode, write, read_circuit}
use Rattle.model.specs.Answers.{
  Outcome,
  gives,
  refuses,
  after,
  require,
  outcome,
  number,
  accepted,
  verdict,
  run,
  fit,
  fitted,
  circuit,
  usable,
  compile,
  inverse_table,
  well_formed,
  circuit_read,
  circuit_run,
}
use Rattle.model.specs.Listing.{circuit_listing, listed, circuit_list}
use Rattle.model.proofs.BooleanLaws.{by_bool, and_left, and_right}
use Rattle.model.proofs.OutcomeLaws.{not_both, gives_same, required, gave}
use Rattle.model.proofs.ReadingLaws.{WasRead, outcome_read_lem}
use Rattle.model.proofs.RoundTrip.{Bytes, WellFormed, read_write, read_well_formed, write_read}

-- Where two refusals apply, the first in order is answered.

-- "13; 21": a word that is too large, whatever the workspace
pub word_first : (table : List ℕ) (n word workspace : ℕ) (P : Program) → accepted table n ≡ gives P → 2 ^ n ≤ word →
    run table n word workspace ≡ refuses high_bit
unfolding run after require
word_first table n word workspace P e high = rw (e, le-ltb word (2 ^ n) high)

-- document 02, S-5: "24 .. after 12": a table that is not accepted, whatever the room
pub table_first : (table : List ℕ) (n room k : ℕ) → accepted table n ≡ refuses k → inverse_table table n room ≡ refuses k
unfolding inverse_table after
table_first table n room k e = rw e

-- a number that document 01 or 02 has for a refusal
abbrev pub Refusal : ℕ → Type 0
Refusal k = (1 ≤ k) × (k ≤ short_table_room)

-- an outcome that is a result, or such a refusal
abbrev pub Numbered : {A : Type 0} → Outcome A → Type 0
Numbered (gives a) = Unit {0}
Numbered (refuses k) = Refusal k

-- so its number is 0 exactly where it is a result
zero_gives : {A : Type 0} (o : Outcome A) → Numbered o → (number o ≡ success) ↔ ((a : A) × (o ≡ gives a))
unfolding number
zero_gives (gives a) h = (λ e. (a, refl), λ g. refl)
zero_gives (refuses k) h = (λ e. let some = h.0 in absurd (omega arith), λ g. not_both g.1)

-- A refusal of each operation has such a number.

required_numbered : {A : Type 0} (b : Bool) (k : ℕ) (o : Outcome A) → Refusal k → Numbered o → Numbered (require b k o)
unfolding require
required_numbered true k o h n = n
required_numbered false k o h n = h

after_numbered : {A B : Type 0} (o : Outcome A) (f : A → Outcome B) → Numbered o → ((a : A) → Numbered (f a)) → Numbered (after o f)
unfolding after
after_numbered (gives a) f n h = h a
after_numbered (refuses k) f n h = n

-- what the reader refuses is 1 to 8
read_numbered : (o : Outcome Program) → WasRead o → Numbered o
read_numbered (gives P) h = tt
read_numbered (refuses k) h = let low = h.1 in (h.0, omega arith)

accepted_numbered : (table : List ℕ) (n : ℕ) → Numbered (accepted table n)
unfolding accepted
accepted_numbered table n =
    required_numbered (leb 1 n && leb n most_qubits) wrong_qubits _ (omega arith, omega arith)
    (after_numbered (outcome (read_table table)) _ (read_numbered (outcome (read_table table)) (outcome_read_lem table)) (λ P.
    required_numbered (not (any_lacks_removal P)) no_removal _ (omega arith, omega arith)
    (required_numbered (not (any_too_wide P)) too_wide _ (omega arith, omega arith)
    (required_numbered (not (program_faults P n)) access_fault (gives P) (omega arith, omega arith) tt))))

verdict_numbered : (table : List ℕ) (n workspace : ℕ) → Numbered (verdict table n workspace)
unfolding verdict
verdict_numbered table n workspace =
    after_numbered (accepted table n) _ (accepted_numbered table n) (λ P.
    required_numbered (leb least_workspace workspace) short_workspace (gives P) (omega arith, omega arith) tt)

run_numbered : (table : List ℕ) (n word workspace : ℕ) → Numbered (run table n word workspace)
unfolding run
run_numbered table n word workspace =
    after_numbered (accepted table n) _ (accepted_numbered table n) (λ P.
    required_numbered (ltb word (2 ^ n)) high_bit _ (omega arith, omega arith)
    (required_numbered (leb least_workspace workspace) short_workspace (gives _) (omega arith, omega arith) tt))

-- 0, 22 or 23
fit_low : (room used : ℕ) (es : List Event) → fit room used es ≤ no_room
unfolding fit
fit_low room used [] = omega arith
fit_low room used (takes w ∷ es) = by_bool (ltb most_wires w) (λ e. rw (e, fit) (omega arith)) (λ e. rw (e, fit) (fit_low room used es))
fit_low room used (places g ∷ es) = by_bool (leb (used + length (encode g)) room)
    (λ e. rw (e, fit) (fit_low room (used + length (encode g)) es))
    (λ e. rw (e, fit) (omega arith))
fit_low room used (frees a ∷ es) = fit_low room used es

fitted_numbered : (k : ℕ) (c : Circuit) → k ≤ no_room → Numbered (fitted k c)
unfolding fitted
fitted_numbered zero c h = tt
fitted_numbered (suc k) c h = (omega arith, omega arith)

pub compile_numbered : (table : List ℕ) (n room workspace : ℕ) → Numbered (compile table n room workspace)
unfolding compile
compile_numbered table n room workspace =
    after_numbered (accepted table n) _ (accepted_numbered table n) (λ P.
    required_numbered (leb least_workspace workspace) short_workspace _ (omega arith, omega arith)
    (required_numbered (leb header_length (usable room)) no_room _ (omega arith, omega arith)
    (fitted_numbered (fit (usable room) header_length (emission P n)) (circuit P n) (fit_low (usable room) header_length (emission P n)))))

pub inverse_numbered : (table : List ℕ) (n room : ℕ) → Numbered (inverse_table table n room)
unfolding inverse_table
inverse_numbered table n room =
    after_numbered (accepted table n) _ (accepted_numbered table n) (λ P.
    required_numbered (leb (length table) room) short_table_room (gives _) (omega arith, omega arith) tt)

well_formed_numbered : (x : Parsed Circuit) → Numbered (well_formed x)
unfolding well_formed
well_formed_numbered (parsed c i) = tt
well_formed_numbered (refused k) = (omega arith, omega arith)

circuit_read_numbered : (bytes : List ℕ) → Numbered (circuit_read bytes)
circuit_read_numbered bytes = well_formed_numbered (read_circuit bytes)

circuit_run_numbered : (bytes : List ℕ) (word : ℕ) → Numbered (circuit_run bytes word)
unfolding circuit_run
circuit_run_numbered bytes word =
    after_numbered (circuit_read bytes) _ (circuit_read_numbered bytes) (λ c.
    required_numbered (ltb word (2 ^ c.data_wires)) high_bit (gives _) (omega arith, omega arith) tt)

circuit_list_numbered : (bytes : List ℕ) (room : ℕ) → Numbered (circuit_list bytes room)
unfolding circuit_list
circuit_list_numbered bytes room =
    after_numbered (circuit_read bytes) _ (circuit_read_numbered bytes) (λ c.
    required_numbered (leb (length (circuit_listing c)) room) no_room (gives _) (omega arith, omega arith) tt)

-- A table is accepted at n, and P is its program, exactly where 9, then 1 to 8, then 10, 11 and 12 are passed.

pub record Passes (table : List ℕ) (n : ℕ) (P : Program) : Type 0 where
  pub some : 1 ≤ n
  pub few : n ≤ most_qubits
  pub left : Input
  pub reads : read_table table ≡ parsed P left
  pub passes10 : any_lacks_removal P ≡ false
  pub passes11 : any_too_wide P ≡ false
  pub passes12 : program_faults P n ≡ false

outcome_gives : {A : Type 0} (x : Parsed A) {a : A} → outcome x ≡ gives a → (i : Input) × (x ≡ parsed a i)
unfolding outcome
outcome_gives (parsed b i) e = rw (gives_same e) (i, refl)
outcome_gives (refused k) e = not_both e

pub accepted_exactly : (table : List ℕ) (n : ℕ) (P : Program) → (accepted table n ≡ gives P) ↔ Passes table n P
unfolding accepted after require outcome
accepted_exactly table n P = (
  λ e.
      let range = required (leb 1 n && leb n most_qubits) _ _ e in
      let program = gave (outcome (read_table table)) _ range.1 in
      let Q = program.first in
      let reading = outcome_gives (read_table table) program.first_is in
      let ten = required (not (any_lacks_removal Q)) _ _ program.then_is in
      let eleven = required (not (any_too_wide Q)) _ _ ten.1 in
      let twelve = required (not (program_faults Q n)) _ _ eleven.1 in
      subst (Passes table n) (gives_same twelve.1) (record {
        some = leb-true 1 n (and_left (leb 1 n) (leb n most_qubits) range.0);
        few = leb-true n most_qubits (and_right (leb 1 n) (leb n most_qubits) range.0);
        left = reading.0;
        reads = reading.1;
        passes10 = not-true (any_lacks_removal Q) ten.0;
        passes11 = not-true (any_too_wide Q) eleven.0;
        passes12 = not-true (program_faults Q n) twelve.0;
      }),
  λ p. rw (le-leb 1 n p.some, le-leb n most_qubits p.few, p.reads, p.passes10, p.passes11, p.passes12),
)

-- Each operation answers 0 exactly where ..

-- a table is accepted at n: it has a program there
abbrev pub IsAccepted : List ℕ → ℕ → Type 0
IsAccepted table n = (P : Program) × (accepted table n ≡ gives P)

-- .. the table is accepted and the workspace is long enough
pub verdict_zero : (table : List ℕ) (n workspace : ℕ) →
    (number (verdict table n workspace) ≡ success) ↔ (IsAccepted table n × (least_workspace ≤ workspace))
unfolding verdict after require number
verdict_zero table n workspace = (
  λ e.
      let given = (zero_gives (verdict table n workspace) (verdict_numbered table n workspace)).0 e in
      let acceptance = gave (accepted table n) _ given.1 in
      let space = required (leb least_workspace workspace) _ _ acceptance.then_is in
      ((acceptance.first, acceptance.first_is), leb-true least_workspace workspace space.0),
  λ h. rw (h.0.1, le-leb least_workspace workspace h.1),
)

-- .. the same, and the start word has no bit at n or above
pub run_zero : (table : List ℕ) (n word workspace : ℕ) →
    (number (run table n word workspace) ≡ success) ↔ (IsAccepted table n × (word < 2 ^ n) × (least_workspace ≤ workspace))
unfolding run after require number
run_zero table n word workspace = (
  λ e.
      let given = (zero_gives (run table n word workspace) (run_numbered table n word workspace)).0 e in
      let acceptance = gave (accepted table n) _ given.1 in
      let low = required (ltb word (2 ^ n)) _ _ acceptance.then_is in
      let space = required (leb least_workspace workspace) _ _ low.1 in
      ((acceptance.first, acceptance.first_is), ltb-true word (2 ^ n) low.0, leb-true least_workspace workspace space.0),
  λ h. rw (h.0.1, lt-ltb word (2 ^ n) h.1, le-leb least_workspace workspace h.2),
)

-- .. the table is accepted, the workspace is long enough, and the room has place for the header and for every step of the emission
pub record Compiles (table : List ℕ) (n room workspace : ℕ) : Type 0 where
  pub program : Program
  pub accepts : accepted table n ≡ gives program
  pub space : least_workspace ≤ workspace
  pub header : header_length ≤ usable room
  pub fits : fit (usable room) header_length (emission program n) ≡ success

-- 0 from `fit` is a circuit
fitted_is : (k : ℕ) (c : Circuit) {bytes : List ℕ} → fitted k c ≡ gives bytes → (k ≡ success) × (bytes ≡ write c)
unfolding fitted
fitted_is zero c e = (refl, sym (gives_same e))
fitted_is (suc k) c e = not_both e

-- where compile gives bytes, they are those of the program's circuit
pub compile_gives : (table : List ℕ) (n room workspace : ℕ) {bytes : List ℕ} → compile table n room workspace ≡ gives bytes →
    (c : Compiles table n room workspace) × (bytes ≡ write (circuit c.program n))
unfolding compile
compile_gives table n room workspace e =
    let acceptance = gave (accepted table n) _ e in
    let P = acceptance.first in
    let space = required (leb least_workspace workspace) _ _ acceptance.then_is in
    let header = required (leb header_length (usable room)) _ _ space.1 in
    let fits = fitted_is (fit (usable room) header_length (emission P n)) (circuit P n) header.1 in (
      record {
        program = P;
        accepts = acceptance.first_is;
        space = leb-true least_workspace workspace space.0;
        header = leb-true header_length (usable room) header.0;
        fits = fits.0;
      },
      fits.1,
    )

pub compile_zero : (table : List ℕ) (n room workspace : ℕ) → (number (compile table n room workspace) ≡ success) ↔ Compiles table n room workspace
unfolding compile after require number fitted
compile_zero table n room workspace = (
  λ e.
      let given = (zero_gives (compile table n room workspace) (compile_numbered table n room workspace)).0 e in
      (compile_gives table n room workspace given.1).0,
  λ c. rw (c.accepts, le-leb least_workspace workspace c.space, le-leb header_length (usable room) c.header, c.fits),
)

-- .. the table is accepted, and the room is not shorter than it
pub record Inverts (table : List ℕ) (n room : ℕ) : Type 0 where
  pub program : Program
  pub accepts : accepted table n ≡ gives program
  pub enough : length table ≤ room

-- where inverse gives bytes, they are those of the inverse program
pub inverse_gives : (table : List ℕ) (n room : ℕ) {bytes : List ℕ} → inverse_table table n room ≡ gives bytes →
    (i : Inverts table n room) × (bytes ≡ write_table (inverse_program i.program))
unfolding inverse_table
inverse_gives table n room e =
    let acceptance = gave (accepted table n) _ e in
    let enough = required (leb (length table) room) _ _ acceptance.then_is in (
      record {
        program = acceptance.first;
        accepts = acceptance.first_is;
        enough = leb-true (length table) room enough.0;
      },
      sym (gives_same enough.1),
    )

pub inverse_zero : (table : List ℕ) (n room : ℕ) → (number (inverse_table table n room) ≡ success) ↔ Inverts table n room
unfolding inverse_table after require number
inverse_zero table n room = (
  λ e.
      let given = (zero_gives (inverse_table table n room) (inverse_numbered table n room)).0 e in
      (inverse_gives table n room given.1).0,
  λ i. rw (i.accepts, le-leb (length table) room i.enough),
)

-- bytes are a well-formed circuit: the reader of circuits reads one
abbrev pub IsCircuit : List ℕ → Type 0
IsCircuit bytes = (c : Circuit) × (i : Input) × (read_circuit bytes ≡ parsed c i)

-- in other words, they are the bytes of a circuit that is as document 01 asks
pub circuit_exactly : (bytes : List ℕ) → Bytes bytes → IsCircuit bytes ↔ ((c : Circuit) × WellFormed c × (write c ≡ bytes))
circuit_exactly bytes ok = (
  λ c. (c.0, read_well_formed bytes c.2, write_read bytes ok c.2),
  λ c. (c.0, record { bytes = []; records = 0 }, rw (← c.2) (read_write c.0 c.1)),
)

read_gives : (x : Parsed Circuit) {c : Circuit} → well_formed x ≡ gives c → (i : Input) × (x ≡ parsed c i)
unfolding well_formed
read_gives (parsed d i) e = rw (gives_same e) (i, refl)
read_gives (refused k) e = not_both e

-- .. the bytes are a well-formed circuit
pub circuit_read_zero : (bytes : List ℕ) → (number (circuit_read bytes) ≡ success) ↔ IsCircuit bytes
unfolding well_formed number
circuit_read_zero bytes = (
  λ e.
      let given = (zero_gives (circuit_read bytes) (circuit_read_numbered bytes)).0 e in
      let reading = read_gives (read_circuit bytes) given.1 in
      (given.0, reading.0, reading.1),
  λ c. rw c.2,
)

-- .. the same, and the start word has no bit at the circuit's n or above
pub circuit_run_zero : (bytes : List ℕ) (word : ℕ) →
    (number (circuit_run bytes word) ≡ success) ↔ ((c : IsCircuit bytes) × (word < 2 ^ c.0.data_wires))
unfolding circuit_run well_formed after require number
circuit_run_zero bytes word = (
  λ e.
      let given = (zero_gives (circuit_run bytes word) (circuit_run_numbered bytes word)).0 e in
      let circuit = gave (circuit_read bytes) _ given.1 in
      let c = circuit.first in
      let reading = read_gives (read_circuit bytes) circuit.first_is in
      let low = required (ltb word (2 ^ c.data_wires)) _ _ circuit.then_is in
      ((c, reading.0, reading.1), ltb-true word (2 ^ c.data_wires) low.0),
  λ h. rw (h.0.2, lt-ltb word (2 ^ h.0.0.data_wires) h.1),
)

-- .. the bytes are a well-formed circuit, and the text takes its listing
pub circuit_list_zero : (bytes : List ℕ) (room : ℕ) →
    (number (circuit_list bytes room) ≡ success) ↔ ((c : IsCircuit bytes) × (length (circuit_listing c.0) ≤ room))
unfolding circuit_list well_formed after require number
circuit_list_zero bytes room = (
  λ e.
      let given = (zero_gives (circuit_list bytes room) (circuit_list_numbered bytes room)).0 e in
      let circuit = gave (circuit_read bytes) _ given.1 in
      let c = circuit.first in
      let reading = read_gives (read_circuit bytes) circuit.first_is in
      let fits = required (leb (length (circuit_listing c)) room) _ _ circuit.then_is in
      ((c, reading.0, reading.1), leb-true (length (circuit_listing c)) room fits.0),
  λ h. rw (h.0.2, le-leb (length (circuit_listing h.0.0)) room h.1),
)

-- what it gives is what the listing program prints of the circuit
pub circuit_list_listed : (bytes : List ℕ) (room : ℕ) {text : List ℕ} → circuit_list bytes room ≡ gives text → text ≡ listed (circuit_read bytes)
unfolding circuit_list listed
circuit_list_listed bytes room e =
    let circuit = gave (circuit_read bytes) _ e in
    let c = circuit.first in
    let fits = required (leb (length (circuit_listing c)) room) _ _ circuit.then_is in
    rw circuit.first_is (sym (gives_same fits.1))
