-- What compile promises, read off the definitions: demand 3 for every table that it compiles, and refusals 22 and 23 exactly where a step does not fit.
use mathlib.Core.Path.{◌≡◌, refl, sym, ap, ◌∙◌, subst}
use mathlib.Core.Logic.{◌≢◌, ◌⊎◌, inl, inr}
use mathlib.Core.Bool.{false}
use mathlib.Core.List.{List, []}
use Prim.Native.Nat.{ℕ, zero, suc, ◌-◌, ◌^◌, ◌≤◌, ◌<◌}
use native.Mathlib.Omega.{arith}
use borrow.Author.Tests.{lt-ltb, le-leb, lt-leb}
use lib.ListN.{length}
use lib.Dec.{leb}
use Rattle.model.specs.Limits.{most_procedures, most_qubits, header_length, least_workspace, block_length, no_room}
use Rattle.model.specs.Syntax.{Program, count}
use Rattle.model.specs.Faults.{program_faults}
use Rattle.model.specs.Meaning.{State, bit, state_of, end_state, end_word}
use Rattle.model.specs.Reach.{any_lacks_removal, any_too_wide}
use Rattle.model.specs.Emission.{emission, peak}
use Rattle.model.specs.Circuit.{write, wire_bit, block_of, circuit_block}
use Rattle.model.specs.Answers.{gives, refuses, after, require, accepted, fit, fitted, circuit, usable, run, compile, circuit_read, Block, circuit_run}
use Rattle.model.specs.Demand.{Demand3}
use Rattle.model.proofs.BooleanLaws.{by_eq}
use Rattle.model.proofs.OutcomeLaws.{gives_same}
use Rattle.model.proofs.WordBits.{word_zero, word_wire, same_block, block_bit}
use Rattle.model.proofs.ReachAndRank.{Named}
use Rattle.model.proofs.ReadingLaws.{read_named, read_count}
use Rattle.model.proofs.Acceptance.{accepted_exactly, compile_gives}
use Rattle.model.proofs.RoundTrip.{circuit_read_write}
use Rattle.agreement.proofs.Agreement.{agreement, ancillas_zero}
use Rattle.agreement.proofs.GateBound.{gate_bound_lem}
use Rattle.agreement.proofs.FirstMisfit.{FirstMisfit, AllFit, fit_all, all_fit, fit_first, first_fit}
use Rattle.agreement.proofs.WellFormedEmission.{FittingCircuit, emission_well_formed}
use Rattle.agreement.proofs.BitsPastTheLastWire.{ZeroPast, end_past}

-- a program is accepted with n qubits
pub record Accepted (n : ℕ) (P : Program) : Type 0 where
  pub some : 0 < n
  pub few : n ≤ most_qubits
  pub named : Named P
  pub passes10 : any_lacks_removal P ≡ false
  pub passes11 : any_too_wide P ≡ false
  pub passes12 : program_faults P n ≡ false

-- what acceptance says
pub accepted_is : (table : List ℕ) (n : ℕ) (P : Program) → accepted table n ≡ gives P → Accepted n P
accepted_is table n P e =
    let passes = (accepted_exactly table n P).0 e in
    record {
      some = passes.some;
      few = passes.few;
      named = read_named table passes.reads;
      passes10 = passes.passes10;
      passes11 = passes.passes11;
      passes12 = passes.passes12;
    }

pub accepted_few : (table : List ℕ) (n : ℕ) (P : Program) → accepted table n ≡ gives P → count P ≤ most_procedures
accepted_few table n P e = read_count table ((accepted_exactly table n P).0 e).reads

-- the data wires end as the run leaves them and every other wire at zero
circuit_ends : (n : ℕ) (P : Program) → Accepted n P → (word : ℕ) → word < 2 ^ n → circuit_block (circuit P n) word ≡ block_of (state_of (end_word P n word))
unfolding circuit_block circuit end_word
circuit_ends n P a word h =
    let zeros = word_zero n word h in
    let ends = agreement P a.named a.passes10 a.passes11 n a.some a.passes12 (state_of word) zeros in
    let past = ancillas_zero P a.named a.passes10 a.passes11 n a.some a.passes12 (state_of word) zeros in
    rw ends (same_block block_length 1 (end_state P n (state_of word)) (state_of (end_word P n word))
    (λ w l. sym (word_wire n (end_state P n (state_of word)) (λ v g. sym (ap (λ (s : State). s v) ends) ∙ past v g) w l)))

run_ends : (n : ℕ) (P : Program) → Accepted n P → (bytes : List ℕ) → circuit_read bytes ≡ gives (circuit P n) → (word : ℕ) → word < 2 ^ n →
    circuit_run bytes word ≡ gives (record { data_wires = n; ancillas = peak [] (emission P n); bits = block_of (state_of (end_word P n word)) })
unfolding circuit_run after require circuit
run_ends n P a bytes reads word h = rw (reads, lt-ltb word (2 ^ n) h, circuit_ends n P a word h)

-- the block that it gives is the end word's: each data wire holds its bit, and every other bit is zero
module _ (n : ℕ) (P : Program) (a : Accepted n P) (bytes : List ℕ) (reads : circuit_read bytes ≡ gives (circuit P n)) (word : ℕ) (low : word < 2 ^ n)
    (block : Block) (given : circuit_run bytes word ≡ gives block) where
  ends : block.bits ≡ block_of (state_of (end_word P n word))
  ends = ap (λ (b : Block). b.bits) (gives_same (sym given ∙ run_ends n P a bytes reads word low))

  wires_hold : (i : ℕ) → 1 ≤ i → i ≤ n → wire_bit block.bits i ≡ bit (end_word P n word) (i - 1)
  wires_hold i some in-n = let few : n ≤ most_qubits = a.few in rw ends (block_bit (end_word P n word) i some (omega arith))

  others_zero : ZeroPast n block.bits
  others_zero = rw ends (end_past P n word)

-- run answers the end word of an accepted table
pub run_answers : (table : List ℕ) (n : ℕ) (P : Program) → accepted table n ≡ gives P → (word workspace : ℕ) → word < 2 ^ n → least_workspace ≤ workspace →
    run table n word workspace ≡ gives (end_word P n word)
unfolding run after require
run_answers table n P accepts word workspace low space = rw (accepts, lt-ltb word (2 ^ n) low, le-leb least_workspace workspace space)

module _ (table : List ℕ) (n room : ℕ) (P : Program) (accepts : accepted table n ≡ gives P) (header : header_length ≤ usable room)
    (fits : fit (usable room) header_length (emission P n) ≡ 0) where
  abbrev a : Accepted n P
  a = accepted_is table n P accepts

  good : FittingCircuit P n room
  good = emission_well_formed P a.named a.passes10 a.passes11 n a.some a.few a.passes12 room header fits

  promised : Demand3 table n (write (circuit P n))
  unfolding circuit
  promised =
      let reads = circuit_read_write (circuit P n) good.well_formed_lem in
      record {
        program = P;
        accepts = accepts;
        written = refl;
        reads = reads;
        bounded = gate_bound_lem P a.named a.passes10 a.passes11 n;
        runs = run_ends n P a (write (circuit P n)) reads;
        holds = wires_hold n P a (write (circuit P n)) reads;
        zeros = others_zero n P a (write (circuit P n)) reads;
        answers = run_answers table n P accepts;
      }

-- Demand 3, for every table that compile gives a circuit of; and the circuit has its place in the room.
pub compile_promises : (table : List ℕ) (n room workspace : ℕ) {bytes : List ℕ} → compile table n room workspace ≡ gives bytes →
    Demand3 table n bytes × (length bytes ≤ room)
compile_promises table n room workspace e =
    let given = compile_gives table n room workspace e in
    let c = given.0 in
    subst (λ (bs : List ℕ). Demand3 table n bs × (length bs ≤ room)) (sym given.1)
    (promised table n room c.program c.accepts c.header c.fits, (good table n room c.program c.accepts c.header c.fits).in_room)

-- Refusals 22 and 23, for an accepted table and a workspace that is long enough: a room without place for the header, or the first step that does not fit
module _ (table : List ℕ) (n room workspace : ℕ) (P : Program) (accepts : accepted table n ≡ gives P) (space : least_workspace ≤ workspace) where
  -- what compile is there
  pub compiles : compile table n room workspace ≡
      require (leb header_length (usable room)) no_room (fitted (fit (usable room) header_length (emission P n)) (circuit P n))
  unfolding compile after require
  compiles = rw (accepts, le-leb least_workspace workspace space)

  pub no_header : usable room < header_length → compile table n room workspace ≡ refuses no_room
  unfolding require
  no_header h = rw (compiles, lt-leb header_length (usable room) h)

  module _ (header : header_length ≤ usable room) where
    decided : compile table n room workspace ≡ fitted (fit (usable room) header_length (emission P n)) (circuit P n)
    unfolding require
    decided = rw (compiles, le-leb header_length (usable room) header)

    -- a circuit that fits is given
    pub all_given : AllFit (usable room) header_length (emission P n) → compile table n room workspace ≡ gives (write (circuit P n))
    unfolding fitted
    all_given h = rw (decided, all_fit (usable room) header_length (emission P n) h)

    -- the first step that does not fit gives its number
    pub first_refused : {k : ℕ} → FirstMisfit (usable room) header_length (emission P n) k → compile table n room workspace ≡ refuses k
    unfolding fitted
    first_refused {k = zero} h = absurd (nothing (first_fit (usable room) h).1)
      where
        nothing : 0 < 0 → ⊥
        nothing l = omega arith
    first_refused {k = suc k} h = rw (decided, (first_fit (usable room) h).0)

    -- and one of the two holds
    pub fits_or_not : AllFit (usable room) header_length (emission P n) ⊎ ((k : ℕ) × FirstMisfit (usable room) header_length (emission P n) k)
    fits_or_not = by_eq (fit (usable room) header_length (emission P n)) 0
        (λ e. inl (fit_all (usable room) header_length (emission P n) e))
        (λ ne. inr (fit (usable room) header_length (emission P n), fit_first (usable room) header_length (emission P n) (positive ne)))
      where
        positive : {m : ℕ} → m ≢ 0 → 0 < m
        positive ne = omega arith
