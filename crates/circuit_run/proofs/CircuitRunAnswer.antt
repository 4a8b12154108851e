-- The ways out of the circuit run: its answer is document 01's.
use mathlib.Core.Path.{◌≡◌, sym}
use mathlib.Core.Bool.{Bool, true, false}
use mathlib.Core.List.{List}
use Prim.Native.Nat.{ℕ, ◌^◌, ◌<◌}
use borrow.Author.Rules.{rules}
use borrow.Author.Tests.{not-true, not-false}
use lib.Dec.{eqb, ltb}
use Rattle.std.specs.Prelude.{Option, None, Some}
use lib.ListN.{length}
use Rattle.model.specs.Limits.{high_bit, not_well_formed}
use Rattle.model.specs.Reading.{Parsed, parsed, refused, and_then, provided}
use Rattle.model.specs.Meaning.{state_of}
use Rattle.model.specs.Gates.{Gate}
use Rattle.model.specs.Circuit.{whole_circuit, circuit_block}
use Rattle.model.specs.Answers.{refuses, after, require, well_formed, circuit_read, circuit_run}
use Rattle.model.proofs.BooleanLaws.{by_bool}
use Rattle.wires.specs.StateOfABlock.{wires_of}
use Rattle.wires.specs.declared.Wires.{Wires}
use Rattle.wires.proofs.BlocksAndStates.{start_state}
use Rattle.circuit_run.specs.RunAnswers.{wires_at_end, ran_of, end_answer}
use Rattle.answers.specs.Structs.{refused_block, given_block, block_answer}
use Rattle.answers.specs.declared.CircuitBlock.{CircuitBlock}

-- the ways out of `answer`
pub answer_none : (ended : Option Wires) (word : ℕ) → ended ≡ None → (x : CircuitBlock) → x ≡ refused_block not_well_formed →
    x ≡ end_answer word (wires_at_end ended)
unfolding end_answer
answer_none ended word e x is = rw (is, e)

module _ (ended : Option Wires) (word : ℕ) (wires : Wires) (e : ended ≡ Some wires) (low : Bool) (l : low ≡ ltb word (2 ^ wires.«data»)) where
  pub answer_high : low ≡ false → (x : CircuitBlock) → x ≡ refused_block high_bit → x ≡ end_answer word (wires_at_end ended)
  unfolding end_answer
  answer_high f x is = rw (is, e, ← l, f)

  pub answer_low : low ≡ true → given_block wires.«data» wires.ancillas wires.bits ≡ end_answer word (wires_at_end ended)
  unfolding end_answer
  answer_low f = rw (e, ← l, f)

pub ruleset answering = (rules, not-true, not-false, answer_none, answer_high, answer_low)

-- the ways out of `run_circuit`
module _ (bs : List ℕ) (word : ℕ) where
  -- what has no header is refused
  pub run_refused : refuses not_well_formed ≡ circuit_read bs → (x : CircuitBlock) → x ≡ refused_block not_well_formed →
      x ≡ block_answer (circuit_run bs word)
  unfolding circuit_run after block_answer
  run_refused read x is = rw (is, ← read)

  -- the answer to wires that ended is the answer of the circuit run
  ending : (n ancillas : ℕ) (p : Parsed (List Gate)) → word < 2 ^ 64 → circuit_read bs ≡ well_formed (whole_circuit n ancillas p) →
      end_answer word (ran_of (wires_of n ancillas (state_of word)) p) ≡ block_answer (circuit_run bs word)
  unfolding and_then provided well_formed after require circuit_run circuit_block ran_of end_answer block_answer
  ending n ancillas (parsed gs o) h e = rw e (by_bool (eqb (length o.bytes) 0)
      (λ z. rw (z, start_state word h) (by_bool (ltb word (2 ^ n)) (λ l. rw l) (λ l. rw l)))
      (λ z. rw z))
  ending n ancillas (refused k) h e = rw e

  -- what stands behind a header acts
  pub run_whole : (n ancillas : ℕ) (p : Parsed (List Gate)) → well_formed (whole_circuit n ancillas p) ≡ circuit_read bs → word < 2 ^ 64 →
      (wires : Wires) → wires ≡ wires_of n ancillas (state_of word) →
      (ended : Option Wires) → wires_at_end ended ≡ ran_of wires p →
      (x : CircuitBlock) → x ≡ end_answer word (wires_at_end ended) → x ≡ block_answer (circuit_run bs word)
  run_whole n ancillas p read w wires s ended r x is = rw (is, r, s) (ending n ancillas p w (sym read))

pub ruleset runs = (rules, run_refused, run_whole)
