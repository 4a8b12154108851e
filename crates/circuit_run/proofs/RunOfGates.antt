-- The loop over the gates: what is left of the run from here is the whole run.
use mathlib.Core.Path.{◌≡◌, refl, sym}
use mathlib.Core.Bool.{Bool, true, false}
use mathlib.Core.List.{List, ◌∷◌}
use Prim.Native.Nat.{ℕ, zero, suc, ◌+◌, ◌-◌, ◌≤◌, ◌<◌}
use native.Mathlib.Numerals.{sub-one}
use native.Mathlib.Omega.{arith}
use borrow.Author.Rules.{rules}
use lib.ListN.{length}
use lib.Dec.{eqb}
use Rattle.std.specs.Prelude.{Option}
use Rattle.std.specs.Bool.{then_some}
use Rattle.model.specs.Limits.{not_well_formed}
use Rattle.limits.specs.Sizes.{block_bits}
use Rattle.model.specs.Reading.{Input, Parsed, parsed, refused, and_then}
use Rattle.model.specs.Meaning.{State}
use Rattle.model.specs.Gates.{Gate, act, acts}
use Rattle.model.specs.Circuit.{gate_is_well_formed, read_gate, read_gates, block_of}
use Rattle.model.specs.Answers.{Outcome, refuses}
use Rattle.model.proofs.RoundTrip.{reads_gate, formed}
use Rattle.wires.specs.StateOfABlock.{state_in, in_state}
use Rattle.wires.specs.declared.Wires.{Wires}
use Rattle.wires.proofs.BlocksAndStates.{IsBlock, block_bytes, bytes_inside, state_of_block, act_inside}
use Rattle.wires.proofs.WireOperations.{is_block, same_state}
use Rattle.circuit.specs.GatesInBytes.{input_of, settled}
use Rattle.circuit.proofs.GateReading.{settled_parsed}
use Rattle.circuit_run.specs.RunAnswers.{ended_as, wires_at_end, ran_of}

-- what was not read ran no gate
ran_refused : {A : Type 0} (wires : Wires) (p : Parsed A) (f : A → Input → Parsed (List Gate)) → refused not_well_formed ≡ settled p →
    ran_of wires (and_then p f) ≡ refuses not_well_formed
unfolding settled and_then ran_of
ran_refused wires (parsed b j) f e = let z : ◌≡◌ {A = ℕ} 0 1 = cc in absurd (omega arith)
ran_refused wires (refused k) f e = refl

-- a gate that was read keeps the state within its block
act_state : (most : ℕ) (i : Input) (g : Gate) (j : Input) (bits : List ℕ) → most ≤ block_bits → IsBlock bits → read_gate most i ≡ parsed g j →
    state_in (block_of (act g (state_in bits))) ≡ act g (state_in bits)
act_state most i g j bits h b e =
    let ok : gate_is_well_formed most g ≡ true = (rw e at (reads_gate most i)).0 in
    state_of_block (act g (state_in bits)) (act_inside most h g (state_in bits) (formed most g ok).inside (bytes_inside bits b))

-- the first gate acts, then the rest
ran_front : (wires : Wires) (g : Gate) (p : Parsed (List Gate)) →
    state_in (block_of (act g (state_in wires.bits))) ≡ act g (state_in wires.bits) →
    ran_of wires (and_then p (λ gs k. parsed (g ∷ gs) k)) ≡ ran_of (in_state (act g (state_in wires.bits)) wires) p
unfolding and_then ran_of acts
ran_front wires g (parsed gs k) e = rw (e, acts)
ran_front wires g (refused k) e = refl

ran_more : (most left : ℕ) (i : Input) → 0 < left →
    read_gates most left i ≡ and_then (read_gate most i) (λ g j. and_then (read_gates most (left - 1) j) (λ gs k. parsed (g ∷ gs) k))
unfolding read_gates
ran_more most zero i h = absurd (omega arith)
ran_more most (suc n) i h = rw (sub-one, read_gates)

-- what the loop of `run_gates` keeps: the whole run is the run of the gates that are to come, on the wires as they are
module _ (most count k : ℕ) (l : List ℕ) (wires : Wires) (whole : Outcome Wires)
    (inv : whole ≡ ran_of wires (read_gates most (count - k) (input_of l))) where
  pub run_end : count ≤ k → IsBlock wires.bits → (empty : Bool) → empty ≡ eqb (length l) 0 → (r : Option Wires) → r ≡ then_some empty wires →
      wires_at_end r ≡ whole
  unfolding read_gates ran_of acts
  run_end h b empty is r e =
      let z : count - k ≡ 0 = omega arith in
      rw (e, inv, z, ← same_state wires b, ← is) (by empty)
    where
      by : (c : Bool) → wires_at_end (then_some c wires) ≡ ended_as c wires
      by true = refl
      by false = refl

  module _ (h : k < count) where
    pub run_bad : refused not_well_formed ≡ settled (read_gate most (input_of l)) → refuses not_well_formed ≡ whole
    run_bad e = rw (inv, ran_more most (count - k) (input_of l) (omega arith)) (sym (ran_refused wires (read_gate most (input_of l)) _ e))

    pub run_next : (g : Gate) (o : List ℕ) → parsed g (input_of o) ≡ settled (read_gate most (input_of l)) → IsBlock wires.bits → most < 256 →
        (next : Wires) → next ≡ in_state (act g (state_in wires.bits)) wires →
        whole ≡ ran_of next (read_gates most (count - (k + 1)) (input_of o))
    unfolding and_then
    run_next g o e b m next n =
        let found : read_gate most (input_of l) ≡ parsed g (input_of o) = settled_parsed (read_gate most (input_of l)) g (input_of o) e in
        let less : count - k - 1 ≡ count - (k + 1) = omega arith in
        rw (inv, ran_more most (count - k) (input_of l) (omega arith), found, n, less)
        (ran_front wires g (read_gates most (count - (k + 1)) (input_of o))
        (act_state most (input_of l) g (input_of o) wires.bits (omega arith) b found))

-- the wires behind a gate are a block
pub run_block : (s : State) (wires next : Wires) → next ≡ in_state s wires → IsBlock next.bits
run_block s wires next n = rw n (block_bytes s)

pub ruleset running = (rules, is_block, run_block, run_end, run_bad, run_next)
