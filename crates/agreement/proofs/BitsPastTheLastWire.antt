-- "bits past the last wire are zero": gates over wires 1 to m leave every higher wire alone, so it is zero after a run as before, and its bit in the
-- block is zero. An end word of n qubits has no bit from n on, nor has its block.
use mathlib.Core.Path.{◌≡◌, refl, ◌∙◌, subst}
use mathlib.Core.Logic.{◌≢◌}
use mathlib.Core.Bool.{Bool, true, false}
use mathlib.Core.List.{List, [], ◌∷◌, ◌++◌}
use Prim.Native.Nat.{ℕ, suc, ◌+◌, ◌*◌, ◌^◌, ◌≤◌, ◌<◌}
use native.Mathlib.Omega.{arith}
use borrow.Author.Tests.{ltb-true}
use lib.Dec.{ltb}
use Rattle.model.specs.Limits.{block_length, high_bit}
use Rattle.model.specs.Syntax.{Program}
use Rattle.model.specs.Lists.{member}
use Rattle.model.specs.Meaning.{State, state_of, end_state, end_word}
use Rattle.model.specs.Gates.{Gate, flip, swap, act, acts, targets}
use Rattle.model.specs.Circuit.{Circuit, wires, within, wire_bit, block_of, circuit_block}
use Rattle.model.specs.Answers.{Outcome, gives, refuses, after, require, Block, circuit_read, circuit_run}
use Rattle.model.proofs.OutcomeLaws.{not_both}
use Rattle.model.proofs.ListLaws.{member_head, member_tail, member_skip, member_nil}
use Rattle.model.proofs.AscendingWires.{within_member}
use Rattle.model.proofs.GateLaws.{act_frame}
use Rattle.model.proofs.WordBits.{word_below, word_zero, block_wire}
use Rattle.model.proofs.RoundTrip.{AllWellFormed, WellFormed, formed, write_circuit_read}
use Rattle.agreement.proofs.ProgramFacts.{Zero}

-- a wire w past wire m
module _ (m w : ℕ) (past : m < w) where
  -- it is none of them
  past_differs : (v : ℕ) (l : List ℕ) → within m l ≡ true → member v l ≡ true → w ≢ v
  past_differs v l h i e = let low : v ≤ m = (within_member m v l h i).1 in omega arith

  -- a gate over wires 1 to m has no target past them
  past_targets : (g : Gate) → within m (wires g) ≡ true → member w (targets g) ≡ false
  unfolding targets wires
  past_targets (flip cs t) h =
      let asked = cs.ones ++ cs.zeros in
      member_skip w t [] (past_differs t (t ∷ asked) h (member_head t asked)) (member_nil w)
  past_targets (swap cs u v) h =
      let asked = cs.ones ++ cs.zeros in
      member_skip w u (v ∷ []) (past_differs u (u ∷ v ∷ asked) h (member_head u (v ∷ asked)))
      (member_skip w v [] (past_differs v (u ∷ v ∷ asked) h (member_tail v u (v ∷ asked) (member_head v asked))) (member_nil w))

  -- gates over wires 1 to m leave it as it was
  past_same : (gs : List Gate) → AllWellFormed m gs → (s : State) → acts gs s w ≡ s w
  unfolding acts
  past_same [] ok s = refl
  past_same (g ∷ gs) ok s = past_same gs ok.1 (act g s) ∙ act_frame g s w (past_targets g (formed m g ok.0).inside)

-- a run of a well-formed circuit, from a word of its data wires, leaves every wire past its last at zero
past_wires : (c : Circuit) → WellFormed c → (word : ℕ) → word < 2 ^ c.data_wires →
    Zero (suc (c.data_wires + c.ancillas)) (acts c.gates (state_of word))
past_wires c f word low w past =
    past_same (c.data_wires + c.ancillas) w past c.gates f.all_gates (state_of word) ∙ word_zero c.data_wires word low w (omega arith)

-- a block's bits past wire m are zero
abbrev pub ZeroPast : ℕ → List ℕ → Type 0
ZeroPast m block = (w : ℕ) → m < w → w ≤ 8 * block_length → wire_bit block w ≡ false

-- so they are in the block of a state that is zero past wire m
state_past : (m : ℕ) (s : State) → Zero (suc m) s → ZeroPast m (block_of s)
state_past m s zeros w past few = block_wire s w (omega arith) few ∙ zeros w past

-- "bits past the last wire are zero": in the block of every well-formed circuit, from every word of its data wires
circuit_past : (c : Circuit) → WellFormed c → (word : ℕ) → word < 2 ^ c.data_wires →
    ZeroPast (c.data_wires + c.ancillas) (circuit_block c word)
unfolding circuit_block
circuit_past c f word low = state_past (c.data_wires + c.ancillas) (acts c.gates (state_of word)) (past_wires c f word low)

-- and in every block that the circuit run answers
pub run_past : (bytes : List ℕ) (word : ℕ) {b : Block} → circuit_run bytes word ≡ gives b → ZeroPast (b.data_wires + b.ancillas) b.bits
unfolding circuit_run after require
run_past bytes word {b} = go (circuit_read bytes) refl
  where
    past_of : Block → Type 0
    past_of x = ZeroPast (x.data_wires + x.ancillas) x.bits

    block : Circuit → Block
    block c = record { data_wires = c.data_wires; ancillas = c.ancillas; bits = circuit_block c word }

    tested : (c : Circuit) → WellFormed c → (low : Bool) → ltb word (2 ^ c.data_wires) ≡ low →
        require low high_bit (gives (block c)) ≡ gives b → past_of b
    tested c f true low e = let same : block c ≡ b = cc in subst past_of same (circuit_past c f word (ltb-true word (2 ^ c.data_wires) low))
    tested c f false low e = not_both e

    go : (x : Outcome Circuit) → circuit_read bytes ≡ x →
        after x (λ c. require (ltb word (2 ^ c.data_wires)) high_bit (gives (block c))) ≡ gives b → past_of b
    go (gives c) r e = tested c (write_circuit_read bytes r).0 (ltb word (2 ^ c.data_wires)) refl e
    go (refuses k) r e = not_both e

-- an end word has no bit but those of its qubits
pub end_below : (P : Program) (n word : ℕ) → end_word P n word < 2 ^ n
unfolding end_word
end_below P n word = word_below n 1 (end_state P n (state_of word))

-- so "every other bit is zero" in its block
pub end_past : (P : Program) (n word : ℕ) → ZeroPast n (block_of (state_of (end_word P n word)))
end_past P n word = state_past n (state_of (end_word P n word)) (word_zero n (end_word P n word) (end_below P n word))
