-- The ways out of the functions that let a gate act.
use mathlib.Core.Path.{◌≡◌, refl, sym, ap, ◌∙◌}
use mathlib.Core.Bool.{Bool, true, false, not, ◌&&◌, ◌||◌, beq, and-true}
use mathlib.Core.List.{List, [], ◌∷◌}
use Prim.Native.Nat.{ℕ, ◌+◌, ◌≤◌, ◌<◌}
use borrow.Author.Rules.{rules}
use borrow.Author.Tests.{not-true, not-false}
use lib.ListN.{length, get_or, drop}
use Rattle.model.specs.Meaning.{State, flipped}
use Rattle.model.specs.Gates.{Controls, exchange, renamed, all_one, all_zero, fires, act}
use Rattle.wires.specs.StateOfABlock.{state_in, in_state}
use Rattle.wires.specs.declared.Wires.{Wires}
use Rattle.wires.proofs.BlocksAndStates.{IsBlock}
use Rattle.wires.proofs.WireOperations.{is_block, same_state}
use Rattle.circuit.specs.GatesInBytes.{controls_in, gate_with, gate_in}
use Rattle.circuit.specs.declared.Action.{Action}
use Rattle.circuit.specs.declared.Action.TheVariants.{Not, Swap}
use Rattle.circuit.specs.declared.Gate.{Gate}
use Rattle.circuit_run.specs.RunAnswers.{all_hold}
use Rattle.circuit.proofs.LoopsOverWires.{left_step, left_none}

-- no wire: each of them holds the bit asked for
hold_nil : (asked : Bool) (s : State) → all_hold asked [] s ≡ true
unfolding all_one all_zero
hold_nil true s = refl
hold_nil false s = refl

-- one wire more
hold_cons : (asked : Bool) (w : ℕ) (l : List ℕ) (s : State) → all_hold asked (w ∷ l) s ≡ beq (s w) asked && all_hold asked l s
unfolding all_one all_zero
hold_cons true w l s = by (s w)
  where
    by : (b : Bool) → b && all_one l s ≡ beq b true && all_one l s
    by true = refl
    by false = refl
hold_cons false w l s = by (s w)
  where
    by : (b : Bool) → not b && all_zero l s ≡ beq b false && all_zero l s
    by true = refl
    by false = refl

-- what the loop of `all_hold` keeps: all the wires hold the bit exactly where none so far was wrong and those that are left do
module _ (l : List ℕ) (i : ℕ) (asked : Bool) (bits : List ℕ) (wrong whole : Bool)
    (inv : whole ≡ not wrong && all_hold asked (drop i l) (state_in bits)) where
  pub hold_next : i < length l → (has : Bool) → has ≡ state_in bits (get_or l i 0) →
      whole ≡ not (wrong || not (beq has asked)) && all_hold asked (drop (i + 1) l) (state_in bits)
  hold_next h has is =
      rw (inv, left_step l i h, hold_cons asked (get_or l i 0) (drop (i + 1) l) (state_in bits), ← is)
      (by wrong (beq has asked) (all_hold asked (drop (i + 1) l) (state_in bits)))
    where
      by : (a b c : Bool) → not a && (b && c) ≡ not (a || not b) && c
      by true b c = refl
      by false true c = refl
      by false false c = refl

  pub hold_all : length l ≤ i → not wrong ≡ whole
  hold_all h = sym (rw (inv, left_none l i h, hold_nil asked (state_in bits), and-true (not wrong)))

pub ruleset held = (rules, hold_next, hold_all)

-- the ways out of `fires`
module _ (g : Gate) (bits : List ℕ) (first : Bool) (is : first ≡ all_hold true g.ones.now (state_in bits)) where
  pub fires_ones : first ≡ false → false ≡ fires (controls_in g) (state_in bits)
  unfolding fires
  fires_ones e = rw (← is, e)

  pub fires_zeros : first ≡ true → (second : Bool) → second ≡ all_hold false g.zeros.now (state_in bits) →
      second ≡ fires (controls_in g) (state_in bits)
  unfolding fires
  fires_zeros e second q = rw (← is, e, ← q)

pub ruleset firing = (rules, not-true, not-false, fires_ones, fires_zeros)

-- a gate that does not fire changes nothing
quiet : (a : Action) (cs : Controls) (s : State) → fires cs s ≡ false → act (gate_with a cs) s ≡ s
unfolding act
quiet (Not u) cs s e = rw (e, act)
quiet (Swap u v) cs s e = rw (e, act)

-- the ways out of `act`
module _ (g : Gate) (wires : Wires) (fire : Bool) (is : fire ≡ fires (controls_in g) (state_in wires.bits)) where
  abbrev Acts : Wires → Type 0
  Acts x = x ≡ in_state (act (gate_in g) (state_in wires.bits)) wires

  pub act_quiet : IsBlock wires.bits → fire ≡ false → Acts wires
  act_quiet h e =
      same_state wires h
      ∙ ap (λ (s : State). in_state s wires) (sym (quiet g.action (controls_in g) (state_in wires.bits) (sym is ∙ e)))

  module _ (e : fire ≡ true) where
    pub act_swap : (u v : ℕ) → g.action ≡ Swap u v → (x : Wires) → x ≡ in_state (renamed (exchange u v) (state_in wires.bits)) wires → Acts x
    unfolding act
    act_swap u v s x q = q ∙ ap (λ (t : State). in_state t wires) (rw (s, ← is, e, act))

    pub act_flip : (u : ℕ) → g.action ≡ Not u → (x : Wires) → x ≡ in_state (flipped u (state_in wires.bits)) wires → Acts x
    unfolding act
    act_flip u s x q = q ∙ ap (λ (t : State). in_state t wires) (rw (s, ← is, e, act))

pub ruleset acting = (rules, not-true, not-false, is_block, act_quiet, act_swap, act_flip)
