-- Whole lines: their parts one behind the other.
use mathlib.Core.Path.{◌≡◌, refl}
use mathlib.Core.List.{List, [], ◌∷◌, ◌++◌}
use Prim.Native.Nat.{ℕ, ◌+◌}
use Rattle.model.specs.Gates.{Controls, no_controls}
use Rattle.model.specs.Circuit.{controls_of}
use Rattle.model.specs.Listing.{decimal, letter_x, letter_s, space, newline, action_text, control_text, gate_line}
use Rattle.circuit.specs.GatesInBytes.{controls_in, gate_with, gate_in}
use Rattle.circuit.specs.declared.Action.{Action}
use Rattle.circuit.specs.declared.Action.TheVariants.{Not, Swap}
use Rattle.circuit.specs.declared.Gate.{Gate}
use Rattle.circuit.specs.declared.Header.{Header}
use Rattle.lines.specs.ListingRows.{first_read}
use Rattle.text.specs.declared.Writer.{Writer}
use Rattle.text.specs.AppendedBytes.{puts}
use Rattle.text.proofs.AppendLaws.{put_then, put_next}

-- what `first_line` leaves
pub first_put : (h : Header) (size : ℕ) → size ≡ h.gates + h.qubits + h.ancillas → (w w₁ w₂ w₃ w₄ : Writer) → w₁ ≡ puts (decimal h.qubits) w →
    w₂ ≡ puts (space ∷ decimal h.ancillas) w₁ → w₃ ≡ puts (space ∷ decimal size) w₂ → w₄ ≡ puts (newline ∷ []) w₃ → w₄ ≡ puts (first_read h) w
first_put h size is w w₁ w₂ w₃ w₄ p q r s =
    rw (← is)
    (put_then (decimal h.qubits) ((space ∷ decimal h.ancillas) ++ ((space ∷ decimal size) ++ (newline ∷ []))) w w₁ w₄ p
    (put_then (space ∷ decimal h.ancillas) ((space ∷ decimal size) ++ (newline ∷ [])) w₁ w₂ w₄ q
    (put_then (space ∷ decimal size) (newline ∷ []) w₂ w₃ w₄ r s)))

-- the ways out of `put_action`
module _ (action : Action) (w w₁ w₂ : Writer) where
  pub action_not : (u : ℕ) → action ≡ Not u → w₁ ≡ puts (letter_x ∷ []) w → w₂ ≡ puts (space ∷ decimal u) w₁ →
      w₂ ≡ puts (action_text (gate_with action no_controls)) w
  unfolding action_text
  action_not u e p q = rw e (put_next letter_x (space ∷ decimal u) w w₁ w₂ p q)

  pub action_swap : (u v : ℕ) → action ≡ Swap u v → w₁ ≡ puts (letter_s ∷ []) w → w₂ ≡ puts (space ∷ decimal u) w₁ →
      (w₃ : Writer) → w₃ ≡ puts (space ∷ decimal v) w₂ → w₃ ≡ puts (action_text (gate_with action no_controls)) w
  unfolding action_text
  action_swap u v e p q w₃ r =
      rw e (put_next letter_s ((space ∷ decimal u) ++ (space ∷ decimal v)) w w₁ w₃ p (put_then (space ∷ decimal u) (space ∷ decimal v) w₁ w₂ w₃ q r))

-- what a gate does and what it is under
action_is : (a : Action) (cs : Controls) → action_text (gate_with a cs) ≡ action_text (gate_with a no_controls)
unfolding action_text
action_is (Not u) cs = refl
action_is (Swap u v) cs = refl

controls_are : (a : Action) (cs : Controls) → controls_of (gate_with a cs) ≡ cs
unfolding controls_of
controls_are (Not u) cs = refl
controls_are (Swap u v) cs = refl

-- what `gate_line` leaves
pub gate_put : (k : ℕ) (g : Gate) (w w₁ w₂ w₃ w₄ w₅ : Writer) → w₁ ≡ puts (decimal k) w → w₂ ≡ puts (space ∷ []) w₁ →
    w₃ ≡ puts (action_text (gate_with g.action no_controls)) w₂ → w₄ ≡ puts (control_text g.ones.now g.zeros.now) w₃ →
    w₅ ≡ puts (newline ∷ []) w₄ → w₅ ≡ puts (gate_line k (gate_in g)) w
gate_put k g w w₁ w₂ w₃ w₄ w₅ p q r s t =
    let action : List ℕ = action_text (gate_with g.action no_controls) in
    let controls : List ℕ = control_text g.ones.now g.zeros.now in
    rw (action_is g.action (controls_in g), controls_are g.action (controls_in g))
    (put_then (decimal k) (space ∷ (action ++ (controls ++ (newline ∷ [])))) w w₁ w₅ p
    (put_next space (action ++ (controls ++ (newline ∷ []))) w₁ w₂ w₅ q
    (put_then action (controls ++ (newline ∷ [])) w₂ w₃ w₅ r
    (put_then controls (newline ∷ []) w₃ w₄ w₅ s t))))
