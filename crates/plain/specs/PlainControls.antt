-- "wires ascend": a control put in by plain insertion.
use Rattle.std.specs.Prelude.{ℕ, ◌<◌, ◌≡◌, Bool, true, false, List, [], ◌∷◌, ltb}
use Rattle.model.specs.Syntax.{Program}
use Rattle.model.specs.Lists.{member}
use Rattle.model.specs.Gates.{Controls, with_control}
use Rattle.model.specs.Emission.{emission}
use Rattle.plain.specs.Ways.{today_with}
use Rattle.plain.specs.EmissionBy.{emission_by}

-- a wire put before the first greater one. Whether it stands there already, or is 0, is not asked.
unfoldable pub plain_insert : ℕ → List ℕ → List ℕ
plain_insert w [] = w ∷ []
plain_insert w (x ∷ l) = elim (ltb w x) [ true ↦ w ∷ x ∷ l | false ↦ x ∷ plain_insert w l ]

-- one control more: wire w is asked for 1 (true) or 0 (false)
unfoldable pub plain_control : ℕ → Bool → Controls → Controls
plain_control w true cs = record { ones = plain_insert w cs.ones; zeros = cs.zeros }
plain_control w false cs = record { ones = cs.ones; zeros = plain_insert w cs.zeros }

-- a wire that may be asked beside some controls: it is a wire, and none of them asks it
abbrev pub Fresh : ℕ → Controls → Type 0
Fresh w cs = (0 < w) × (member w cs.ones ≡ false) × (member w cs.zeros ≡ false)

-- In the emission of P at n no control is asked twice and none is 0: put controls in any way that is today's for a fresh wire, and does anything at all
-- with another, and the emission is the same.
abbrev pub AsksFresh : Program → ℕ → Type 0
AsksFresh P n = (put : ℕ → Bool → Controls → Controls) →
    ((w : ℕ) (b : Bool) (cs : Controls) → Fresh w cs → put w b cs ≡ with_control w b cs) → emission_by (today_with put) P n ≡ emission P n
