-- The ways out of a gate's checks: these checks are document 01's.
use mathlib.Core.Path.{◌≡◌}
use mathlib.Core.Bool.{Bool, true, false, not}
use mathlib.Core.List.{List}
use Prim.Native.Nat.{ℕ, ◌<◌}
use borrow.Author.Rules.{rules}
use borrow.Author.Tests.{not-true, not-false}
use Rattle.limits.specs.Sizes.{wire_count}
use Rattle.model.specs.Circuit.{gate_is_well_formed}
use Rattle.circuit.specs.declared.Action.{Action}
use Rattle.circuit.specs.GatesInBytes.{gate_with}
use Rattle.circuit.specs.GateChecks.{list_fits, set_of, any_in, placed, own_wires}
use Rattle.circuit.proofs.WellFormedGate.{checked_is}

-- the ways out of `well_formed`
module _ (most : ℕ) (h : most < wire_count) (a : Action) (ones zeros : List ℕ) (own : Bool) (own_is : own ≡ placed most a) where
  abbrev Judges : Bool → Type 0
  Judges b = b ≡ gate_is_well_formed most (gate_with a (record { ones = ones; zeros = zeros }))

  pub formed_own : own ≡ false → Judges false
  formed_own e = rw (checked_is most h ones zeros a, ← own_is, e)

  module _ (e : own ≡ true) (wires : ℕ × ℕ) (wires_is : wires ≡ own_wires a) (one : Bool) (one_is : one ≡ list_fits 0 most wires.0 wires.1 ones) where
    pub formed_ones : one ≡ false → Judges false
    formed_ones f = rw (checked_is most h ones zeros a, ← own_is, e, ← wires_is, ← one_is, f)

    module _ (f : one ≡ true) (other : Bool) (other_is : other ≡ list_fits 0 most wires.0 wires.1 zeros) where
      pub formed_zeros : other ≡ false → Judges false
      formed_zeros i = rw (checked_is most h ones zeros a, ← own_is, e, ← wires_is, ← one_is, f, ← other_is, i)

      pub formed_shared : other ≡ true → (shared : Bool) → shared ≡ any_in (set_of zeros) ones → Judges (not shared)
      formed_shared i shared shared_is = rw (checked_is most h ones zeros a, ← own_is, e, ← wires_is, ← one_is, f, ← other_is, i, ← shared_is)

pub ruleset forms = (rules, not-true, not-false, formed_own, formed_ones, formed_zeros, formed_shared)
