-- A statement emitted whole does what the statement does where its controls fire, and nothing where they do not.
use mathlib.Core.Path.{◌≡◌, ap, ◌∙◌}
use mathlib.Core.Bool.{true, false, not}
use mathlib.Core.List.{List, [], ◌∷◌}
use Prim.Native.Nat.{ℕ, suc, ◌<◌}
use native.Mathlib.Omega.{arith}
use Rattle.model.specs.Syntax.{Statement, skip, NOT, sequence, if, qcase, call, Program}
use Rattle.model.specs.Lists.{remaining, touched, holds}
use Rattle.model.specs.Meaning.{State, flipped, CallDoes, call_does, does}
use Rattle.model.specs.Gates.{Controls, with_control, flip, fires, act}
use Rattle.model.specs.Emission.{places, Chains, start_chain, whole}
use Rattle.model.proofs.BooleanLaws.{by_bool}
use Rattle.model.proofs.ListLaws.{member_head, Distinct, Data, data_off, data_remaining, data_touched, remaining_distinct}
use Rattle.model.proofs.GateLaws.{flipped_same, flipped_twice, fires_same, fires_flipped, fires_hit, fires_miss, fires_fewer, flip_fires, flip_rests}
use Rattle.model.proofs.EnoughFuel.{does_yes, does_no, does_zero, does_one}
use Rattle.agreement.proofs.EffectOfEvents.{effect, effect_nil, effect_takes, effect_places, effect_frees, effect_append}
use Rattle.agreement.proofs.EmissionClauses.{Low, whole_yes, whole_no}
use Rattle.agreement.proofs.ProgramFacts.{
  Safely,
  SafeCall,
  Safe,
  touch_positive,
  World,
  Zero,
  zero_up,
  zero_flip,
  AskedIn,
  asked_in_with_control,
  Below,
  below_with_control,
  below_not,
  fine_call,
  Served,
}
use Rattle.agreement.proofs.FrameAndRenaming.{does_keeps, does_stays, fires_does}

-- one flip under controls that fire
pub effect_flip_fires : (cs : Controls) (t : ℕ) (s : State) → fires cs s ≡ true → effect (places (flip cs t) ∷ []) s ≡ flipped t s
effect_flip_fires cs t s h = effect_places (flip cs t) [] s ∙ (effect_nil (act (flip cs t) s) ∙ flip_fires cs t s h)

-- one flip under controls that do not fire
pub effect_flip_rests : (cs : Controls) (t : ℕ) (s : State) → fires cs s ≡ false → effect (places (flip cs t) ∷ []) s ≡ s
effect_flip_rests cs t s h = effect_places (flip cs t) [] s ∙ (effect_nil (act (flip cs t) s) ∙ flip_rests cs t s h)

module _ (P : Program) (rank : ℕ → ℕ) (E : CallDoes) (G : Safely) (n : ℕ) (W : World P rank E G) where
  -- a statement leaves zero wires behind its list zero
  pub zero_does : (t : Statement) (l : List ℕ) (next : ℕ) (s : State) → Data n l → n < next → Zero next s → Zero next (does E t l s)
  zero_does t l next s d h z w k = does_stays E W.stays t l s w (data_off n l d w (omega arith)) ∙ z w k

  -- so does a call
  pub zero_call : (f : ℕ) (l : List ℕ) (next : ℕ) (s : State) → Data n l → n < next → Zero next s → Zero next (E f l s)
  zero_call f l next s d h z w k = W.stays f l s w (data_off n l d w (omega arith)) ∙ z w k

  -- controls that ask closed wires fire behind a safe call as before, and also where a wire that they do not ask is flipped
  pub fires_call : (f : ℕ) (l C : List ℕ) (cs : Controls) (next : ℕ) (s : State) → G f l C → AskedIn C cs → Below next cs →
      fires cs (flipped next (E f l s)) ≡ fires cs s
  fires_call f l C cs next s g A B =
      fires_flipped cs (E f l s) next (below_not next next cs B (omega arith)) ∙ fires_same cs (E f l s) s (λ w m. W.keeps f l C s w g (A w m))

  module _ (chains : Chains) (k : ℕ) (served : Served rank E G n chains k) where
    -- a chain that starts under controls that do not fire
    pub start_chain_rests : (f : ℕ) (l C : List ℕ) (cs : Controls) (next : ℕ) (s : State) → rank f < k → SafeCall G f l C → Data n l → Distinct l →
        n < next → Zero next s → fires cs s ≡ false → effect (start_chain chains f l cs next) s ≡ s
    unfolding start_chain
    start_chain_rests f [] C cs next s r g d u a z h = effect_nil s
    start_chain_rests f (q ∷ l) C cs next s r g d u a z h =
        let L : List ℕ = q ∷ l in
        rw (
          effect_takes,
          effect_places,
          flip_rests cs next s h,
          effect_append,
          served.off f L next s r (fine_call G n f q l C W.weakens g d u) a (zero_up next (suc next) s (omega arith) z) (z next (omega arith)),
          effect_places,
          effect_frees,
          effect_nil,
        )
        (flip_rests cs next s h)

    -- a chain that starts under controls that fire
    pub start_chain_fires : (f : ℕ) (l C : List ℕ) (cs : Controls) (next : ℕ) (s : State) → rank f < k → SafeCall G f l C → Data n l → Distinct l →
        n < next → Zero next s → AskedIn C cs → Below next cs → fires cs s ≡ true → effect (start_chain chains f l cs next) s ≡ call_does E f l s
    unfolding start_chain call_does
    start_chain_fires f [] C cs next s r g d u a z A B h = effect_nil s
    start_chain_fires f (q ∷ l) C cs next s r g d u a z A B h =
        let L : List ℕ = q ∷ l in
        let set : flipped next s next ≡ true = flipped_same s next ∙ ap not (z next (omega arith)) in
        let zs : Zero (suc next) (flipped next s) = zero_flip next (suc next) s (omega arith) (zero_up next (suc next) s (omega arith) z) in
        rw (
          effect_takes,
          effect_places,
          flip_fires cs next s h,
          effect_append,
          served.on f L next (flipped next s) r (fine_call G n f q l C W.weakens g d u) a zs set,
          W.outside f L s next (data_off n L d next a),
          effect_places,
          effect_frees,
          effect_nil,
          flip_fires cs next (flipped next (E f L s)) (fires_call f L C cs next s g A B ∙ h),
        )
        (flipped_twice (E f L s) next)

    -- a statement emitted whole under controls that do not fire
    pub whole_rests : (t : Statement) (l C : List ℕ) (cs : Controls) (next : ℕ) (s : State) → Low rank k t → Safe G t l C → Data n l → Distinct l →
        n < next → Zero next s → fires cs s ≡ false → effect (whole chains t l cs next) s ≡ s
    unfolding whole
    whole_rests skip l C cs next s r o d u a z h = effect_nil s
    whole_rests (NOT rs i) l C cs next s r o d u a z h = effect_flip_rests cs (touched rs i l) s h
    whole_rests (sequence x y) l C cs next s r o d u a z h =
        rw (effect_append, whole_rests x l C cs next s r.0 o.0 d u a z h) (whole_rests y l C cs next s r.1 o.1 d u a z h)
    whole_rests (if c x y) l C cs next s r o d u a z h = by_bool (holds c l)
        (λ e. rw (whole_yes chains l cs next c x y e) (whole_rests x l C cs next s r.0 (rw e at o) d u a z h))
        (λ e. rw (whole_no chains l cs next c x y e) (whole_rests y l C cs next s r.1 (rw e at o) d u a z h))
    whole_rests (qcase rs i x y) l C cs next s r o d u a z h =
        let q = touched rs i l in
        rw (effect_append, whole_rests x l (q ∷ C) (with_control q false cs) next s r.0 o.1 d u a z (fires_fewer q false cs s h))
        (whole_rests y l (q ∷ C) (with_control q true cs) next s r.1 o.2 d u a z (fires_fewer q true cs s h))
    whole_rests (call rs f) l C cs next s r o d u a z h =
        start_chain_rests f (remaining rs l) C cs next s r o (data_remaining n rs l d) (remaining_distinct rs l u) a z h

    -- a statement emitted whole under controls that fire
    pub whole_fires : (t : Statement) (l C : List ℕ) (cs : Controls) (next : ℕ) (s : State) → Low rank k t → Safe G t l C → Data n l → Distinct l →
        n < next → Zero next s → AskedIn C cs → Below next cs → fires cs s ≡ true → effect (whole chains t l cs next) s ≡ does E t l s
    unfolding whole does
    whole_fires skip l C cs next s r o d u a z A B h = effect_nil s
    whole_fires (NOT rs i) l C cs next s r o d u a z A B h = effect_flip_fires cs (touched rs i l) s h
    whole_fires (sequence x y) l C cs next s r o d u a z A B h =
        rw (effect_append, whole_fires x l C cs next s r.0 o.0 d u a z A B h)
        (whole_fires y l C cs next (does E x l s) r.1 o.1 d u a (zero_does x l next s d a z) A B
        (fires_does E G W.keeps x l C cs s o.0 A ∙ h))
    whole_fires (if c x y) l C cs next s r o d u a z A B h = by_bool (holds c l)
        (λ e. rw (whole_yes chains l cs next c x y e, does_yes E c x y l s e) (whole_fires x l C cs next s r.0 (rw e at o) d u a z A B h))
        (λ e. rw (whole_no chains l cs next c x y e, does_no E c x y l s e) (whole_fires y l C cs next s r.1 (rw e at o) d u a z A B h))
    whole_fires (qcase rs i x y) l C cs next s r o d u a z A B h =
        let q = touched rs i l in
        let low : q < next = omega (arith, data_touched n rs i l d) in
        let p = touch_positive q C o.0 in
        let c0 = with_control q false cs in
        let c1 = with_control q true cs in
        by_bool (s q)
        (λ e. rw (
          does_one E rs i x y l s e,
          effect_append,
          whole_rests x l (q ∷ C) c0 next s r.0 o.1 d u a z (fires_miss q false cs s p e),
        )
        (whole_fires y l (q ∷ C) c1 next s r.1 o.2 d u a z (asked_in_with_control q true C cs A) (below_with_control next q true cs low B)
        (fires_hit q true cs s e ∙ h)))
        (λ e. rw (
          does_zero E rs i x y l s e,
          effect_append,
          whole_fires x l (q ∷ C) c0 next s r.0 o.1 d u a z (asked_in_with_control q false C cs A) (below_with_control next q false cs low B)
              (fires_hit q false cs s e ∙ h),
        )
        (whole_rests y l (q ∷ C) c1 next (does E x l s) r.1 o.2 d u a (zero_does x l next s d a z)
        (fires_miss q true cs (does E x l s) p (does_keeps E G W.keeps x l (q ∷ C) s q o.1 (member_head q C) ∙ e))))
    whole_fires (call rs f) l C cs next s r o d u a z A B h =
        start_chain_fires f (remaining rs l) C cs next s r o (data_remaining n rs l d) (remaining_distinct rs l u) a z A B h
