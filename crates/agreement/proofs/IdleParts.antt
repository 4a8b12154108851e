-- The left and the right part of a body under controls that do not fire do nothing.
use mathlib.Core.Path.{◌≡◌, ◌∙◌}
use mathlib.Core.Bool.{Bool, true, false}
use mathlib.Core.List.{List, [], ◌∷◌}
use Prim.Native.Nat.{ℕ, ◌+◌, ◌≤◌, ◌<◌}
use native.Mathlib.Omega.{arith}
use lib.ListN.{length}
use Rattle.model.specs.Syntax.{Statement, skip, NOT, sequence, if, qcase, call, Program}
use Rattle.model.specs.Lists.{remaining, touched, holds}
use Rattle.model.specs.Meaning.{State, CallDoes}
use Rattle.model.specs.Reach.{width}
use Rattle.model.specs.Gates.{Controls, with_control, flip, fires}
use Rattle.model.specs.Emission.{places, Chains, is_wide, invocations, invokes, returns, left, right}
use Rattle.model.proofs.BooleanLaws.{by_bool}
use Rattle.model.proofs.ListLaws.{Distinct, Data, data_remaining, remaining_distinct}
use Rattle.model.proofs.GateLaws.{fires_fewer}
use Rattle.model.proofs.ReachAndRank.{Ranked}
use Rattle.agreement.proofs.EffectOfEvents.{effect, effect_nil, effect_takes, effect_append}
use Rattle.agreement.proofs.EmissionClauses.{left_wide, left_thin, left_yes, left_no, left_recursive, left_other, right_wide, right_thin, right_yes}
use Rattle.agreement.proofs.EmissionClauses.{right_no, right_recursive, right_other, width_sequence, width_if, width_qcase, thin_width, wide_width}
use Rattle.agreement.proofs.EmissionClauses.{thin_low}
use Rattle.agreement.proofs.ProgramFacts.{Safely, Safe, World, Zero, zero_up, Served}
use Rattle.agreement.proofs.WholeStatement.{effect_flip_rests, start_chain_rests, whole_rests}

returns_rests : (l : List ℕ) (cs : Controls) (a : ℕ) (s : State) → fires cs s ≡ false → effect (returns l cs a) s ≡ s
unfolding returns
returns_rests [] cs a s h = effect_nil s
returns_rests (q ∷ l) cs a s h = effect_flip_rests cs a s h

invokes_rests : (l : List ℕ) (cs : Controls) (a : ℕ) (s : State) → fires cs s ≡ false → effect (invokes l cs a) s ≡ s
unfolding invokes
invokes_rests [] cs a s h = effect_nil s
invokes_rests (q ∷ l) cs a s h = effect_takes a (places (flip cs a) ∷ []) s ∙ effect_flip_rests cs a s h

module _ (P : Program) (rank : ℕ → ℕ) (E : CallDoes) (G : Safely) (n : ℕ) (W : World P rank E G)
    (chains : Chains) (k : ℕ) (served : Served rank E G n chains k) (r : ℕ → Bool) where
  -- a left part under controls that do not fire
  pub left_rests : (t : Statement) (l C : List ℕ) (cs : Controls) (next : ℕ) (s : State) → Ranked rank r k t → width r t ≤ 1 → Safe G t l C →
      Data n l → Distinct l → n < next → Zero next s → fires cs s ≡ false → effect (left chains r t l cs next) s ≡ s
  unfolding left
  left_rests skip l C cs next s q v o d u a z h = effect_nil s
  left_rests (NOT rs i) l C cs next s q v o d u a z h = effect_flip_rests cs (touched rs i l) s h
  left_rests (sequence x y) l C cs next s q v o d u a z h = by_bool (is_wide r x)
      (λ e. rw (left_wide chains r l cs next x y e) (left_rests x l C cs next s q.0 (width_sequence r x y v).0 o.0 d u a z h))
      (λ e. rw (
        left_thin chains r l cs next x y e,
        effect_append,
        whole_rests P rank E G n W chains k served x l C cs next s (thin_low rank r k x q.0 (thin_width r x e)) o.0 d u a z h,
      )
      (left_rests y l C cs next s q.1 (width_sequence r x y v).1 o.1 d u a z h))
  left_rests (if c x y) l C cs next s q v o d u a z h = by_bool (holds c l)
      (λ e. rw (left_yes chains r l cs next c x y e) (left_rests x l C cs next s q.0 (width_if r c x y v).0 (rw e at o) d u a z h))
      (λ e. rw (left_no chains r l cs next c x y e) (left_rests y l C cs next s q.1 (width_if r c x y v).1 (rw e at o) d u a z h))
  left_rests (qcase rs i x y) l C cs next s q v o d u a z h =
      let w = touched rs i l in
      let m = next + length (invocations r x l next) in
      let c0 = with_control w false cs in
      let c1 = with_control w true cs in
      rw (effect_append, left_rests x l (w ∷ C) c0 next s q.0 (width_qcase r rs i x y v).0 o.1 d u a z (fires_fewer w false cs s h))
      (left_rests y l (w ∷ C) c1 m s q.1 (width_qcase r rs i x y v).1 o.2 d u (omega arith) (zero_up next m s (omega arith) z)
      (fires_fewer w true cs s h))
  left_rests (call rs f) l C cs next s q v o d u a z h = by_bool (r f)
      (λ e. rw (left_recursive chains r l cs next rs f e) (invokes_rests (remaining rs l) cs next s h))
      (λ e. rw (left_other chains r l cs next rs f e)
      (start_chain_rests P rank E G n W chains k served f (remaining rs l) C cs next s (q.1 e) o
      (data_remaining n rs l d) (remaining_distinct rs l u) a z h))

  -- a right part under controls that do not fire
  pub right_rests : (t : Statement) (l C : List ℕ) (cs : Controls) (next top : ℕ) (s : State) → Ranked rank r k t → width r t ≤ 1 → Safe G t l C →
      Data n l → Distinct l → n < top → Zero top s → fires cs s ≡ false → effect (right chains r t l cs next top) s ≡ s
  unfolding right
  right_rests skip l C cs next top s q v o d u a z h = effect_nil s
  right_rests (NOT rs i) l C cs next top s q v o d u a z h = effect_nil s
  right_rests (sequence x y) l C cs next top s q v o d u a z h = by_bool (is_wide r x)
      (λ e. rw (
        right_wide chains r l cs next x y top e,
        effect_append,
        right_rests x l C cs next top s q.0 (width_sequence r x y v).0 o.0 d u a z h,
      )
      (whole_rests P rank E G n W chains k served y l C cs top s
      (thin_low rank r k y q.1 ((width_sequence r x y v).2 (wide_width r x e))) o.1 d u a z h))
      (λ e. rw (right_thin chains r l cs next x y top e) (right_rests y l C cs next top s q.1 (width_sequence r x y v).1 o.1 d u a z h))
  right_rests (if c x y) l C cs next top s q v o d u a z h = by_bool (holds c l)
      (λ e. rw (right_yes chains r l cs next c x y top e) (right_rests x l C cs next top s q.0 (width_if r c x y v).0 (rw e at o) d u a z h))
      (λ e. rw (right_no chains r l cs next c x y top e) (right_rests y l C cs next top s q.1 (width_if r c x y v).1 (rw e at o) d u a z h))
  right_rests (qcase rs i x y) l C cs next top s q v o d u a z h =
      let w = touched rs i l in
      let m = next + length (invocations r x l next) in
      let c0 = with_control w false cs in
      let c1 = with_control w true cs in
      rw (effect_append, right_rests y l (w ∷ C) c1 m top s q.1 (width_qcase r rs i x y v).1 o.2 d u a z (fires_fewer w true cs s h))
      (right_rests x l (w ∷ C) c0 next top s q.0 (width_qcase r rs i x y v).0 o.1 d u a z (fires_fewer w false cs s h))
  right_rests (call rs f) l C cs next top s q v o d u a z h = by_bool (r f)
      (λ e. rw (right_recursive chains r l cs next rs f top e) (returns_rests (remaining rs l) cs next s h))
      (λ e. rw (right_other chains r l cs next rs f top e) (effect_nil s))
