-- The split at the one recursive call: where the controls fire, a body takes none of its invocations or one. The left part leads to the state
-- at the call, marked by the invocation's ancilla, and the right part, from the state that the call leaves, to what the statement gives.
use mathlib.Core.Path.{◌≡◌, refl, ap, ◌∙◌}
use mathlib.Core.Logic.{◌≢◌, ◌⊎◌, inl, inr}
use mathlib.Core.Bool.{Bool, true, false}
use mathlib.Core.List.{List, [], ◌∷◌, ◌++◌}
use Prim.Native.Nat.{ℕ, ◌+◌, ◌≤◌, ◌<◌}
use native.Mathlib.Omega.{arith}
use lib.ListN.{length, length-append}
use Rattle.model.specs.Syntax.{Statement, skip, NOT, sequence, if, qcase, call, Program}
use Rattle.model.specs.Lists.{remaining, touched, holds, member}
use Rattle.model.specs.Meaning.{State, flipped, CallDoes, call_does, does}
use Rattle.model.specs.Reach.{width}
use Rattle.model.specs.Gates.{Controls, with_control, flip, fires}
use Rattle.model.specs.Emission.{Event, places, Chains, start_chain, whole, Invocation, invocation, invoked, is_wide, invocations, invokes, returns, left, right}
use Rattle.model.proofs.BooleanLaws.{by_bool}
use Rattle.model.proofs.ListLaws.{member_head, member_tail, Distinct, Data, data_off, data_remaining, data_touched, remaining_distinct}
use Rattle.model.proofs.GateLaws.{flipped_other, flipped_twice, fires_hit, fires_miss}
use Rattle.model.proofs.ReachAndRank.{Ranked}
use Rattle.model.proofs.EnoughFuel.{does_yes, does_no, does_zero, does_one}
use Rattle.agreement.proofs.EffectOfEvents.{effect, effect_nil, effect_takes, effect_append}
use Rattle.agreement.proofs.EmissionClauses.{invocations_wide, invocations_thin, invocations_yes, invocations_no, invocations_recursive}
use Rattle.agreement.proofs.EmissionClauses.{invocations_other, left_wide, left_thin, left_yes, left_no, left_recursive, left_other, right_wide}
use Rattle.agreement.proofs.EmissionClauses.{right_thin, right_yes, right_no, right_recursive, right_other, width_sequence, width_if, width_qcase}
use Rattle.agreement.proofs.EmissionClauses.{thin_width, wide_width, thin_low}
use Rattle.agreement.proofs.ProgramFacts.{
  Safely,
  SafeCall,
  Safe,
  touch_positive,
  World,
  Zero,
  zero_up,
  zero_flip,
  AskedIn,
  asked_in_with_control,
  Below,
  below_with_control,
  below_up,
  Served,
}
use Rattle.agreement.proofs.InvocationsOfABody.{Mem, mem_left, mem_right, invocations_range, invocations_new}
use Rattle.agreement.proofs.FrameAndRenaming.{does_keeps, does_stays, fires_does}
use Rattle.agreement.proofs.WholeStatement.{effect_flip_fires, zero_does, zero_call, fires_call, start_chain_fires, whole_fires}
use Rattle.agreement.proofs.IdleParts.{left_rests, right_rests}

-- t is s but for data wires that are not in C
pub record Near (n : ℕ) (C : List ℕ) (t s : State) : Type 0 where
  pub closed : (w : ℕ) → member w C ≡ true → t w ≡ s w
  pub same : (w : ℕ) → n < w → t w ≡ s w

-- no invocation is taken: L leads from s to a state near it, and R from there to e
pub record Through (n : ℕ) (C : List ℕ) (L R : List Event) (s e : State) : Type 0 where
  pub mid : State
  pub near : Near n C mid s
  pub before : effect L s ≡ mid
  pub after : effect R mid ≡ e

-- one invocation of D is taken: L leads from s to the state at its call, with its ancilla flipped, and R from what the call leaves to e
pub record Taken (E : CallDoes) (n : ℕ) (C : List ℕ) (L R : List Event) (D : List Invocation) (s e : State) : Type 0 where
  pub taken : Invocation
  pub among : Mem taken D
  pub mid : State
  pub near : Near n C mid s
  pub before : effect L s ≡ flipped taken.ancilla mid
  pub kept : (u : State) (w : ℕ) → member w C ≡ true → E taken.procedure taken.list u w ≡ u w
  pub after : effect R (flipped taken.ancilla (E taken.procedure taken.list mid)) ≡ e

-- either way
abbrev pub Split : CallDoes → ℕ → List ℕ → List Event → List Event → List Invocation → State → State → Type 0
Split E n C L R D s e = Through n C L R s e ⊎ Taken E n C L R D s e

module _ (E : CallDoes) (n : ℕ) (C : List ℕ) (D : List Invocation) where
  split_after : (L R R' : List Event) (s e e' : State) → effect R' e ≡ e' → Split E n C L R D s e → Split E n C L (R ++ R') D s e'
  split_after L R R' s e e' h (inl t) = inl (record {
    mid = t.mid;
    near = t.near;
    before = t.before;
    after = effect_append R R' t.mid ∙ (ap (effect R') t.after ∙ h);
  })
  split_after L R R' s e e' h (inr t) = inr (record {
    taken = t.taken;
    among = t.among;
    mid = t.mid;
    near = t.near;
    before = t.before;
    kept = t.kept;
    after = effect_append R R' (flipped t.taken.ancilla (E t.taken.procedure t.taken.list t.mid)) ∙ (ap (effect R') t.after ∙ h);
  })

  near_trans : (a b c : State) → Near n C a b → Near n C b c → Near n C a c
  near_trans a b c x y = record { closed = λ w m. x.closed w m ∙ y.closed w m; same = λ w m. x.same w m ∙ y.same w m }

  split_before : (L' L R : List Event) (s s' e : State) → effect L' s ≡ s' → Near n C s' s → Split E n C L R D s' e → Split E n C (L' ++ L) R D s e
  split_before L' L R s s' e h N (inl t) = inl (record {
    mid = t.mid;
    near = near_trans t.mid s' s t.near N;
    before = effect_append L' L s ∙ (ap (effect L) h ∙ t.before);
    after = t.after;
  })
  split_before L' L R s s' e h N (inr t) = inr (record {
    taken = t.taken;
    among = t.among;
    mid = t.mid;
    near = near_trans t.mid s' s t.near N;
    before = effect_append L' L s ∙ (ap (effect L) h ∙ t.before);
    kept = t.kept;
    after = t.after;
  })

near_self : (n : ℕ) (C : List ℕ) (s : State) → Near n C s s
near_self n C s = record { closed = λ w m. refl; same = λ w m. refl }

near_open : (n q : ℕ) (C : List ℕ) (t s : State) → Near n (q ∷ C) t s → Near n C t s
near_open n q C t s x = record { closed = λ w m. x.closed w (member_tail w q C m); same = x.same }

near_zero : (n : ℕ) (C : List ℕ) (t s : State) (next : ℕ) → n < next → Near n C t s → Zero next s → Zero next t
near_zero n C t s next a x z w h = x.same w (omega arith) ∙ z w h

-- what is known of an invocation of a part: data wires, and an ancilla from lo on and below hi
record Sure (n lo hi : ℕ) (d : Invocation) : Type 0 where
  wires : Data n d.list
  from : lo ≤ d.ancilla
  to : d.ancilla < hi

module _ (P : Program) (rank : ℕ → ℕ) (E : CallDoes) (G : Safely) (n : ℕ) (W : World P rank E G) where
  -- the zero branch of a qcase: the other branch's parts come behind the left and before the right
  module _ (q : ℕ) (C : List ℕ) (next hi top : ℕ) (above : n < next) (lowq : q ≤ n) (mono : next ≤ hi) (room : hi ≤ top)
      (Ly Ry : List Event) (rests_l : (t : State) → t q ≡ false → Zero hi t → effect Ly t ≡ t)
      (rests_r : (t : State) → t q ≡ false → Zero top t → effect Ry t ≡ t) where
    split_zero : (L R : List Event) (D D' : List Invocation) (s e : State) → s q ≡ false → Zero next s →
        ((d : Invocation) → Mem d D → Sure n next hi d) → Split E n (q ∷ C) L R D s e → Split E n C (L ++ Ly) (Ry ++ R) (D ++ D') s e
    split_zero L R D D' s e hq z sure (inl t) =
        let at : t.mid q ≡ false = t.near.closed q (member_head q C) ∙ hq in
        let zm : Zero next t.mid = near_zero n (q ∷ C) t.mid s next above t.near z in
        inl (record {
          mid = t.mid;
          near = near_open n q C t.mid s t.near;
          before = effect_append L Ly s ∙ (ap (effect Ly) t.before ∙ rests_l t.mid at (zero_up next hi t.mid mono zm));
          after = effect_append Ry R t.mid ∙ (ap (effect R) (rests_r t.mid at (zero_up next top t.mid (omega arith) zm)) ∙ t.after);
        })
    split_zero L R D D' s e hq z sure (inr t) =
        let d = t.taken in
        let S = sure d t.among in
        let a = d.ancilla in
        let u = E d.procedure d.list t.mid in
        let at : t.mid q ≡ false = t.near.closed q (member_head q C) ∙ hq in
        let ne : q ≢ a = apart q a next n lowq above S.from in
        let at1 : flipped a t.mid q ≡ false = flipped_other t.mid a q ne ∙ at in
        let at2 : flipped a u q ≡ false = flipped_other u a q ne ∙ (t.kept t.mid q (member_head q C) ∙ at) in
        let zm : Zero next t.mid = near_zero n (q ∷ C) t.mid s next above t.near z in
        let zu : Zero next u = zero_call P rank E G n W d.procedure d.list next t.mid S.wires above zm in
        let z1 : Zero hi (flipped a t.mid) = zero_flip a hi t.mid S.to (zero_up next hi t.mid mono zm) in
        let z2 : Zero top (flipped a u) = zero_up hi top (flipped a u) room (zero_flip a hi u S.to (zero_up next hi u mono zu)) in
        inr (record {
          taken = d;
          among = mem_left d D D' t.among;
          mid = t.mid;
          near = near_open n q C t.mid s t.near;
          before = effect_append L Ly s ∙ (ap (effect Ly) t.before ∙ rests_l (flipped a t.mid) at1 z1);
          kept = λ v w m. t.kept v w (member_tail w q C m);
          after = effect_append Ry R (flipped a u) ∙ (ap (effect R) (rests_r (flipped a u) at2 z2) ∙ t.after);
        })
      where
        apart : (q a next n : ℕ) → q ≤ n → n < next → next ≤ a → q ≢ a
        apart q a next n x y z = omega arith

  -- the one branch of a qcase: the other branch's parts come before the left and behind the right
  split_one : (q : ℕ) (C : List ℕ) (Lx Rx L R : List Event) (D D' : List Invocation) (s e : State) → effect Lx s ≡ s → effect Rx e ≡ e →
      Split E n (q ∷ C) L R D s e → Split E n C (Lx ++ L) (R ++ Rx) (D' ++ D) s e
  split_one q C Lx Rx L R D D' s e hL hR x =
      open_up (split_before E n (q ∷ C) D Lx L (R ++ Rx) s s e hL (near_self n (q ∷ C) s) (split_after E n (q ∷ C) D L R Rx s e e hR x))
    where
      open_up : Split E n (q ∷ C) (Lx ++ L) (R ++ Rx) D s e → Split E n C (Lx ++ L) (R ++ Rx) (D' ++ D) s e
      open_up (inl t) = inl (record { mid = t.mid; near = near_open n q C t.mid s t.near; before = t.before; after = t.after })
      open_up (inr t) = inr (record {
        taken = t.taken;
        among = mem_right t.taken D' D t.among;
        mid = t.mid;
        near = near_open n q C t.mid s t.near;
        before = t.before;
        kept = λ v w m. t.kept v w (member_tail w q C m);
        after = t.after;
      })

  near_does : (t : Statement) (l C : List ℕ) (s : State) → Safe G t l C → Data n l → Near n C (does E t l s) s
  near_does t l C s o d = record {
    closed = λ w m. does_keeps E G W.keeps t l C s w o m;
    same = λ w m. does_stays E W.stays t l s w (data_off n l d w m);
  }

  -- a recursive call
  split_invoked : (f : ℕ) (l C : List ℕ) (cs : Controls) (next : ℕ) (s : State) → SafeCall G f l C → AskedIn C cs → Below next cs →
      fires cs s ≡ true → Split E n C (invokes l cs next) (returns l cs next) (invoked f l next) s (call_does E f l s)
  unfolding returns invokes invoked call_does
  split_invoked f [] C cs next s g A B h = inl (record { mid = s; near = near_self n C s; before = effect_nil s; after = effect_nil s })
  split_invoked f (q ∷ l) C cs next s g A B h =
      let L : List ℕ = q ∷ l in
      let u = E f L s in
      inr (record {
        taken = invocation f L next;
        among = inl refl;
        mid = s;
        near = near_self n C s;
        before = effect_takes next (places (flip cs next) ∷ []) s ∙ effect_flip_fires cs next s h;
        kept = λ v w m. W.keeps f L C v w g m;
        after = effect_flip_fires cs next (flipped next u) (fires_call P rank E G n W f L C cs next s g A B ∙ h) ∙ flipped_twice u next;
      })

  -- a statement that the left part emits to its end
  through : (t : Statement) (l C : List ℕ) (L : List Event) (s : State) → Safe G t l C → Data n l → effect L s ≡ does E t l s →
      Split E n C L [] [] s (does E t l s)
  through t l C L s o d h = inl (record { mid = does E t l s; near = near_does t l C s o d; before = h; after = effect_nil (does E t l s) })

  module _ (chains : Chains) (k : ℕ) (served : Served rank E G n chains k) (r : ℕ → Bool) where
    sures : (t : Statement) (l C : List ℕ) (next : ℕ) → Ranked rank r k t → Safe G t l C → Data n l → Distinct l → 0 < length l →
        (d : Invocation) → Mem d (invocations r t l next) → Sure n next (next + length (invocations r t l next)) d
    sures t l C next q o d u z x m =
        let rg = invocations_range r t l next x m in
        record { wires = (invocations_new rank G n W.weakens r k t l C next q o d u z x m).fine.wires; from = rg.0; to = rg.1 }

    -- the parts of a body whose controls fire: from s to what the statement gives, through the call of one of its invocations or none
    pub split : (t : Statement) (l C : List ℕ) (cs : Controls) (next top : ℕ) (s : State) → Ranked rank r k t → width r t ≤ 1 → Safe G t l C →
        Data n l → Distinct l → 0 < length l → n < next → next + length (invocations r t l next) ≤ top → Zero next s →
        AskedIn C cs → Below next cs → fires cs s ≡ true →
        Split E n C (left chains r t l cs next) (right chains r t l cs next top) (invocations r t l next) s (does E t l s)
    unfolding left right invocations does
    split skip l C cs next top s q v o d u ne a t z A B h = through skip l C [] s o d (effect_nil s)
    split (NOT rs i) l C cs next top s q v o d u ne a t z A B h =
        through (NOT rs i) l C (places (flip cs (touched rs i l)) ∷ []) s o d (effect_flip_fires cs (touched rs i l) s h)
    split (sequence x y) l C cs next top s q v o d u ne a t z A B h =
        let s' = does E x l s in
        let z' : Zero next s' = zero_does P rank E G n W x l next s d a z in
        let h' : fires cs s' ≡ true = fires_does E G W.keeps x l C cs s o.0 A ∙ h in
        by_bool (is_wide r x)
        (λ e.
        let t' : next + length (invocations r x l next) ≤ top = rw (invocations_wide r l next x y e) at t in
        let le : next ≤ top = omega arith in
        rw (left_wide chains r l cs next x y e, right_wide chains r l cs next x y top e, invocations_wide r l next x y e)
        (split_after E n C (invocations r x l next) (left chains r x l cs next) (right chains r x l cs next top) (whole chains y l cs top)
        s s' (does E y l s')
        (whole_fires P rank E G n W chains k served y l C cs top s' (thin_low rank r k y q.1 ((width_sequence r x y v).2 (wide_width r x e)))
        o.1 d u (omega arith) (zero_up next top s' le z') A (below_up next top cs le B) h')
        (split x l C cs next top s q.0 (width_sequence r x y v).0 o.0 d u ne a t' z A B h)))
        (λ e.
        let t' : next + length (invocations r y l next) ≤ top = rw (invocations_thin r l next x y e) at t in
        rw (left_thin chains r l cs next x y e, right_thin chains r l cs next x y top e, invocations_thin r l next x y e)
        (split_before E n C (invocations r y l next) (whole chains x l cs next) (left chains r y l cs next) (right chains r y l cs next top)
        s s' (does E y l s')
        (whole_fires P rank E G n W chains k served x l C cs next s (thin_low rank r k x q.0 (thin_width r x e)) o.0 d u a z A B h)
        (near_does x l C s o.0 d)
        (split y l C cs next top s' q.1 (width_sequence r x y v).1 o.1 d u ne a t' z' A B h')))
    split (if c x y) l C cs next top s q v o d u ne a t z A B h = by_bool (holds c l)
        (λ e. rw (
          left_yes chains r l cs next c x y e,
          right_yes chains r l cs next c x y top e,
          invocations_yes r l next c x y e,
          does_yes E c x y l s e,
        )
        (split x l C cs next top s q.0 (width_if r c x y v).0 (rw e at o) d u ne a (rw (invocations_yes r l next c x y e) at t) z A B h))
        (λ e. rw (
          left_no chains r l cs next c x y e,
          right_no chains r l cs next c x y top e,
          invocations_no r l next c x y e,
          does_no E c x y l s e,
        )
        (split y l C cs next top s q.1 (width_if r c x y v).1 (rw e at o) d u ne a (rw (invocations_no r l next c x y e) at t) z A B h))
    split (qcase rs i x y) l C cs next top s q v o d u ne a t z A B h =
        let w = touched rs i l in
        let c0 = with_control w false cs in
        let c1 = with_control w true cs in
        let Dx = invocations r x l next in
        let hi = next + length Dx in
        let Dy = invocations r y l hi in
        let lw : w ≤ n = data_touched n rs i l d in
        let p = touch_positive w C o.0 in
        let vx = (width_qcase r rs i x y v).0 in
        let vy = (width_qcase r rs i x y v).1 in
        let room : hi + length Dy ≤ top = omega (arith, rw length-append at t) in
        let A0 = asked_in_with_control w false C cs A in
        let A1 = asked_in_with_control w true C cs A in
        let B0 = below_with_control next w false cs (omega arith) B in
        let B1 = below_with_control hi w true cs (omega arith) (below_up next hi cs (omega arith) B) in
        by_bool (s w)
        (λ e. rw (does_one E rs i x y l s e)
        (split_one w C (left chains r x l c0 next) (right chains r x l c0 next top) (left chains r y l c1 hi) (right chains r y l c1 hi top)
        Dy Dx s (does E y l s)
        (left_rests P rank E G n W chains k served r x l (w ∷ C) c0 next s q.0 vx o.1 d u a z (fires_miss w false cs s p e))
        (right_rests P rank E G n W chains k served r x l (w ∷ C) c0 next top (does E y l s) q.0 vx o.1 d u (omega arith)
        (zero_up next top (does E y l s) (omega arith) (zero_does P rank E G n W y l next s d a z))
        (fires_miss w false cs (does E y l s) p (does_keeps E G W.keeps y l (w ∷ C) s w o.2 (member_head w C) ∙ e)))
        (split y l (w ∷ C) c1 hi top s q.1 vy o.2 d u ne (omega arith) room (zero_up next hi s (omega arith) z) A1 B1
        (fires_hit w true cs s e ∙ h))))
        (λ e. rw (does_zero E rs i x y l s e)
        (split_zero w C next hi top a lw (omega arith) (omega arith) (left chains r y l c1 hi) (right chains r y l c1 hi top)
        (λ t' e' z'. left_rests P rank E G n W chains k served r y l (w ∷ C) c1 hi t' q.1 vy o.2 d u (omega arith) z'
        (fires_miss w true cs t' p e'))
        (λ t' e' z'. right_rests P rank E G n W chains k served r y l (w ∷ C) c1 hi top t' q.1 vy o.2 d u (omega arith) z'
        (fires_miss w true cs t' p e'))
        (left chains r x l c0 next) (right chains r x l c0 next top) Dx Dy s (does E x l s) e z
        (sures x l (w ∷ C) next q.0 o.1 d u ne)
        (split x l (w ∷ C) c0 next top s q.0 vx o.1 d u ne a (omega arith) z A0 B0 (fires_hit w false cs s e ∙ h))))
    split (call rs f) l C cs next top s q v o d u ne a t z A B h = by_bool (r f)
        (λ e. rw (left_recursive chains r l cs next rs f e, right_recursive chains r l cs next rs f top e, invocations_recursive r l next rs f e)
        (split_invoked f (remaining rs l) C cs next s o A B h))
        (λ e. rw (left_other chains r l cs next rs f e, right_other chains r l cs next rs f top e, invocations_other r l next rs f e)
        (through (call rs f) l C (start_chain chains f (remaining rs l) cs next) s o d
        (start_chain_fires P rank E G n W chains k served f (remaining rs l) C cs next s (q.1 e) o
        (data_remaining n rs l d) (remaining_distinct rs l u) a z A B h)))
