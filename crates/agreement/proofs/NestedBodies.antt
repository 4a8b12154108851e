-- The bodies of a chain lie around one another: the chain does what the procedure of its one active invocation does with its list, and nothing
-- where none is active. An invocation is active where its ancilla is 1.
use mathlib.Core.Path.{◌≡◌, refl, sym, ap, ◌∙◌, subst}
use mathlib.Core.Logic.{◌≢◌, ◌⊎◌, inl, inr}
use mathlib.Core.Bool.{Bool, true, false, not}
use mathlib.Core.List.{List, [], ◌∷◌, ◌++◌, reverse}
use Prim.Native.Nat.{ℕ, zero, suc, ◌+◌, ◌≤◌, ◌<◌}
use native.Mathlib.Omega.{arith}
use lib.ListN.{length}
use Rattle.model.specs.Syntax.{Statement, Program, body}
use Rattle.model.specs.Lists.{member}
use Rattle.model.specs.Meaning.{State, flipped, CallDoes, does}
use Rattle.model.specs.Reach.{recursive}
use Rattle.model.specs.Gates.{renamed, fires}
use Rattle.model.specs.Emission.{Event, Chains, Invocation, invocation, left, right, under, all_entry_gates, Key, key_of, keys, calls_to, Emitted, body_invocations}
use Rattle.model.specs.Emission.{around, shared, bodies, bodies_from, chains_within}
use Rattle.model.proofs.BooleanLaws.{by_eq, clash, not_true_false}
use Rattle.model.proofs.ListLaws.{Data, Distinct, data_off, member_cases, member_head, member_tail, not_in_nil, not_tail}
use Rattle.model.proofs.GateLaws.{flipped_same, flipped_other, renamed_at}
use Rattle.model.proofs.ReachAndRank.{Ranked}
use Rattle.agreement.proofs.EffectOfEvents.{effect, effect_nil, effect_append}
use Rattle.agreement.proofs.ProgramFacts.{Safely, Safe, World, Zero, zero_up, zero_flip, asked_in_under, below_under, Fine, Served, ranked_up}
use Rattle.agreement.proofs.InvocationsOfABody.{Mem, mem_left, mem_right, on_mem, invocations_range, DistinctAncillas, distinct_append}
use Rattle.agreement.proofs.InvocationsOfABody.{invocations_distinct, New, invocations_new}
use Rattle.agreement.proofs.KeysOfALength.{same_procedure_lem, CallTo, calls_are, calls_all, calls_distinct, keys_order}
use Rattle.agreement.proofs.FrameAndRenaming.{safe_weaken}
use Rattle.agreement.proofs.WholeStatement.{zero_call}
use Rattle.agreement.proofs.IdleParts.{left_rests, right_rests}
use Rattle.agreement.proofs.SplitAtTheCall.{Split, split}
use Rattle.agreement.proofs.TrackedSwaps.{fires_under}
use Rattle.agreement.proofs.EntryGates.{effect_back, Entrant, Entrants, moves, entered, moves_above}
use Rattle.agreement.proofs.EntryGates.{moves_renames, moves_list, entered_above, entries_clear, entries_rest, entries_fire}

-- an invocation that waits in a chain whose next wire is `next`, at a rank of at most k
pub record Good (rank : ℕ → ℕ) (G : Safely) (n k next : ℕ) (d : Invocation) : Type 0 where
  pub fine : Fine G n d.procedure d.list
  pub low : rank d.procedure ≤ k
  pub above : n < d.ancilla
  pub taken : d.ancilla < next

-- no invocation of R but d is active
abbrev pub Sole : (Invocation → Type 0) → State → Invocation → Type 0
Sole R s d = (x : Invocation) → R x → s x.ancilla ≡ true → x ≡ d

-- no invocation of R is active
abbrev pub Still : (Invocation → Type 0) → State → Type 0
Still R s = (x : Invocation) → R x → s x.ancilla ≡ false

-- events that serve the invocations of R: where none is active they do nothing, where one is, alone, they do what it calls for
pub record Serves (E : CallDoes) (R : Invocation → Type 0) (next : ℕ) (es : List Event) : Type 0 where
  pub rests : (s : State) → Zero next s → Still R s → effect es s ≡ s
  pub runs : (s : State) (d : Invocation) → Zero next s → R d → s d.ancilla ≡ true → Sole R s d → effect es s ≡ E d.procedure d.list s

-- what serves the invocations of R serves those of any R' that are the same
serves_iff : (E : CallDoes) (R R' : Invocation → Type 0) (next : ℕ) (es : List Event) →
    ((x : Invocation) → R x → R' x) → ((x : Invocation) → R' x → R x) → Serves E R next es → Serves E R' next es
serves_iff E R R' next es f g S = record {
  rests = λ s z h. S.rests s z (λ x r. h x (f x r));
  runs = λ s d z r e h. S.runs s d z (g d r) e (λ x q. h x (f x q));
}

-- an ancilla tells which invocation it is
ancilla_tells : (D : List Invocation) → DistinctAncillas D → (x y : Invocation) → Mem x D → Mem y D → x.ancilla ≡ y.ancilla → x ≡ y
ancilla_tells [] h x y mx my e = absurd mx
ancilla_tells (z ∷ D) h x y (inl p) (inl q) e = p ∙ sym q
ancilla_tells (z ∷ D) h x y (inl p) (inr q) e = absurd (h.0 y q (sym (ap (λ (v : Invocation). v.ancilla) p) ∙ e))
ancilla_tells (z ∷ D) h x y (inr p) (inl q) e = absurd (h.0 x p (sym (ap (λ (v : Invocation). v.ancilla) q) ∙ sym e))
ancilla_tells (z ∷ D) h x y (inr p) (inr q) e = ancilla_tells D h.1 x y p q e

-- the invocations that bodies from here on must serve: those with lists shorter than m ..
abbrev pub Shorter : ℕ → List Invocation → Invocation → Type 0
Shorter m D x = Mem x D × (length x.list < m)

-- .. and those of length m whose key is still to come
abbrev pub Waiting : ℕ → List Key → List Invocation → Invocation → Type 0
Waiting m ks T x = Mem x T × (length x.list ≡ m) × (member (key_of x) ks ≡ true)

-- both together
abbrev pub Unserved : ℕ → List Key → List Invocation → List Invocation → Invocation → Type 0
Unserved m ks T D x = Shorter m D x ⊎ Waiting m ks T x

-- an invocation with a shorter list is none of length m
shorter_differs : (m : ℕ) (D : List Invocation) (y z : Invocation) → Shorter m D y → y ≡ z → length z.list ≡ m → ⊥
shorter_differs m D y z h e l =
    let q : length y.list ≡ length z.list = ap (λ (v : Invocation). length v.list) e in
    let h' : length y.list < m = h.1 in
    omega arith

module _ (P : Program) (rank : ℕ → ℕ) (E : CallDoes) (G : Safely) (n : ℕ) (W : World P rank E G)
    (chains : Chains) (k : ℕ) (served : Served rank E G n chains k) where
  -- the recursive calls of d's body, and the next wire behind their ancillas
  abbrev pub own : Invocation → ℕ → List Invocation
  own d next = body_invocations P chains d next

  abbrev pub behind : Invocation → ℕ → ℕ
  behind d next = next + length (own d next)

  -- a call leaves the wires above the data wires alone
  call_stays : (x : Invocation) (s : State) (w : ℕ) → Data n x.list → n < w → E x.procedure x.list s w ≡ s w
  call_stays x s w dt h = W.stays x.procedure x.list s w (data_off n x.list dt w h)

  -- the body of one invocation d
  module _ (d : Invocation) (next : ℕ) (gd : Good rank G n k next d) where
    -- its statement, and which of its calls are recursive
    abbrev code : Statement
    code = body P d.procedure

    abbrev again : ℕ → Bool
    again = recursive P d.procedure

    left_part : List Event
    left_part = left chains again code d.list (under d.ancilla) next

    -- ancillas start above the data wires
    pub next_above : n < next
    next_above = let a = gd.above in let b = gd.taken in omega arith

    -- the body is safe with its ancilla closed
    pub safe_body : Safe G code d.list (d.ancilla ∷ [])
    safe_body = safe_weaken G W.weakens code d.list [] (d.ancilla ∷ [])
        (λ w i m. member_cases w d.ancilla [] m
        (λ e. clash i (rw e (not_tail d.ancilla 0 d.list (data_off n d.list gd.fine.wires d.ancilla gd.above))))
        (λ m'. m'))
        (W.inside d.procedure d.list [] gd.fine.some gd.fine.safe)

    -- its calls, seen from rank k
    pub ranked_body : Ranked rank again k code
    ranked_body = ranked_up rank again (rank d.procedure) k code gd.low (W.ranked d.procedure)

    -- its gates fire where its ancilla is 1
    fires_own : (s : State) → fires (under d.ancilla) s ≡ s d.ancilla
    fires_own s = fires_under d.ancilla s (omega (arith, gd.above))

    -- where its ancilla is 0 its left part does nothing
    left_still : (s : State) → Zero next s → s d.ancilla ≡ false → effect left_part s ≡ s
    unfolding left_part
    left_still s z h = left_rests P rank E G n W chains k served again code d.list (d.ancilla ∷ []) (under d.ancilla) next s
        ranked_body (W.narrow d.procedure) safe_body gd.fine.wires gd.fine.distinct next_above z (fires_own s ∙ h)

    -- its recursive calls: their ancillas, and that they are fit for bodies of their own
    own_range : (x : Invocation) → Mem x (own d next) → (next ≤ x.ancilla) × (x.ancilla < behind d next)
    own_range x m = invocations_range again code d.list next x m

    own_new : (x : Invocation) → Mem x (own d next) → New rank G n k (length d.list) x
    own_new x m = invocations_new rank G n W.weakens again k code d.list (d.ancilla ∷ []) next ranked_body safe_body
        gd.fine.wires gd.fine.distinct gd.fine.some x m

    own_distinct : DistinctAncillas (own d next)
    own_distinct = invocations_distinct again code d.list next

    -- the body around the events `inner`, which serve the invocations of Old and its own; chains in its right part take wires from `top` on
    module _ (top : ℕ) (inner : List Event) (Old : Invocation → Type 0)
        (old : (x : Invocation) → Old x → Good rank G n k next x)
        (room : behind d next ≤ top)
        (S : Serves E (λ x. Old x ⊎ Mem x (own d next)) (behind d next) inner) where
      right_part : List Event
      right_part = right chains again code d.list (under d.ancilla) next top

      -- where its ancilla is 0 its right part does nothing
      right_still : (s : State) → Zero top s → s d.ancilla ≡ false → effect right_part s ≡ s
      unfolding right_part
      right_still s z h = right_rests P rank E G n W chains k served again code d.list (d.ancilla ∷ []) (under d.ancilla) next top s
          ranked_body (W.narrow d.procedure) safe_body gd.fine.wires gd.fine.distinct (let a = next_above in omega arith) z
          (fires_own s ∙ h)

      -- where its ancilla is 1 the two parts split what the body does
      parts : (s : State) → Zero next s → s d.ancilla ≡ true →
          Split E n (d.ancilla ∷ []) left_part right_part (own d next) s (does E code d.list s)
      unfolding left_part right_part
      parts s z h = split P rank E G n W chains k served again code d.list (d.ancilla ∷ []) (under d.ancilla) next top s
          ranked_body (W.narrow d.procedure) safe_body gd.fine.wires gd.fine.distinct gd.fine.some next_above room z
          (asked_in_under d.ancilla) (below_under next d.ancilla gd.taken) (fires_own s ∙ h)

      -- left part, inner events and right part do what the body does: either no recursive call is taken, or one, which the inner events serve
      core : (s : State) → Zero next s → Still Old s → Split E n (d.ancilla ∷ []) left_part right_part (own d next) s (does E code d.list s) →
          effect right_part (effect inner (effect left_part s)) ≡ does E code d.list s
      core s z st (inl t) =
          let zm : Zero next t.mid = λ w h. t.near.same w (let a = next_above in omega arith) ∙ z w h in
          rw (t.before, S.rests t.mid (zero_up next (behind d next) t.mid (omega arith) zm) (λ x r. calm x r)) t.after
        where
          calm : (x : Invocation) → Old x ⊎ Mem x (own d next) → t.mid x.ancilla ≡ false
          calm x (inl o) = t.near.same x.ancilla (old x o).above ∙ st x o
          calm x (inr m) = let rg = own_range x m in let a = next_above in t.near.same x.ancilla (omega arith) ∙ z x.ancilla rg.0
      core s z st (inr t) =
          let g = t.taken in
          let a = g.ancilla in
          let rg = own_range g t.among in
          let nw = own_new g t.among in
          let set : flipped a t.mid a ≡ true = flipped_same t.mid a ∙ ap not (zm a rg.0) in
          rw (
            t.before,
            S.runs (flipped a t.mid) g (zero_flip a (behind d next) t.mid rg.1 (zero_up next (behind d next) t.mid (omega arith) zm))
                (inr t.among) set (λ x r on. alone x r on),
            W.outside g.procedure g.list t.mid a (data_off n g.list nw.fine.wires a (let b = next_above in omega arith)),
          )
          t.after
        where
          zm : Zero next t.mid
          zm w h = t.near.same w (let a = next_above in omega arith) ∙ z w h

          alone : (x : Invocation) → Old x ⊎ Mem x (own d next) → flipped t.taken.ancilla t.mid x.ancilla ≡ true → x ≡ t.taken
          alone x (inl o) on =
              let rg = own_range t.taken t.among in
              let ux = (old x o).taken in
              clash on (flipped_other t.mid t.taken.ancilla x.ancilla (λ e. apart e ux rg.0) ∙
              (t.near.same x.ancilla (old x o).above ∙ st x o))
            where
              apart : x.ancilla ≡ t.taken.ancilla → x.ancilla < next → next ≤ t.taken.ancilla → ⊥
              apart e h i = omega arith
          alone x (inr m) on = by_eq x.ancilla t.taken.ancilla
              (λ e. ancilla_tells (own d next) own_distinct x t.taken m t.among e)
              (λ ne. clash on (flipped_other t.mid t.taken.ancilla x.ancilla ne ∙ zm x.ancilla (own_range x m).0))

      -- so they do what the call does
      core_runs : (s : State) → Zero next s → s d.ancilla ≡ true → Still Old s →
          effect right_part (effect inner (effect left_part s)) ≡ E d.procedure d.list s
      core_runs s z h st = core s z st (parts s z h) ∙ sym (W.unfolds d.procedure d.list s gd.fine.some)

      next_top : next ≤ top
      next_top = omega arith

      -- with the entry gates of the later invocations
      module _ (later : List Invocation) (X : Entrants n d later) where
        shell : List Event
        shell = all_entry_gates d later ++ (left_part ++ (inner ++ (right_part ++ reverse (all_entry_gates d later))))

        -- its events in their order
        shell_effect : (s : State) → effect shell s ≡
            effect (reverse (all_entry_gates d later)) (effect right_part (effect inner (effect left_part (effect (all_entry_gates d later) s))))
        unfolding shell
        shell_effect s = simp effect_append

        -- no later invocation is active
        abbrev Calm : State → Type 0
        Calm s = (e : Invocation) → Mem e later → s e.ancilla ≡ false

        -- then the entry gates do nothing
        entry_still : (s : State) → Calm s → effect (all_entry_gates d later) s ≡ s
        entry_still s c = entries_rest n d gd.fine.wires later s X c

        -- in reverse they lead back
        back : (s t : State) → effect (all_entry_gates d later) s ≡ t → effect (reverse (all_entry_gates d later)) t ≡ s
        back s t h = effect_back (all_entry_gates d later) s t (entries_clear n d gd.fine.wires later X) h

        -- a call wakes none
        call_calm : (x : Invocation) (s : State) → Data n x.list → Calm s → Calm (E x.procedure x.list s)
        call_calm x s dt c e m = call_stays x s e.ancilla dt (X e m).above ∙ c e m

        -- nothing is active
        shell_rests : (s : State) → Zero next s → s d.ancilla ≡ false → Calm s → Still Old s → effect shell s ≡ s
        shell_rests s z h c st = shell_effect s ∙
            rw (
              entry_still s c,
              left_still s z h,
              S.rests s (zero_up next (behind d next) s (omega arith) z) (λ x r. calm x r),
              right_still s (zero_up next top s next_top z) h,
            )
            (back s s (entry_still s c))
          where
            calm : (x : Invocation) → Old x ⊎ Mem x (own d next) → s x.ancilla ≡ false
            calm x (inl o) = st x o
            calm x (inr m) = z x.ancilla (own_range x m).0

        -- an invocation that the inner events serve is active
        shell_inner : (s : State) (x : Invocation) → Zero next s → s d.ancilla ≡ false → Calm s → Old x → s x.ancilla ≡ true → Sole Old s x →
            effect shell s ≡ E x.procedure x.list s
        shell_inner s x z h c o on so =
            let dt = (old x o).fine.wires in
            let u = E x.procedure x.list s in
            let zu : Zero next u = zero_call P rank E G n W x.procedure x.list next s dt next_above z in
            shell_effect s ∙
            rw (
              entry_still s c,
              left_still s z h,
              S.runs s x (zero_up next (behind d next) s (omega arith) z) (inl o) on (λ y r q. alone y r q),
              right_still u (zero_up next top u next_top zu) (call_stays x s d.ancilla dt gd.above ∙ h),
            )
            (back u u (entry_still u (call_calm x s dt c)))
          where
            alone : (y : Invocation) → Old y ⊎ Mem y (own d next) → s y.ancilla ≡ true → y ≡ x
            alone y (inl r) q = so y r q
            alone y (inr m) q = clash q (z y.ancilla (own_range y m).0)

        -- d itself is active
        shell_first : (s : State) → Zero next s → s d.ancilla ≡ true → Calm s → Still Old s → effect shell s ≡ E d.procedure d.list s
        shell_first s z h c st =
            let u = E d.procedure d.list s in
            shell_effect s ∙ rw (entry_still s c, core_runs s z h st) (back u u (entry_still u (call_calm d s gd.fine.wires c)))

        -- a later invocation is active: its entry gates rename its list to d's, and back
        shell_entry : (s : State) (e : Invocation) → Zero next s → s d.ancilla ≡ false → DistinctAncillas later → Mem e later →
            s e.ancilla ≡ true → ((y : Invocation) → Mem y later → s y.ancilla ≡ true → y ≡ e) →
            Still Old s → ((x : Invocation) → Old x → x.ancilla ≢ d.ancilla) → effect shell s ≡ E e.procedure e.list s
        shell_entry s e z h dist m on so st apart =
            let B = gd.fine.wires in
            let en : Entrant n d e = X e m in
            let mv = moves d e in
            let a = d.ancilla in
            let s1 = entered d e s in
            let u = E e.procedure e.list s in
            let z1 : Zero next s1 = λ w hw. entered_above n d B e s en.wires w (let b = next_above in omega arith) (λ i. differ w hw i) ∙ z w hw in
            let on1 : s1 a ≡ true = renamed_at mv (flipped a s) a ∙
            (ap (flipped a s) (moves_above n d B e en.wires a gd.above) ∙ (flipped_same s a ∙ ap not h)) in
            let st1 : Still Old s1 = λ x o. entered_above n d B e s en.wires x.ancilla (old x o).above (apart x o) ∙ st x o in
            let there : effect (all_entry_gates d later) s ≡ s1 = entries_fire n d B later s e X dist m on so in
            let return : effect (all_entry_gates d later) u ≡ entered d e u = entries_fire n d B later u e X dist m
            (call_stays e s e.ancilla en.wires en.above ∙ on)
            (λ y my oy. so y my (sym (call_stays e s y.ancilla en.wires (X y my).above) ∙ oy)) in
            let run : E d.procedure d.list s1 ≡ entered d e u =
            W.renames mv (moves_renames n d B e en.wires) d.procedure d.list (flipped a s) ∙
            (ap (λ (l : List ℕ). renamed mv (E d.procedure l (flipped a s))) (moves_list n d B e gd.fine.distinct en) ∙
            (ap (λ (f : ℕ). renamed mv (E f e.list (flipped a s))) (sym en.same_procedure) ∙
            ap (renamed mv) (W.outside e.procedure e.list s a (data_off n e.list en.wires a gd.above)))) in
            shell_effect s ∙ rw (there, core_runs s1 z1 on1 st1, run) (back u (entered d e u) return)
          where
            differ : (w : ℕ) → next ≤ w → w ≡ d.ancilla → ⊥
            differ w hw i = let a = gd.taken in omega arith

  -- a chain's invocations so far
  abbrev pub Goods : ℕ → List Invocation → Type 0
  Goods next D = (x : Invocation) → Mem x D → Good rank G n k next x

  -- one body more: d and the `later` invocations are those of key κ and length m, and `inner` serves all that is behind, keys ks among it
  module _ (m : ℕ) (κ : Key) (ks : List Key) (d : Invocation) (later T D : List Invocation) (next : ℕ) (inner : Emitted)
      (gs : Goods next D) (dd : DistinctAncillas D) (dl : DistinctAncillas (d ∷ later)) (sub : (x : Invocation) → Mem x T → Mem x D)
      (of : (x : Invocation) → Mem x (d ∷ later) → CallTo m κ T x) (all_of : (x : Invocation) → CallTo m κ T x → Mem x (d ∷ later))
      (new : member κ ks ≡ false)
      (ih : Serves E (Unserved m ks T (D ++ own d next)) (behind d next) inner.events)
      (room : behind d next ≤ inner.next) where
    in_D : (x : Invocation) → Mem x (d ∷ later) → Mem x D
    in_D x b = sub x (of x b).among

    len : length d.list ≡ m
    len = (of d (inl refl)).long

    gd : Good rank G n k next d
    gd = gs d (in_D d (inl refl))

    -- what is served further in, and all that is to be served
    abbrev Old : Invocation → Type 0
    Old x = Unserved m ks T D x

    abbrev All : Invocation → Type 0
    All x = Unserved m (κ ∷ ks) T D x

    old : (x : Invocation) → Old x → Good rank G n k next x
    old x (inl h) = gs x h.0
    old x (inr h) = gs x (sub x h.0)

    -- the inner events serve what is served further in and the recursive calls of d's body
    apart_own : (x : Invocation) → Unserved m ks T (D ++ own d next) x → Old x ⊎ Mem x (own d next)
    apart_own x (inl h) = on_mem x D (own d next) h.0 (λ y. inl (inl (y, h.1))) (λ y. inr y)
    apart_own x (inr h) = inl (inr h)

    with_own : (x : Invocation) → Old x ⊎ Mem x (own d next) → Unserved m ks T (D ++ own d next) x
    with_own x (inl (inl h)) = inl (mem_left x D (own d next) h.0, h.1)
    with_own x (inl (inr h)) = inr h
    with_own x (inr h) = inl (mem_right x D (own d next) h, subst (λ (v : ℕ). length x.list < v) len (own_new d next gd x h).short)

    S : Serves E (λ x. Old x ⊎ Mem x (own d next)) (behind d next) inner.events
    S = serves_iff E (Unserved m ks T (D ++ own d next)) (λ x. Old x ⊎ Mem x (own d next))
        (behind d next) inner.events apart_own with_own ih

    -- the later invocations may enter
    X : Entrants n d later
    X e me = let g = gs e (in_D e (inr me)) in
        record {
          same_procedure = same_procedure_lem d e ((of e (inr me)).key ∙ sym (of d (inl refl)).key);
          above = g.above;
          apart = dl.0 e me;
          wires = g.fine.wires;
          distinct = g.fine.distinct;
          same_length = len ∙ sym (of e (inr me)).long;
        }

    events : List Event
    events = shell d next gd inner.next inner.events Old old room S later X

    -- d, the later ones and those served further in are all that is to be served
    here_unserved : (x : Invocation) → Mem x (d ∷ later) → All x
    here_unserved x b = let c = of x b in inr (c.among, c.long, rw c.key (member_head κ ks))

    old_unserved : (x : Invocation) → Old x → All x
    old_unserved x (inl h) = inl h
    old_unserved x (inr h) = inr (h.0, h.1, member_tail (key_of x) κ ks h.2)

    -- what is served further in is not of d's pair
    old_differs : (x y : Invocation) → Old x → x ≡ y → Mem y (d ∷ later) → ⊥
    old_differs x y (inl h) e b = shorter_differs m D x y h e (of y b).long
    old_differs x y (inr h) e b = clash (subst (λ (f : Key). member f ks ≡ true) (ap (λ (v : Invocation). key_of v) e ∙ (of y b).key) h.2) new

    -- none is active
    rests : (s : State) → Zero next s → Still All s → effect events s ≡ s
    unfolding events
    rests s z st = shell_rests d next gd inner.next inner.events Old old room S later X s z
        (st d (here_unserved d (inl refl))) (λ e me. st e (here_unserved e (inr me))) (λ x o. st x (old_unserved x o))

    -- the active invocation is served further in
    runs_inner : (s : State) (x : Invocation) → Zero next s → Old x → s x.ancilla ≡ true → Sole All s x → effect events s ≡ E x.procedure x.list s
    unfolding events
    runs_inner s x z o on so = shell_inner d next gd inner.next inner.events Old old room S later X s x z
        (idle d (inl refl)) (λ e me. idle e (inr me)) o on (λ y r q. so y (old_unserved y r) q)
      where
        idle : (y : Invocation) → Mem y (d ∷ later) → s y.ancilla ≡ false
        idle y b = not_true_false (s y.ancilla) (λ q. old_differs x y o (sym (so y (here_unserved y b) q)) b)

    -- where it is d or a later one, nothing further in is active
    calm_inside : (s : State) (x : Invocation) → Mem x (d ∷ later) → Sole All s x → Still Old s
    calm_inside s x b so y o = not_true_false (s y.ancilla) (λ h. old_differs y x o (so y (old_unserved y o) h) b)

    -- it is d
    runs_first : (s : State) → Zero next s → s d.ancilla ≡ true → Sole All s d → effect events s ≡ E d.procedure d.list s
    unfolding events
    runs_first s z on so = shell_first d next gd inner.next inner.events Old old room S later X s z on
        (λ e me. not_true_false (s e.ancilla)
        (λ h. dl.0 e me (ap (λ (v : Invocation). v.ancilla) (sym (so e (here_unserved e (inr me)) h)))))
        (calm_inside s d (inl refl) so)

    -- it is a later one of d's pair
    runs_later : (s : State) (x : Invocation) → Zero next s → Mem x later → s x.ancilla ≡ true → Sole All s x →
        effect events s ≡ E x.procedure x.list s
    unfolding events
    runs_later s x z mx on so =
        shell_entry d next gd inner.next inner.events Old old room S later X s x z
        (not_true_false (s d.ancilla) (λ h. dl.0 x mx (ap (λ (v : Invocation). v.ancilla) (so d (here_unserved d (inl refl)) h))))
        dl.1 mx on (λ y my h. so y (here_unserved y (inr my)) h)
        (calm_inside s x (inr mx) so)
        (λ y o e. old_differs y d o (ancilla_tells D dd y d (old_in_D y o) (in_D d (inl refl)) e) (inl refl))
      where
        old_in_D : (y : Invocation) → Old y → Mem y D
        old_in_D y (inl h) = h.0
        old_in_D y (inr h) = sub y h.0

    -- it is one of d's pair
    runs_here : (s : State) (x : Invocation) → Zero next s → Mem x (d ∷ later) → s x.ancilla ≡ true → Sole All s x →
        effect events s ≡ E x.procedure x.list s
    runs_here s x z (inl e) on so = subst (λ (y : Invocation). effect events s ≡ E y.procedure y.list s) (sym e)
        (runs_first s z (subst (λ (y : Invocation). s y.ancilla ≡ true) e on) (λ y r h. so y r h ∙ e))
    runs_here s x z (inr mx) on so = runs_later s x z mx on so

    -- it is any
    runs : (s : State) (x : Invocation) → Zero next s → All x → s x.ancilla ≡ true → Sole All s x → effect events s ≡ E x.procedure x.list s
    runs s x z (inl h) on so = runs_inner s x z (inl h) on so
    runs s x z (inr h) on so = member_cases (key_of x) κ ks h.2
        (λ e. runs_here s x z (all_of x (record { among = h.0; long = h.1; key = e })) on so)
        (λ c. runs_inner s x z (inr (h.0, h.1, c)) on so)

    -- the body of d around all that is behind serves all that is to be served
    around_serves : Serves E (Unserved m (κ ∷ ks) T D) next (around P chains d later next inner).events
    unfolding around events shell left_part right_part
    around_serves = record { rests = rests; runs = runs }

  -- what emits the bodies of lists shorter than m serves all such invocations, and never goes back in wires
  abbrev pub ServesShorter : ℕ → (List Invocation → ℕ → Emitted) → Type 0
  ServesShorter m shorter = (D : List Invocation) (next : ℕ) → Goods next D → DistinctAncillas D →
      Serves E (Shorter m D) next (shorter D next).events × (next ≤ (shorter D next).next)

  -- the invocations are good with those of one body more
  pub goods_more : (d : Invocation) (D : List Invocation) (next : ℕ) → Goods next D → Mem d D → Goods (behind d next) (D ++ own d next)
  goods_more d D next g md x mx = on_mem x D (own d next) mx
      (λ h. let a = g x h in let b = a.taken in record { fine = a.fine; low = a.low; above = a.above; taken = omega arith })
      (λ h. let nw = own_new d next (g d md) x h in
      let rg = own_range d next (g d md) x h in
      record { fine = nw.fine; low = nw.low; above = (let a = next_above d next (g d md) in omega arith); taken = rg.1 })

  -- and their ancillas distinct
  pub distinct_more : (d : Invocation) (D : List Invocation) (next : ℕ) → Goods next D → Mem d D → DistinctAncillas D →
      DistinctAncillas (D ++ own d next)
  distinct_more d D next g md dd = distinct_append D (own d next) dd (own_distinct d next (g d md))
      (λ x y mx my e. apart x.ancilla y.ancilla e (g x mx).taken (own_range d next (g d md) y my).0)
    where
      apart : (u v : ℕ) → u ≡ v → u < next → next ≤ v → ⊥
      apart u v e h i = omega arith

  -- what emits the bodies of length m with keys ks, and shorter ones, serves their invocations among T, and never goes back in wires
  abbrev pub ServesFrom : ℕ → List Key → List Invocation → (List Invocation → ℕ → Emitted) → Type 0
  ServesFrom m ks T following = (D : List Invocation) (next : ℕ) → Goods next D → DistinctAncillas D → ((x : Invocation) → Mem x T → Mem x D) →
      Serves E (Unserved m ks T D) next (following D next).events × (next ≤ (following D next).next)

  module _ (m : ℕ) (T : List Invocation) (dt : DistinctAncillas T) where
    -- one key more, that of the calls C
    shared_serves : (κ : Key) (ks : List Key) (following : List Invocation → ℕ → Emitted) → member κ ks ≡ false → ServesFrom m ks T following →
        (C : List Invocation) → calls_to m κ T ≡ C → ServesFrom m (κ ∷ ks) T (shared P chains C following)
    unfolding shared around
    shared_serves κ ks following new F [] e D next g dd sub =
        let ih = F D next g dd sub in
        (serves_iff E (Unserved m ks T D) (Unserved m (κ ∷ ks) T D) next (following D next).events widen shrink ih.0, ih.1)
      where
        widen : (x : Invocation) → Unserved m ks T D x → Unserved m (κ ∷ ks) T D x
        widen x (inl h) = inl h
        widen x (inr h) = inr (h.0, h.1, member_tail (key_of x) κ ks h.2)

        shrink : (x : Invocation) → Unserved m (κ ∷ ks) T D x → Unserved m ks T D x
        shrink x (inl h) = inl h
        shrink x (inr h) = member_cases (key_of x) κ ks h.2
            (λ q. absurd (subst (λ (l : List Invocation). Mem x l) e (calls_all m κ T x (record { among = h.0; long = h.1; key = q }))))
            (λ c. inr (h.0, h.1, c))
    shared_serves κ ks following new F (d ∷ later) e D next g dd sub =
        let of : (x : Invocation) → Mem x (d ∷ later) → CallTo m κ T x =
        λ x b. calls_are m κ T x (subst (λ (l : List Invocation). Mem x l) (sym e) b) in
        let all_of : (x : Invocation) → CallTo m κ T x → Mem x (d ∷ later) =
        λ x c. subst (λ (l : List Invocation). Mem x l) e (calls_all m κ T x c) in
        let md = sub d (of d (inl refl)).among in
        let inner = following (D ++ own d next) (behind d next) in
        let ih = F (D ++ own d next) (behind d next) (goods_more d D next g md) (distinct_more d D next g md dd)
        (λ x mx. mem_left x D (own d next) (sub x mx)) in
        let room : behind d next ≤ inner.next = ih.1 in (
          around_serves m κ ks d later T D next inner g dd
              (subst (λ (l : List Invocation). DistinctAncillas l) e (calls_distinct m κ T dt)) sub of all_of new ih.0 room,
          omega arith,
        )

    -- the bodies of length m serve what is not yet served, in whatever order their keys come
    pub bodies_serve : (shorter : List Invocation → ℕ → Emitted) → ServesShorter m shorter → (ks : List Key) → Distinct ks →
        ServesFrom m ks T (bodies P chains m shorter ks T)
    unfolding bodies
    bodies_serve shorter RO [] u D next g dd sub =
        let r = RO D next g dd in
        (serves_iff E (Shorter m D) (Unserved m [] T D) next (shorter D next).events (λ x h. inl h) (λ x h. only x h) r.0, r.1)
      where
        only : (x : Invocation) → Unserved m [] T D x → Shorter m D x
        only x (inl h) = h
        only x (inr h) = not_in_nil (key_of x) h.2
    bodies_serve shorter RO (κ ∷ ks) u D next g dd sub =
        shared_serves κ ks (bodies P chains m shorter ks T) u.0 (bodies_serve shorter RO ks u.1) (calls_to m κ T) refl D next g dd sub

  -- the bodies from length m down serve all invocations with lists of at most m
  pub bodies_from_serves : (m : ℕ) → ServesShorter (suc m) (bodies_from P chains m)
  unfolding bodies_from
  bodies_from_serves zero D next g dd = (record { rests = λ s z st. effect_nil s; runs = λ s d z r on so. absurd (empty d r) }, omega arith)
    where
      empty : (d : Invocation) → Shorter 1 D d → ⊥
      empty d h = let a : 0 < length d.list = (g d h.0).fine.some in let b : length d.list < 1 = h.1 in omega arith
  bodies_from_serves (suc m) D next g dd =
      let order = keys_order (suc m) D in
      let r = bodies_serve (suc m) D dd (bodies_from P chains m) (bodies_from_serves m) (keys (suc m) D) order.once D next g dd (λ x mx. mx) in (
        serves_iff E (Unserved (suc m) (keys (suc m) D) D D) (Shorter (suc (suc m)) D) next (bodies_from P chains (suc m) D next).events
            to_short (from_short order.every) r.0,
        r.1,
      )
    where
      to_short : (x : Invocation) → Unserved (suc m) (keys (suc m) D) D D x → Shorter (suc (suc m)) D x
      to_short x (inl h) = let a : length x.list < suc m = h.1 in (h.0, omega arith)
      to_short x (inr h) = let a : length x.list ≡ suc m = h.1 in (h.0, omega arith)

      from_short : ((x : Invocation) → Mem x D → length x.list ≡ suc m → member (key_of x) (keys (suc m) D) ≡ true) →
          (x : Invocation) → Shorter (suc (suc m)) D x → Unserved (suc m) (keys (suc m) D) D D x
      from_short every x h = let a : length x.list < suc (suc m) = h.1 in by_eq (length x.list) (suc m)
          (λ e. inr (h.0, e, every x h.0 e))
          (λ ne. inl (h.0, omega arith))

  -- the invocation that starts a chain is good
  pub start_good : (f : ℕ) (l : List ℕ) (a : ℕ) → rank f ≤ k → Fine G n f l → n < a → Goods (suc a) (invocation f l a ∷ [])
  start_good f l a low fine above x (inl e) = subst (λ (y : Invocation). Good rank G n k (suc a) y) (sym e)
      (record { fine = fine; low = low; above = above; taken = omega arith })
  start_good f l a low fine above x (inr m) = absurd m

  -- a chain serves the call that starts it
  start_serves : (f : ℕ) (l : List ℕ) (a : ℕ) → rank f ≤ k → Fine G n f l → n < a →
      Serves E (λ x. x ≡ invocation f l a) (suc a) (bodies_from P chains (length l) (invocation f l a ∷ []) (suc a)).events
  start_serves f l a low fine above = serves_iff E (Shorter (suc (length l)) (invocation f l a ∷ [])) (λ x. x ≡ invocation f l a) (suc a)
      (bodies_from P chains (length l) (invocation f l a ∷ []) (suc a)).events single only
      (bodies_from_serves (length l) (invocation f l a ∷ []) (suc a) (start_good f l a low fine above) ((λ y m. absurd m), tt)).0
    where
      one_of : (x : Invocation) → Mem x (invocation f l a ∷ []) → x ≡ invocation f l a
      one_of x (inl e) = e
      one_of x (inr m) = absurd m

      single : (x : Invocation) → Shorter (suc (length l)) (invocation f l a ∷ []) x → x ≡ invocation f l a
      single x h = one_of x h.0

      only : (x : Invocation) → x ≡ invocation f l a → Shorter (suc (length l)) (invocation f l a ∷ []) x
      only x e = let h : length x.list ≡ length l = ap (λ (v : Invocation). length v.list) e in (inl e, omega arith)

-- rank after rank: chains within one another serve all calls of procedures up to their rank
pub chains_served : (P : Program) (rank : ℕ → ℕ) (E : CallDoes) (G : Safely) (n : ℕ) (W : World P rank E G) (k : ℕ) →
    Served rank E G n (chains_within P k) (suc k)
unfolding chains_within
chains_served P rank E G n W zero = record {
  on = λ f l a s r fine h z e. effect_nil s ∙ sym (W.absent f l s (omega arith));
  off = λ f l a s r fine h z e. effect_nil s;
}
chains_served P rank E G n W (suc k) = record {
  on = λ f l a s r fine h z e. (start_serves P rank E G n W (chains_within P k) (suc k) (chains_served P rank E G n W k) f l a (omega arith) fine h
      ).runs s (invocation f l a) z refl e (λ x m on. m);
  off = λ f l a s r fine h z e. (start_serves P rank E G n W (chains_within P k) (suc k) (chains_served P rank E G n W k) f l a (omega arith) fine h
      ).rests s z (λ x m. subst (λ (y : Invocation). s y.ancilla ≡ false) (sym m) e);
}
