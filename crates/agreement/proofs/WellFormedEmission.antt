-- Every gate of the emission is well formed: its controls ascend, no wire stands twice in it, and its wires are 1 to n plus the ancillas.
use mathlib.Core.Path.{◌≡◌, refl, sym, ◌∙◌, subst}
use mathlib.Core.Logic.{◌≢◌, inl, inr}
use mathlib.Core.Bool.{Bool, true, false, not}
use mathlib.Core.List.{List, [], ◌∷◌, ◌++◌, map, reverse, reverse-cons}
use Prim.Native.Nat.{ℕ, zero, suc, ◌+◌, ◌≤◌, ◌<◌, min, max, suc-le-suc}
use native.Mathlib.Omega.{arith}
use borrow.Author.Tests.{lt-ltb, le-leb, eqb-false, not-true}
use lib.ListN.{length, length-append}
use lib.Dec.{eqb, ltb}
use Rattle.model.specs.Syntax.{Number, Statement, skip, NOT, sequence, if, qcase, call, Program, count, body}
use Rattle.model.specs.Lists.{qubits, remaining, touched, holds, member}
use Rattle.model.specs.Limits.{most_qubits, header_length}
use Rattle.model.specs.Faults.{touch_faults, program_faults}
use Rattle.model.specs.Meaning.{CallDoes}
use Rattle.model.specs.Reach.{recursive, width, any_lacks_removal, any_too_wide}
use Rattle.model.specs.Gates.{Controls, no_controls, insert, asked, with_control, flip, swap, swap_of, exchange}
use Rattle.model.specs.Emission.{
  Event,
  takes,
  places,
  frees,
  Chains,
  start_chain,
  whole,
  Invocation,
  invocation,
  invoked,
  is_wide,
  invocations,
  invokes,
  returns,
  left,
  right,
  under,
  swaps,
  entry_gates,
  all_entry_gates,
  Key,
  keys,
  calls_to,
  Emitted,
  body_invocations,
  around,
  shared,
  bodies,
  bodies_from,
  chains_within,
  emission,
  gates,
  peak,
}
use Rattle.model.specs.Answers.{fit, circuit, usable}
use Rattle.model.specs.Circuit.{write, wires, controls_of, ascends, distinct, within, lower_first, gate_is_well_formed}
use Rattle.model.proofs.BooleanLaws.{
  by_bool,
  by_eq,
  by_lt,
  by_order,
  clash,
  not_true_false,
  and_left,
  and_right,
  and_both,
  or-false,
  or_false_left,
  or_false_right,
}
use Rattle.model.proofs.ListLaws.{
  qubits_data,
  range_distinct,
  member_head,
  member_tail,
  member_cases,
  member_append,
  member_skip,
  not_tail,
  not_in_nil,
  Distinct,
  Data,
  data_remaining,
  data_touched,
  remaining_distinct,
}
use Rattle.model.proofs.AscendingWires.{ascends_tail, ascends_larger, ascends_distinct}
use Rattle.model.proofs.GateLaws.{
  insert_before,
  insert_there,
  insert_behind,
  insert_cases,
  asked_wire,
  asked_none,
  asked_cases,
  asks,
  asks_none,
  asks_cases,
  exchange_left,
  exchange_right,
  exchange_other,
}
use Rattle.model.proofs.ReachAndRank.{Named, Ranked, rank}
use Rattle.model.proofs.RoundTrip.{AllWellFormed, write_length, WellFormed}
use Rattle.agreement.proofs.KeysOfALength.{calls_are, calls_distinct}
use Rattle.agreement.proofs.EmissionClauses.{
  whole_yes,
  whole_no,
  invocations_wide,
  invocations_thin,
  invocations_yes,
  invocations_no,
  invocations_recursive,
  left_wide,
  left_thin,
  left_yes,
  left_no,
  left_recursive,
  left_other,
  right_wide,
  right_thin,
  right_yes,
  right_no,
  right_recursive,
  right_other,
  width_sequence,
  width_if,
  width_qcase,
  thin_width,
  wide_width,
  Low,
  thin_low,
}
use Rattle.agreement.proofs.ProgramFacts.{
  Safely,
  SafeCall,
  Safe,
  touch_positive,
  World,
  AskedIn,
  asked_in_none,
  asked_in_with_control,
  asked_in_under,
  Below,
  below_none,
  below_with_control,
  below_under,
  below_up,
  below_not,
  Fine,
  fine_call,
  Served,
}
use Rattle.agreement.proofs.InvocationsOfABody.{Mem, mem_left, DistinctAncillas}
use Rattle.agreement.proofs.TrackedSwaps.{asks_under}
use Rattle.agreement.proofs.NestedBodies.{Goods, next_above, safe_body, ranked_body, goods_more, distinct_more, start_good, chains_served}
use Rattle.agreement.proofs.Agreement.{call_runs, call_safe, main_low, world, main_safe}
use Rattle.agreement.proofs.FirstMisfit.{fit_all, fits_length, fits_wires}
use Rattle.agreement.proofs.AncillaStack.{
  StackedChains,
  left_stacked,
  AllRise,
  bodies_stacked,
  bodies_from_stacked,
  chains_stacked,
  taken_left,
  taken_right,
  TakenTo,
  stacked_to,
  taken_wires,
}

-- a smaller wire in front keeps a list ascending
ascends_cons : (x : ℕ) (l : List ℕ) → ((v : ℕ) → member v l ≡ true → x < v) → ascends l ≡ true → ascends (x ∷ l) ≡ true
unfolding ascends
ascends_cons x [] h a = refl
ascends_cons x (y ∷ l) h a = and_both (ltb x y) (ascends (y ∷ l)) (lt-ltb x y (h y (member_head y l))) a

-- a wire put into an ascending list keeps it ascending
insert_ascends : (w : ℕ) (l : List ℕ) → ascends l ≡ true → ascends (insert w l) ≡ true
unfolding insert ascends
insert_ascends w [] a = refl
insert_ascends w (x ∷ l) a = by_order w x
    (λ o. rw (insert_before w x l o) (and_both (ltb w x) (ascends (x ∷ l)) (lt-ltb w x o) a))
    (λ o. rw (insert_there w x l o) a)
    (λ o. rw (insert_behind w x l o) (ascends_cons x (insert w l)
    (λ v m. insert_cases w v l m (λ q. rw q o) (λ i. ascends_larger x l a v i))
    (insert_ascends w l (ascends_tail x l a))))

-- so does a wire that is asked
asked_ascends : (w : ℕ) (l : List ℕ) → ascends l ≡ true → ascends (asked w l) ≡ true
asked_ascends w l a = by_eq w 0 (λ e. rw (asked_none w l e) a) (λ n. rw (asked_wire w l (omega arith)) (insert_ascends w l a))

-- two lists that share no wire
distinct_append : (xs ys : List ℕ) → distinct xs ≡ true → distinct ys ≡ true →
    ((v : ℕ) → member v xs ≡ true → member v ys ≡ false) → distinct (xs ++ ys) ≡ true
unfolding distinct
distinct_append [] ys dx dy h = dy
distinct_append (x ∷ xs) ys dx dy h =
    let once = not-true (member x xs) (and_left (not (member x xs)) (distinct xs) dx) in
    let out : member x (xs ++ ys) ≡ false = member_append x xs ys ∙ or-false (member x xs) (member x ys) once (h x (member_head x xs)) in
    rw out (distinct_append xs ys (and_right (not (member x xs)) (distinct xs) dx) dy (λ v m. h v (member_tail v x xs m)))

within_all : (most : ℕ) (l : List ℕ) → ((v : ℕ) → member v l ≡ true → (0 < v) × (v ≤ most)) → within most l ≡ true
unfolding within
within_all most [] h = refl
within_all most (x ∷ l) h =
    let b = h x (member_head x l) in
    rw (le-leb 1 x b.0, le-leb x most b.1) (within_all most l (λ v m. h v (member_tail v x l m)))

zero_unasked : (w : ℕ) (b : Bool) (cs : Controls) → 0 < w → asks cs 0 ≡ false → asks (with_control w b cs) 0 ≡ false
zero_unasked w b cs h n = not_true_false (asks (with_control w b cs) 0) (λ m. asks_cases w b cs 0 m (λ e. not_positive e) (λ i. clash i n))
  where
    not_positive : 0 ≡ w → ⊥
    not_positive e = omega arith

nonzero_positive : (v : ℕ) → v ≢ 0 → 0 < v
nonzero_positive v h = omega arith

less_differs : (u v : ℕ) → u < v → u ≢ v
less_differs u v h = omega arith

-- controls in order: each list ascends, no wire is asked for both bits, and wire 0 is not asked
record Neat (cs : Controls) : Type 0 where
  pub ones_ascend : ascends cs.ones ≡ true
  pub zeros_ascend : ascends cs.zeros ≡ true
  pub apart : (v : ℕ) → member v cs.ones ≡ true → member v cs.zeros ≡ false
  pub positive : asks cs 0 ≡ false

neat_none : Neat no_controls
unfolding ascends
neat_none = record { ones_ascend = refl; zeros_ascend = refl; apart = λ v m. not_in_nil v m; positive = asks_none 0 }

-- one more control keeps the order, on a wire that is not asked yet
neat_with_control : (w : ℕ) (b : Bool) (cs : Controls) → 0 < w → asks cs w ≡ false → Neat cs → Neat (with_control w b cs)
unfolding with_control asks
neat_with_control w true cs h o c =
    let o₀ = or_false_right (member w cs.ones) (member w cs.zeros) o in
    record {
      ones_ascend = asked_ascends w cs.ones c.ones_ascend;
      zeros_ascend = c.zeros_ascend;
      apart = λ v m. asked_cases w v cs.ones m (λ e. rw e o₀) (λ i. c.apart v i);
      positive = zero_unasked w true cs h c.positive;
    }
neat_with_control w false cs h o c =
    let o₁ = or_false_left (member w cs.ones) (member w cs.zeros) o in
    record {
      ones_ascend = c.ones_ascend;
      zeros_ascend = asked_ascends w cs.zeros c.zeros_ascend;
      apart = λ v m. not_true_false (member v (asked w cs.zeros)) (λ i. asked_cases w v cs.zeros i
          (λ e. clash (subst (λ (x : ℕ). member x cs.ones ≡ true) e m) o₁)
          (λ j. clash j (c.apart v m)));
      positive = zero_unasked w false cs h c.positive;
    }

-- the wires of a gate whose targets are not asked
controls_distinct : (cs : Controls) → Neat cs → distinct (cs.ones ++ cs.zeros) ≡ true
controls_distinct cs c = distinct_append cs.ones cs.zeros (ascends_distinct cs.ones c.ones_ascend)
    (ascends_distinct cs.zeros c.zeros_ascend) c.apart

controls_member : (cs : Controls) (v : ℕ) → member v (cs.ones ++ cs.zeros) ≡ asks cs v
unfolding asks
controls_member cs v = member_append v cs.ones cs.zeros

asked_within_lem : (most : ℕ) (cs : Controls) → Neat cs → Below (suc most) cs → (v : ℕ) → member v (cs.ones ++ cs.zeros) ≡ true → (0 < v) × (v ≤ most)
asked_within_lem most cs c B v m =
    let a = sym (controls_member cs v) ∙ m in
    let b = B v a in
    (nonzero_positive v (λ e. clash (subst (λ (x : ℕ). asks cs x ≡ true) e a) c.positive), omega arith)

module _ (most : ℕ) (cs : Controls) (c : Neat cs) (B : Below (suc most) cs) where
  -- a NOT on a wire that its controls do not ask
  flip_well_formed : (t : ℕ) → 0 < t → t ≤ most → asks cs t ≡ false → gate_is_well_formed most (flip cs t) ≡ true
  unfolding gate_is_well_formed controls_of wires lower_first distinct within
  flip_well_formed t p h o = rw (c.ones_ascend, c.zeros_ascend, controls_member cs t, o, controls_distinct cs c, le-leb 1 t p, le-leb t most h)
      (rw (within_all most (cs.ones ++ cs.zeros) (asked_within_lem most cs c B)))

  -- a swap of two wires that its controls do not ask
  swap_well_formed : (u v : ℕ) → 0 < u → u < v → v ≤ most → asks cs u ≡ false → asks cs v ≡ false → gate_is_well_formed most (swap cs u v) ≡ true
  unfolding gate_is_well_formed controls_of wires lower_first distinct within
  swap_well_formed u v p h q ou ov =
      let apart : member u (v ∷ (cs.ones ++ cs.zeros)) ≡ false =
      member_skip u v (cs.ones ++ cs.zeros) (less_differs u v h) (controls_member cs u ∙ ou) in
      rw (
        c.ones_ascend,
        c.zeros_ascend,
        apart,
        controls_member cs v,
        ov,
        controls_distinct cs c,
        le-leb 1 u p,
        le-leb u most (omega arith),
        le-leb 1 v (omega arith),
        le-leb v most q,
      )
      (rw (within_all most (cs.ones ++ cs.zeros) (asked_within_lem most cs c B)) (lt-ltb u v h))

  swap_of_well_formed : (u v : ℕ) → (0 < u) × (u ≤ most) → (0 < v) × (v ≤ most) → u ≢ v → asks cs u ≡ false → asks cs v ≡ false →
      gate_is_well_formed most (swap_of cs u v) ≡ true
  unfolding swap_of
  swap_of_well_formed u v p q ne ou ov = by_lt u v
      (λ h. let a : min u v ≡ u = omega arith in let b : max u v ≡ v = omega arith in rw (a, b) (swap_well_formed u v p.0 h q.1 ou ov))
      (λ h. let a : min u v ≡ v = omega arith in let b : max u v ≡ u = omega arith in
      rw (a, b) (swap_well_formed v u q.0 (omega arith) p.1 ov ou))

-- every gate placed is well formed over wires 1 to most
abbrev pub WellPlaced : ℕ → List Event → Type 0
WellPlaced most [] = Unit {0}
WellPlaced most (takes w ∷ es) = WellPlaced most es
WellPlaced most (places g ∷ es) = (gate_is_well_formed most g ≡ true) × WellPlaced most es
WellPlaced most (frees a ∷ es) = WellPlaced most es

placed_append : (most : ℕ) (xs ys : List Event) → WellPlaced most xs → WellPlaced most ys → WellPlaced most (xs ++ ys)
placed_append most [] ys x y = y
placed_append most (takes w ∷ xs) ys x y = placed_append most xs ys x y
placed_append most (places g ∷ xs) ys x y = (x.0, placed_append most xs ys x.1 y)
placed_append most (frees a ∷ xs) ys x y = placed_append most xs ys x y

-- two parts of a list of events, one after the other
placed_both : (most : ℕ) (xs ys : List Event) → TakenTo most (xs ++ ys) →
    (TakenTo most xs → WellPlaced most xs) → (TakenTo most ys → WellPlaced most ys) → WellPlaced most (xs ++ ys)
placed_both most xs ys t x y =
    placed_append most xs ys (x (λ w m. t w (taken_left w xs ys m))) (y (λ w m. t w (taken_right w xs ys m)))

placed_reverse : (most : ℕ) (es : List Event) → WellPlaced most es → WellPlaced most (reverse es)
placed_reverse most [] x = tt
placed_reverse most (takes w ∷ es) x = rw (reverse-cons (takes w) es) (placed_append most (reverse es) (takes w ∷ []) (placed_reverse most es x) tt)
placed_reverse most (places g ∷ es) x =
    rw (reverse-cons (places g) es) (placed_append most (reverse es) (places g ∷ []) (placed_reverse most es x.1) (x.0, tt))
placed_reverse most (frees a ∷ es) x = rw (reverse-cons (frees a) es) (placed_append most (reverse es) (frees a ∷ []) (placed_reverse most es x) tt)

-- the one control of an entry or a body
neat_under : (a : ℕ) → 0 < a → Neat (under a)
neat_under a h = neat_with_control a true no_controls h (asks_none a) neat_none

-- data wires stay data wires where two of them are exchanged
data_exchange : (n u v : ℕ) (l : List ℕ) → (0 < u) × (u ≤ n) → (0 < v) × (v ≤ n) → Data n l → Data n (map (exchange u v) l)
data_exchange n u v [] hu hv d w m = not_in_nil w m
data_exchange n u v (x ∷ l) hu hv d w m = member_cases w (exchange u v x) (map (exchange u v) l) m
    (λ e. rw e (by_eq x u
    (λ eu. rw (eu, exchange_left u v) hv)
    (λ nu. by_eq x v (λ ev. rw (ev, exchange_right u v) hu) (λ nv. rw (exchange_other u v x nu nv) (d x (member_head x l))))))
    (λ i. data_exchange n u v l hu hv (λ y j. d y (member_tail y x l j)) w i)

-- the swaps of an entry, under an ancilla above the data wires
swaps_placed : (n most e : ℕ) (ks ws : List ℕ) → n < e → e ≤ most → Data n ks → Data n ws → WellPlaced most (swaps e ks ws)
unfolding swaps
swaps_placed n most e [] ws a h dk dw = tt
swaps_placed n most e (k ∷ ks) [] a h dk dw = tt
swaps_placed n most e (k ∷ ks) (w ∷ ws) a h dk dw =
    let kb = dk k (member_head k ks) in
    let wb = dw w (member_head w ws) in
    let dk' : Data n ks = λ y j. dk y (member_tail y k ks j) in
    let dw' : Data n ws = λ y j. dw y (member_tail y w ws j) in
    by_bool (eqb w k)
    (λ q. rw (q, swaps) (swaps_placed n most e ks ws a h dk' dw'))
    (λ q. rw (q, swaps) (
      swap_of_well_formed most (under e) (neat_under e (omega arith)) (below_under (suc most) e (omega arith)) w k
          (wb.0, omega arith) (kb.0, omega arith) (eqb-false w k q)
          (asks_under e w (less_differs w e (omega arith))) (asks_under e k (less_differs k e (omega arith))),
      swaps_placed n most e ks (map (exchange w k) ws) a h dk' (data_exchange n w k ws wb kb dw'),
    ))

-- the entry gates of a body
entries_placed : (n most : ℕ) (d : Invocation) (later : List Invocation) → n < d.ancilla → d.ancilla ≤ most → Data n d.list →
    ((e : Invocation) → Mem e later → (n < e.ancilla) × (e.ancilla ≤ most) × Data n e.list × (d.ancilla ≢ e.ancilla)) →
    WellPlaced most (all_entry_gates d later)
unfolding all_entry_gates entry_gates
entries_placed n most d [] a h dt f = tt
entries_placed n most d (e ∷ later) a h dt f =
    let F = f e (inl refl) in
    let above : n < e.ancilla = F.0 in
    placed_append most (entry_gates d e) (all_entry_gates d later) (
      flip_well_formed most (under e.ancilla) (neat_under e.ancilla (omega arith)) (below_under (suc most) e.ancilla (suc-le-suc F.1))
          d.ancilla (omega arith) h (asks_under e.ancilla d.ancilla F.3),
      swaps_placed n most e.ancilla d.list e.list above F.1 dt F.2,
    )
    (entries_placed n most d later a h dt (λ y m. f y (inr m)))

-- controls in force: in order, below the next wire, and on closed wires
record InForce (next : ℕ) (C : List ℕ) (cs : Controls) : Type 0 where
  pub neat : Neat cs
  pub below : Below next cs
  pub closed : AskedIn C cs

in_force_up : (next m : ℕ) (C : List ℕ) (cs : Controls) → next ≤ m → InForce next C cs → InForce m C cs
in_force_up next m C cs h F = record { neat = F.neat; below = below_up next m cs h F.below; closed = F.closed }

-- the chains of procedures of rank below k place well-formed gates, where they take no wire above `most`
abbrev PlacedChains : (ℕ → ℕ) → Safely → ℕ → ℕ → ℕ → Chains → Type 0
PlacedChains rank G n most k chains = (f : ℕ) (l : List ℕ) (a : ℕ) → rank f < k → Fine G n f l → n < a → a ≤ most →
    TakenTo most (chains f l a) → WellPlaced most (chains f l a)

module _ (P : Program) (rank : ℕ → ℕ) (E : CallDoes) (G : Safely) (n most : ℕ) (W : World P rank E G)
    (chains : Chains) (S : StackedChains n chains) (k : ℕ) (placed : PlacedChains rank G n most k chains) where
  -- a NOT on an ancilla from the next wire on
  ancilla_flip : (C : List ℕ) (cs : Controls) (next : ℕ) → n < next → InForce next C cs → next ≤ most → gate_is_well_formed most (flip cs next) ≡ true
  ancilla_flip C cs next a F h =
      flip_well_formed most cs F.neat (below_up next (suc most) cs (omega arith) F.below) next (omega arith) h
      (below_not next next cs F.below (omega arith))

  start_chain_placed : (f : ℕ) (l C : List ℕ) (cs : Controls) (next : ℕ) → rank f < k → SafeCall G f l C → Data n l → Distinct l → n < next →
      InForce next C cs → TakenTo most (start_chain chains f l cs next) → WellPlaced most (start_chain chains f l cs next)
  unfolding start_chain
  start_chain_placed f [] C cs next r g d u a F t = tt
  start_chain_placed f (q ∷ l) C cs next r g d u a F t =
      let h = t next (inl refl) in
      let ok = ancilla_flip C cs next a F h in
      let back = places (flip cs next) ∷ frees next ∷ [] in (
        ok,
        placed_append most (chains f (q ∷ l) next) back
            (placed f (q ∷ l) next r (fine_call G n f q l C W.weakens g d u) a h (λ w m. t w (inr (taken_left w (chains f (q ∷ l) next) back m))))
            (ok, tt),
      )

  -- a qubit that may be touched
  module _ (rs : List Number) (i : Number) (l C : List ℕ) (cs : Controls) (next : ℕ) (d : Data n l) (a : n < next) (F : InForce next C cs)
      (safe : touch_faults (touched rs i l) C ≡ false) where
    touched_positive : 0 < touched rs i l
    touched_positive = touch_positive (touched rs i l) C safe

    touched_below : touched rs i l < next
    touched_below = let b = data_touched n rs i l d in omega arith

    touched_unasked : asks cs (touched rs i l) ≡ false
    touched_unasked = not_true_false (asks cs (touched rs i l)) (λ m. clash (F.closed (touched rs i l) m) (not_tail (touched rs i l) 0 C safe))

    -- it takes a NOT ..
    touched_flip : next ≤ suc most → gate_is_well_formed most (flip cs (touched rs i l)) ≡ true
    touched_flip h = let b = touched_below in
        flip_well_formed most cs F.neat (below_up next (suc most) cs h F.below) (touched rs i l) touched_positive (omega arith) touched_unasked

    -- .. and closes as a control
    touched_closes : (b : Bool) → InForce next (touched rs i l ∷ C) (with_control (touched rs i l) b cs)
    touched_closes b = record {
      neat = neat_with_control (touched rs i l) b cs touched_positive touched_unasked F.neat;
      below = below_with_control next (touched rs i l) b cs touched_below F.below;
      closed = asked_in_with_control (touched rs i l) b C cs F.closed;
    }

  -- a statement emitted whole
  whole_placed : (s : Statement) (l C : List ℕ) (cs : Controls) (next : ℕ) → Low rank k s → Safe G s l C → Data n l → Distinct l → n < next →
      InForce next C cs → next ≤ suc most → TakenTo most (whole chains s l cs next) → WellPlaced most (whole chains s l cs next)
  unfolding whole
  whole_placed skip l C cs next r o d u a F h t = tt
  whole_placed (NOT rs i) l C cs next r o d u a F h t = (touched_flip rs i l C cs next d a F o h, tt)
  whole_placed (sequence x y) l C cs next r o d u a F h t = placed_both most (whole chains x l cs next) (whole chains y l cs next) t
      (λ t'. whole_placed x l C cs next r.0 o.0 d u a F h t') (λ t'. whole_placed y l C cs next r.1 o.1 d u a F h t')
  whole_placed (if c x y) l C cs next r o d u a F h t = by_bool (holds c l)
      (λ e. rw (whole_yes chains l cs next c x y e)
      (whole_placed x l C cs next r.0 (rw e at o) d u a F h (rw (whole_yes chains l cs next c x y e) at t)))
      (λ e. rw (whole_no chains l cs next c x y e)
      (whole_placed y l C cs next r.1 (rw e at o) d u a F h (rw (whole_no chains l cs next c x y e) at t)))
  whole_placed (qcase rs i x y) l C cs next r o d u a F h t =
      let q = touched rs i l in
      let F' = touched_closes rs i l C cs next d a F o.0 in
      placed_both most (whole chains x l (with_control q false cs) next) (whole chains y l (with_control q true cs) next) t
      (λ t'. whole_placed x l (q ∷ C) (with_control q false cs) next r.0 o.1 d u a (F' false) h t')
      (λ t'. whole_placed y l (q ∷ C) (with_control q true cs) next r.1 o.2 d u a (F' true) h t')
  whole_placed (call rs f) l C cs next r o d u a F h t =
      start_chain_placed f (remaining rs l) C cs next r o (data_remaining n rs l d) (remaining_distinct rs l u) a F t

  invokes_placed : (l C : List ℕ) (cs : Controls) (next : ℕ) → n < next → InForce next C cs → TakenTo most (invokes l cs next) →
      WellPlaced most (invokes l cs next)
  unfolding invokes
  invokes_placed [] C cs next a F t = tt
  invokes_placed (q ∷ l) C cs next a F t = (ancilla_flip C cs next a F (t next (inl refl)), tt)

  -- the left part of a body
  left_placed : (r : ℕ → Bool) (s : Statement) (l C : List ℕ) (cs : Controls) (next : ℕ) → Ranked rank r k s → Safe G s l C → Data n l → Distinct l →
      n < next → InForce next C cs → next ≤ suc most → TakenTo most (left chains r s l cs next) → WellPlaced most (left chains r s l cs next)
  unfolding left
  left_placed r skip l C cs next q o d u a F h t = tt
  left_placed r (NOT rs i) l C cs next q o d u a F h t = (touched_flip rs i l C cs next d a F o h, tt)
  left_placed r (sequence x y) l C cs next q o d u a F h t = by_bool (is_wide r x)
      (λ e. rw (left_wide chains r l cs next x y e)
      (left_placed r x l C cs next q.0 o.0 d u a F h (rw (left_wide chains r l cs next x y e) at t)))
      (λ e. rw (left_thin chains r l cs next x y e)
      (placed_both most (whole chains x l cs next) (left chains r y l cs next) (rw (left_thin chains r l cs next x y e) at t)
      (λ t'. whole_placed x l C cs next (thin_low rank r k x q.0 (thin_width r x e)) o.0 d u a F h t')
      (λ t'. left_placed r y l C cs next q.1 o.1 d u a F h t')))
  left_placed r (if c x y) l C cs next q o d u a F h t = by_bool (holds c l)
      (λ e. rw (left_yes chains r l cs next c x y e)
      (left_placed r x l C cs next q.0 (rw e at o) d u a F h (rw (left_yes chains r l cs next c x y e) at t)))
      (λ e. rw (left_no chains r l cs next c x y e)
      (left_placed r y l C cs next q.1 (rw e at o) d u a F h (rw (left_no chains r l cs next c x y e) at t)))
  left_placed r (qcase rs i x y) l C cs next q o d u a F h t =
      let w = touched rs i l in
      let m = next + length (invocations r x l next) in
      let first = left chains r x l (with_control w false cs) next in
      let second = left chains r y l (with_control w true cs) m in
      let F' = touched_closes rs i l C cs next d a F o.0 in
      let h' = stacked_to n most next m first (left_stacked n chains S r x l (with_control w false cs) next a) h (λ v j. t v (taken_left v first second j)) in
      placed_both most first second t
      (λ t'. left_placed r x l (w ∷ C) (with_control w false cs) next q.0 o.1 d u a (F' false) h t')
      (λ t'. left_placed r y l (w ∷ C) (with_control w true cs) m q.1 o.2 d u (omega arith)
      (in_force_up next m (w ∷ C) (with_control w true cs) (omega arith) (F' true)) h' t')
  left_placed r (call rs f) l C cs next q o d u a F h t = by_bool (r f)
      (λ e. rw (left_recursive chains r l cs next rs f e)
      (invokes_placed (remaining rs l) C cs next a F (rw (left_recursive chains r l cs next rs f e) at t)))
      (λ e. rw (left_other chains r l cs next rs f e)
      (start_chain_placed f (remaining rs l) C cs next (q.1 e) o (data_remaining n rs l d) (remaining_distinct rs l u) a F
      (rw (left_other chains r l cs next rs f e) at t)))

  returns_placed : (f : ℕ) (l C : List ℕ) (cs : Controls) (next : ℕ) → n < next → InForce next C cs → next + length (invoked f l next) ≤ suc most →
      WellPlaced most (returns l cs next)
  unfolding returns invoked
  returns_placed f [] C cs next a F h = tt
  returns_placed f (q ∷ l) C cs next a F h = (ancilla_flip C cs next a F (omega arith), tt)

  -- the right part of a body, where `top` is behind the left part's ancillas
  right_placed : (r : ℕ → Bool) (s : Statement) (l C : List ℕ) (cs : Controls) (next top : ℕ) → Ranked rank r k s → width r s ≤ 1 → Safe G s l C →
      Data n l → Distinct l → n < next → InForce next C cs → next + length (invocations r s l next) ≤ top → top ≤ suc most →
      TakenTo most (right chains r s l cs next top) → WellPlaced most (right chains r s l cs next top)
  unfolding right invocations
  right_placed r skip l C cs next top q v o d u a F le h t = tt
  right_placed r (NOT rs i) l C cs next top q v o d u a F le h t = tt
  right_placed r (sequence x y) l C cs next top q v o d u a F le h t = by_bool (is_wide r x)
      (λ e. let le' : next + length (invocations r x l next) ≤ top = rw (invocations_wide r l next x y e) at le in
      rw (right_wide chains r l cs next x y top e)
      (placed_both most (right chains r x l cs next top) (whole chains y l cs top) (rw (right_wide chains r l cs next x y top e) at t)
      (λ t'. right_placed r x l C cs next top q.0 (width_sequence r x y v).0 o.0 d u a F le' h t')
      (λ t'. whole_placed y l C cs top (thin_low rank r k y q.1 ((width_sequence r x y v).2 (wide_width r x e))) o.1 d u (omega arith)
      (in_force_up next top C cs (omega arith) F) h t')))
      (λ e. rw (right_thin chains r l cs next x y top e)
      (right_placed r y l C cs next top q.1 (width_sequence r x y v).1 o.1 d u a F (rw (invocations_thin r l next x y e) at le) h
      (rw (right_thin chains r l cs next x y top e) at t)))
  right_placed r (if c x y) l C cs next top q v o d u a F le h t = by_bool (holds c l)
      (λ e. rw (right_yes chains r l cs next c x y top e)
      (right_placed r x l C cs next top q.0 (width_if r c x y v).0 (rw e at o) d u a F (rw (invocations_yes r l next c x y e) at le) h
      (rw (right_yes chains r l cs next c x y top e) at t)))
      (λ e. rw (right_no chains r l cs next c x y top e)
      (right_placed r y l C cs next top q.1 (width_if r c x y v).1 (rw e at o) d u a F (rw (invocations_no r l next c x y e) at le) h
      (rw (right_no chains r l cs next c x y top e) at t)))
  right_placed r (qcase rs i x y) l C cs next top q v o d u a F le h t =
      let w = touched rs i l in
      let m = next + length (invocations r x l next) in
      let le' = rw length-append at le in
      let F' = touched_closes rs i l C cs next d a F o.0 in
      placed_both most (right chains r y l (with_control w true cs) m top) (right chains r x l (with_control w false cs) next top) t
      (λ t'. right_placed r y l (w ∷ C) (with_control w true cs) m top q.1 (width_qcase r rs i x y v).1 o.2 d u (omega arith)
      (in_force_up next m (w ∷ C) (with_control w true cs) (omega arith) (F' true)) (omega arith) h t')
      (λ t'. right_placed r x l (w ∷ C) (with_control w false cs) next top q.0 (width_qcase r rs i x y v).0 o.1 d u a (F' false) (omega arith) h t')
  right_placed r (call rs f) l C cs next top q v o d u a F le h t = by_bool (r f)
      (λ e. let le' = rw (invocations_recursive r l next rs f e) at le in
      rw (right_recursive chains r l cs next rs f top e) (returns_placed f (remaining rs l) C cs next a F (omega arith)))
      (λ e. rw (right_other chains r l cs next rs f top e) tt)

  -- the bodies of a chain
  module _ (served : Served rank E G n chains k) where
    abbrev AllGood : ℕ → List Invocation → Type 0
    AllGood next D = Goods P rank E G n W chains k served next D

    -- what emits bodies of a chain, the calls T among its invocations
    abbrev Placed : List Invocation → (List Invocation → ℕ → Emitted) → Type 0
    Placed T following = (D : List Invocation) (next : ℕ) → AllGood next D → DistinctAncillas D → ((x : Invocation) → Mem x T → Mem x D) →
        next ≤ suc most → TakenTo most (following D next).events → WellPlaced most (following D next).events

    -- a body that calls C among T share, around those that follow
    shared_placed : (T C : List Invocation) (following : List Invocation → ℕ → Emitted) → DistinctAncillas C → ((x : Invocation) → Mem x C → Mem x T) →
        AllRise n P chains S following → Placed T following → Placed T (shared P chains C following)
    unfolding shared around
    shared_placed T [] following dc of rises F D next g dd sub h t = F D next g dd sub h t
    shared_placed T (d ∷ later) following dc of rises F D next g dd sub h t =
        let md = sub d (of d (inl refl)) in
        let gd = g d md in
        let r = recursive P d.procedure in
        let s = body P d.procedure in
        let own = body_invocations P chains d next in
        let inner = following (D ++ own) (next + length own) in
        let N = all_entry_gates d later in
        let L = left chains r s d.list (under d.ancilla) next in
        let I = inner.events in
        let R = right chains r s d.list (under d.ancilla) next inner.next in
        let above : n < d.ancilla = gd.above in
        let taken : d.ancilla < next = gd.taken in
        let start = next_above P rank E G n W chains k served d next gd in
        let F' : InForce next (d.ancilla ∷ []) (under d.ancilla) = record {
          neat = neat_under d.ancilla (omega arith);
          below = below_under next d.ancilla taken;
          closed = asked_in_under d.ancilla;
        } in
        let safe = safe_body P rank E G n W chains k served d next gd in
        let ranked = ranked_body P rank E G n W chains k served d next gd in
        let up = rises (D ++ own) (next + length own) (omega arith) in
        let t_l : TakenTo most L = λ w i. t w (taken_right w N (L ++ (I ++ (R ++ reverse N))) (taken_left w L (I ++ (R ++ reverse N)) i)) in
        let t_i : TakenTo most I = λ w i. t w (taken_right w N (L ++ (I ++ (R ++ reverse N)))
        (taken_right w L (I ++ (R ++ reverse N)) (taken_left w I (R ++ reverse N) i))) in
        let h₁ : next + length own ≤ suc most =
        stacked_to n most next (next + length own) L (left_stacked n chains S r s d.list (under d.ancilla) next start) h t_l in
        let h₂ : inner.next ≤ suc most = stacked_to n most (next + length own) inner.next I up.0 h₁ t_i in
        let entries = entries_placed n most d later above (omega arith) gd.fine.wires
        (λ y my. let gy = g y (sub y (of y (inr my))) in let b : y.ancilla < next = gy.taken in
        (gy.above, omega arith, gy.fine.wires, dc.0 y my)) in
        placed_append most N (L ++ (I ++ (R ++ reverse N))) entries
        (placed_append most L (I ++ (R ++ reverse N))
        (left_placed r s d.list (d.ancilla ∷ []) (under d.ancilla) next ranked safe gd.fine.wires gd.fine.distinct start F' h t_l)
        (placed_append most I (R ++ reverse N)
        (F (D ++ own) (next + length own) (goods_more P rank E G n W chains k served d D next g md)
        (distinct_more P rank E G n W chains k served d D next g md dd) (λ x mx. mem_left x D own (sub x mx)) h₁ t_i)
        (placed_append most R (reverse N)
        (right_placed r s d.list (d.ancilla ∷ []) (under d.ancilla) next inner.next ranked (W.narrow d.procedure) safe
        gd.fine.wires gd.fine.distinct start F' up.1 h₂
        (λ w i. t w (taken_right w N (L ++ (I ++ (R ++ reverse N))) (taken_right w L (I ++ (R ++ reverse N))
        (taken_right w I (R ++ reverse N) (taken_left w R (reverse N) i))))))
        (placed_reverse most N entries))))

    -- the bodies of length m, in whatever order their keys come
    bodies_placed : (m : ℕ) (shorter : List Invocation → ℕ → Emitted) → AllRise n P chains S shorter → Placed [] shorter →
        (ks : List Key) (T : List Invocation) → DistinctAncillas T → Placed T (bodies P chains m shorter ks T)
    unfolding bodies
    bodies_placed m shorter rises F [] T dt D next g dd sub h t = F D next g dd (λ x b. absurd b) h t
    bodies_placed m shorter rises F (κ ∷ ks) T dt D next g dd sub h t =
        shared_placed T (calls_to m κ T) (bodies P chains m shorter ks T) (calls_distinct m κ T dt) (λ x b. (calls_are m κ T x b).among)
        (bodies_stacked n P chains S m shorter rises ks T) (bodies_placed m shorter rises F ks T dt) D next g dd sub h t

    bodies_from_placed : (m : ℕ) → Placed [] (bodies_from P chains m)
    unfolding bodies_from
    bodies_from_placed zero D next g dd sub h t = tt
    bodies_from_placed (suc m) D next g dd sub h t =
        bodies_placed (suc m) (bodies_from P chains m) (bodies_from_stacked n P chains S m) (bodies_from_placed m) (keys (suc m) D) D dd
        D next g dd (λ x b. b) h t

-- chains within chains
chains_placed : (P : Program) (rank : ℕ → ℕ) (E : CallDoes) (G : Safely) (n most : ℕ) (W : World P rank E G) (k : ℕ) →
    PlacedChains rank G n most (suc k) (chains_within P k)
unfolding chains_within
chains_placed P rank E G n most W zero f l a r fine above h t = tt
chains_placed P rank E G n most W (suc k) f l a r fine above h t =
    let chains = chains_within P k in
    let served = chains_served P rank E G n W k in
    bodies_from_placed P rank E G n most W chains (chains_stacked n P k) (suc k) (chains_placed P rank E G n most W k) served (length l)
    (invocation f l a ∷ []) (suc a) (start_good P rank E G n W chains (suc k) served f l a (omega arith) fine above) ((λ y m. absurd m), tt)
    (λ x b. absurd b) (omega arith) t

-- an accepted program: every gate that its emission places is well formed over the n data wires and the most ancillas in use
pub emission_placed : (P : Program) → Named P → any_lacks_removal P ≡ false → any_too_wide P ≡ false → (n : ℕ) → 0 < n → program_faults P n ≡ false →
    WellPlaced (n + peak [] (emission P n)) (emission P n)
unfolding emission
emission_placed P N passes10 passes11 n some passes12 =
    let W = world P N passes10 passes11 in
    let most = n + peak [] (emission P n) in
    let F : InForce (suc n) [] no_controls = record { neat = neat_none; below = below_none (suc n); closed = asked_in_none [] } in
    whole_placed P (rank P) (call_runs P) (call_safe P) n most W (chains_within P (count P)) (chains_stacked n P (count P)) (suc (count P))
    (chains_placed P (rank P) (call_runs P) (call_safe P) n most W (count P)) P.main (qubits n) [] no_controls (suc n)
    (main_low P N passes10) (main_safe P N passes10 n some passes12) (qubits_data n) (range_distinct n 1) (omega arith) F (omega arith)
    (λ w t. (taken_wires P n w t).1)

gates_placed : (most : ℕ) (es : List Event) → WellPlaced most es → AllWellFormed most (gates es)
unfolding gates
gates_placed most [] x = tt
gates_placed most (takes w ∷ es) x = gates_placed most es x
gates_placed most (places g ∷ es) x = (x.0, gates_placed most es x.1)
gates_placed most (frees a ∷ es) x = gates_placed most es x

-- the circuit of a program is well formed and fits the room, and four bytes count its gates
pub record FittingCircuit (P : Program) (n room : ℕ) : Type 0 where
  pub well_formed_lem : WellFormed (circuit P n)
  pub in_room : length (write (circuit P n)) ≤ room

-- so it is for every accepted program whose emission fits
pub emission_well_formed : (P : Program) → Named P → any_lacks_removal P ≡ false → any_too_wide P ≡ false →
    (n : ℕ) → 0 < n → n ≤ most_qubits → program_faults P n ≡ false →
    (room : ℕ) → header_length ≤ usable room → fit (usable room) header_length (emission P n) ≡ 0 → FittingCircuit P n room
unfolding circuit
emission_well_formed P N passes10 passes11 n some few passes12 room header fits =
    let bytes = fits_length (usable room) header_length (emission P n) header (fit_all (usable room) header_length (emission P n) fits) in
    let long = write_length (circuit P n) in
    record {
      well_formed_lem = record {
        some_data = some;
        few_data = few;
        few_wires = fits_wires P n (usable room) header_length (omega arith) fits;
        short = omega arith;
        all_gates = gates_placed (n + peak [] (emission P n)) (emission P n) (emission_placed P N passes10 passes11 n some passes12);
      };
      in_room = omega arith;
    }
