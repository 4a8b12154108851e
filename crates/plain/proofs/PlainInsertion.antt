-- Document 01, "Emission": "the controls now in force: the body's ancilla, if any, and the qcase qubits around it in that body", and of a gate's bytes:
-- "wires ascend". The model puts a control in once only and never 0 (`Gates.insert`, `Gates.asked`). In the emission of an accepted program neither ever
-- matters: no control is asked twice and none is 0, so this is plain insertion. A qcase touches no closed qubit and not 0, all qubits asked are closed,
-- and an ancilla is above n and stands alone when it is put.
use mathlib.Core.Path.{◌≡◌, refl, ap}
use mathlib.Core.Logic.{inl, inr}
use mathlib.Core.Bool.{Bool, true, false}
use mathlib.Core.List.{List, [], ◌∷◌, ◌++◌, map}
use Prim.Native.Nat.{ℕ, zero, suc, ◌+◌, ◌≤◌, ◌<◌}
use native.Mathlib.Omega.{arith}
use borrow.Author.Tests.{lt-ltb, le-ltb}
use lib.ListN.{length}
use lib.Dec.{eqb}
use Rattle.model.specs.Syntax.{Statement, skip, NOT, sequence, if, qcase, call, Program, count, body}
use Rattle.model.specs.Lists.{qubits, remaining, touched, holds, member}
use Rattle.model.specs.Reading.{number}
use Rattle.model.specs.Faults.{touch_faults, program_faults}
use Rattle.model.specs.Meaning.{CallDoes}
use Rattle.model.specs.Reach.{recursive, width, any_lacks_removal, any_too_wide}
use Rattle.model.specs.Gates.{Controls, no_controls, insert, with_control, swap_of, exchange}
use Rattle.model.specs.Emission.{
  places,
  Chains,
  start_chain,
  whole,
  Invocation,
  invocation,
  is_wide,
  invokes,
  invocations,
  left,
  right,
  under,
  swaps,
  entry_gates,
  all_entry_gates,
  Key,
  keys,
  calls_to,
  Emitted,
  body_invocations,
  around,
  shared,
  bodies,
  bodies_from,
  chains_within,
  emission,
}
use Rattle.model.specs.Answers.{gives, accepted}
use Rattle.model.proofs.BooleanLaws.{by_order, clash, not_true_false, or_false_left, or_false_right}
use Rattle.model.proofs.ListLaws.{qubits_data, range_distinct, member_nil, not_head, not_tail, Distinct, Data, data_remaining, remaining_distinct}
use Rattle.model.proofs.GateLaws.{insert_before, insert_behind, asked_wire, asks}
use Rattle.model.proofs.ReachAndRank.{Named, Ranked, rank}
use Rattle.agreement.proofs.EmissionClauses.{width_sequence, width_if, width_qcase, thin_width, wide_width, Low, thin_low}
use Rattle.agreement.proofs.ProgramFacts.{
  Safely,
  SafeCall,
  Safe,
  touch_positive,
  World,
  AskedIn,
  asked_in_none,
  asked_in_with_control,
  asked_in_under,
  Fine,
  fine_call,
  Served,
}
use Rattle.agreement.proofs.InvocationsOfABody.{Mem, mem_left, DistinctAncillas}
use Rattle.agreement.proofs.KeysOfALength.{calls_are}
use Rattle.agreement.proofs.NestedBodies.{Good, Goods, next_above, safe_body, ranked_body, goods_more, distinct_more, start_good, chains_served}
use Rattle.agreement.proofs.Agreement.{call_runs, call_safe, main_low, world, main_safe}
use Rattle.agreement.proofs.AncillaStack.{StackedChains, AllRise, bodies_stacked, bodies_from_stacked, chains_stacked}
use Rattle.agreement.proofs.CompilePromise.{accepted_is}
use Rattle.plain.specs.Ways.{Ways, today_with}
use Rattle.plain.specs.EmissionBy.{
  whole_by,
  left_by,
  right_by,
  under_by,
  swaps_by,
  entry_gates_by,
  all_entry_gates_by,
  around_by,
  shared_by,
  bodies_by,
  bodies_from_by,
  chains_by,
  emission_by,
}
use Rattle.plain.specs.AnswersBy.{SameMeaning}
use Rattle.plain.specs.PlainControls.{plain_insert, plain_control, Fresh, AsksFresh}
use Rattle.plain.proofs.WaysAlike.{picked, joined}
use Rattle.plain.proofs.AnswersAlike.{same_meaning}
use Rattle.plain.proofs.TodaysWays.{reads_today, faults_numbers, words_numbers, invocations_numbers}

-- a qubit that may be touched is fresh where every qubit asked is closed
touched_fresh : (q : ℕ) (C : List ℕ) (cs : Controls) → touch_faults q C ≡ false → AskedIn C cs → Fresh q cs
unfolding asks
touched_fresh q C cs safe F =
    let o = not_true_false (asks cs q) (λ m. clash (F q m) (not_tail q 0 C safe)) in
    (touch_positive q C safe, or_false_left (member q cs.ones) (member q cs.zeros) o, or_false_right (member q cs.ones) (member q cs.zeros) o)

-- an ancilla is fresh where nothing is asked
ancilla_fresh : (a : ℕ) → 0 < a → Fresh a no_controls
ancilla_fresh a h = (h, member_nil a, member_nil a)

-- the chains of procedures of rank below k are the same
abbrev SameChains : (ℕ → ℕ) → Safely → ℕ → ℕ → Chains → Chains → Type 0
SameChains rank G n k chains' chains = (f : ℕ) (l : List ℕ) (a : ℕ) → rank f < k → Fine G n f l → n < a → chains' f l a ≡ chains f l a

-- controls put in a way that is today's for a fresh wire
module _ (put : ℕ → Bool → Controls → Controls) (puts : (w : ℕ) (b : Bool) (cs : Controls) → Fresh w cs → put w b cs ≡ with_control w b cs) where
  abbrev ways : Ways
  ways = today_with put

  under_fresh : (a : ℕ) → 0 < a → under_by ways a ≡ under a
  under_fresh a h = puts a true no_controls (ancilla_fresh a h)

  -- the entry gates of a body: each entry ancilla is a wire
  swaps_fresh : (e : ℕ) (ks ws : List ℕ) → 0 < e → swaps_by ways e ks ws ≡ swaps e ks ws
  unfolding swaps_by swaps
  swaps_fresh e [] ws h = refl
  swaps_fresh e (k ∷ ks) [] h = refl
  swaps_fresh e (k ∷ ks) (w ∷ ws) h = picked (eqb w k) (λ q. swaps_fresh e ks ws h)
      (λ q. joined (ap (λ c. places (swap_of c w k) ∷ []) (under_fresh e h)) (swaps_fresh e ks (map (exchange w k) ws) h))

  entries_fresh : (d : Invocation) (later : List Invocation) → ((e : Invocation) → Mem e later → 0 < e.ancilla) →
      all_entry_gates_by ways d later ≡ all_entry_gates d later
  unfolding all_entry_gates_by all_entry_gates entry_gates_by entry_gates
  entries_fresh d [] h = refl
  entries_fresh d (e ∷ later) h = let p = h e (inl refl) in
      rw (under_fresh e.ancilla p, swaps_fresh e.ancilla d.list e.list p, entries_fresh d later (λ x m. h x (inr m)))

  module _ (P : Program) (rank : ℕ → ℕ) (E : CallDoes) (G : Safely) (n : ℕ) (W : World P rank E G)
      (chains' chains : Chains) (k : ℕ) (same : SameChains rank G n k chains' chains) where
    -- a call that starts a chain
    start_fresh : (f : ℕ) (l C : List ℕ) (cs : Controls) (next : ℕ) → rank f < k → SafeCall G f l C → Data n l → Distinct l → n < next →
        start_chain chains' f l cs next ≡ start_chain chains f l cs next
    unfolding start_chain
    start_fresh f [] C cs next r g d u a = refl
    start_fresh f (q ∷ l) C cs next r g d u a = rw (same f (q ∷ l) next r (fine_call G n f q l C W.weakens g d u) a)

    -- a statement emitted whole, where every qubit asked is closed
    whole_fresh : (s : Statement) (l C : List ℕ) (cs : Controls) (next : ℕ) → Low rank k s → Safe G s l C → Data n l → Distinct l → n < next →
        AskedIn C cs → whole_by ways chains' s l cs next ≡ whole chains s l cs next
    unfolding whole_by whole
    whole_fresh skip l C cs next r o d u a F = refl
    whole_fresh (NOT rs i) l C cs next r o d u a F = refl
    whole_fresh (sequence x y) l C cs next r o d u a F =
        joined (whole_fresh x l C cs next r.0 o.0 d u a F) (whole_fresh y l C cs next r.1 o.1 d u a F)
    whole_fresh (if c x y) l C cs next r o d u a F = picked (holds c l)
        (λ e. whole_fresh x l C cs next r.0 (rw e at o) d u a F) (λ e. whole_fresh y l C cs next r.1 (rw e at o) d u a F)
    whole_fresh (qcase rs i x y) l C cs next r o d u a F =
        let w = touched rs i l in
        let f = touched_fresh w C cs o.0 F in
        rw (puts w false cs f, puts w true cs f)
        (joined (whole_fresh x l (w ∷ C) (with_control w false cs) next r.0 o.1 d u a (asked_in_with_control w false C cs F))
        (whole_fresh y l (w ∷ C) (with_control w true cs) next r.1 o.2 d u a (asked_in_with_control w true C cs F)))
    whole_fresh (call rs f) l C cs next r o d u a F = start_fresh f (remaining rs l) C cs next r o (data_remaining n rs l d) (remaining_distinct rs l u) a

    module _ (r : ℕ → Bool) where
      -- the left part of a body
      left_fresh : (s : Statement) (l C : List ℕ) (cs : Controls) (next : ℕ) → Ranked rank r k s → Safe G s l C → Data n l → Distinct l → n < next →
          AskedIn C cs → left_by ways chains' r s l cs next ≡ left chains r s l cs next
      unfolding left_by left
      left_fresh skip l C cs next q o d u a F = refl
      left_fresh (NOT rs i) l C cs next q o d u a F = refl
      left_fresh (sequence x y) l C cs next q o d u a F = picked (is_wide r x)
          (λ e. left_fresh x l C cs next q.0 o.0 d u a F)
          (λ e. joined (whole_fresh x l C cs next (thin_low rank r k x q.0 (thin_width r x e)) o.0 d u a F)
          (left_fresh y l C cs next q.1 o.1 d u a F))
      left_fresh (if c x y) l C cs next q o d u a F = picked (holds c l)
          (λ e. left_fresh x l C cs next q.0 (rw e at o) d u a F) (λ e. left_fresh y l C cs next q.1 (rw e at o) d u a F)
      left_fresh (qcase rs i x y) l C cs next q o d u a F =
          let w = touched rs i l in
          let f = touched_fresh w C cs o.0 F in
          rw (puts w false cs f, puts w true cs f, invocations_numbers put r x l next)
          (joined (left_fresh x l (w ∷ C) (with_control w false cs) next q.0 o.1 d u a (asked_in_with_control w false C cs F))
          (left_fresh y l (w ∷ C) (with_control w true cs) (next + length (invocations r x l next)) q.1 o.2 d u (omega arith)
          (asked_in_with_control w true C cs F)))
      left_fresh (call rs f) l C cs next q o d u a F =
          let stays : invokes (remaining rs l) cs next ≡ invokes (remaining rs l) cs next = refl in picked (r f) (λ e. stays)
          (λ e. start_fresh f (remaining rs l) C cs next (q.1 e) o (data_remaining n rs l d) (remaining_distinct rs l u) a)

      -- the right part, at width 1
      right_fresh : (s : Statement) (l C : List ℕ) (cs : Controls) (next top : ℕ) → Ranked rank r k s → width r s ≤ 1 → Safe G s l C →
          Data n l → Distinct l → n < top → AskedIn C cs → right_by ways chains' r s l cs next top ≡ right chains r s l cs next top
      unfolding right_by right
      right_fresh skip l C cs next top q v o d u a F = refl
      right_fresh (NOT rs i) l C cs next top q v o d u a F = refl
      right_fresh (sequence x y) l C cs next top q v o d u a F = let parts = width_sequence r x y v in picked (is_wide r x)
          (λ e. joined (right_fresh x l C cs next top q.0 parts.0 o.0 d u a F)
          (whole_fresh y l C cs top (thin_low rank r k y q.1 (parts.2 (wide_width r x e))) o.1 d u a F))
          (λ e. right_fresh y l C cs next top q.1 parts.1 o.1 d u a F)
      right_fresh (if c x y) l C cs next top q v o d u a F = picked (holds c l)
          (λ e. right_fresh x l C cs next top q.0 (width_if r c x y v).0 (rw e at o) d u a F)
          (λ e. right_fresh y l C cs next top q.1 (width_if r c x y v).1 (rw e at o) d u a F)
      right_fresh (qcase rs i x y) l C cs next top q v o d u a F =
          let w = touched rs i l in
          let f = touched_fresh w C cs o.0 F in
          let parts = width_qcase r rs i x y v in
          rw (puts w false cs f, puts w true cs f, invocations_numbers put r x l next)
          (joined (right_fresh y l (w ∷ C) (with_control w true cs) (next + length (invocations r x l next)) top q.1 parts.1 o.2 d u a
          (asked_in_with_control w true C cs F))
          (right_fresh x l (w ∷ C) (with_control w false cs) next top q.0 parts.0 o.1 d u a (asked_in_with_control w false C cs F)))
      right_fresh (call rs f) l C cs next top q v o d u a F = refl

    -- the bodies of a chain
    module _ (S : StackedChains n chains) (served : Served rank E G n chains k) where
      abbrev AllGood : ℕ → List Invocation → Type 0
      AllGood next D = Goods P rank E G n W chains k served next D

      -- one body around what follows it
      around_fresh : (d : Invocation) (later : List Invocation) (next : ℕ) (inner : Emitted) → Good rank G n k next d →
          ((e : Invocation) → Mem e later → 0 < e.ancilla) → n < inner.next →
          around_by ways P chains' d later next inner ≡ around P chains d later next inner
      unfolding around_by around
      around_fresh d later next inner gd above top =
          let r = recursive P d.procedure in
          let s = body P d.procedure in
          let a : n < d.ancilla = gd.above in
          let start = next_above P rank E G n W chains k served d next gd in
          let safe = safe_body P rank E G n W chains k served d next gd in
          let ranked = ranked_body P rank E G n W chains k served d next gd in
          rw (
            entries_fresh d later above,
            under_fresh d.ancilla (omega arith),
            left_fresh r s d.list (d.ancilla ∷ []) (under d.ancilla) next ranked safe gd.fine.wires gd.fine.distinct start
                (asked_in_under d.ancilla),
            right_fresh r s d.list (d.ancilla ∷ []) (under d.ancilla) next inner.next ranked (W.narrow d.procedure) safe
                gd.fine.wires gd.fine.distinct top (asked_in_under d.ancilla),
          )

      -- two ways to emit bodies of a chain do the same, the calls T among its invocations
      abbrev Same : List Invocation → (List Invocation → ℕ → Emitted) → (List Invocation → ℕ → Emitted) → Type 0
      Same T following' following = (D : List Invocation) (next : ℕ) → AllGood next D → DistinctAncillas D → ((x : Invocation) → Mem x T → Mem x D) →
          n < next → following' D next ≡ following D next

      -- a body that calls C among T share, around those that follow
      shared_fresh : (T C : List Invocation) (following' following : List Invocation → ℕ → Emitted) → ((x : Invocation) → Mem x C → Mem x T) →
          AllRise n P chains S following → Same T following' following → Same T (shared_by ways P chains' C following') (shared P chains C following)
      unfolding shared_by shared
      shared_fresh T [] following' following of rises F D next g dd sub a = F D next g dd sub a
      shared_fresh T (d ∷ later) following' following of rises F D next g dd sub a =
          let md = sub d (of d (inl refl)) in
          let own = body_invocations P chains d next in
          let inner = following (D ++ own) (next + length own) in
          let up = rises (D ++ own) (next + length own) (omega arith) in
          let top : next + length own ≤ inner.next = up.1 in
          rw (
            invocations_numbers put (recursive P d.procedure) (body P d.procedure) d.list next,
            F (D ++ own) (next + length own) (goods_more P rank E G n W chains k served d D next g md)
                (distinct_more P rank E G n W chains k served d D next g md dd) (λ x mx. mem_left x D own (sub x mx)) (omega arith),
          )
          (around_fresh d later next inner (g d md) (λ e m. let b : n < e.ancilla = (g e (sub e (of e (inr m)))).above in omega arith) (omega arith))

      -- the bodies of length m, around those of shorter lists
      bodies_fresh : (m : ℕ) (shorter' shorter : List Invocation → ℕ → Emitted) → AllRise n P chains S shorter → Same [] shorter' shorter →
          (ks : List Key) (T : List Invocation) → Same T (bodies_by ways P chains' m shorter' ks T) (bodies P chains m shorter ks T)
      unfolding bodies_by bodies
      bodies_fresh m shorter' shorter rises F [] T D next g dd sub a = F D next g dd (λ x b. absurd b) a
      bodies_fresh m shorter' shorter rises F (κ ∷ ks) T D next g dd sub a =
          shared_fresh T (calls_to m κ T) (bodies_by ways P chains' m shorter' ks T) (bodies P chains m shorter ks T) (λ x b. (calls_are m κ T x b).among)
          (bodies_stacked n P chains S m shorter rises ks T) (bodies_fresh m shorter' shorter rises F ks T) D next g dd sub a

      -- all bodies of a chain
      bodies_from_fresh : (m : ℕ) → Same [] (bodies_from_by ways P chains' m) (bodies_from P chains m)
      unfolding bodies_from_by bodies_from
      bodies_from_fresh zero D next g dd sub a = refl
      bodies_from_fresh (suc m) D next g dd sub a =
          bodies_fresh (suc m) (bodies_from_by ways P chains' m) (bodies_from P chains m) (bodies_from_stacked n P chains S m) (bodies_from_fresh m)
          (keys (suc m) D) D D next g dd (λ x b. b) a

  -- chains within chains
  chains_fresh : (P : Program) (rank : ℕ → ℕ) (E : CallDoes) (G : Safely) (n : ℕ) (W : World P rank E G) (k : ℕ) →
      SameChains rank G n (suc k) (chains_by ways P k) (chains_within P k)
  unfolding chains_by chains_within
  chains_fresh P rank E G n W zero f l a r fine above = refl
  chains_fresh P rank E G n W (suc k) f l a r fine above =
      let served = chains_served P rank E G n W k in
      ap (λ (x : Emitted). x.events) (bodies_from_fresh P rank E G n W (chains_by ways P k) (chains_within P k) (suc k) (chains_fresh P rank E G n W k)
      (chains_stacked n P k) served (length l) (invocation f l a ∷ []) (suc a)
      (start_good P rank E G n W (chains_within P k) (suc k) served f l a (omega arith) fine above) ((λ y m. absurd m), tt)
      (λ x b. absurd b) (omega arith))

-- "no control is asked twice and none is 0", in the emission of a program that is accepted
pub asks_fresh : (P : Program) → Named P → any_lacks_removal P ≡ false → any_too_wide P ≡ false → (n : ℕ) → 0 < n → program_faults P n ≡ false → AsksFresh P n
unfolding emission_by emission
asks_fresh P N passes10 passes11 n some passes12 put puts =
    let W = world P N passes10 passes11 in
    whole_fresh put puts P (rank P) (call_runs P) (call_safe P) n W (chains_by (today_with put) P (count P)) (chains_within P (count P)) (suc (count P))
    (chains_fresh put puts P (rank P) (call_runs P) (call_safe P) n W (count P)) P.main (qubits n) [] no_controls (suc n)
    (main_low P N passes10) (main_safe P N passes10 n some passes12) (qubits_data n) (range_distinct n 1) (omega arith) (asked_in_none [])

-- the same of a table
pub table_asks_fresh : (table : List ℕ) (n : ℕ) (P : Program) → accepted table n ≡ gives P → AsksFresh P n
table_asks_fresh table n P e = let a = accepted_is table n P e in asks_fresh P a.named a.passes10 a.passes11 n a.some a.passes12

-- a fresh wire is put in by plain insertion
plain_insert_lem : (w : ℕ) (l : List ℕ) → member w l ≡ false → plain_insert w l ≡ insert w l
unfolding plain_insert insert
plain_insert_lem w [] h = refl
plain_insert_lem w (x ∷ l) h = by_order w x
    (λ o. rw (insert_before w x l o, lt-ltb w x o, plain_insert))
    (λ o. absurd (not_head w x l h o))
    (λ o. rw (insert_behind w x l o, le-ltb w x (omega arith), plain_insert) (ap (λ m. x ∷ m) (plain_insert_lem w l (not_tail w x l h))))

plain_puts : (w : ℕ) (b : Bool) (cs : Controls) → Fresh w cs → plain_control w b cs ≡ with_control w b cs
unfolding plain_control with_control
plain_puts w true cs f = rw (asked_wire w cs.ones f.0, plain_insert_lem w cs.ones f.1)
plain_puts w false cs f = rw (asked_wire w cs.zeros f.0, plain_insert_lem w cs.zeros f.2)

-- So the emission of an accepted program puts its controls in by plain insertion,
pub plain_emission : (P : Program) → Named P → any_lacks_removal P ≡ false → any_too_wide P ≡ false → (n : ℕ) → 0 < n → program_faults P n ≡ false →
    emission_by (today_with plain_control) P n ≡ emission P n
plain_emission P N passes10 passes11 n some passes12 = asks_fresh P N passes10 passes11 n some passes12 plain_control plain_puts

-- and every table means what it does with plain insertion.
pub plain_means : (table : List ℕ) → SameMeaning number (today_with plain_control) table
plain_means table = same_meaning number (today_with plain_control) table (reads_today table) (λ P n e. faults_numbers plain_control P n)
    (λ P n word e. words_numbers plain_control P n word) (λ P n e. table_asks_fresh table n P e plain_control plain_puts)
