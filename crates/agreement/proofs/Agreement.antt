-- The agreement theorem: for every accepted program and every start state with zero ancillas, the gates of the emission do what the run does,
-- and all ancillas are zero again.
use mathlib.Core.Path.{◌≡◌, refl, sym, ap, ◌∙◌}
use mathlib.Core.Bool.{Bool, false}
use mathlib.Core.List.{List, []}
use Prim.Native.Nat.{ℕ, zero, suc, ◌+◌, ◌<◌}
use native.Mathlib.Omega.{arith}
use lib.ListN.{length, length-map}
use Rattle.model.specs.Syntax.{Statement, skip, NOT, sequence, if, qcase, call, Program, count, body}
use Rattle.model.specs.Lists.{qubits}
use Rattle.model.specs.Faults.{CallFaults, faults, call_faults_within, enough, program_faults}
use Rattle.model.specs.Meaning.{State, CallDoes, does, call_does_within, end_state}
use Rattle.model.specs.Reach.{recursive, any_lacks_removal, any_too_wide}
use Rattle.model.specs.Gates.{no_controls, acts}
use Rattle.model.specs.Emission.{chains_within, emission, gates}
use Rattle.model.proofs.BooleanLaws.{by_lt}
use Rattle.model.proofs.ListLaws.{qubits_data, range_distinct, range_length, data_off}
use Rattle.model.proofs.GateLaws.{fires_none}
use Rattle.model.proofs.ReachAndRank.{Named, body_out, Ranked, rank, rank_positive, rank_all, main_unreached, all_ranked, all_narrow}
use Rattle.model.proofs.EnoughFuel.{does_agree, faults_agree, fuel_does, fuel_faults}
use Rattle.agreement.proofs.EffectOfEvents.{effect, effect_gates}
use Rattle.agreement.proofs.EmissionClauses.{Low}
use Rattle.agreement.proofs.ProgramFacts.{Safely, Safe, World, Zero, ranked_up, asked_in_none, below_none}
use Rattle.agreement.proofs.FrameAndRenaming.{NoFault, safe_of, does_stays, stays_within, outside_within, keeps_within, weakens_within, same_within}
use Rattle.agreement.proofs.WholeStatement.{whole_fires}
use Rattle.agreement.proofs.NestedBodies.{chains_served}

-- calls with all the fuel that they need: what they do, which of them fault, which are safe
abbrev pub call_runs : Program → CallDoes
call_runs P f l s = call_does_within P (rank P f + length l) f l s

abbrev pub call_fails : Program → CallFaults
call_fails P f l C = call_faults_within P (rank P f + length l) f l C

abbrev pub call_safe : Program → Safely
call_safe P = NoFault (call_fails P)

-- behind the last procedure a call does nothing
absent_does : (P : Program) (fuel f : ℕ) (l : List ℕ) (s : State) → count P < f → call_does_within P fuel f l s ≡ s
unfolding call_does_within does
absent_does P zero f l s h = refl
absent_does P (suc fuel) f l s h = rw (body_out P f h)

-- a statement none of whose calls is recursive calls only procedures of lower rank
never_low : (rank : ℕ → ℕ) (r : ℕ → Bool) (k : ℕ) (s : Statement) → ((g : ℕ) → r g ≡ false) → Ranked rank r k s → Low rank k s
never_low rank r k skip h q = tt
never_low rank r k (NOT rs a) h q = tt
never_low rank r k (sequence s t) h q = (never_low rank r k s h q.0, never_low rank r k t h q.1)
never_low rank r k (if c s t) h q = (never_low rank r k s h q.0, never_low rank r k t h q.1)
never_low rank r k (qcase rs a s t) h q = (never_low rank r k s h q.0, never_low rank r k t h q.1)
never_low rank r k (call rs f) h q = q.1 (h f)

module _ (P : Program) (N : Named P) (passes10 : any_lacks_removal P ≡ false) where
  -- its bodies' calls are ranked
  abbrev R : (f : ℕ) → Ranked (rank P) (recursive P f) (rank P f) (body P f)
  R = all_ranked P N passes10

  -- the calls of main go to procedures
  pub main_low : Low (rank P) (suc (count P)) P.main
  main_low = never_low (rank P) (recursive P 0) (suc (count P)) P.main (main_unreached P N)
      (ranked_up (rank P) (recursive P 0) (rank P 0) (suc (count P)) P.main (rank_all P 0) (R 0))

  -- a call does what its body does, with the same account of calls
  runs_unfold : (f : ℕ) (l : List ℕ) (s : State) → 0 < length l → call_runs P f l s ≡ does (call_runs P) (body P f) l s
  unfolding call_does_within
  runs_unfold f l s some =
      let m : ℕ = rank P f + length l in
      fuel_does P (rank P) R m (suc m) f l s some (omega arith) (omega arith) ∙
      does_agree (rank P) (recursive P f) (rank P f) l some (call_does_within P m) (call_runs P)
      (λ g l' s' some' h. fuel_does P (rank P) R m (rank P g + length l') g l' s' some' (omega arith) (omega arith)) (body P f) s (R f)

  -- and faults where its body does
  fails_unfold : (f : ℕ) (l C : List ℕ) → 0 < length l → call_fails P f l C ≡ faults (call_fails P) (body P f) l C
  unfolding call_faults_within
  fails_unfold f l C some =
      let m : ℕ = rank P f + length l in
      fuel_faults P (rank P) R m (suc m) f l C some (omega arith) (omega arith) ∙
      faults_agree (rank P) (recursive P f) (rank P f) l some (call_faults_within P m) (call_fails P)
      (λ g l' C' some' h. fuel_faults P (rank P) R m (rank P g + length l') g l' C' some' (omega arith) (omega arith)) (body P f) C (R f)

  -- what the agreement knows of a program that passes refusals 10 and 11
  pub world : any_too_wide P ≡ false → World P (rank P) (call_runs P) (call_safe P)
  world passes11 = record {
    unfolds = runs_unfold;
    inside = λ f l C some g. safe_of (call_fails P) (body P f) l C (sym (fails_unfold f l C some) ∙ g);
    weakens = λ f l C C' h g. weakens_within P (rank P f + length l) f l C C' h g;
    keeps = λ f l C s w g m. keeps_within P (rank P f + length l) f l C s w g m;
    stays = λ f l s w o. stays_within P (rank P f + length l) f l s w o;
    outside = λ f l s w o. outside_within P (rank P f + length l) f l s w o;
    renames = λ π r f l s. rw (length-map l π) (same_within π r P (rank P f + length l) f l s);
    narrow = all_narrow P passes11;
    ranked = R;
    absent = λ f l s z. absent_does P (rank P f + length l) f l s (behind f z);
  }
    where
      behind : (f : ℕ) → rank P f ≡ 0 → count P < f
      behind f z = by_lt (count P) f (λ h. h) (λ h. let p = rank_positive P f h in absurd (nothing p z))
        where
          nothing : {m : ℕ} → 0 < m → m ≡ 0 → ⊥
          nothing p z = omega arith

  module _ (n : ℕ) (some : 0 < n) where
    length_some : 0 < length (qubits n)
    length_some = rw (range_length n 1) some

    -- with refusal 12 passed main is safe
    pub main_safe : program_faults P n ≡ false → Safe (call_safe P) P.main (qubits n) []
    unfolding program_faults
    main_safe passes12 =
        let len : length (qubits n) ≡ n = range_length n 1 in
        let top = rank_all P 0 in
        safe_of (call_fails P) P.main (qubits n) []
        (faults_agree (rank P) (recursive P 0) (rank P 0) (qubits n) length_some (call_fails P) (call_faults_within P (enough P n))
        (λ f l C some' h. fuel_faults P (rank P) R (rank P f + length l) (enough P n) f l C some' (omega arith) (omega arith)) P.main [] (R 0)
        ∙ passes12)

    -- with fuel for all calls main does what a run does
    main_runs : (s : State) → does (call_runs P) P.main (qubits n) s ≡ end_state P n s
    unfolding end_state
    main_runs s =
        let len : length (qubits n) ≡ n = range_length n 1 in
        let top = rank_all P 0 in
        does_agree (rank P) (recursive P 0) (rank P 0) (qubits n) length_some (call_runs P) (call_does_within P (enough P n))
        (λ f l s' some' h. fuel_does P (rank P) R (rank P f + length l) (enough P n) f l s' some' (omega arith) (omega arith)) P.main s (R 0)

    -- the events of the emission do it too
    emission_runs : any_too_wide P ≡ false → program_faults P n ≡ false → (s : State) → Zero (suc n) s → effect (emission P n) s ≡ end_state P n s
    unfolding emission
    emission_runs passes11 passes12 s z =
        let W = world passes11 in
        whole_fires P (rank P) (call_runs P) (call_safe P) n W (chains_within P (count P)) (suc (count P))
        (chains_served P (rank P) (call_runs P) (call_safe P) n W (count P))
        P.main (qubits n) [] no_controls (suc n) s main_low (main_safe passes12) (qubits_data n) (range_distinct n 1) (omega arith) z
        (asked_in_none []) (below_none (suc n)) (fires_none s)
        ∙ main_runs s

-- A program whose calls name procedures and that passes refusals 10, 11 and 12 at n: where all wires past the n data wires are zero,
-- the gates of its emission take every start state to the end state of its run.
pub agreement : (P : Program) → Named P → any_lacks_removal P ≡ false → any_too_wide P ≡ false → (n : ℕ) → 0 < n → program_faults P n ≡ false →
    (s : State) → Zero (suc n) s → acts (gates (emission P n)) s ≡ end_state P n s
agreement P N passes10 passes11 n some passes12 s z =
    sym (effect_gates (emission P n) s) ∙ emission_runs P N passes10 n some passes11 passes12 s z

-- and all wires past the data wires are zero again
pub ancillas_zero : (P : Program) → Named P → any_lacks_removal P ≡ false → any_too_wide P ≡ false → (n : ℕ) → 0 < n → program_faults P n ≡ false →
    (s : State) → Zero (suc n) s → Zero (suc n) (acts (gates (emission P n)) s)
unfolding end_state
ancillas_zero P N passes10 passes11 n some passes12 s z w h =
    ap (λ (t : State). t w) (agreement P N passes10 passes11 n some passes12 s z) ∙
    (does_stays (call_does_within P (enough P n)) (stays_within P (enough P n)) P.main (qubits n) s w
    (data_off n (qubits n) (qubits_data n) w h) ∙ z w h)
