-- Ways that value the numbers of which Q holds as today, and put controls as today: for a program that has no others, all is as the model says.
use mathlib.Core.Path.{◌≡◌, refl, ap, ◌∙◌, fun_ext}
use mathlib.Core.Bool.{Bool, true, false, true≢false, false≢true}
use mathlib.Core.List.{List, [], ◌∷◌, ◌++◌, map}
use Prim.Native.Nat.{ℕ, zero, suc, ◌+◌}
use lib.ListN.{length}
use lib.Dec.{eqb}
use Rattle.model.specs.Syntax.{Number, Condition, Statement, skip, NOT, sequence, if, qcase, call, Program, count, body}
use Rattle.model.specs.Lists.{qubits, remaining, touched, holds}
use Rattle.model.specs.Faults.{CallFaults, faults, call_faults_within, enough, program_faults}
use Rattle.model.specs.Meaning.{State, CallDoes, does, call_does_within, state_of, word_of, end_state, end_word}
use Rattle.model.specs.Reach.{recursive}
use Rattle.model.specs.Gates.{Controls, no_controls, with_control, swap_of, exchange}
use Rattle.model.specs.Emission.{
  Event,
  places,
  Chains,
  start_chain,
  whole,
  Invocation,
  invocation,
  invoked,
  invokes,
  returns,
  is_wide,
  invocations,
  left,
  right,
  under,
  swaps,
  entry_gates,
  all_entry_gates,
  Key,
  keys,
  calls_to,
  Emitted,
  body_invocations,
  around,
  shared,
  bodies,
  bodies_from,
  chains_within,
  emission,
}
use Rattle.plain.specs.Numbers.{InList, InCondition, InStatement, InProgram}
use Rattle.plain.specs.Ways.{Ways}
use Rattle.plain.specs.MeaningBy.{faults_by, call_faults_by, program_faults_by, does_by, call_does_by, end_word_by}
use Rattle.plain.specs.EmissionBy.{
  whole_by,
  invocations_by,
  left_by,
  right_by,
  swaps_by,
  entry_gates_by,
  all_entry_gates_by,
  body_invocations_by,
  around_by,
  shared_by,
  bodies_by,
  bodies_from_by,
  chains_by,
  emission_by,
}

-- a test and what is chosen by it
choice : {A : Type 0} {b c : Bool} {x y u v : A} → b ≡ c → x ≡ u → y ≡ v →
    ◌≡◌ {A = A} (elim b [ true ↦ x | false ↦ y ]) (elim c [ true ↦ u | false ↦ v ])
choice {b = true} {c = true} e f g = f
choice {b = true} {c = false} e f g = absurd (true≢false e)
choice {b = false} {c = true} e f g = absurd (false≢true e)
choice {b = false} {c = false} e f g = g

-- what one test chooses
pub picked : {A : Type 0} (b : Bool) {x y u v : A} → (b ≡ true → x ≡ u) → (b ≡ false → y ≡ v) →
    ◌≡◌ {A = A} (elim b [ true ↦ x | false ↦ y ]) (elim b [ true ↦ u | false ↦ v ])
picked true f g = f refl
picked false f g = g refl

-- events one after the other
pub joined : {x y u v : List Event} → x ≡ u → y ≡ v → x ++ y ≡ u ++ v
joined e f = rw (e, f)

-- the numbers of which Q holds are valued as today
pub record AsToday (Q : Number → Type 0) (W : Ways) : Type 0 where
  pub leaves : (rs : List Number) → InList Q rs → (l : List ℕ) → W.remaining rs l ≡ remaining rs l
  pub touches : (rs : List Number) (a : Number) → InList Q rs × Q a → (l : List ℕ) → W.touched rs a l ≡ touched rs a l
  pub tells : (c : Condition) → InCondition Q c → (l : List ℕ) → W.holds c l ≡ holds c l

module _ (Q : Number → Type 0) (W : Ways) (A : AsToday Q W) where
  -- what faults
  faults_alike : (o : CallFaults) (s : Statement) (l closed : List ℕ) → InStatement Q s → faults_by W o s l closed ≡ faults o s l closed
  unfolding faults_by faults
  faults_alike o skip l closed q = refl
  faults_alike o (NOT rs a) l closed q = rw (A.touches rs a q l)
  faults_alike o (sequence s t) l closed q = rw (faults_alike o s l closed q.0, faults_alike o t l closed q.1)
  faults_alike o (if c s t) l closed q = choice (A.tells c q.0 l) (faults_alike o s l closed q.1.0) (faults_alike o t l closed q.1.1)
  faults_alike o (qcase rs a s t) l closed q = rw (
    A.touches rs a q.0 l,
    faults_alike o s l (touched rs a l ∷ closed) q.1.0,
    faults_alike o t l (touched rs a l ∷ closed) q.1.1,
  )
  faults_alike o (call rs f) l closed q = rw (A.leaves rs q l)

  -- what is done
  does_alike : (o : CallDoes) (t : Statement) (l : List ℕ) (s : State) → InStatement Q t → does_by W o t l s ≡ does o t l s
  unfolding does_by does
  does_alike o skip l s q = refl
  does_alike o (NOT rs a) l s q = rw (A.touches rs a q l)
  does_alike o (sequence t u) l s q = rw (does_alike o t l s q.0, does_alike o u l (does o t l s) q.1)
  does_alike o (if c t u) l s q = choice (A.tells c q.0 l) (does_alike o t l s q.1.0) (does_alike o u l s q.1.1)
  does_alike o (qcase rs a t u) l s q = choice (ap s (A.touches rs a q.0 l)) (does_alike o u l s q.1.1) (does_alike o t l s q.1.0)
  does_alike o (call rs f) l s q = rw (A.leaves rs q l)

  -- the invocations of a body
  pub invocations_alike : (r : ℕ → Bool) (s : Statement) (l : List ℕ) (next : ℕ) → InStatement Q s →
      invocations_by W r s l next ≡ invocations r s l next
  unfolding invocations_by invocations
  invocations_alike r skip l next q = refl
  invocations_alike r (NOT rs a) l next q = refl
  invocations_alike r (sequence s t) l next q =
      picked (is_wide r s) (λ e. invocations_alike r s l next q.0) (λ e. invocations_alike r t l next q.1)
  invocations_alike r (if c s t) l next q =
      choice (A.tells c q.0 l) (invocations_alike r s l next q.1.0) (invocations_alike r t l next q.1.1)
  invocations_alike r (qcase rs a s t) l next q = rw (
    invocations_alike r s l next q.1.0,
    invocations_alike r t l (next + length (invocations r s l next)) q.1.1,
  )
  invocations_alike r (call rs f) l next q = let none : ◌≡◌ {A = List Invocation} [] [] = refl in
      picked (r f) (λ e. ap (λ m. invoked f m next) (A.leaves rs q l)) (λ e. none)

  -- a program of whose numbers Q holds
  module _ (P : Program) (q : InProgram Q P) where
    -- calls fault alike, at every depth, so the program does
    call_faults_alike : (fuel : ℕ) → call_faults_by W P fuel ≡ call_faults_within P fuel
    unfolding call_faults_by call_faults_within
    call_faults_alike zero = refl
    call_faults_alike (suc fuel) = fun_ext (λ f. fun_ext (λ l. fun_ext (λ closed. rw (call_faults_alike fuel)
        (faults_alike (call_faults_within P fuel) (body P f) l closed (q f)))))

    pub program_faults_alike : (n : ℕ) → program_faults_by W P n ≡ program_faults P n
    unfolding program_faults_by program_faults
    program_faults_alike n = rw (call_faults_alike (enough P n)) (faults_alike (call_faults_within P (enough P n)) P.main (qubits n) [] (q 0))

    -- calls do the same, so a run ends alike
    call_does_alike : (fuel : ℕ) → call_does_by W P fuel ≡ call_does_within P fuel
    unfolding call_does_by call_does_within
    call_does_alike zero = refl
    call_does_alike (suc fuel) = fun_ext (λ f. fun_ext (λ l. fun_ext (λ s. rw (call_does_alike fuel)
        (does_alike (call_does_within P fuel) (body P f) l s (q f)))))

    pub end_word_alike : (n word : ℕ) → end_word_by W P n word ≡ end_word P n word
    unfolding end_word_by end_word end_state
    end_word_alike n word = ap (word_of n) (rw (call_does_alike (enough P n))
        (does_alike (call_does_within P (enough P n)) P.main (qubits n) (state_of word) (q 0)))

  -- where controls are put as today, too
  module _ (puts : (w : ℕ) (b : Bool) (cs : Controls) → W.control w b cs ≡ with_control w b cs) where
    -- a statement emitted whole, and the two parts of a body
    whole_alike : (chains : Chains) (s : Statement) (l : List ℕ) (cs : Controls) (next : ℕ) → InStatement Q s →
        whole_by W chains s l cs next ≡ whole chains s l cs next
    unfolding whole_by whole
    whole_alike chains skip l cs next q = refl
    whole_alike chains (NOT rs a) l cs next q = rw (A.touches rs a q l)
    whole_alike chains (sequence s t) l cs next q = rw (whole_alike chains s l cs next q.0, whole_alike chains t l cs next q.1)
    whole_alike chains (if c s t) l cs next q =
        choice (A.tells c q.0 l) (whole_alike chains s l cs next q.1.0) (whole_alike chains t l cs next q.1.1)
    whole_alike chains (qcase rs a s t) l cs next q = let w = touched rs a l in
        rw (
          A.touches rs a q.0 l,
          puts w false cs,
          puts w true cs,
          whole_alike chains s l (with_control w false cs) next q.1.0,
          whole_alike chains t l (with_control w true cs) next q.1.1,
        )
    whole_alike chains (call rs f) l cs next q = rw (A.leaves rs q l)

    module _ (r : ℕ → Bool) where
      left_alike : (chains : Chains) (s : Statement) (l : List ℕ) (cs : Controls) (next : ℕ) → InStatement Q s →
          left_by W chains r s l cs next ≡ left chains r s l cs next
      unfolding left_by left
      left_alike chains skip l cs next q = refl
      left_alike chains (NOT rs a) l cs next q = rw (A.touches rs a q l)
      left_alike chains (sequence s t) l cs next q =
          picked (is_wide r s) (λ e. left_alike chains s l cs next q.0)
          (λ e. joined (whole_alike chains s l cs next q.0) (left_alike chains t l cs next q.1))
      left_alike chains (if c s t) l cs next q =
          choice (A.tells c q.0 l) (left_alike chains s l cs next q.1.0) (left_alike chains t l cs next q.1.1)
      left_alike chains (qcase rs a s t) l cs next q = let w = touched rs a l in
          rw (
            A.touches rs a q.0 l,
            puts w false cs,
            puts w true cs,
            invocations_alike r s l next q.1.0,
            left_alike chains s l (with_control w false cs) next q.1.0,
            left_alike chains t l (with_control w true cs) (next + length (invocations r s l next)) q.1.1,
          )
      left_alike chains (call rs f) l cs next q =
          picked (r f) (λ e. ap (λ m. invokes m cs next) (A.leaves rs q l)) (λ e. ap (λ m. start_chain chains f m cs next) (A.leaves rs q l))

      right_alike : (chains : Chains) (s : Statement) (l : List ℕ) (cs : Controls) (next top : ℕ) → InStatement Q s →
          right_by W chains r s l cs next top ≡ right chains r s l cs next top
      unfolding right_by right
      right_alike chains skip l cs next top q = refl
      right_alike chains (NOT rs a) l cs next top q = refl
      right_alike chains (sequence s t) l cs next top q =
          picked (is_wide r s) (λ e. joined (right_alike chains s l cs next top q.0) (whole_alike chains t l cs top q.1))
          (λ e. right_alike chains t l cs next top q.1)
      right_alike chains (if c s t) l cs next top q =
          choice (A.tells c q.0 l) (right_alike chains s l cs next top q.1.0) (right_alike chains t l cs next top q.1.1)
      right_alike chains (qcase rs a s t) l cs next top q = let w = touched rs a l in
          rw (
            A.touches rs a q.0 l,
            puts w false cs,
            puts w true cs,
            invocations_alike r s l next q.1.0,
            right_alike chains s l (with_control w false cs) next top q.1.0,
            right_alike chains t l (with_control w true cs) (next + length (invocations r s l next)) top q.1.1,
          )
      right_alike chains (call rs f) l cs next top q = let none : ◌≡◌ {A = List Event} [] [] = refl in
          picked (r f) (λ e. ap (λ m. returns m cs next) (A.leaves rs q l)) (λ e. none)

    -- the entry gates of a body
    swaps_alike : (e : ℕ) (ks ws : List ℕ) → swaps_by W e ks ws ≡ swaps e ks ws
    unfolding swaps_by swaps
    swaps_alike e [] ws = refl
    swaps_alike e (k ∷ ks) [] = refl
    swaps_alike e (k ∷ ks) (w ∷ ws) = picked (eqb w k) (λ p. swaps_alike e ks ws)
        (λ p. joined (ap (λ c. places (swap_of c w k) ∷ []) (puts e true no_controls)) (swaps_alike e ks (map (exchange w k) ws)))

    entries_alike : (d : Invocation) (later : List Invocation) → all_entry_gates_by W d later ≡ all_entry_gates d later
    unfolding all_entry_gates_by all_entry_gates entry_gates_by entry_gates
    entries_alike d [] = refl
    entries_alike d (e ∷ later) =
        rw (puts e.ancilla true no_controls, swaps_alike e.ancilla d.list e.list, entries_alike d later)

    -- the bodies of a chain
    module _ (P : Program) (q : InProgram Q P) where
      body_alike : (d : Invocation) (next : ℕ) (chains : Chains) → body_invocations_by W P chains d next ≡ body_invocations P chains d next
      body_alike d next chains = invocations_alike (recursive P d.procedure) (body P d.procedure) d.list next (q d.procedure)

      around_alike : (chains : Chains) (d : Invocation) (later : List Invocation) (next : ℕ) (inner : Emitted) →
          around_by W P chains d later next inner ≡ around P chains d later next inner
      unfolding around_by around
      around_alike chains d later next inner =
          let r = recursive P d.procedure in let s = body P d.procedure in let ok = q d.procedure in
          rw (
            entries_alike d later,
            puts d.ancilla true no_controls,
            left_alike r chains s d.list (under d.ancilla) next ok,
            right_alike r chains s d.list (under d.ancilla) next inner.next ok,
          )

      shared_alike : (chains : Chains) (C : List Invocation) (following : List Invocation → ℕ → Emitted) (all : List Invocation) (next : ℕ) →
          shared_by W P chains C following all next ≡ shared P chains C following all next
      unfolding shared_by shared
      shared_alike chains [] following all next = refl
      shared_alike chains (d ∷ later) following all next = rw (body_alike d next chains)
          (around_alike chains d later next (following (all ++ body_invocations P chains d next) (next + length (body_invocations P chains d next))))

      bodies_alike : (chains : Chains) (m : ℕ) (shorter : List Invocation → ℕ → Emitted) (ks : List Key) (calls : List Invocation) →
          bodies_by W P chains m shorter ks calls ≡ bodies P chains m shorter ks calls
      unfolding bodies_by bodies
      bodies_alike chains m shorter [] calls = refl
      bodies_alike chains m shorter (k ∷ ks) calls = rw (bodies_alike chains m shorter ks calls)
          (fun_ext (λ all. fun_ext (λ next. shared_alike chains (calls_to m k calls) (bodies P chains m shorter ks calls) all next)))

      bodies_from_alike : (chains : Chains) (m : ℕ) (all : List Invocation) (next : ℕ) → bodies_from_by W P chains m all next ≡ bodies_from P chains m all next
      unfolding bodies_from_by bodies_from
      bodies_from_alike chains zero all next = refl
      bodies_from_alike chains (suc m) all next =
          let inner : bodies_from_by W P chains m ≡ bodies_from P chains m = fun_ext (λ D. fun_ext (λ a. bodies_from_alike chains m D a)) in
          rw (inner, bodies_alike chains (suc m) (bodies_from P chains m) (keys (suc m) all) all)

      chains_alike : (rank : ℕ) → chains_by W P rank ≡ chains_within P rank
      unfolding chains_by chains_within
      chains_alike zero = refl
      chains_alike (suc rank) = fun_ext (λ f. fun_ext (λ l. fun_ext (λ a.
          ap (λ (c : Chains). (bodies_from_by W P c (length l) (invocation f l a ∷ []) (suc a)).events) (chains_alike rank) ∙
          ap (λ (x : Emitted). x.events) (bodies_from_alike (chains_within P rank) (length l) (invocation f l a ∷ []) (suc a)))))

      pub emission_alike : (n : ℕ) → emission_by W P n ≡ emission P n
      unfolding emission_by emission
      emission_alike n = rw (chains_alike (count P)) (whole_alike (chains_within P (count P)) P.main (qubits n) no_controls (suc n) (q 0))
