-- `model/specs/Emission`, what of it values a number or puts a control, over ways to do so.
use Rattle.std.specs.Prelude.{ℕ, zero, suc, ◌+◌, Bool, true, false, List, [], ◌∷◌, ◌++◌, map, reverse, length, eqb}
use Rattle.model.specs.Syntax.{Statement, skip, NOT, sequence, if, qcase, call, Program, count, body}
use Rattle.model.specs.Lists.{qubits}
use Rattle.model.specs.Reach.{recursive}
use Rattle.model.specs.Gates.{Controls, no_controls, flip, swap_of, exchange}
use Rattle.model.specs.Emission.{
  Event,
  places,
  Chains,
  start_chain,
  Invocation,
  invocation,
  invoked,
  is_wide,
  invokes,
  returns,
  Key,
  keys,
  calls_to,
  Emitted,
}
use Rattle.plain.specs.Ways.{Ways}

module _ (W : Ways) where
  unfoldable pub whole_by : Chains → Statement → List ℕ → Controls → ℕ → List Event
  whole_by chains skip l cs next = []
  whole_by chains (NOT rs a) l cs next = places (flip cs (W.touched rs a l)) ∷ []
  whole_by chains (sequence s t) l cs next = whole_by chains s l cs next ++ whole_by chains t l cs next
  whole_by chains (if c s t) l cs next = elim (W.holds c l) [ true ↦ whole_by chains s l cs next | false ↦ whole_by chains t l cs next ]
  whole_by chains (qcase rs a s t) l cs next =
      whole_by chains s l (W.control (W.touched rs a l) false cs) next ++ whole_by chains t l (W.control (W.touched rs a l) true cs) next
  whole_by chains (call rs f) l cs next = start_chain chains f (W.remaining rs l) cs next

  unfoldable pub invocations_by : (ℕ → Bool) → Statement → List ℕ → ℕ → List Invocation
  invocations_by r skip l next = []
  invocations_by r (NOT rs a) l next = []
  invocations_by r (sequence s t) l next = elim (is_wide r s) [ true ↦ invocations_by r s l next | false ↦ invocations_by r t l next ]
  invocations_by r (if c s t) l next = elim (W.holds c l) [ true ↦ invocations_by r s l next | false ↦ invocations_by r t l next ]
  invocations_by r (qcase rs a s t) l next = invocations_by r s l next ++ invocations_by r t l (next + length (invocations_by r s l next))
  invocations_by r (call rs f) l next = elim (r f) [ true ↦ invoked f (W.remaining rs l) next | false ↦ [] ]

  unfoldable pub left_by : Chains → (ℕ → Bool) → Statement → List ℕ → Controls → ℕ → List Event
  left_by chains r skip l cs next = []
  left_by chains r (NOT rs a) l cs next = places (flip cs (W.touched rs a l)) ∷ []
  left_by chains r (sequence s t) l cs next =
      elim (is_wide r s) [ true ↦ left_by chains r s l cs next | false ↦ whole_by chains s l cs next ++ left_by chains r t l cs next ]
  left_by chains r (if c s t) l cs next = elim (W.holds c l) [ true ↦ left_by chains r s l cs next | false ↦ left_by chains r t l cs next ]
  left_by chains r (qcase rs a s t) l cs next =
      left_by chains r s l (W.control (W.touched rs a l) false cs) next ++
      left_by chains r t l (W.control (W.touched rs a l) true cs) (next + length (invocations_by r s l next))
  left_by chains r (call rs f) l cs next =
      elim (r f) [ true ↦ invokes (W.remaining rs l) cs next | false ↦ start_chain chains f (W.remaining rs l) cs next ]

  unfoldable pub right_by : Chains → (ℕ → Bool) → Statement → List ℕ → Controls → ℕ → ℕ → List Event
  right_by chains r skip l cs next top = []
  right_by chains r (NOT rs a) l cs next top = []
  right_by chains r (sequence s t) l cs next top =
      elim (is_wide r s) [ true ↦ right_by chains r s l cs next top ++ whole_by chains t l cs top | false ↦ right_by chains r t l cs next top ]
  right_by chains r (if c s t) l cs next top =
      elim (W.holds c l) [ true ↦ right_by chains r s l cs next top | false ↦ right_by chains r t l cs next top ]
  right_by chains r (qcase rs a s t) l cs next top =
      right_by chains r t l (W.control (W.touched rs a l) true cs) (next + length (invocations_by r s l next)) top ++
      right_by chains r s l (W.control (W.touched rs a l) false cs) next top
  right_by chains r (call rs f) l cs next top = elim (r f) [ true ↦ returns (W.remaining rs l) cs next | false ↦ [] ]

  abbrev pub under_by : ℕ → Controls
  under_by a = W.control a true no_controls

  unfoldable pub swaps_by : ℕ → List ℕ → List ℕ → List Event
  swaps_by e [] ws = []
  swaps_by e (k ∷ ks) [] = []
  swaps_by e (k ∷ ks) (w ∷ ws) =
      elim (eqb w k) [ true ↦ swaps_by e ks ws | false ↦ places (swap_of (under_by e) w k) ∷ swaps_by e ks (map (exchange w k) ws) ]

  unfoldable pub entry_gates_by : Invocation → Invocation → List Event
  entry_gates_by first later = places (flip (under_by later.ancilla) first.ancilla) ∷ swaps_by later.ancilla first.list later.list

  unfoldable pub all_entry_gates_by : Invocation → List Invocation → List Event
  all_entry_gates_by d [] = []
  all_entry_gates_by d (e ∷ later) = entry_gates_by d e ++ all_entry_gates_by d later

  module _ (P : Program) (chains : Chains) where
    abbrev pub body_invocations_by : Invocation → ℕ → List Invocation
    body_invocations_by d next = invocations_by (recursive P d.procedure) (body P d.procedure) d.list next

    unfoldable pub around_by : Invocation → List Invocation → ℕ → Emitted → Emitted
    around_by d later next inner = record {
      events = all_entry_gates_by d later
          ++ (left_by chains (recursive P d.procedure) (body P d.procedure) d.list (under_by d.ancilla) next
          ++ (inner.events
          ++ (right_by chains (recursive P d.procedure) (body P d.procedure) d.list (under_by d.ancilla) next inner.next
          ++ reverse (all_entry_gates_by d later))));
      next = inner.next;
    }

    unfoldable pub shared_by : List Invocation → (List Invocation → ℕ → Emitted) → List Invocation → ℕ → Emitted
    shared_by [] following all next = following all next
    shared_by (d ∷ later) following all next =
        around_by d later next (following (all ++ body_invocations_by d next) (next + length (body_invocations_by d next)))

    unfoldable pub bodies_by : ℕ → (List Invocation → ℕ → Emitted) → List Key → List Invocation → List Invocation → ℕ → Emitted
    bodies_by m shorter [] calls = shorter
    bodies_by m shorter (k ∷ ks) calls = shared_by (calls_to m k calls) (bodies_by m shorter ks calls)

    unfoldable pub bodies_from_by : ℕ → List Invocation → ℕ → Emitted
    bodies_from_by zero all next = record { events = []; next = next }
    bodies_from_by (suc m) all next = bodies_by (suc m) (bodies_from_by m) (keys (suc m) all) all all next

  unfoldable pub chains_by : Program → ℕ → Chains
  chains_by P zero = λ f l a. []
  chains_by P (suc rank) = λ f l a. (bodies_from_by P (chains_by P rank) (length l) (invocation f l a ∷ []) (suc a)).events

  unfoldable pub emission_by : Program → ℕ → List Event
  emission_by P n = whole_by (chains_by P (count P)) P.main (qubits n) no_controls (suc n)
