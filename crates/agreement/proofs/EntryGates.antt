-- The entry gates of a shared body: under the ancilla of one later invocation they set the body's ancilla and bring that invocation's list
-- onto the body's.
use mathlib.Core.Path.{◌≡◌, refl, sym, ap, ◌∙◌, subst}
use mathlib.Core.Logic.{◌≢◌, inl, inr}
use mathlib.Core.Bool.{true, false}
use mathlib.Core.List.{List, [], ◌∷◌, ◌++◌, map, reverse}
use Prim.Native.Nat.{ℕ, ◌<◌}
use native.Mathlib.Omega.{arith}
use lib.ListN.{length}
use Rattle.model.specs.Lists.{member}
use Rattle.model.specs.Meaning.{State, flipped}
use Rattle.model.specs.Gates.{renamed}
use Rattle.model.specs.Emission.{Event, takes, places, frees, Invocation, under, entry_gates, all_entry_gates}
use Rattle.model.proofs.BooleanLaws.{not_true_false}
use Rattle.model.proofs.ListLaws.{Data, Distinct, data_off, data_zero, not_tail}
use Rattle.model.proofs.GateLaws.{flipped_other, renamed_at, flip_fires, flip_rests}
use Rattle.agreement.proofs.EffectOfEvents.{effect, effect_nil, effect_places, effect_append, effect_reverse, AllClear}
use Rattle.agreement.proofs.ProgramFacts.{Renames}
use Rattle.agreement.proofs.InvocationsOfABody.{Mem, DistinctAncillas}
use Rattle.agreement.proofs.TrackedSwaps.{fires_under, asks_under, route, route_stays, route_one_to_one, route_list, swaps_rest, swaps_fire}
use Rattle.agreement.proofs.TrackedSwaps.{swaps_clear}

-- events one after another ask none of their targets
clear_append : (xs ys : List Event) → AllClear xs → AllClear ys → AllClear (xs ++ ys)
clear_append [] ys a b = b
clear_append (takes w ∷ xs) ys a b = clear_append xs ys a b
clear_append (places g ∷ xs) ys a b = (a.0, clear_append xs ys a.1 b)
clear_append (frees w ∷ xs) ys a b = clear_append xs ys a b

-- in reverse the events lead back from where they lead
pub effect_back : (es : List Event) (s t : State) → AllClear es → effect es s ≡ t → effect (reverse es) t ≡ s
effect_back es s t c h = subst (λ (u : State). effect (reverse es) u ≡ s) h (effect_reverse es s c)

-- a later invocation e of d's pair: of its procedure, with another ancilla, above the data wires, and a list of data wires as long as d's
pub record Entrant (n : ℕ) (d e : Invocation) : Type 0 where
  pub same_procedure : e.procedure ≡ d.procedure
  pub above : n < e.ancilla
  pub apart : d.ancilla ≢ e.ancilla
  pub wires : Data n e.list
  pub distinct : Distinct e.list
  pub same_length : length d.list ≡ length e.list

-- all of the later invocations
abbrev pub Entrants : ℕ → Invocation → List Invocation → Type 0
Entrants n d later = (e : Invocation) → Mem e later → Entrant n d e

-- how the entry gates of e rename the wires
abbrev pub moves : Invocation → Invocation → ℕ → ℕ
moves d e = route d.list e.list

-- the state behind them: the body's ancilla flipped, the wires renamed
abbrev pub entered : Invocation → Invocation → State → State
entered d e s = renamed (moves d e) (flipped d.ancilla s)

module _ (n : ℕ) (d : Invocation) (dat : Data n d.list) where
  -- an ancilla is not in a list of data wires
  not_in : (l : List ℕ) → Data n l → (w : ℕ) → n < w → member w l ≡ false
  not_in l x w h = not_tail w 0 l (data_off n l x w h)

  -- ancillas stay where they are
  pub moves_above : (e : Invocation) → Data n e.list → (w : ℕ) → n < w → moves d e w ≡ w
  moves_above e x w h = route_stays w d.list e.list (not_in d.list dat w h) (not_in e.list x w h)

  -- it is a renaming
  pub moves_renames : (e : Invocation) → Data n e.list → Renames (moves d e)
  moves_renames e x = record {
    one_to_one = route_one_to_one d.list e.list;
    none = route_stays 0 d.list e.list (data_zero n d.list dat) (data_zero n e.list x);
  }

  -- it takes the body's list to the later list
  pub moves_list : (e : Invocation) → Distinct d.list → Entrant n d e → map (moves d e) d.list ≡ e.list
  moves_list e u x = route_list d.list e.list x.same_length u x.distinct

  -- every wire above the data wires but the body's ancilla is as before
  pub entered_above : (e : Invocation) (s : State) → Data n e.list → (w : ℕ) → n < w → w ≢ d.ancilla → entered d e s w ≡ s w
  entered_above e s x w h q =
      renamed_at (moves d e) (flipped d.ancilla s) w ∙ (ap (flipped d.ancilla s) (moves_above e x w h) ∙ flipped_other s d.ancilla w q)

  -- the ancilla of a later invocation is a wire
  positive : (e : Invocation) → Entrant n d e → 0 < e.ancilla
  positive e x = omega (arith, x.above)

  -- the gates of one entry: nothing where the later invocation's ancilla is 0
  entry_rests : (e : Invocation) (s : State) → Entrant n d e → s e.ancilla ≡ false → effect (entry_gates d e) s ≡ s
  unfolding entry_gates
  entry_rests e s x h = rw (effect_places, flip_rests (under e.ancilla) d.ancilla s (fires_under e.ancilla s (positive e x) ∙ h))
      (swaps_rest e.ancilla d.list e.list s (positive e x) h)

  -- where it is 1 they enter
  entry_fires : (e : Invocation) (s : State) → Entrant n d e → s e.ancilla ≡ true → effect (entry_gates d e) s ≡ entered d e s
  unfolding entry_gates
  entry_fires e s x h = rw (effect_places, flip_fires (under e.ancilla) d.ancilla s (fires_under e.ancilla s (positive e x) ∙ h))
      (swaps_fire e.ancilla d.list e.list (flipped d.ancilla s) (positive e x)
      (not_in d.list dat e.ancilla x.above) (not_in e.list x.wires e.ancilla x.above)
      (flipped_other s d.ancilla e.ancilla (λ q. x.apart (sym q)) ∙ h))

  -- none of them asks one of its targets
  entry_clear : (e : Invocation) → Entrant n d e → AllClear (entry_gates d e)
  unfolding entry_gates
  entry_clear e x = (
    asks_under e.ancilla d.ancilla x.apart,
    swaps_clear e.ancilla d.list e.list (not_in d.list dat e.ancilla x.above) (not_in e.list x.wires e.ancilla x.above),
  )

  -- nor does any of the entry gates
  pub entries_clear : (later : List Invocation) → Entrants n d later → AllClear (all_entry_gates d later)
  unfolding all_entry_gates
  entries_clear [] X = tt
  entries_clear (e ∷ later) X =
      clear_append (entry_gates d e) (all_entry_gates d later) (entry_clear e (X e (inl refl))) (entries_clear later (λ y m. X y (inr m)))

  -- where no later invocation is active, the entry gates do nothing
  pub entries_rest : (later : List Invocation) (s : State) → Entrants n d later →
      ((e : Invocation) → Mem e later → s e.ancilla ≡ false) → effect (all_entry_gates d later) s ≡ s
  unfolding all_entry_gates
  entries_rest [] s X h = effect_nil s
  entries_rest (e ∷ later) s X h = rw (effect_append, entry_rests e s (X e (inl refl)) (h e (inl refl)))
      (entries_rest later s (λ y m. X y (inr m)) (λ y m. h y (inr m)))

  -- where one is, alone, they enter with its list
  pub entries_fire : (later : List Invocation) (s : State) (e : Invocation) → Entrants n d later → DistinctAncillas later →
      Mem e later → s e.ancilla ≡ true → ((y : Invocation) → Mem y later → s y.ancilla ≡ true → y ≡ e) →
      effect (all_entry_gates d later) s ≡ entered d e s
  unfolding all_entry_gates
  entries_fire [] s e X D m h sole = absurd m
  entries_fire (x ∷ later) s e X D (inl m) h sole =
      rw (effect_append, entry_fires x s (X x (inl refl)) (subst (λ (y : Invocation). s y.ancilla ≡ true) m h), ← m)
      (entries_rest later (entered d e s) (λ y my. X y (inr my)) (λ y my.
      let Y : Entrant n d y = X y (inr my) in
      entered_above e s (X e (inl m)).wires y.ancilla Y.above (λ z. Y.apart (sym z)) ∙
      not_true_false (s y.ancilla) (λ on. D.0 y my (ap (λ (v : Invocation). v.ancilla) (sym m ∙ sym (sole y (inr my) on))))))
  entries_fire (x ∷ later) s e X D (inr m) h sole =
      rw (
        effect_append,
        entry_rests x s (X x (inl refl))
            (not_true_false (s x.ancilla) (λ on. D.0 e m (ap (λ (v : Invocation). v.ancilla) (sole x (inl refl) on)))),
      )
      (entries_fire later s e (λ y my. X y (inr my)) D.1 m h (λ y my. sole y (inr my)))
