-- What a list of events does to a state: its gates act, and taking or giving back an ancilla changes nothing.
use Prim.Native.Nat.{ℕ}
use mathlib.Core.Path.{◌≡◌, refl}
use mathlib.Core.List.{List, [], ◌∷◌, ◌++◌, reverse, reverse-cons}
use Rattle.model.specs.Meaning.{State}
use Rattle.model.specs.Gates.{Gate, act, acts}
use Rattle.model.specs.Emission.{Event, takes, places, frees, gates}
use Rattle.model.proofs.GateLaws.{Clear, act_twice}

unfoldable pub effect : List Event → State → State
effect [] s = s
effect (takes w ∷ es) s = effect es s
effect (places g ∷ es) s = effect es (act g s)
effect (frees a ∷ es) s = effect es s

pub effect_gates : (es : List Event) (s : State) → effect es s ≡ acts (gates es) s
unfolding effect gates acts
effect_gates [] s = refl
effect_gates (takes w ∷ es) s = effect_gates es s
effect_gates (places g ∷ es) s = effect_gates es (act g s)
effect_gates (frees a ∷ es) s = effect_gates es s

-- the clauses, to rewrite by while `effect` stays shut
pub effect_nil : (s : State) → effect [] s ≡ s
unfolding effect
effect_nil s = refl

pub effect_takes : (w : ℕ) (es : List Event) (s : State) → effect (takes w ∷ es) s ≡ effect es s
unfolding effect
effect_takes w es s = refl

pub effect_places : (g : Gate) (es : List Event) (s : State) → effect (places g ∷ es) s ≡ effect es (act g s)
unfolding effect
effect_places g es s = refl

pub effect_frees : (a : ℕ) (es : List Event) (s : State) → effect (frees a ∷ es) s ≡ effect es s
unfolding effect
effect_frees a es s = refl

pub effect_append : (xs ys : List Event) (s : State) → effect (xs ++ ys) s ≡ effect ys (effect xs s)
unfolding effect
effect_append [] ys s = refl
effect_append (takes w ∷ xs) ys s = effect_append xs ys s
effect_append (places g ∷ xs) ys s = effect_append xs ys (act g s)
effect_append (frees a ∷ xs) ys s = effect_append xs ys s

-- every gate asks none of its own targets
abbrev pub AllClear : List Event → Type 0
AllClear [] = Unit {0}
AllClear (takes w ∷ es) = AllClear es
AllClear (places g ∷ es) = Clear g × AllClear es
AllClear (frees a ∷ es) = AllClear es

-- events in reverse undo the events
pub effect_reverse : (es : List Event) (s : State) → AllClear es → effect (reverse es) (effect es s) ≡ s
unfolding effect
effect_reverse [] s c = refl
effect_reverse (takes w ∷ es) s c = rw (reverse-cons (takes w) es, effect_append (reverse es) (takes w ∷ []) (effect es s)) (effect_reverse es s c)
effect_reverse (places g ∷ es) s c =
    rw (reverse-cons (places g) es, effect_append (reverse es) (places g ∷ []) (effect es (act g s)), effect_reverse es (act g s) c.1)
    (act_twice g s c.0)
effect_reverse (frees a ∷ es) s c = rw (reverse-cons (frees a) es, effect_append (reverse es) (frees a ∷ []) (effect es s)) (effect_reverse es s c)
