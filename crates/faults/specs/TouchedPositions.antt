-- Access faults (refusal 12) without following every path of calls: the positions of its list that a body touches anywhere, in both branches of a
-- qcase, in the chosen branch of an if, through calls. They depend on the list's length alone, so one table over procedures and lengths is enough.
use Rattle.std.specs.Prelude.{ℕ, zero, suc, Bool, true, false, ◌&&◌, ◌||◌, List, [], ◌∷◌, length, eqb}
use Rattle.model.specs.Syntax.{Statement, skip, NOT, sequence, if, qcase, call, Program, body}
use Rattle.model.specs.Lists.{qubits, remaining, entry, touched, holds}
use Rattle.model.specs.Reach.{any_below}

-- the positions touched, counted from 1; 0 stands for a fault inside
abbrev pub Touched : Type 0
Touched = ℕ → Bool

-- what calls touch: by procedure and length of the list
abbrev pub CallTouches : Type 0
CallTouches = ℕ → ℕ → Touched

-- skip
abbrev pub touches_none : Touched
touches_none = λ t. false

-- what "touches nothing" comes as position 0, and is a fault
abbrev pub touches_one : ℕ → Touched
touches_one q = λ t. eqb t q

-- two statements in sequence, or the two branches of a qcase
abbrev pub joined : Touched → Touched → Touched
joined a b = λ t. a t || b t

-- "Inside its two branches a qcase closes its qubit": touching position q in them is a fault
abbrev pub closes : ℕ → Touched → Touched
closes q b = λ t. (eqb t q || b t) || (eqb t 0 && b q)

-- positions of the callee's list l as positions of the caller's, which are the entries of l; a fault stays one, as entry l 0 is 0
abbrev pub carried : List ℕ → Touched → Touched
carried l b = λ t. any_below (suc (length l)) (λ u. b u && eqb (entry l u) t)

-- "A call with an empty list does nothing."
unfoldable pub call_touches : CallTouches → ℕ → List ℕ → Touched
call_touches o f [] = touches_none
call_touches o f (q ∷ l) = carried (q ∷ l) (o f (length (q ∷ l)))

-- what a statement touches of a list of length m: on the list 1 to m each entry is its own position
unfoldable pub touches : CallTouches → Statement → ℕ → Touched
touches o skip m = touches_none
touches o (NOT rs a) m = touches_one (touched rs a (qubits m))
touches o (sequence s t) m = joined (touches o s m) (touches o t m)
touches o (if c s t) m = elim (holds c (qubits m)) [ true ↦ touches o s m | false ↦ touches o t m ]
touches o (qcase rs a s t) m = closes (touched rs a (qubits m)) (joined (touches o s m) (touches o t m))
touches o (call rs f) m = call_touches o f (remaining rs (qubits m))

-- a call, followed as deep as `fuel`; one that is still not at its end counts as a fault
unfoldable pub touches_within : Program → ℕ → CallTouches
touches_within P zero = λ f m t. eqb t 0
touches_within P (suc fuel) = λ f m. touches (touches_within P fuel) (body P f) m
