-- A World is what the agreement knows of a program, apart from fuel: what its calls do (E), which of them are safe (G), how E and G unfold
-- through the bodies, which wires a call leaves alone, and the ranks and widths that refusals 10 and 11 grant. Beside it stand the words in
-- which the agreement is stated: zero wires from a wire on, the wires that controls ask, lists fit for a call, chains that serve their calls.
use mathlib.Core.Path.{◌≡◌, ◌∙◌}
use mathlib.Core.Logic.{◌≢◌}
use mathlib.Core.Bool.{Bool, true, false}
use mathlib.Core.List.{List, [], ◌∷◌, map}
use Prim.Native.Nat.{ℕ, suc, ◌≤◌, ◌<◌, zero-le, suc-le-suc}
use native.Mathlib.Omega.{arith}
use lib.ListN.{length}
use Rattle.model.specs.Syntax.{Statement, skip, NOT, sequence, if, qcase, call, Program, body}
use Rattle.model.specs.Lists.{remaining, touched, holds, member}
use Rattle.model.specs.Faults.{touch_faults}
use Rattle.model.specs.Meaning.{State, flipped, CallDoes, does}
use Rattle.model.specs.Reach.{recursive, width}
use Rattle.model.specs.Gates.{Controls, no_controls, with_control, renamed}
use Rattle.model.specs.Emission.{Chains, under}
use Rattle.model.proofs.BooleanLaws.{clash, not_true_false}
use Rattle.model.proofs.ListLaws.{member_head, member_tail, not_head, not_in_nil, Distinct, Off, Data}
use Rattle.model.proofs.GateLaws.{flipped_other, asks, asks_none, asks_cases}
use Rattle.model.proofs.ReachAndRank.{Ranked}
use Rattle.agreement.proofs.EffectOfEvents.{effect}

-- which calls are safe: procedure, nonempty list, closed wires
abbrev pub Safely : Type 1
Safely = ℕ → List ℕ → List ℕ → Type 0

-- a call is safe; one with an empty list always
abbrev pub SafeCall : Safely → ℕ → List ℕ → List ℕ → Type 0
SafeCall G f [] C = Unit {0}
SafeCall G f (q ∷ l) C = G f (q ∷ l) C

-- one of two statements, by a test
abbrev pub Chosen : Bool → Type 0 → Type 0 → Type 0
Chosen true A B = A
Chosen false A B = B

-- a statement is safe where the wires C are closed: it does not fault
abbrev pub Safe : Safely → Statement → List ℕ → List ℕ → Type 0
Safe G skip l C = Unit {0}
Safe G (NOT rs a) l C = touch_faults (touched rs a l) C ≡ false
Safe G (sequence s t) l C = Safe G s l C × Safe G t l C
Safe G (if c s t) l C = Chosen (holds c l) (Safe G s l C) (Safe G t l C)
Safe G (qcase rs a s t) l C = (touch_faults (touched rs a l) C ≡ false) × Safe G s l (touched rs a l ∷ C) × Safe G t l (touched rs a l ∷ C)
Safe G (call rs f) l C = SafeCall G f (remaining rs l) C

-- what may be touched is a wire
pub touch_positive : (q : ℕ) (C : List ℕ) → touch_faults q C ≡ false → 0 < q
touch_positive q C h = let n : q ≢ 0 = not_head q 0 C h in omega arith

-- a safe call leaves closed wires alone
abbrev pub Keeps : CallDoes → Safely → Type 0
Keeps o G = (f : ℕ) (l C : List ℕ) (s : State) (w : ℕ) → G f l C → member w C ≡ true → o f l s w ≡ s w

-- a call leaves the wires outside its list alone
abbrev pub Stays : CallDoes → Type 0
Stays o = (f : ℕ) (l : List ℕ) (s : State) (w : ℕ) → Off w l → o f l s w ≡ s w

-- a call commutes with a flip outside its list
abbrev pub Outside : CallDoes → Type 0
Outside o = (f : ℕ) (l : List ℕ) (s : State) (w : ℕ) → Off w l → o f l (flipped w s) ≡ flipped w (o f l s)

-- a renaming of the wires: one-to-one, and no wire stays none
pub record Renames (π : ℕ → ℕ) : Type 0 where
  pub one_to_one : (a b : ℕ) → π a ≡ π b → a ≡ b
  pub none : π 0 ≡ 0

-- a call commutes with a renaming, which changes its list
abbrev pub Same : (ℕ → ℕ) → CallDoes → Type 0
Same π o = (f : ℕ) (l : List ℕ) (s : State) → o f l (renamed π s) ≡ renamed π (o f (map π l) s)

-- of the wires of l, C' closes no more than C
abbrev pub Less : List ℕ → List ℕ → List ℕ → Type 0
Less l C' C = (w : ℕ) → member w l ≡ true → member w C' ≡ true → member w C ≡ true

-- nothing closed is least
less_nil : (l C : List ℕ) → Less l [] C
less_nil l C w i m = not_in_nil w m

-- a call stays safe where no more wires of its list are closed
abbrev pub Weakens : Safely → Type 0
Weakens G = (f : ℕ) (l C C' : List ℕ) → Less l C' C → G f l C → G f l C'

-- the facts; `rank` is any numbering that falls at each non-recursive call and does not rise at a recursive one
pub record World (P : Program) (rank : ℕ → ℕ) (E : CallDoes) (G : Safely) : Type 0 where
  -- a call does what the body does, and a safe call has a safe body
  pub unfolds : (f : ℕ) (l : List ℕ) (s : State) → 0 < length l → E f l s ≡ does E (body P f) l s
  pub inside : (f : ℕ) (l C : List ℕ) → 0 < length l → G f l C → Safe G (body P f) l C
  pub weakens : Weakens G
  pub keeps : Keeps E G
  pub stays : Stays E
  pub outside : Outside E
  pub renames : (π : ℕ → ℕ) → Renames π → Same π E
  pub narrow : (f : ℕ) → width (recursive P f) (body P f) ≤ 1
  pub ranked : (f : ℕ) → Ranked rank (recursive P f) (rank f) (body P f)
  -- only numbers behind the last procedure have rank 0
  pub absent : (f : ℕ) (l : List ℕ) (s : State) → rank f ≡ 0 → E f l s ≡ s

-- all wires from a on are zero
abbrev pub Zero : ℕ → State → Type 0
Zero a s = (w : ℕ) → a ≤ w → s w ≡ false

-- zero from a wire on is zero from a higher wire on
pub zero_up : (a b : ℕ) (s : State) → a ≤ b → Zero a s → Zero b s
zero_up a b s h z w k = z w (omega arith)

-- a flip below b leaves the wires from b on zero
pub zero_flip : (a b : ℕ) (s : State) → a < b → Zero b s → Zero b (flipped a s)
zero_flip a b s h z w k = flipped_other s a w (λ (e : w ≡ a). beyond e) ∙ z w k
  where
    beyond : w ≡ a → ⊥
    beyond e = omega arith

-- every wire that the controls ask is in C
abbrev pub AskedIn : List ℕ → Controls → Type 0
AskedIn C cs = (w : ℕ) → asks cs w ≡ true → member w C ≡ true

-- no controls ask nothing
pub asked_in_none : (C : List ℕ) → AskedIn C no_controls
asked_in_none C w m = clash m (asks_none w)

-- one control more, one wire more
pub asked_in_with_control : (w : ℕ) (b : Bool) (C : List ℕ) (cs : Controls) → AskedIn C cs → AskedIn (w ∷ C) (with_control w b cs)
asked_in_with_control w b C cs A v m = asks_cases w b cs v m (λ e. rw e (member_head w C)) (λ i. member_tail v w C (A v i))

-- the control of a body asks its ancilla alone
pub asked_in_under : (a : ℕ) → AskedIn (a ∷ []) (under a)
asked_in_under a = asked_in_with_control a true [] no_controls (asked_in_none [])

-- every wire that the controls ask lies below next
abbrev pub Below : ℕ → Controls → Type 0
Below next cs = (w : ℕ) → asks cs w ≡ true → w < next

-- no controls ask nothing, so nothing above
pub below_none : (next : ℕ) → Below next no_controls
below_none next w m = clash m (asks_none w)

-- one control more, on a wire below next
pub below_with_control : (next w : ℕ) (b : Bool) (cs : Controls) → w < next → Below next cs → Below next (with_control w b cs)
below_with_control next w b cs h B v m = asks_cases w b cs v m (λ e. rw e h) (λ i. B v i)

-- the control of a body whose ancilla is below next
pub below_under : (next a : ℕ) → a < next → Below next (under a)
below_under next a h = below_with_control next a true no_controls h (below_none next)

-- below a wire is below a higher wire
pub below_up : (next m : ℕ) (cs : Controls) → next ≤ m → Below next cs → Below m cs
below_up next m cs h B w i = let b = B w i in omega arith

-- controls below next do not ask a wire from next on
pub below_not : (a next : ℕ) (cs : Controls) → Below next cs → next ≤ a → asks cs a ≡ false
below_not a next cs B h = not_true_false (asks cs a) (λ m. beyond (B a m))
  where
    beyond : a < next → ⊥
    beyond k = omega arith

-- a list that a procedure may be called with
pub record Fine (G : Safely) (n f : ℕ) (l : List ℕ) : Type 0 where
  pub safe : G f l []
  pub wires : Data n l
  pub distinct : Distinct l
  pub some : 0 < length l

-- a safe call with a nonempty list has a fine list
pub fine_call : (G : Safely) (n f q : ℕ) (l C : List ℕ) → Weakens G → G f (q ∷ l) C → Data n (q ∷ l) → Distinct (q ∷ l) → Fine G n f (q ∷ l)
fine_call G n f q l C K g d u = record { safe = K f (q ∷ l) C [] (less_nil (q ∷ l) C) g; wires = d; distinct = u; some = suc-le-suc zero-le }

-- the chains of procedures of rank below k: each does what its call does where its ancilla is 1, and nothing where it is 0
pub record Served (rank : ℕ → ℕ) (E : CallDoes) (G : Safely) (n : ℕ) (chains : Chains) (k : ℕ) : Type 0 where
  pub on : (f : ℕ) (l : List ℕ) (a : ℕ) (s : State) → rank f < k → Fine G n f l → n < a → Zero (suc a) s → s a ≡ true →
      effect (chains f l a) s ≡ E f l s
  pub off : (f : ℕ) (l : List ℕ) (a : ℕ) (s : State) → rank f < k → Fine G n f l → n < a → Zero (suc a) s → s a ≡ false →
      effect (chains f l a) s ≡ s

-- the calls of a body of rank j, seen from a higher rank
pub ranked_up : (rank : ℕ → ℕ) (r : ℕ → Bool) (j k : ℕ) (s : Statement) → j ≤ k → Ranked rank r j s → Ranked rank r k s
ranked_up rank r j k skip h q = tt
ranked_up rank r j k (NOT rs a) h q = tt
ranked_up rank r j k (sequence s t) h q = (ranked_up rank r j k s h q.0, ranked_up rank r j k t h q.1)
ranked_up rank r j k (if c s t) h q = (ranked_up rank r j k s h q.0, ranked_up rank r j k t h q.1)
ranked_up rank r j k (qcase rs a s t) h q = (ranked_up rank r j k s h q.0, ranked_up rank r j k t h q.1)
ranked_up rank r j k (call rs f) h q =
    ((λ e. let x = q.0 e in let y : rank f ≤ j = x.0 in (omega arith, x.1)), (λ e. let y : rank f < j = q.1 e in omega arith))
