-- The rules of source 000, figures 2 and 3, for programs whose only operator is NOT, on basis states.
-- NOT carries basis states to basis states, so a program of NOTs is known once it is known on these.
use Rattle.std.specs.Prelude.{ℕ, suc, ◌<◌, ◌≡◌, Bool, true, false, not, ◌&&◌, ◌||◌, cond, List, [], ◌∷◌, length, eqb, ℤ, pos, ◌+ℤ◌}
use Rattle.std.specs.Int.Signed.{lt_z, le_z}
use Rattle.model.specs.Syntax.{Number, constant, size_plus, left_plus, Condition, greater, at_least, equal, conjunction, disjunction, negation}
use Rattle.model.specs.Syntax.{Statement, skip, NOT, sequence, if, qcase, call, Program, body}
use Rattle.model.specs.Lists.{qubits, delete, entry, member}
use Rattle.model.specs.Meaning.{State, flipped}

-- figure 2. (Cst); (Size) and (Op) for +. The rules take q to l, and the set expression s so far to `now`: base 1 adds |q|, base 2 adds |s|.
pub data NumberIs (l now : List ℕ) : Number → ℤ → Type 0 where
  cst : {z : ℤ} → NumberIs l now (constant z) z
  size : {z : ℤ} → NumberIs l now (size_plus z) (z +ℤ pos (length l))
  size_left : {z : ℤ} → NumberIs l now (left_plus z) (z +ℤ pos (length now))

-- (Op) for >, ≥, =, ∧, ∨, ¬. In a condition no set expression stands, so s is q.
pub data ConditionIs (l : List ℕ) : Condition → Bool → Type 0 where
  gt : {a b : Number} {x y : ℤ} → NumberIs l l a x → NumberIs l l b y → ConditionIs l (greater a b) (lt_z y x)
  ge : {a b : Number} {x y : ℤ} → NumberIs l l a x → NumberIs l l b y → ConditionIs l (at_least a b) (le_z y x)
  eq : {a b : Number} {x y : ℤ} → NumberIs l l a x → NumberIs l l b y → ConditionIs l (equal a b) (le_z x y && le_z y x)
  con : {c d : Condition} {x y : Bool} → ConditionIs l c x → ConditionIs l d y → ConditionIs l (conjunction c d) (x && y)
  dis : {c d : Condition} {x y : Bool} → ConditionIs l c x → ConditionIs l d y → ConditionIs l (disjunction c d) (x || y)
  neg : {c : Condition} {x : Bool} → ConditionIs l c x → ConditionIs l (negation c) (not x)

-- k ∈ [1, m]
pub record Inside (k : ℤ) (m : ℕ) : Type 0 where
  pub index : ℕ
  pub is : k ≡ pos (suc index)
  pub less : index < m

-- (Var), (Rm∈), (Rm∉): the removals still to do take `now` to `end`; each position is valued with the whole list l
-- and with `now`. (Nil) is a removal at constant 0.
pub data SetIs (l : List ℕ) : List ℕ → List Number → List ℕ → Type 0 where
  var : {now : List ℕ} → SetIs l now [] now
  rm_in : {now end : List ℕ} {a : Number} {rs : List Number} {k : ℤ} → NumberIs l now a k → (i : Inside k (length now)) →
      SetIs l (delete i.index now) rs end → SetIs l now (a ∷ rs) end
  rm_out : {now end : List ℕ} {a : Number} {rs : List Number} {k : ℤ} → NumberIs l now a k → (Inside k (length now) → ⊥) →
      SetIs l [] rs end → SetIs l now (a ∷ rs) end

-- (Qu∈), (Qu∉): the qubit s[i], or 0
pub data QubitIs (l : List ℕ) : List Number → Number → ℕ → Type 0 where
  qu_in : {end : List ℕ} {rs : List Number} {a : Number} {k : ℤ} → SetIs l l rs end → NumberIs l end a k → (i : Inside k (length end)) →
      QubitIs l rs a (entry end (suc i.index))
  qu_out : {end : List ℕ} {rs : List Number} {a : Number} {k : ℤ} → SetIs l l rs end → NumberIs l end a k → (Inside k (length end) → ⊥) →
      QubitIs l rs a 0

-- ⊤ and ⊥
pub data Ending : Type 0 where
  top bottom : Ending

-- A \ {q}
unfoldable pub without : ℕ → List ℕ → List ℕ
without q [] = []
without q (x ∷ A) = cond (eqb q x) (without q A) (x ∷ without q A)

-- ⊥ ∈ {◇₀, ◇₁}
unfoldable pub any_bottom : Ending → Ending → Bool
any_bottom bottom e = true
any_bottom top bottom = true
any_bottom top top = false

-- figure 3: (S, s, A, l) → (◇, s', A, l), where A holds the qubits that may be accessed. The level, which counts calls, is left out.
pub data Derives (P : Program) : Statement → State → List ℕ → List ℕ → Ending → State → Type 0 where
  skips : {s : State} {A l : List ℕ} → Derives P skip s A l top s
  asg_bottom : {rs : List Number} {a : Number} {s : State} {A l : List ℕ} {q : ℕ} → QubitIs l rs a q → member q A ≡ false →
      Derives P (NOT rs a) s A l bottom s
  asg_top : {rs : List Number} {a : Number} {s : State} {A l : List ℕ} {q : ℕ} → QubitIs l rs a q → member q A ≡ true →
      Derives P (NOT rs a) s A l top (flipped q s)
  seq : {t u : Statement} {s s' s'' : State} {A l : List ℕ} {e : Ending} → Derives P t s A l top s' → Derives P u s' A l e s'' →
      Derives P (sequence t u) s A l e s''
  -- the source writes the start state here; a statement that ends in ⊥ may have changed it before, so the rule is for any state that was reached
  seq_bottom : {t u : Statement} {s s' : State} {A l : List ℕ} → Derives P t s A l bottom s' → Derives P (sequence t u) s A l bottom s'
  if_yes : {c : Condition} {t u : Statement} {s s' : State} {A l : List ℕ} {e : Ending} → ConditionIs l c true → Derives P t s A l e s' →
      Derives P (if c t u) s A l e s'
  if_no : {c : Condition} {t u : Statement} {s s' : State} {A l : List ℕ} {e : Ending} → ConditionIs l c false → Derives P u s A l e s' →
      Derives P (if c t u) s A l e s'
  -- both branches end, and the sum over k of the parts of their states in which qubit q is k is, of a basis state, that of the branch of its own bit
  case_top : {rs : List Number} {a : Number} {t u : Statement} {s s₀ s₁ : State} {A l : List ℕ} {q : ℕ} → QubitIs l rs a q → member q A ≡ true →
      Derives P t s (without q A) l top s₀ → Derives P u s (without q A) l top s₁ → Derives P (qcase rs a t u) s A l top (cond (s q) s₁ s₀)
  case_bottom : {rs : List Number} {a : Number} {t u : Statement} {s s₀ s₁ : State} {A l : List ℕ} {q : ℕ} {e₀ e₁ : Ending} → QubitIs l rs a q →
      member q A ≡ true → Derives P t s (without q A) l e₀ s₀ → Derives P u s (without q A) l e₁ s₁ → any_bottom e₀ e₁ ≡ true →
      Derives P (qcase rs a t u) s A l bottom s
  case_out : {rs : List Number} {a : Number} {t u : Statement} {s : State} {A l : List ℕ} {q : ℕ} → QubitIs l rs a q → member q A ≡ false →
      Derives P (qcase rs a t u) s A l bottom s
  calls : {rs : List Number} {f x : ℕ} {s s' : State} {A l m : List ℕ} {e : Ending} → SetIs l l rs (x ∷ m) →
      Derives P (body P f) s A (x ∷ m) e s' → Derives P (call rs f) s A l e s'
  calls_nil : {rs : List Number} {f : ℕ} {s : State} {A l : List ℕ} → SetIs l l rs [] → Derives P (call rs f) s A l top s

-- the initial configuration: main, with A = {1, …, n} and l = [1, …, n]
abbrev pub RunDerives : Program → ℕ → State → Ending → State → Type 0
RunDerives P n s e s' = Derives P P.main s (qubits n) (qubits n) e s'
