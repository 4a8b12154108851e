-- Figure 2 of source 000: the rules for numbers, conditions, sorted sets and qubits derive what the definitions compute, and nothing else.
use mathlib.Core.Path.{◌≡◌, refl, sym, ap, ◌∙◌, subst}
use mathlib.Core.Logic.{◌↔◌}
use mathlib.Core.Bool.{Bool}
use mathlib.Core.List.{List, [], ◌∷◌, ◌++◌}
use Prim.Native.Nat.{ℕ, zero, suc, ◌≤◌, ◌<◌}
use native.Mathlib.Omega.{arith}
use borrow.Author.Tests.{lt-ltb, le-ltb}
use lib.ListN.{length, get_or-eq_default}
use lib.IntN.{ℤ, pos, negsuc}
use Rattle.model.specs.Syntax.{Number, constant, size_plus, left_plus}
use Rattle.model.specs.Syntax.{Condition, greater, at_least, equal, conjunction, disjunction, negation}
use Rattle.model.specs.Lists.{sizes, value, position, delete, remove, remove_all, remaining, entry, touched, holds}
use Rattle.model.specs.Rules.{NumberIs, cst, size, size_left, ConditionIs, gt, ge, eq, con, dis, neg}
use Rattle.model.specs.Rules.{Inside, SetIs, var, rm_in, rm_out, QubitIs, qu_in, qu_out}
use Rattle.model.proofs.BooleanLaws.{by_lt}
use Rattle.model.proofs.ListLaws.{remove_in, remove_out}

-- every number has a derivation of its value
number_derived : (l now : List ℕ) (a : Number) → NumberIs l now a (value a (sizes l now))
number_derived l now (constant z) = cst
number_derived l now (size_plus z) = size
number_derived l now (left_plus z) = size_left

-- and no derivation of another
number_only : {l now : List ℕ} {a : Number} {k : ℤ} → NumberIs l now a k → k ≡ value a (sizes l now)
number_only cst = refl
number_only size = refl
number_only size_left = refl

-- (Cst), (Size), (Op): the rules give a number its value, and no other
pub number_is : (l now : List ℕ) (a : Number) (k : ℤ) → NumberIs l now a k ↔ (k ≡ value a (sizes l now))
number_is l now a k = (number_only, λ e. subst (λ (v : ℤ). NumberIs l now a v) (sym e) (number_derived l now a))

-- the same of conditions
condition_derived : (l : List ℕ) (c : Condition) → ConditionIs l c (holds c l)
unfolding holds
condition_derived l (greater a b) = gt (number_derived l l a) (number_derived l l b)
condition_derived l (at_least a b) = ge (number_derived l l a) (number_derived l l b)
condition_derived l (equal a b) = eq (number_derived l l a) (number_derived l l b)
condition_derived l (conjunction c d) = con (condition_derived l c) (condition_derived l d)
condition_derived l (disjunction c d) = dis (condition_derived l c) (condition_derived l d)
condition_derived l (negation c) = neg (condition_derived l c)

condition_only : {l : List ℕ} {c : Condition} {b : Bool} → ConditionIs l c b → b ≡ holds c l
unfolding holds
condition_only (gt x y) = rw (number_only x, number_only y)
condition_only (ge x y) = rw (number_only x, number_only y)
condition_only (eq x y) = rw (number_only x, number_only y)
condition_only (con x y) = rw (condition_only x, condition_only y)
condition_only (dis x y) = rw (condition_only x, condition_only y)
condition_only (neg x) = rw (condition_only x)

-- (Op): the rules give a condition its truth value, and no other
pub condition_is : (l : List ℕ) (c : Condition) (b : Bool) → ConditionIs l c b ↔ (b ≡ holds c l)
condition_is l c b = (condition_only, λ e. subst (λ (v : Bool). ConditionIs l c v) (sym e) (condition_derived l c))

-- a position in 1 to m
inside_at : (j m : ℕ) → j < m → Inside (pos (suc j)) m
inside_at j m h = record { index = j; is = refl; less = h }

-- a positive position that is not in 1 to m is past m
past : (j m : ℕ) → (Inside (pos (suc j)) m → ⊥) → m ≤ j
past j m n = by_lt j m (λ h. absurd (n (inside_at j m h))) (λ h. h)

-- split on a position being in 1 to m
by_inside {ℓ} : {A : Type ℓ} (k : ℤ) (m : ℕ) → (Inside k m → A) → ((Inside k m → ⊥) → A) → A
by_inside (negsuc j) m f g = g λ i. let e : 0 ≡ suc i.index = ap position i.is in omega arith
by_inside (pos zero) m f g = g λ i. let e : 0 ≡ suc i.index = ap position i.is in omega arith
by_inside (pos (suc j)) m f g = by_lt j m
    (λ h. f (inside_at j m h))
    (λ h. g λ i. let e : suc j ≡ suc i.index = ap position i.is in let less : i.index < m = i.less in omega arith)

-- a removal at a position inside, and at one that is not
remove_inside : (k : ℤ) (now : List ℕ) (i : Inside k (length now)) → remove (position k) now ≡ delete i.index now
remove_inside k now i = rw (ap position i.is) (remove_in i.index now (lt-ltb i.index (length now) i.less))

remove_outside : (k : ℤ) (now : List ℕ) → (Inside k (length now) → ⊥) → remove (position k) now ≡ []
unfolding remove
remove_outside (negsuc j) now n = refl
remove_outside (pos zero) now n = refl
remove_outside (pos (suc j)) now n = remove_out j now (le-ltb j (length now) (past j (length now) n))

-- there is no entry at a position that is not inside
entry_outside : (k : ℤ) (l : List ℕ) → (Inside k (length l) → ⊥) → entry l (position k) ≡ 0
entry_outside (negsuc j) l n = refl
entry_outside (pos zero) l n = refl
entry_outside (pos (suc j)) l n = get_or-eq_default l 0 (past j (length l) n)

-- what the removals leave has a derivation
pub set_derived : (l : List ℕ) (rs : List Number) (now : List ℕ) → SetIs l now rs (remove_all l rs now)
unfolding remove_all
set_derived l [] now = var
set_derived l (a ∷ rs) now =
    let k = value a (sizes l now) in
    let next = set_derived l rs (remove (position k) now) in
    by_inside k (length now)
    (λ i. rm_in (number_derived l now a) i
    (subst (λ (m : List ℕ). SetIs l m rs (remove_all l (a ∷ rs) now)) (remove_inside k now i) next))
    (λ n. rm_out (number_derived l now a) n
    (subst (λ (m : List ℕ). SetIs l m rs (remove_all l (a ∷ rs) now)) (remove_outside k now n) next))

-- and nothing else has one
set_only : {l now : List ℕ} {rs : List Number} {m : List ℕ} → SetIs l now rs m → m ≡ remove_all l rs now
unfolding remove_all
set_only var = refl
set_only (rm_in {now = now} {k = k} x i d) = rw (← number_only x, remove_inside k now i) (set_only d)
set_only (rm_out {now = now} {k = k} x n d) = rw (← number_only x, remove_outside k now n) (set_only d)

-- (Var), (Rm∈), (Rm∉): the rules take a list to what the removals leave of it, and to no other
pub set_is : (l now : List ℕ) (rs : List Number) (m : List ℕ) → SetIs l now rs m ↔ (m ≡ remove_all l rs now)
set_is l now rs m = (set_only, λ e. subst (λ (v : List ℕ). SetIs l now rs v) (sym e) (set_derived l rs now))

-- what the rules take the set expression so far to is what the next removal takes from, and whose size base 2 adds there
pub set_so_far : {l start now end : List ℕ} {done rest : List Number} → SetIs l start done now → SetIs l now rest end → SetIs l start (done ++ rest) end
set_so_far var e = e
set_so_far (rm_in x i d) e = rm_in x i (set_so_far d e)
set_so_far (rm_out x n d) e = rm_out x n (set_so_far d e)

-- the qubit that is touched has a derivation
pub qubit_derived : (l : List ℕ) (rs : List Number) (a : Number) → QubitIs l rs a (touched rs a l)
qubit_derived l rs a =
    let m = remaining rs l in
    let k = value a (sizes l m) in
    by_inside k (length m)
    (λ i. subst (λ (p : ℕ). QubitIs l rs a (entry m p)) (sym (ap position i.is)) (qu_in (set_derived l rs l) (number_derived l m a) i))
    (λ n. subst (λ (q : ℕ). QubitIs l rs a q) (sym (entry_outside k m n)) (qu_out (set_derived l rs l) (number_derived l m a) n))

-- and no other has one
qubit_only : {l : List ℕ} {rs : List Number} {a : Number} {q : ℕ} → QubitIs l rs a q → q ≡ touched rs a l
qubit_only (qu_in {end = m} d x i) = rw (← set_only d, ← number_only x, ap position i.is)
qubit_only (qu_out {end = m} {k = k} d x n) = rw (← set_only d, ← number_only x) (sym (entry_outside k m n))

-- (Qu∈), (Qu∉): the rules give the qubit that is touched, 0 where there is none, and no other
pub qubit_is : (l : List ℕ) (rs : List Number) (a : Number) (q : ℕ) → QubitIs l rs a q ↔ (q ≡ touched rs a l)
qubit_is l rs a q = (qubit_only, λ e. subst (λ (v : ℕ). QubitIs l rs a v) (sym e) (qubit_derived l rs a))

-- two derivations of a condition agree
pub condition_one : {l : List ℕ} {c : Condition} {b b' : Bool} → ConditionIs l c b → ConditionIs l c b' → b ≡ b'
condition_one x y = condition_only x ∙ sym (condition_only y)

-- two derivations of a sorted set agree
pub set_one : {l now : List ℕ} {rs : List Number} {m m' : List ℕ} → SetIs l now rs m → SetIs l now rs m' → m ≡ m'
set_one x y = set_only x ∙ sym (set_only y)

-- two derivations of a qubit agree
pub qubit_one : {l : List ℕ} {rs : List Number} {a : Number} {q q' : ℕ} → QubitIs l rs a q → QubitIs l rs a q' → q ≡ q'
qubit_one x y = qubit_only x ∙ sym (qubit_only y)
