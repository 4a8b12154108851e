-- The invocations of a body: their ancillas are the next wires, no two alike, and each invocation is fit for a body of its own.
use mathlib.Core.Path.{◌≡◌, refl, sym, ap, subst}
use mathlib.Core.Logic.{◌≢◌, ◌⊎◌, inl, inr}
use mathlib.Core.Bool.{Bool, false}
use mathlib.Core.List.{List, [], ◌∷◌, ◌++◌}
use Prim.Native.Nat.{ℕ, ◌+◌, ◌≤◌, ◌<◌}
use native.Mathlib.Omega.{arith}
use lib.ListN.{length, length-append}
use Rattle.model.specs.Syntax.{Statement, skip, NOT, sequence, if, qcase, call}
use Rattle.model.specs.Lists.{remaining, touched, holds}
use Rattle.model.specs.Reach.{lacks_removal}
use Rattle.model.specs.Emission.{Invocation, invoked, is_wide, invocations}
use Rattle.model.proofs.BooleanLaws.{by_bool, or_false_left, or_false_right}
use Rattle.model.proofs.ListLaws.{Data, Distinct, data_remaining, remaining_distinct, remaining_shorter}
use Rattle.model.proofs.ReachAndRank.{carries_of, Ranked}
use Rattle.agreement.proofs.EmissionClauses.{
  invocations_wide,
  invocations_thin,
  invocations_yes,
  invocations_no,
  invocations_recursive,
  invocations_other,
}
use Rattle.agreement.proofs.ProgramFacts.{Safely, SafeCall, Safe, Weakens, Fine, fine_call}

-- an invocation is one of a list
abbrev pub Mem : Invocation → List Invocation → Type 0
Mem d [] = ⊥
Mem d (x ∷ D) = (d ≡ x) ⊎ Mem d D

-- what holds of each invocation of a list
abbrev pub AllOf : (Invocation → Type 0) → List Invocation → Type 0
AllOf Q [] = Unit {0}
AllOf Q (x ∷ D) = Q x × AllOf Q D

pub all_append : (Q : Invocation → Type 0) (a b : List Invocation) → AllOf Q a → AllOf Q b → AllOf Q (a ++ b)
all_append Q [] b h i = i
all_append Q (x ∷ a) b h i = (h.0, all_append Q a b h.1 i)

-- a member of the first list, or of the second, is one of both
pub mem_left : (d : Invocation) (a b : List Invocation) → Mem d a → Mem d (a ++ b)
mem_left d [] b m = absurd m
mem_left d (x ∷ a) b (inl e) = inl e
mem_left d (x ∷ a) b (inr m) = inr (mem_left d a b m)

pub mem_right : (d : Invocation) (a b : List Invocation) → Mem d b → Mem d (a ++ b)
mem_right d [] b m = m
mem_right d (x ∷ a) b m = inr (mem_right d a b m)

mem_split : (d : Invocation) (a b : List Invocation) → Mem d (a ++ b) → Mem d a ⊎ Mem d b
mem_split d [] b m = inr m
mem_split d (x ∷ a) b (inl e) = inl (inl e)
mem_split d (x ∷ a) b (inr m) = step (mem_split d a b m)
  where
    step : Mem d a ⊎ Mem d b → Mem d (x ∷ a) ⊎ Mem d b
    step (inl k) = inl (inr k)
    step (inr k) = inr k

-- which of two lists holds an invocation
pub on_mem {ℓ} : {A : Type ℓ} (d : Invocation) (a b : List Invocation) → Mem d (a ++ b) → (Mem d a → A) → (Mem d b → A) → A
on_mem {A} d a b m f g = step (mem_split d a b m)
  where
    step : Mem d a ⊎ Mem d b → A
    step (inl k) = f k
    step (inr k) = g k

-- the ancillas lie among the wires next, next + 1, …, as many as there are invocations
abbrev pub Range : ℕ → List Invocation → Type 0
Range next D = (d : Invocation) → Mem d D → (next ≤ d.ancilla) × (d.ancilla < next + length D)

range_nil : (next : ℕ) → Range next []
range_nil next d m = absurd m

range_invoked : (f : ℕ) (l : List ℕ) (next : ℕ) → Range next (invoked f l next)
unfolding invoked
range_invoked f [] next d m = absurd m
range_invoked f (q ∷ l) next d (inl e) = let h : d.ancilla ≡ next = ap (λ (v : Invocation). v.ancilla) e in (omega arith, omega arith)
range_invoked f (q ∷ l) next d (inr m) = absurd m

range_append : (next : ℕ) (a b : List Invocation) → Range next a → Range (next + length a) b → Range next (a ++ b)
range_append next a b ra rb d m = rw length-append (on_mem d a b m
    (λ k. let q = ra d k in (q.0, omega arith))
    (λ k. let q = rb d k in (omega arith, omega arith)))

-- the invocations of a statement take the next ancillas
pub invocations_range : (r : ℕ → Bool) (s : Statement) (l : List ℕ) (next : ℕ) → Range next (invocations r s l next)
unfolding invocations
invocations_range r skip l next = range_nil next
invocations_range r (NOT rs a) l next = range_nil next
invocations_range r (sequence s t) l next = by_bool (is_wide r s)
    (λ e. rw (invocations_wide r l next s t e) (invocations_range r s l next))
    (λ e. rw (invocations_thin r l next s t e) (invocations_range r t l next))
invocations_range r (if c s t) l next = by_bool (holds c l)
    (λ e. rw (invocations_yes r l next c s t e) (invocations_range r s l next))
    (λ e. rw (invocations_no r l next c s t e) (invocations_range r t l next))
invocations_range r (qcase rs a s t) l next =
    let m = next + length (invocations r s l next) in
    range_append next (invocations r s l next) (invocations r t l m) (invocations_range r s l next) (invocations_range r t l m)
invocations_range r (call rs f) l next = by_bool (r f)
    (λ e. rw (invocations_recursive r l next rs f e) (range_invoked f (remaining rs l) next))
    (λ e. rw (invocations_other r l next rs f e) (range_nil next))

-- no two invocations have the same ancilla
abbrev pub DistinctAncillas : List Invocation → Type 0
DistinctAncillas [] = Unit {0}
DistinctAncillas (x ∷ D) = ((y : Invocation) → Mem y D → x.ancilla ≢ y.ancilla) × DistinctAncillas D

-- two lists of distinct ancillas that share none
pub distinct_append : (a b : List Invocation) → DistinctAncillas a → DistinctAncillas b →
    ((x y : Invocation) → Mem x a → Mem y b → x.ancilla ≢ y.ancilla) → DistinctAncillas (a ++ b)
distinct_append [] b da db h = db
distinct_append (x ∷ a) b da db h =
    ((λ y m. on_mem y a b m (λ k. da.0 y k) (λ k. h x y (inl refl) k)), distinct_append a b da.1 db (λ u v mu mv. h u v (inr mu) mv))

distinct_invoked : (f : ℕ) (l : List ℕ) (next : ℕ) → DistinctAncillas (invoked f l next)
unfolding invoked
distinct_invoked f [] next = tt
distinct_invoked f (q ∷ l) next = ((λ y m. absurd m), tt)

-- the invocations of a statement have distinct ancillas
pub invocations_distinct : (r : ℕ → Bool) (s : Statement) (l : List ℕ) (next : ℕ) → DistinctAncillas (invocations r s l next)
unfolding invocations
invocations_distinct r skip l next = tt
invocations_distinct r (NOT rs a) l next = tt
invocations_distinct r (sequence s t) l next = by_bool (is_wide r s)
    (λ e. rw (invocations_wide r l next s t e) (invocations_distinct r s l next))
    (λ e. rw (invocations_thin r l next s t e) (invocations_distinct r t l next))
invocations_distinct r (if c s t) l next = by_bool (holds c l)
    (λ e. rw (invocations_yes r l next c s t e) (invocations_distinct r s l next))
    (λ e. rw (invocations_no r l next c s t e) (invocations_distinct r t l next))
invocations_distinct r (qcase rs a s t) l next =
    let m = next + length (invocations r s l next) in
    distinct_append (invocations r s l next) (invocations r t l m) (invocations_distinct r s l next) (invocations_distinct r t l m)
    (λ x y mx my e. apart x.ancilla y.ancilla m e (invocations_range r s l next x mx).1 (invocations_range r t l m y my).0)
  where
    apart : (u v m : ℕ) → u ≡ v → u < m → m ≤ v → ⊥
    apart u v m e h k = omega arith
invocations_distinct r (call rs f) l next = by_bool (r f)
    (λ e. rw (invocations_recursive r l next rs f e) (distinct_invoked f (remaining rs l) next))
    (λ e. rw (invocations_other r l next rs f e) tt)

-- an invocation in a body of rank k over a list of length m: a fine list, a rank that does not rise, a shorter list
pub record New (rank : ℕ → ℕ) (G : Safely) (n k m : ℕ) (d : Invocation) : Type 0 where
  pub fine : Fine G n d.procedure d.list
  pub low : rank d.procedure ≤ k
  pub short : length d.list < m

module _ (rank : ℕ → ℕ) (G : Safely) (n : ℕ) (K : Weakens G) (r : ℕ → Bool) (k : ℕ) where
  abbrev News : ℕ → List Invocation → Type 0
  News m D = (d : Invocation) → Mem d D → New rank G n k m d

  news_invoked : (f : ℕ) (l C : List ℕ) (m next : ℕ) → SafeCall G f l C → Data n l → Distinct l → rank f ≤ k → length l < m →
      News m (invoked f l next)
  unfolding invoked
  news_invoked f [] C m next g d u h s x b = absurd b
  news_invoked f (q ∷ l) C m next g d u h s y (inl e) = subst (λ (v : Invocation). New rank G n k m v) (sym e)
      (record { fine = fine_call G n f q l C K g d u; low = h; short = s })
  news_invoked f (q ∷ l) C m next g d u h s y (inr b) = absurd b

  -- every invocation of a safe body is fit for a body of its own
  pub invocations_new : (s : Statement) (l C : List ℕ) (next : ℕ) → Ranked rank r k s → Safe G s l C → Data n l → Distinct l → 0 < length l →
      News (length l) (invocations r s l next)
  unfolding invocations
  invocations_new skip l C next q o d u z = λ x m. absurd m
  invocations_new (NOT rs a) l C next q o d u z = λ x m. absurd m
  invocations_new (sequence s t) l C next q o d u z = by_bool (is_wide r s)
      (λ e. rw (invocations_wide r l next s t e) (invocations_new s l C next q.0 o.0 d u z))
      (λ e. rw (invocations_thin r l next s t e) (invocations_new t l C next q.1 o.1 d u z))
  invocations_new (if c s t) l C next q o d u z = by_bool (holds c l)
      (λ e. rw (invocations_yes r l next c s t e) (invocations_new s l C next q.0 (rw e at o) d u z))
      (λ e. rw (invocations_no r l next c s t e) (invocations_new t l C next q.1 (rw e at o) d u z))
  invocations_new (qcase rs a s t) l C next q o d u z = λ x m.
      on_mem x (invocations r s l next) (invocations r t l (next + length (invocations r s l next))) m
      (λ h. invocations_new s l (touched rs a l ∷ C) next q.0 o.1 d u z x h)
      (λ h. invocations_new t l (touched rs a l ∷ C) (next + length (invocations r s l next)) q.1 o.2 d u z x h)
  invocations_new (call rs f) l C next q o d u z = by_bool (r f)
      (λ e. rw (invocations_recursive r l next rs f e)
      (news_invoked f (remaining rs l) C (length l) next o (data_remaining n rs l d) (remaining_distinct rs l u) (q.0 e).0
      (remaining_shorter rs l (q.0 e).1 z)))
      (λ e. rw (invocations_other r l next rs f e) (λ x m. absurd m))

-- the recursive calls of a body all carry a removal, so their lists are shorter than the body's
module _ (r : ℕ → Bool) (l : List ℕ) (some : 0 < length l) where
  abbrev Short : Invocation → Type 0
  Short d = length d.list < length l

  invoked_shorter : (f : ℕ) (left : List ℕ) (next : ℕ) → length left < length l → AllOf Short (invoked f left next)
  unfolding invoked
  invoked_shorter f [] next h = tt
  invoked_shorter f (q ∷ left) next h = (h, tt)

  pub invocations_shorter : (s : Statement) (next : ℕ) → lacks_removal r s ≡ false → AllOf Short (invocations r s l next)
  unfolding lacks_removal invocations
  invocations_shorter skip next h = tt
  invocations_shorter (NOT rs a) next h = tt
  invocations_shorter (sequence s t) next h = by_bool (is_wide r s)
      (λ e. rw (invocations_wide r l next s t e) (invocations_shorter s next (or_false_left (lacks_removal r s) (lacks_removal r t) h)))
      (λ e. rw (invocations_thin r l next s t e) (invocations_shorter t next (or_false_right (lacks_removal r s) (lacks_removal r t) h)))
  invocations_shorter (if c s t) next h = by_bool (holds c l)
      (λ e. rw (invocations_yes r l next c s t e) (invocations_shorter s next (or_false_left (lacks_removal r s) (lacks_removal r t) h)))
      (λ e. rw (invocations_no r l next c s t e) (invocations_shorter t next (or_false_right (lacks_removal r s) (lacks_removal r t) h)))
  invocations_shorter (qcase rs a s t) next h = all_append Short (invocations r s l next) (invocations r t l (next + length (invocations r s l next)))
      (invocations_shorter s next (or_false_left (lacks_removal r s) (lacks_removal r t) h))
      (invocations_shorter t (next + length (invocations r s l next)) (or_false_right (lacks_removal r s) (lacks_removal r t) h))
  invocations_shorter (call rs f) next h = by_bool (r f)
      (λ e. rw (invocations_recursive r l next rs f e)
      (invoked_shorter f (remaining rs l) next (remaining_shorter rs l (carries_of rs (rw e at h)) some)))
      (λ e. rw (invocations_other r l next rs f e) tt)
