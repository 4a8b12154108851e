-- Fuel never runs out: rank + length falls at each call of a table that passes refusal 10, so `enough` is enough, and more changes nothing.
use mathlib.Core.Path.{◌≡◌, refl}
use mathlib.Core.Bool.{Bool, true, false}
use mathlib.Core.List.{List, [], ◌∷◌}
use Prim.Native.Nat.{ℕ, zero, suc, ◌+◌, ◌≤◌, ◌<◌, zero-le, suc-le-suc}
use native.Mathlib.Omega.{arith}
use lib.ListN.{length}
use Rattle.model.specs.Syntax.{Number, Condition, Statement, skip, NOT, sequence, if, qcase, call, Program, body}
use Rattle.model.specs.Lists.{qubits, remaining, touched, holds}
use Rattle.model.specs.Faults.{CallFaults, call_faults, faults, call_faults_within, enough, program_faults}
use Rattle.model.specs.Meaning.{State, CallDoes, call_does, does, call_does_within, end_state}
use Rattle.model.specs.Reach.{recursive, any_lacks_removal}
use Rattle.model.proofs.BooleanLaws.{by_bool}
use Rattle.model.proofs.ListLaws.{range_length, remaining_no_longer, remaining_shorter}
use Rattle.model.proofs.ReachAndRank.{Named, Ranked, rank, rank_all, all_ranked}

-- the clauses of `does` and `faults` at a condition and at a qubit's bit
pub does_yes : (o : CallDoes) (c : Condition) (t u : Statement) (l : List ℕ) (s : State) → holds c l ≡ true → does o (if c t u) l s ≡ does o t l s
unfolding does
does_yes o c t u l s e = rw (e, does)

pub does_no : (o : CallDoes) (c : Condition) (t u : Statement) (l : List ℕ) (s : State) → holds c l ≡ false → does o (if c t u) l s ≡ does o u l s
unfolding does
does_no o c t u l s e = rw (e, does)

module _ (o : CallDoes) (rs : List Number) (a : Number) (t u : Statement) (l : List ℕ) (s : State) where
  pub does_zero : s (touched rs a l) ≡ false → does o (qcase rs a t u) l s ≡ does o t l s
  unfolding does
  does_zero e = rw (e, does)

  pub does_one : s (touched rs a l) ≡ true → does o (qcase rs a t u) l s ≡ does o u l s
  unfolding does
  does_one e = rw (e, does)

pub faults_yes : (o : CallFaults) (c : Condition) (t u : Statement) (l closed : List ℕ) → holds c l ≡ true →
    faults o (if c t u) l closed ≡ faults o t l closed
unfolding faults
faults_yes o c t u l closed e = rw (e, faults)

pub faults_no : (o : CallFaults) (c : Condition) (t u : Statement) (l closed : List ℕ) → holds c l ≡ false →
    faults o (if c t u) l closed ≡ faults o u l closed
unfolding faults
faults_no o c t u l closed e = rw (e, faults)

-- two accounts of calls agree wherever rank + length is below m
abbrev DoesAgree : (ℕ → ℕ) → ℕ → CallDoes → CallDoes → Type 0
DoesAgree rank m o o' = (f : ℕ) (l : List ℕ) (s : State) → 0 < length l → rank f + length l < m → o f l s ≡ o' f l s

abbrev FaultsAgree : (ℕ → ℕ) → ℕ → CallFaults → CallFaults → Type 0
FaultsAgree rank m o o' = (f : ℕ) (l closed : List ℕ) → 0 < length l → rank f + length l < m → o f l closed ≡ o' f l closed

call_does_agree : (rank : ℕ → ℕ) (m : ℕ) (o o' : CallDoes) → DoesAgree rank m o o' → (f : ℕ) (l : List ℕ) (s : State) → rank f + length l < m →
    call_does o f l s ≡ call_does o' f l s
unfolding call_does
call_does_agree rank m o o' A f [] s h = refl
call_does_agree rank m o o' A f (q ∷ l) s h = A f (q ∷ l) s (suc-le-suc zero-le) h

call_faults_agree : (rank : ℕ → ℕ) (m : ℕ) (o o' : CallFaults) → FaultsAgree rank m o o' → (f : ℕ) (l closed : List ℕ) → rank f + length l < m →
    call_faults o f l closed ≡ call_faults o' f l closed
unfolding call_faults
call_faults_agree rank m o o' A f [] closed h = refl
call_faults_agree rank m o o' A f (q ∷ l) closed h = A f (q ∷ l) closed (suc-le-suc zero-le) h

module _ (rank : ℕ → ℕ) (r : ℕ → Bool) (k : ℕ) (l : List ℕ) (some : 0 < length l) where
  -- rank + length falls at each call
  pub call_falls : (rs : List Number) (f : ℕ) → Ranked rank r k (call rs f) → rank f + length (remaining rs l) < k + length l
  call_falls rs f q = by_bool (r f)
      (λ e. let a : rank f ≤ k = (q.0 e).0 in let b = remaining_shorter rs l (q.0 e).1 some in omega arith)
      (λ e. let a : rank f < k = q.1 e in let b = remaining_no_longer rs l in omega arith)

  pub does_agree : (o o' : CallDoes) → DoesAgree rank (k + length l) o o' → (t : Statement) (s : State) → Ranked rank r k t → does o t l s ≡ does o' t l s
  unfolding does
  does_agree o o' A skip s q = refl
  does_agree o o' A (NOT rs a) s q = refl
  does_agree o o' A (sequence t u) s q = rw (does_agree o o' A t s q.0) (does_agree o o' A u (does o' t l s) q.1)
  does_agree o o' A (if c t u) s q = by_bool (holds c l)
      (λ e. rw (does_yes o c t u l s e, does_yes o' c t u l s e) (does_agree o o' A t s q.0))
      (λ e. rw (does_no o c t u l s e, does_no o' c t u l s e) (does_agree o o' A u s q.1))
  does_agree o o' A (qcase rs a t u) s q = by_bool (s (touched rs a l))
      (λ e. rw (does_one o rs a t u l s e, does_one o' rs a t u l s e) (does_agree o o' A u s q.1))
      (λ e. rw (does_zero o rs a t u l s e, does_zero o' rs a t u l s e) (does_agree o o' A t s q.0))
  does_agree o o' A (call rs f) s q = call_does_agree rank (k + length l) o o' A f (remaining rs l) s (call_falls rs f q)

  pub faults_agree : (o o' : CallFaults) → FaultsAgree rank (k + length l) o o' → (t : Statement) (closed : List ℕ) → Ranked rank r k t →
      faults o t l closed ≡ faults o' t l closed
  unfolding faults
  faults_agree o o' A skip closed q = refl
  faults_agree o o' A (NOT rs a) closed q = refl
  faults_agree o o' A (sequence t u) closed q = rw (faults_agree o o' A t closed q.0, faults_agree o o' A u closed q.1)
  faults_agree o o' A (if c t u) closed q = by_bool (holds c l)
      (λ e. rw (faults_yes o c t u l closed e, faults_yes o' c t u l closed e) (faults_agree o o' A t closed q.0))
      (λ e. rw (faults_no o c t u l closed e, faults_no o' c t u l closed e) (faults_agree o o' A u closed q.1))
  faults_agree o o' A (qcase rs a t u) closed q =
      rw (faults_agree o o' A t (touched rs a l ∷ closed) q.0, faults_agree o o' A u (touched rs a l ∷ closed) q.1)
  faults_agree o o' A (call rs f) closed q = call_faults_agree rank (k + length l) o o' A f (remaining rs l) closed (call_falls rs f q)

-- no fuel is never enough
pub no_fuel : (rank : ℕ → ℕ) (f : ℕ) (l : List ℕ) → 0 < length l → rank f + length l ≤ 0 → ⊥
no_fuel rank f l some h = omega arith

module _ (P : Program) (rank : ℕ → ℕ) (R : (f : ℕ) → Ranked rank (recursive P f) (rank f) (body P f)) where
  -- all fuel from rank + length on is the same
  pub fuel_does : (a b f : ℕ) (l : List ℕ) (s : State) → 0 < length l → rank f + length l ≤ a → rank f + length l ≤ b →
      call_does_within P a f l s ≡ call_does_within P b f l s
  unfolding call_does_within
  fuel_does zero b f l s some ha hb = absurd (no_fuel rank f l some ha)
  fuel_does (suc a) zero f l s some ha hb = absurd (no_fuel rank f l some hb)
  fuel_does (suc a) (suc b) f l s some ha hb = does_agree rank (recursive P f) (rank f) l some (call_does_within P a) (call_does_within P b)
      (λ g l' s' some' h. fuel_does a b g l' s' some' (omega arith) (omega arith)) (body P f) s (R f)

  pub fuel_faults : (a b f : ℕ) (l closed : List ℕ) → 0 < length l → rank f + length l ≤ a → rank f + length l ≤ b →
      call_faults_within P a f l closed ≡ call_faults_within P b f l closed
  unfolding call_faults_within
  fuel_faults zero b f l closed some ha hb = absurd (no_fuel rank f l some ha)
  fuel_faults (suc a) zero f l closed some ha hb = absurd (no_fuel rank f l some hb)
  fuel_faults (suc a) (suc b) f l closed some ha hb = faults_agree rank (recursive P f) (rank f) l some (call_faults_within P a) (call_faults_within P b)
      (λ g l' closed' some' h. fuel_faults a b g l' closed' some' (omega arith) (omega arith)) (body P f) closed (R f)

-- a table that passes refusal 10: `enough` fuel does what more would
module _ (P : Program) (N : Named P) (passes10 : any_lacks_removal P ≡ false) (n fuel : ℕ) (some : 0 < n) (more : enough P n ≤ fuel) where
  pub enough_does : (s : State) → does (call_does_within P fuel) P.main (qubits n) s ≡ end_state P n s
  unfolding end_state
  enough_does s =
      let R = all_ranked P N passes10 in
      let len : length (qubits n) ≡ n = range_length n 1 in
      let top = rank_all P 0 in
      does_agree (rank P) (recursive P 0) (rank P 0) (qubits n) (omega arith) (call_does_within P fuel) (call_does_within P (enough P n))
      (λ f l s' some' h. fuel_does P (rank P) R fuel (enough P n) f l s' some' (omega arith) (omega arith)) P.main s (R 0)

  pub enough_faults : faults (call_faults_within P fuel) P.main (qubits n) [] ≡ program_faults P n
  unfolding program_faults
  enough_faults =
      let R = all_ranked P N passes10 in
      let len : length (qubits n) ≡ n = range_length n 1 in
      let top = rank_all P 0 in
      faults_agree (rank P) (recursive P 0) (rank P 0) (qubits n) (omega arith) (call_faults_within P fuel) (call_faults_within P (enough P n))
      (λ f l closed some' h. fuel_faults P (rank P) R fuel (enough P n) f l closed some' (omega arith) (omega arith)) P.main [] (R 0)
