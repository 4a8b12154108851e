-- The bodies of one list length, by their keys. What the theorems need of the order of keys is that it has every key of the length, and each once.
use mathlib.Core.Path.{◌≡◌, refl, sym, ap, ◌∙◌, subst}
use mathlib.Core.Logic.{◌≢◌, inl, inr}
use mathlib.Core.Bool.{true, false}
use mathlib.Core.List.{List, [], ◌∷◌, ◌++◌}
use Prim.Native.Nat.{ℕ, ◌<◌}
use native.Mathlib.Omega.{arith}
use borrow.Author.Tests.{eqb-true, eq-eqb, ne_eqb, ltb-true, ltb-false, lt-ltb}
use lib.ListN.{length}
use lib.Dec.{eqb}
use Rattle.model.specs.Lists.{member}
use Rattle.model.specs.Emission.{Invocation, Key, key_of, comes_before, insert_key, keys, is_of, calls_to}
use Rattle.model.proofs.BooleanLaws.{by_bool, by_eq, not_true_false, and_left, and_right, and_both}
use Rattle.model.proofs.ListLaws.{Distinct, member_head, member_tail, member_cases, not_in_nil}
use Rattle.agreement.proofs.InvocationsOfABody.{Mem, AllOf, DistinctAncillas}

-- a list of keys that may order the bodies of length m: every key of the calls that long, each once
pub record OrderOf (m : ℕ) (calls : List Invocation) (ks : List Key) : Type 0 where
  pub every : (d : Invocation) → Mem d calls → length d.list ≡ m → member (key_of d) ks ≡ true
  pub once : Distinct ks

-- calls of one key call one procedure
pub same_procedure_lem : (d e : Invocation) → key_of e ≡ key_of d → e.procedure ≡ d.procedure
same_procedure_lem d e h = h

-- keys in order: each comes before all behind it
abbrev pub InOrder : List Key → Type 0
InOrder [] = Unit {0}
InOrder (k ∷ ks) = ((x : Key) → member x ks ≡ true → comes_before k x ≡ true) × InOrder ks

-- the order goes on over a key between, puts none before itself, and one of two keys first
before_trans : (a b c : Key) → comes_before a b ≡ true → comes_before b c ≡ true → comes_before a c ≡ true
before_trans a b c h i = let x = ltb-true a b h in let y = ltb-true b c i in lt-ltb a c (omega arith)

before_none : (a : Key) → comes_before a a ≡ true → ⊥
before_none a h = let x : a < a = ltb-true a a h in omega arith

before_same : (a b : Key) → comes_before a b ≡ false → comes_before b a ≡ false → a ≡ b
before_same a b h i = let x = ltb-false a b h in let y = ltb-false b a i in omega arith

-- the ways a key goes into its place
insert_before : (k x : Key) (ks : List Key) → comes_before k x ≡ true → insert_key k (x ∷ ks) ≡ k ∷ x ∷ ks
unfolding insert_key
insert_before k x ks h = rw (h, insert_key)

insert_behind : (k x : Key) (ks : List Key) → comes_before k x ≡ false → comes_before x k ≡ true → insert_key k (x ∷ ks) ≡ x ∷ insert_key k ks
unfolding insert_key
insert_behind k x ks h i = rw (h, insert_key, i, insert_key)

insert_there : (k x : Key) (ks : List Key) → comes_before k x ≡ false → comes_before x k ≡ false → insert_key k (x ∷ ks) ≡ x ∷ ks
unfolding insert_key
insert_there k x ks h i = rw (h, insert_key, i, insert_key)

-- split on where it goes
placing {ℓ} : {A : Type ℓ} (k x : Key) → (comes_before k x ≡ true → A) → (comes_before k x ≡ false → comes_before x k ≡ true → A) →
    (comes_before k x ≡ false → comes_before x k ≡ false → A) → A
placing k x f g h = by_bool (comes_before k x) f (λ n. by_bool (comes_before x k) (g n) (h n))

-- it is there, and all others still are; no other is
insert_has : (k : Key) (ks : List Key) → member k (insert_key k ks) ≡ true
unfolding insert_key
insert_has k [] = member_head k []
insert_has k (x ∷ ks) = placing k x
    (λ h. rw (insert_before k x ks h) (member_head k (x ∷ ks)))
    (λ h i. rw (insert_behind k x ks h i) (member_tail k x (insert_key k ks) (insert_has k ks)))
    (λ h i. rw (insert_there k x ks h i, before_same k x h i) (member_head x ks))

insert_keeps : (k y : Key) (ks : List Key) → member y ks ≡ true → member y (insert_key k ks) ≡ true
insert_keeps k y [] m = not_in_nil y m
insert_keeps k y (x ∷ ks) m = placing k x
    (λ h. rw (insert_before k x ks h) (member_tail y k (x ∷ ks) m))
    (λ h i. rw (insert_behind k x ks h i) (member_cases y x ks m
    (λ e. rw e (member_head x (insert_key k ks)))
    (λ b. member_tail y x (insert_key k ks) (insert_keeps k y ks b))))
    (λ h i. rw (insert_there k x ks h i) m)

insert_only {ℓ} : {A : Type ℓ} (k y : Key) (ks : List Key) → member y (insert_key k ks) ≡ true → (y ≡ k → A) → (member y ks ≡ true → A) → A
unfolding insert_key
insert_only k y [] m f g = member_cases y k [] m f g
insert_only k y (x ∷ ks) m f g = placing k x
    (λ h. member_cases y k (x ∷ ks) (rw (insert_before k x ks h) at m) f g)
    (λ h i. member_cases y x (insert_key k ks) (rw (insert_behind k x ks h i) at m)
    (λ e. g (rw e (member_head x ks)))
    (λ b. insert_only k y ks b f (λ c. g (member_tail y x ks c))))
    (λ h i. g (rw (insert_there k x ks h i) at m))

insert_order : (k : Key) (ks : List Key) → InOrder ks → InOrder (insert_key k ks)
unfolding insert_key
insert_order k [] o = ((λ y m. not_in_nil y m), tt)
insert_order k (x ∷ ks) o = placing k x
    (λ h. rw (insert_before k x ks h) ((λ y m. member_cases y x ks m (λ e. rw e h) (λ b. before_trans k x y h (o.0 y b))), o))
    (λ h i. rw (insert_behind k x ks h i) ((λ y m. insert_only k y ks m (λ e. rw e i) (λ b. o.0 y b)), insert_order k ks o.1))
    (λ h i. rw (insert_there k x ks h i) o)

order_once : (ks : List Key) → InOrder ks → Distinct ks
order_once [] o = tt
order_once (k ∷ ks) o = (not_true_false (member k ks) (λ m. before_none k (o.0 k m)), order_once ks o.1)

module _ (m : ℕ) where
  -- the clauses of the keys, and of the calls to one pair
  keys_here : (d : Invocation) (calls : List Invocation) → length d.list ≡ m → keys m (d ∷ calls) ≡ insert_key (key_of d) (keys m calls)
  unfolding keys
  keys_here d calls h = rw (eq-eqb (length d.list) m h, keys)

  keys_past : (d : Invocation) (calls : List Invocation) → length d.list ≢ m → keys m (d ∷ calls) ≡ keys m calls
  unfolding keys
  keys_past d calls h = rw (ne_eqb (length d.list) m h, keys)

  pub calls_here : (k : Key) (d : Invocation) (calls : List Invocation) → is_of m k d ≡ true → calls_to m k (d ∷ calls) ≡ d ∷ calls_to m k calls
  unfolding calls_to
  calls_here k d calls h = rw (h, calls_to)

  pub calls_past : (k : Key) (d : Invocation) (calls : List Invocation) → is_of m k d ≡ false → calls_to m k (d ∷ calls) ≡ calls_to m k calls
  unfolding calls_to
  calls_past k d calls h = rw (h, calls_to)

  -- the keys are in order
  pub keys_in_order : (calls : List Invocation) → InOrder (keys m calls)
  unfolding keys
  keys_in_order [] = tt
  keys_in_order (d ∷ calls) = by_eq (length d.list) m
      (λ h. rw (keys_here d calls h) (insert_order (key_of d) (keys m calls) (keys_in_order calls)))
      (λ h. rw (keys_past d calls h) (keys_in_order calls))

  -- every call's is among them ..
  keys_every : (calls : List Invocation) (d : Invocation) → Mem d calls → length d.list ≡ m → member (key_of d) (keys m calls) ≡ true
  keys_every [] d b h = absurd b
  keys_every (x ∷ calls) d (inl e) h =
      let l : length x.list ≡ m = subst (λ (v : Invocation). length v.list ≡ m) e h in
      rw (keys_here x calls l, e) (insert_has (key_of x) (keys m calls))
  keys_every (x ∷ calls) d (inr b) h = by_eq (length x.list) m
      (λ l. rw (keys_here x calls l) (insert_keeps (key_of x) (key_of d) (keys m calls) (keys_every calls d b h)))
      (λ l. rw (keys_past x calls l) (keys_every calls d b h))

  -- .. and each is a call's
  pub keys_called {ℓ} : {A : Type ℓ} (calls : List Invocation) (k : Key) → member k (keys m calls) ≡ true →
      ((d : Invocation) → Mem d calls → length d.list ≡ m → key_of d ≡ k → A) → A
  unfolding keys
  keys_called [] k b f = not_in_nil k b
  keys_called (x ∷ calls) k b f = by_eq (length x.list) m
      (λ l. insert_only (key_of x) k (keys m calls) (rw (keys_here x calls l) at b)
      (λ e. f x (inl refl) l (sym e))
      (λ c. keys_called calls k c (λ d i. f d (inr i))))
      (λ l. keys_called calls k (rw (keys_past x calls l) at b) (λ d i. f d (inr i)))

  -- so they may order the bodies
  pub keys_order : (calls : List Invocation) → OrderOf m calls (keys m calls)
  keys_order calls = record { every = keys_every calls; once = order_once (keys m calls) (keys_in_order calls) }

  -- a call to a pair is one of the calls, with its length and its key
  pub record CallTo (k : Key) (calls : List Invocation) (d : Invocation) : Type 0 where
    pub among : Mem d calls
    pub long : length d.list ≡ m
    pub key : key_of d ≡ k

  call_later : {k : Key} {x d : Invocation} {calls : List Invocation} → CallTo k calls d → CallTo k (x ∷ calls) d
  call_later c = record { among = inr c.among; long = c.long; key = c.key }

  -- the test of a pair says just that
  pub is_of_lem : (k : Key) (d : Invocation) → is_of m k d ≡ true → (length d.list ≡ m) × (key_of d ≡ k)
  is_of_lem k d h = (
    eqb-true (length d.list) m (and_left (eqb (length d.list) m) (eqb (key_of d) k) h),
    eqb-true (key_of d) k (and_right (eqb (length d.list) m) (eqb (key_of d) k) h),
  )

  pub of_is : (k : Key) (d : Invocation) → length d.list ≡ m → key_of d ≡ k → is_of m k d ≡ true
  of_is k d l e = and_both (eqb (length d.list) m) (eqb (key_of d) k) (eq-eqb (length d.list) m l) (eq-eqb (key_of d) k e)

  -- those are exactly the calls to it
  pub calls_are : (k : Key) (calls : List Invocation) (d : Invocation) → Mem d (calls_to m k calls) → CallTo k calls d
  unfolding calls_to
  calls_are k [] d b = absurd b
  calls_are k (x ∷ calls) d b = by_bool (is_of m k x)
      (λ h. first h (subst (λ (l : List Invocation). Mem d l) (calls_here k x calls h) b) (calls_are k calls d))
      (λ h. call_later (calls_are k calls d (subst (λ (l : List Invocation). Mem d l) (calls_past k x calls h) b)))
    where
      first : is_of m k x ≡ true → Mem d (x ∷ calls_to m k calls) → (Mem d (calls_to m k calls) → CallTo k calls d) → CallTo k (x ∷ calls) d
      first h (inl e) f = record {
        among = inl e;
        long = ap (λ (v : Invocation). length v.list) e ∙ (is_of_lem k x h).0;
        key = ap (λ (v : Invocation). key_of v) e ∙ (is_of_lem k x h).1;
      }
      first h (inr c) f = call_later (f c)

  pub calls_all : (k : Key) (calls : List Invocation) (d : Invocation) → CallTo k calls d → Mem d (calls_to m k calls)
  calls_all k calls d c = go calls c.among
    where
      go : (calls : List Invocation) → Mem d calls → Mem d (calls_to m k calls)
      go [] b = absurd b
      go (x ∷ calls) (inl e) =
          let h : is_of m k x ≡ true = subst (λ (v : Invocation). is_of m k v ≡ true) e (of_is k d c.long c.key) in
          subst (λ (l : List Invocation). Mem d l) (sym (calls_here k x calls h)) (inl e)
      go (x ∷ calls) (inr b) = by_bool (is_of m k x)
          (λ h. subst (λ (l : List Invocation). Mem d l) (sym (calls_here k x calls h)) (inr (go calls b)))
          (λ h. subst (λ (l : List Invocation). Mem d l) (sym (calls_past k x calls h)) (go calls b))

  -- with distinct ancillas, if the calls have them
  pub calls_distinct : (k : Key) (calls : List Invocation) → DistinctAncillas calls → DistinctAncillas (calls_to m k calls)
  unfolding calls_to
  calls_distinct k [] D = tt
  calls_distinct k (x ∷ calls) D = by_bool (is_of m k x)
      (λ h. subst (λ (l : List Invocation). DistinctAncillas l) (sym (calls_here k x calls h))
      ((λ y b. D.0 y (calls_are k calls y b).among), calls_distinct k calls D.1))
      (λ h. subst (λ (l : List Invocation). DistinctAncillas l) (sym (calls_past k x calls h)) (calls_distinct k calls D.1))

  -- and what holds of each call
  pub calls_keep : (Q : Invocation → Type 0) (k : Key) (calls : List Invocation) → AllOf Q calls → AllOf Q (calls_to m k calls)
  unfolding calls_to
  calls_keep Q k [] a = tt
  calls_keep Q k (x ∷ calls) a = by_bool (is_of m k x)
      (λ h. subst (λ (l : List Invocation). AllOf Q l) (sym (calls_here k x calls h)) (a.0, calls_keep Q k calls a.1))
      (λ h. subst (λ (l : List Invocation). AllOf Q l) (sym (calls_past k x calls h)) (calls_keep Q k calls a.1))

  -- shorter calls behind them change nothing
  module _ (ds : List Invocation) (short : AllOf (λ (d : Invocation). length d.list < m) ds) where
    pub keys_shorter : (calls : List Invocation) → keys m (calls ++ ds) ≡ keys m calls
    unfolding keys
    keys_shorter [] = none ds short
      where
        none : (ds : List Invocation) → AllOf (λ (d : Invocation). length d.list < m) ds → keys m ds ≡ []
        none [] a = refl
        none (d ∷ ds) a = let h : length d.list < m = a.0 in keys_past d ds (omega arith) ∙ none ds a.1
    keys_shorter (x ∷ calls) = by_eq (length x.list) m
        (λ h. keys_here x (calls ++ ds) h ∙ ap (insert_key (key_of x)) (keys_shorter calls) ∙ sym (keys_here x calls h))
        (λ h. keys_past x (calls ++ ds) h ∙ keys_shorter calls ∙ sym (keys_past x calls h))

    pub calls_shorter : (k : Key) (calls : List Invocation) → calls_to m k (calls ++ ds) ≡ calls_to m k calls
    unfolding calls_to
    calls_shorter k [] = none ds short
      where
        none : (ds : List Invocation) → AllOf (λ (d : Invocation). length d.list < m) ds → calls_to m k ds ≡ []
        none [] a = refl
        none (d ∷ ds) a =
            let h : length d.list < m = a.0 in
            calls_past k d ds (not_true_false (is_of m k d) (λ t. let e = (is_of_lem k d t).0 in omega arith)) ∙ none ds a.1
    calls_shorter k (x ∷ calls) = by_bool (is_of m k x)
        (λ h. calls_here k x (calls ++ ds) h ∙ ap (λ (l : List Invocation). x ∷ l) (calls_shorter k calls) ∙ sym (calls_here k x calls h))
        (λ h. calls_past k x (calls ++ ds) h ∙ calls_shorter k calls ∙ sym (calls_past k x calls h))
