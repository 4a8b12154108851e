-- A reader of numbers beside today's: it reads a number as today where Q holds of it, and else breaks off, with any number m. Then so does its reader of
-- tables: it reads a table as today, and Q holds of all numbers read; or it breaks off, and Q does not hold of all numbers of the program read today.
use mathlib.Core.Path.{◌≡◌, refl, subst}
use mathlib.Core.Logic.{◌≢◌, ◌⊎◌, inl, inr}
use mathlib.Core.Bool.{Bool, true, false, ◌&&◌, true≢false}
use mathlib.Core.List.{List, [], ◌∷◌}
use mathlib.Core.Option.{Option, none, some}
use Prim.Native.Nat.{ℕ, zero, suc, ◌+◌, ◌-◌}
use native.Mathlib.Omega.{arith}
use borrow.Author.Tests.{eqb-true, lt-ltb, le-ltb}
use lib.ListN.{length, get_or, get_elem?}
use lib.Dec.{eqb, ltb, leb}
use lib.IntN.{pos}
use Rattle.model.specs.Limits.{table_edition, most_procedures, most_records, most_depth, most_removals}
use Rattle.model.specs.Limits.{wrong_edition, many_procedures, wrong_map, wrong_field, too_deep, bytes_left}
use Rattle.model.specs.Syntax.{Number, constant, Condition, conjunction, disjunction, Statement, skip, sequence, if, qcase, Program}
use Rattle.model.specs.Reading.{Input, Parsed, parsed, refused, and_then, provided, byte, number, numbers, removals, procedure}
use Rattle.model.specs.Reading.{StatementKind, skips, nots, sequences, ifs, qcases, calls, statement_kind}
use Rattle.model.specs.Reading.{ConditionKind, greaters, at_leasts, equals, ands, ors, negations, condition_kind}
use Rattle.model.specs.Reading.{required_map, optional_map, permitted, stands, Fields, optional, fields, known, opening, counted, contents}
use Rattle.model.specs.Reading.{two, condition_of, condition, statement_of, statement, statements, trees, read_table}
use Rattle.model.proofs.BooleanLaws.{by_lt, or_cases}
use Rattle.model.proofs.ReadingLaws.{Reads, reads_then, reads_provided, Anyhow}
use Rattle.plain.specs.Numbers.{InList, InCondition, InStatement, InProgram}
use Rattle.plain.specs.ReadingBy.{NumberReader, numbers_by, removals_by, fields_by, contents_by, condition_by, statement_by, statements_by, trees_by, read_table_by}

abbrev pub Not : Type 0 → Type 0
Not A = A → ⊥

-- A reading that may break off, with any number m, beside another. Either it is that reading, whatever m is, and Good holds of what was read; or it broke
-- off, which it can, and Bad holds of what the other read.
pub data Alike (Can : Type 0) {A : Type 0} (Good Bad : A → Type 0) : (ℕ → Parsed A) → Parsed A → Type 0 where
  both_read : {a : A} {i : Input} → Good a → Alike Can Good Bad (λ m. parsed a i) (parsed a i)
  both_refused : {k : ℕ} → Alike Can Good Bad (λ m. refused k) (refused k)
  broken_off : {y : Parsed A} → Can → Reads (λ a i. Bad a) Anyhow y → Alike Can Good Bad (λ m. refused m) y

-- whatever is read first
pub reads_on : {A B : Type 0} (R : B → Input → Type 0) (x : Parsed A) (f : A → Input → Parsed B) → ((a : A) (i : Input) → Reads R Anyhow (f a i)) →
    Reads R Anyhow (and_then x f)
unfolding and_then
reads_on R (parsed a i) f h = h a i
reads_on R (refused k) f h = tt

module _ (Can : Type 0) where
  -- first this, then that; of what is bad nothing good is made
  alike_then : {A B : Type 0} {G C : A → Type 0} (H D : B → Type 0) {x : ℕ → Parsed A} {y : Parsed A} (f : ℕ → A → Input → Parsed B)
      (g : A → Input → Parsed B) → Alike Can G C x y → ((a : A) (i : Input) → G a → Alike Can H D (λ m. f m a i) (g a i)) →
      ((a : A) (i : Input) → C a → Reads (λ b j. D b) Anyhow (g a i)) → Alike Can H D (λ m. and_then (x m) (f m)) (and_then y g)
  unfolding and_then
  alike_then H D f g (both_read q) h b = h _ _ q
  alike_then H D f g both_refused h b = both_refused
  alike_then {C = C} H D f g (broken_off {y = y} o r) h b = broken_off o (reads_then (λ a i. C a) (λ b j. D b) Anyhow y g r (λ a i c. b a i c))

  -- both read the same first
  pub alike_same : {A B : Type 0} (H D : B → Type 0) (x : Parsed A) (f : ℕ → A → Input → Parsed B) (g : A → Input → Parsed B) →
      ((a : A) (i : Input) → Alike Can H D (λ m. f m a i) (g a i)) → Alike Can H D (λ m. and_then x (f m)) (and_then x g)
  unfolding and_then
  alike_same H D (parsed a i) f g h = h a i
  alike_same H D (refused k) f g h = both_refused

  -- behind a test
  alike_provided : {A : Type 0} {H D : A → Type 0} (b : Bool) (k : ℕ) (x : ℕ → Parsed A) (y : Parsed A) → (b ≡ true → Alike Can H D x y) →
      Alike Can H D (λ m. provided b k (x m)) (provided b k y)
  unfolding provided
  alike_provided true k x y h = h refl
  alike_provided false k x y h = both_refused

  -- behind a record's map and kind
  alike_opening : {K A : Type 0} (H D : A → Type 0) (sort : ℕ → Option K) (i : Input) (f : ℕ → ℕ → ℕ → K → Input → Parsed A)
      (g : ℕ → ℕ → K → Input → Parsed A) →
      ((map kind : ℕ) (what : K) (j : Input) → sort kind ≡ some what → Alike Can H D (λ m. f m map kind what j) (g map kind what j)) →
      Alike Can H D (λ m. opening sort i (f m)) (opening sort i g)
  unfolding opening known
  alike_opening {K} H D sort i f g h =
      alike_same H D (byte i) _ _ (λ map j. alike_same H D (byte j) _ _ (λ kind k. go map kind k (sort kind) refl))
    where
      go : (map kind : ℕ) (k : Input) (o : Option K) → sort kind ≡ o →
          Alike Can H D (λ m. known o (λ what. f m map kind what k)) (known o (λ what. g map kind what k))
      go map kind k none e = both_refused
      go map kind k (some what) e = h map kind what k e

  -- two children: what is made of them is good exactly where both are
  alike_two : {A B : Type 0} {G : A → Type 0} (H : B → Type 0) (p : ℕ → Input → Parsed A) (q : Input → Parsed A) (make : A → A → B) →
      ((i : Input) → Alike Can G (λ a. Not (G a)) (λ m. p m i) (q i)) →
      ((x y : A) → G x → G y → H (make x y)) → ((x y : A) → H (make x y) → G x × G y) → (i : Input) →
      Alike Can H (λ b. Not (H b)) (λ m. two (p m) make i) (two q make i)
  unfolding two
  alike_two {G = G} H p q make h good parts i = alike_then H (λ b. Not (H b)) _ _ (h i)
      (λ x j gx. alike_then H (λ b. Not (H b)) _ _ (h j) (λ y k gy. both_read (good x y gx gy)) (λ y k c z. c (parts x y z).1))
      (λ x j c. reads_on (λ b k. Not (H b)) (q j) _ (λ y k z. c (parts x y z).0))

-- what holds of each entry of a list and its number, counted from n on, holds of the entry found at a place
abbrev AtPlaces : {K : Type 0} → (K → ℕ → Type 0) → ℕ → List K → Type 0
AtPlaces R n [] = Unit {0}
AtPlaces R n (w ∷ l) = R w n × AtPlaces R (suc n) l

at_place : {K : Type 0} (R : K → ℕ → Type 0) (n : ℕ) (l : List K) → AtPlaces R n l → (k : ℕ) (w : K) → get_elem? l k ≡ some w → R w (n + k)
at_place R n [] h k w e = absurd (true≢false (cc))
at_place R n (v ∷ l) h zero w e = let same : v ≡ w = cc in let there : n + 0 ≡ n = omega arith in rw (there, ← same) h.0
at_place R n (v ∷ l) h (suc k) w e = let there : n + suc k ≡ suc n + k = omega arith in rw there (at_place R (suc n) l h.1 k w e)

-- a field's bit stands, and something holds of the field
abbrev Standing : Bool → Type 0 → Type 0
Standing true A = A
Standing false A = ⊥

-- what does not hold of one of three
abbrev Fails : Type 0 → Type 0 → Type 0 → Type 0
Fails A B C = A ⊎ (B ⊎ C)

module _ (Can : Type 0) (Q : Number → Type 0) (reader : ℕ → NumberReader)
    (absent_is : Q (constant (pos 0))) (alike : (i : Input) → Alike Can Q (λ a. Not (Q a)) (λ m. reader m i) (number i)) where
  -- the fields of a record: numbers, removals, and those that may be absent
  numbers_alike : (n : ℕ) (i : Input) → Alike Can (InList Q) (λ rs. Not (InList Q rs)) (λ m. numbers_by (reader m) n i) (numbers n i)
  unfolding numbers_by numbers
  numbers_alike zero i = both_read tt
  numbers_alike (suc n) i = alike_then Can (InList Q) (λ rs. Not (InList Q rs)) _ _ (alike i)
      (λ a j q. alike_then Can (InList Q) (λ rs. Not (InList Q rs)) _ _ (numbers_alike n j) (λ rs k r. both_read (q, r)) (λ rs k c z. c z.1))
      (λ a j c. reads_on (λ rs k. Not (InList Q rs)) (numbers n j) _ (λ rs k z. c z.0))

  removals_alike : (i : Input) → Alike Can (InList Q) (λ rs. Not (InList Q rs)) (λ m. removals_by (reader m) i) (removals i)
  unfolding removals_by removals
  removals_alike i = alike_same Can (InList Q) (λ rs. Not (InList Q rs)) (byte i) _ _ (λ n j.
      alike_provided Can (leb 1 n && leb n most_removals) wrong_field _ _ (λ ok. numbers_alike n j))

  optional_alike : {A : Type 0} (G C : A → Type 0) (b : Bool) (p : ℕ → Input → Parsed A) (q : Input → Parsed A) (absent : A) (i : Input) →
      G absent → Alike Can G C (λ m. p m i) (q i) → Alike Can G (λ x. Standing b (C x)) (λ m. optional b (p m) absent i) (optional b q absent i)
  unfolding optional
  optional_alike G C true p q absent i z h = h
  optional_alike G C false p q absent i z h = both_read z

  -- Q holds of all numbers of the fields
  abbrev GoodFields : Fields → Type 0
  GoodFields f = InList Q f.removed × (Q f.a × Q f.b)

  -- and not of a number of a field that stands
  abbrev BadFields : ℕ → Fields → Type 0
  BadFields map f = Fails (Standing (stands 0 map) (Not (InList Q f.removed))) (Standing (stands 1 map) (Not (Q f.a)))
      (Standing (stands 2 map) (Not (Q f.b)))

  fields_alike : (p map : ℕ) (i : Input) → Alike Can GoodFields (BadFields map) (λ m. fields_by (reader m) p map i) (fields p map i)
  unfolding fields_by fields
  fields_alike p map i =
      let B : Fields → Input → Type 0 = λ f k. BadFields map f in
      alike_then Can GoodFields (BadFields map) _ _
      (optional_alike (InList Q) (λ rs. Not (InList Q rs)) (stands 0 map) (λ m. removals_by (reader m)) removals [] i tt (removals_alike i))
      (λ rs j q. alike_then Can GoodFields (BadFields map) _ _
      (optional_alike Q (λ a. Not (Q a)) (stands 1 map) reader number (constant (pos 0)) j absent_is (alike j))
      (λ a k r. alike_then Can GoodFields (BadFields map) _ _
      (optional_alike Q (λ a. Not (Q a)) (stands 2 map) reader number (constant (pos 0)) k absent_is (alike k))
      (λ b l s. alike_same Can GoodFields (BadFields map) (optional (stands 3 map) (procedure p) 0 l) _ _ (λ f m. both_read (q, (r, s))))
      (λ b l c. reads_on B _ _ (λ f m. inr (inr c))))
      (λ a k c. reads_on B _ _ (λ b l. reads_on B _ _ (λ f m. inr (inl c)))))
      (λ rs j c. reads_on B _ _ (λ a k. reads_on B _ _ (λ b l. reads_on B _ _ (λ f m. inl c))))

  -- what is read behind the fields
  contents_alike : {A : Type 0} (H D : A → Type 0) (p map kind : ℕ) (i : Input) (f : ℕ → Fields → Input → Parsed A) (g : Fields → Input → Parsed A) →
      ((fs : Fields) (j : Input) → GoodFields fs → Alike Can H D (λ m. f m fs j) (g fs j)) →
      (permitted kind map ≡ true → (fs : Fields) (j : Input) → BadFields map fs → Reads (λ a k. D a) Anyhow (g fs j)) →
      Alike Can H D (λ m. contents_by (reader m) p map kind i (f m)) (contents p map kind i g)
  unfolding contents_by contents
  contents_alike H D p map kind i f g h b =
      alike_provided Can (ltb i.records most_records) too_deep _ _ (λ fewer. alike_provided Can (permitted kind map) wrong_map _ _ (λ ok.
      alike_then Can H D f g (fields_alike p map (counted i)) h (b ok)))

  -- Which fields a kind has (`permitted_maps`): only one of these can be bad, and then the tree is. A permitted map is the required one, or has the
  -- optional bit too.
  abbrev BadTree : {K : Type 0} → (K → Fields → Type 0) → K → ℕ → Type 0
  BadTree Bad what kind = (map : ℕ) (f : Fields) → permitted kind map ≡ true → BadFields map f → Bad what f

  bad_tree : {K : Type 0} (Bad : K → Fields → Type 0) (what : K) (kind : ℕ) → ((f : Fields) → BadFields (required_map kind) f → Bad what f) →
      ((f : Fields) → BadFields (required_map kind + optional_map kind) f → Bad what f) → BadTree Bad what kind
  bad_tree Bad what kind required more map f ok b = or_cases (eqb map (required_map kind)) (eqb map (required_map kind + optional_map kind)) ok
      (λ e. required f (subst (λ (m : ℕ). BadFields m f) (eqb-true map (required_map kind) e) b))
      (λ e. more f (subst (λ (m : ℕ). BadFields m f) (eqb-true map (required_map kind + optional_map kind) e) b))

  -- the forms: no number; a and b; a alone; removals and a; removals alone
  no_field : {A : Type 0} → Fails ⊥ ⊥ ⊥ → A
  no_field (inl b) = absurd b
  no_field (inr (inl b)) = absurd b
  no_field (inr (inr b)) = absurd b

  compared : {A B : Type 0} → Fails ⊥ (Not A) (Not B) → Not (A × B)
  compared (inl b) z = b
  compared (inr (inl c)) z = c z.0
  compared (inr (inr c)) z = c z.1

  touches : {A B : Type 0} → Fails ⊥ (Not B) ⊥ → Not (A × B)
  touches (inl b) z = b
  touches (inr (inl c)) z = c z.1
  touches (inr (inr b)) z = b

  removes_touches : {A B : Type 0} → Fails (Not A) (Not B) ⊥ → Not (A × B)
  removes_touches (inl c) z = c z.0
  removes_touches (inr (inl c)) z = c z.1
  removes_touches (inr (inr b)) z = b

  removes : {A : Type 0} → Fails (Not A) ⊥ ⊥ → Not A
  removes (inl c) = c
  removes (inr (inl b)) = absurd b
  removes (inr (inr b)) = absurd b

  abbrev BadCondition : ConditionKind → Fields → Type 0
  BadCondition greaters f = Not (Q f.a × Q f.b)
  BadCondition at_leasts f = Not (Q f.a × Q f.b)
  BadCondition equals f = Not (Q f.a × Q f.b)
  BadCondition ands f = ⊥
  BadCondition ors f = ⊥
  BadCondition negations f = ⊥

  condition_bad : (kind : ℕ) (what : ConditionKind) → condition_kind kind ≡ some what → BadTree BadCondition what kind
  unfolding condition_kind
  condition_bad kind what e = by_lt kind 6
      (λ h. let there = rw (lt-ltb kind 6 h) at e in absurd (true≢false (cc)))
      (λ h. let there = rw (le-ltb kind 6 h) at e in let same : 6 + (kind - 6) ≡ kind = omega arith in
      subst (BadTree BadCondition what) same (at_place (BadTree BadCondition) 6 (greaters ∷ at_leasts ∷ equals ∷ ands ∷ ors ∷ negations ∷ []) (
        bad_tree BadCondition greaters 6 (λ f. compared) (λ f. compared),
        (
          bad_tree BadCondition at_leasts 7 (λ f. compared) (λ f. compared),
          (
            bad_tree BadCondition equals 8 (λ f. compared) (λ f. compared),
            (
              bad_tree BadCondition ands 9 (λ f. no_field) (λ f. no_field),
              (bad_tree BadCondition ors 10 (λ f. no_field) (λ f. no_field), (bad_tree BadCondition negations 11 (λ f. no_field) (λ f. no_field), tt)),
            ),
          ),
        ),
      )
      (kind - 6) what there))

  abbrev BadStatement : StatementKind → Fields → Type 0
  BadStatement skips f = ⊥
  BadStatement nots f = Not (InList Q f.removed × Q f.a)
  BadStatement sequences f = ⊥
  BadStatement ifs f = ⊥
  BadStatement qcases f = Not (InList Q f.removed × Q f.a)
  BadStatement calls f = Not (InList Q f.removed)

  statement_bad : (kind : ℕ) (what : StatementKind) → statement_kind kind ≡ some what → BadTree BadStatement what kind
  unfolding statement_kind
  statement_bad kind what e = let same : 0 + kind ≡ kind = omega arith in
      subst (BadTree BadStatement what) same (at_place (BadTree BadStatement) 0 (skips ∷ nots ∷ sequences ∷ ifs ∷ qcases ∷ calls ∷ []) (
        bad_tree BadStatement skips 0 (λ f. no_field) (λ f. no_field),
        (
          bad_tree BadStatement nots 1 (λ f. touches) (λ f. removes_touches),
          (
            bad_tree BadStatement sequences 2 (λ f. no_field) (λ f. no_field),
            (
              bad_tree BadStatement ifs 3 (λ f. no_field) (λ f. no_field),
              (bad_tree BadStatement qcases 4 (λ f. touches) (λ f. removes_touches), (bad_tree BadStatement calls 5 (λ f. no_field) (λ f. removes), tt)),
            ),
          ),
        ),
      )
      kind what e)

  -- A condition's tree: what is read behind its record, where its fields are good, and where one is bad.
  abbrev Conditions : (ℕ → Input → Parsed Condition) → (Input → Parsed Condition) → Type 0
  Conditions p q = (i : Input) → Alike Can (InCondition Q) (λ c. Not (InCondition Q c)) (λ m. p m i) (q i)

  condition_of_alike : (p : ℕ → Input → Parsed Condition) (q : Input → Parsed Condition) → Conditions p q → (what : ConditionKind) (f : Fields) → GoodFields f →
      Conditions (λ m. condition_of (p m) what f) (condition_of q what f)
  unfolding condition_of
  condition_of_alike p q h greaters f g i = both_read g.1
  condition_of_alike p q h at_leasts f g i = both_read g.1
  condition_of_alike p q h equals f g i = both_read g.1
  condition_of_alike p q h ands f g i = alike_two Can (InCondition Q) p q conjunction h (λ x y a b. (a, b)) (λ x y z. z) i
  condition_of_alike p q h ors f g i = alike_two Can (InCondition Q) p q disjunction h (λ x y a b. (a, b)) (λ x y z. z) i
  condition_of_alike p q h negations f g i =
      alike_then Can (InCondition Q) (λ c. Not (InCondition Q c)) _ _ (h i) (λ c j x. both_read x) (λ c j n. n)

  condition_of_bad : (q : Input → Parsed Condition) (what : ConditionKind) (f : Fields) → BadCondition what f → (i : Input) →
      Reads (λ c j. Not (InCondition Q c)) Anyhow (condition_of q what f i)
  unfolding condition_of
  condition_of_bad q greaters f b i = b
  condition_of_bad q at_leasts f b i = b
  condition_of_bad q equals f b i = b
  condition_of_bad q ands f b i = absurd b
  condition_of_bad q ors f b i = absurd b
  condition_of_bad q negations f b i = absurd b

  condition_alike : (p depth : ℕ) → Conditions (λ m. condition_by (reader m) p depth) (condition p depth)
  unfolding condition_by condition
  condition_alike p zero i = alike_opening Can (InCondition Q) (λ c. Not (InCondition Q c)) condition_kind i _ _ (λ map kind what j e. both_refused)
  condition_alike p (suc depth) i = alike_opening Can (InCondition Q) (λ c. Not (InCondition Q c)) condition_kind i _ _ (λ map kind what j e.
      contents_alike (InCondition Q) (λ c. Not (InCondition Q c)) p map kind j _ _
      (λ f k g. condition_of_alike (λ m. condition_by (reader m) p depth) (condition p depth) (condition_alike p depth) what f g k)
      (λ ok f k b. condition_of_bad (condition p depth) what f (condition_bad kind what e map f ok b) k))

  -- A statement's tree, in the same way.
  abbrev Statements : (ℕ → Input → Parsed Statement) → (Input → Parsed Statement) → Type 0
  Statements p q = (i : Input) → Alike Can (InStatement Q) (λ s. Not (InStatement Q s)) (λ m. p m i) (q i)

  -- what is made of two statements is bad
  two_bad : (q : Input → Parsed Statement) (make : Statement → Statement → Statement) → ((x y : Statement) → Not (InStatement Q (make x y))) →
      (i : Input) → Reads (λ s j. Not (InStatement Q s)) Anyhow (two q make i)
  unfolding two
  two_bad q make n i = let R : Statement → Input → Type 0 = λ s j. Not (InStatement Q s) in reads_on R (q i) _ (λ x j. reads_on R (q j) _ (λ y k. n x y))

  statement_of_alike : (c : ℕ → Input → Parsed Condition) (d : Input → Parsed Condition) → Conditions c d →
      (p : ℕ → Input → Parsed Statement) (q : Input → Parsed Statement) → Statements p q →
      (what : StatementKind) (f : Fields) → GoodFields f → Statements (λ m. statement_of (c m) (p m) what f) (statement_of d q what f)
  unfolding statement_of
  statement_of_alike c d t p q h skips f g i = both_read tt
  statement_of_alike c d t p q h nots f g i = let z : InList Q f.removed × Q f.a = (g.0, g.1.0) in both_read z
  statement_of_alike c d t p q h sequences f g i = alike_two Can (InStatement Q) p q sequence h (λ x y a b. (a, b)) (λ x y z. z) i
  statement_of_alike c d t p q h ifs f g i = alike_then Can (InStatement Q) (λ s. Not (InStatement Q s)) _ _ (t i)
      (λ x j k. alike_two Can (InStatement Q) p q (if x) h (λ y z a b. (k, (a, b))) (λ y z r. r.1) j)
      (λ x j n. two_bad q (if x) (λ y z r. n r.0) j)
  statement_of_alike c d t p q h qcases f g i =
      alike_two Can (InStatement Q) p q (qcase f.removed f.a) h (λ x y a b. ((g.0, g.1.0), (a, b))) (λ x y z. z.1) i
  statement_of_alike c d t p q h calls f g i = both_read g.0

  statement_of_bad : (d : Input → Parsed Condition) (q : Input → Parsed Statement) (what : StatementKind) (f : Fields) → BadStatement what f → (i : Input) →
      Reads (λ s j. Not (InStatement Q s)) Anyhow (statement_of d q what f i)
  unfolding statement_of
  statement_of_bad d q skips f b i = absurd b
  statement_of_bad d q nots f b i = b
  statement_of_bad d q sequences f b i = absurd b
  statement_of_bad d q ifs f b i = absurd b
  statement_of_bad d q qcases f b i = two_bad q (qcase f.removed f.a) (λ x y r. b r.0) i
  statement_of_bad d q calls f b i = b

  statement_alike : (p depth : ℕ) → Statements (λ m. statement_by (reader m) p depth) (statement p depth)
  unfolding statement_by statement
  statement_alike p zero i = alike_opening Can (InStatement Q) (λ s. Not (InStatement Q s)) statement_kind i _ _ (λ map kind what j e. both_refused)
  statement_alike p (suc depth) i = alike_opening Can (InStatement Q) (λ s. Not (InStatement Q s)) statement_kind i _ _ (λ map kind what j e.
      contents_alike (InStatement Q) (λ s. Not (InStatement Q s)) p map kind j _ _
      (λ f k g. statement_of_alike (λ m. condition_by (reader m) p depth) (condition p depth) (condition_alike p depth)
      (λ m. statement_by (reader m) p depth) (statement p depth) (statement_alike p depth) what f g k)
      (λ ok f k b. statement_of_bad (condition p depth) (statement p depth) what f (statement_bad kind what e map f ok b) k))

  -- the bodies of a table: Q holds of every number of each
  abbrev InBodies : List Statement → Type 0
  InBodies ss = (f : ℕ) → InStatement Q (get_or ss f skip)

  in_more : (s : Statement) (ss : List Statement) → InStatement Q s → InBodies ss → InBodies (s ∷ ss)
  in_more s ss a b zero = a
  in_more s ss a b (suc f) = b f

  -- as many bodies as there are procedures, then all of them behind main
  statements_alike : (p n : ℕ) (i : Input) → Alike Can InBodies (λ ss. Not (InBodies ss)) (λ m. statements_by (reader m) p n i) (statements p n i)
  unfolding statements_by statements
  statements_alike p zero i = both_read (λ f. tt)
  statements_alike p (suc n) i = alike_then Can InBodies (λ ss. Not (InBodies ss)) _ _ (statement_alike p most_depth i)
      (λ s j a. alike_then Can InBodies (λ ss. Not (InBodies ss)) _ _ (statements_alike p n j)
      (λ ss k b. both_read (in_more s ss a b)) (λ ss k c z. c (λ f. z (suc f))))
      (λ s j c. reads_on (λ ss k. Not (InBodies ss)) (statements p n j) _ (λ ss k z. c (z 0)))

  trees_alike : (p : ℕ) (i : Input) → Alike Can (InProgram Q) (λ P. Not (InProgram Q P)) (λ m. trees_by (reader m) p i) (trees p i)
  unfolding trees_by trees
  trees_alike p i = let R : Program → Input → Type 0 = λ P k. Not (InProgram Q P) in
      alike_then Can (InProgram Q) (λ P. Not (InProgram Q P)) _ _ (statement_alike p most_depth i)
      (λ s j a. alike_then Can (InProgram Q) (λ P. Not (InProgram Q P)) _ _ (statements_alike p p j)
      (λ ss k b. alike_provided Can (eqb (length k.bytes) 0) bytes_left _ _ (λ ok. both_read (in_more s ss a b)))
      (λ ss k n. reads_provided R Anyhow (eqb (length k.bytes) 0) bytes_left _ tt (λ ok z. n (λ f. z (suc f)))))
      (λ s j n. reads_on R (statements p p j) _ (λ ss k. reads_provided R Anyhow (eqb (length k.bytes) 0) bytes_left _ tt (λ ok z. n (z 0))))

  -- The readers of tables.
  pub tables_alike : (bs : List ℕ) → Alike Can (InProgram Q) (λ P. Not (InProgram Q P)) (λ m. read_table_by (reader m) bs) (read_table bs)
  unfolding read_table_by read_table
  tables_alike [] = both_refused
  tables_alike (edition ∷ []) = both_refused
  tables_alike (edition ∷ p ∷ rest) =
      alike_provided Can (eqb edition table_edition) wrong_edition _ _ (λ first. alike_provided Can (leb p most_procedures) many_procedures _ _ (λ few.
      trees_alike p (record { bytes = rest; records = 0 })))

-- A reading that did not break off is today's, and all that was read is good.
pub unbroken : {Can A : Type 0} {Good Bad : A → Type 0} {x : ℕ → Parsed A} {y : Parsed A} → Alike Can Good Bad x y →
    (m : ℕ) → (Can → x m ≢ refused m) → ((k : ℕ) → x k ≡ y) × Reads (λ a i. Good a) Anyhow y
unbroken (both_read q) m whole = ((λ k. refl), q)
unbroken both_refused m whole = ((λ k. refl), tt)
unbroken (broken_off c r) m whole = absurd (whole c refl)

-- What is good was read without breaking off.
pub not_broken : {Can A : Type 0} {Good : A → Type 0} {x : ℕ → Parsed A} {y : Parsed A} → Alike Can Good (λ a. Not (Good a)) x y →
    {a : A} {i : Input} → y ≡ parsed a i → Good a → (k : ℕ) → x k ≡ parsed a i
not_broken {Good = Good} (both_read q) e g k = e
not_broken both_refused e g k = e
not_broken {Good = Good} (broken_off {y = y} c r) e g k = absurd ((rw e at r) g)
