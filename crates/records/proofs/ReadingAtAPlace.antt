-- Reading at a place of the table is the model's reading of the bytes from that place on, and gives the record that is written there.
use Prim.Native.Nat.{ℕ, zero, suc, ◌+◌, ◌*◌, ◌≤◌, ◌<◌}
use native.Mathlib.Numerals.{add-one}
use native.Mathlib.Omega.{arith}
use mathlib.Core.Path.{◌≡◌, refl, sym, ap}
use mathlib.Core.Bool.{Bool, true, false, ◌||◌}
use mathlib.Core.List.{List, [], ◌∷◌}
use borrow.Author.Tests.{lt-ltb, le-ltb, le-leb, lt-leb, ne_eqb, eqb-true}
use lib.ListN.{length}
use lib.Dec.{eqb}
use lib.IntN.{ℤ}
use Rattle.std.specs.Prelude.{Result, Ok, Err}
use Rattle.limits.specs.Sizes.{place_count, kind_count}
use Rattle.limits.specs.Refusals as limits
use Rattle.limits.specs.declared.Refusal.{Refusal}
use Rattle.limits.specs.declared.Refusal.TheVariants.{TableStops, WrongField}
use Rattle.model.specs.Limits.{most_removals}
use Rattle.model.specs.Reading as model
use Rattle.model.specs.Reading.{Input, input_at, Parsed, parsed, refused, and_then, provided, byte, most_base, number, numbers, removals, procedure}
use Rattle.model.specs.Reading.{permitted, stands, Fields, optional, fields}
use Rattle.model.specs.Writing.{no_fields, touched_fields, compared_fields, called_fields}
use Rattle.model.proofs.BooleanLaws.{by_eq, by_lt, or_cases, clash}
use Rattle.model.proofs.ByteAtAPlace.{byte_there, byte_past}
use Rattle.records.specs.declared.Number.{Number}
use Rattle.records.specs.declared.Record.{Record}
use Rattle.records.specs.declared.Record.TheVariants as kind
use Rattle.records.specs.Fields.{byte_at, and_then_field, based, written_at, number_at, numbers_at, removals_at, procedure_at, touched_at, compared_at, called_at}
use Rattle.records.specs.Fields.{maybe_removals_at, place_of, after_removals, plain_record, touch_record, comparison_record, call_record, with_number, with_numbers, with_procedure}
use Rattle.records.proofs.FieldLaws.{plain_last, required_none}
use Rattle.records.specs.Fields.{
  fields_at,
  record_of,
  number_of,
  numbers_from,
  removals_of,
  fields_of,
  fields_parsed,
  FieldsRead,
}

byte_next :
    (bs : List ℕ) (at next k : ℕ) → at < length bs → next ≡ at + 1 → byte (input_at bs at k) ≡ parsed (byte_at bs at) (input_at bs next k)
byte_next bs at next k h e = rw e (byte_there bs at k h)

-- a base and a constant are the model's number
based_number : (b : ℕ) (z : ℤ) → model.number_of b z ≡ number_of (based b z)
unfolding based number_of model.number_of
based_number zero z = refl
based_number (suc zero) z = refl
based_number (suc (suc b)) z = refl

-- the model reads this, the reader at a place answers that, and Q holds of it; or both refuse with the same number
data Agree {A X : Type 0} (Q : Type 0) (P : Parsed A) (x : X) : Parsed A → Result X Refusal → Type 0 where
  reads : Q → Agree Q P x P (Ok x)
  refuses : (why : Refusal) → Agree Q P x (refused (limits.number_of why)) (Err why)

-- what is known of it may be turned
knowing : {A X Q R : Type 0} {P S : Parsed A} {x : X} {y : Result X Refusal} → (Q → R) → Agree Q P x S y → Agree R P x S y
knowing f (reads q) = reads (f q)
knowing f (refuses why) = refuses why

-- what the model reads may be changed
changed :
    {A B X Q : Type 0} {y : Result X Refusal} (a : A) (i : Input) (h : A → B) (S : Parsed A) (x : X) → Agree Q (parsed a i) x S y →
    Agree Q (parsed (h a) i) x (and_then S (λ b j. parsed (h b) j)) y
unfolding and_then
changed a i h _ x (reads q) = reads q
changed a i h _ x (refuses why) = refuses why

-- and what the reader answers
turned :
    {A X Y Q : Type 0} {P S : Parsed A} (h : X → Y) (x : X) (y : Result X Refusal) → Agree Q P x S y →
    Agree Q P (h x) S (and_then_field y (λ z. Ok (h z)))
turned h x _ (reads q) = reads q
turned h x _ (refuses why) = refuses why

-- behind a field both go on
field_then :
    {A B X Y Q R : Type 0} {P : Parsed B} {y : Y} (a : A) (i : Input) (f : A → Input → Parsed B) (x : X) (g : X → Result Y Refusal)
    {S : Parsed A} {r : Result X Refusal} → Agree Q (parsed a i) x S r → (Q → Agree R P y (f a i) (g x)) → Agree R P y (and_then S f) (and_then_field r g)
unfolding and_then
field_then a i f x g (reads q) go = go q
field_then a i f x g (refuses why) go = refuses why

-- a number is three bytes
number_agrees :
    (bs : List ℕ) (at k : ℕ) →
    Agree (at + 3 ≤ length bs) (parsed (number_of (written_at bs at)) (input_at bs (at + 3) k)) (written_at bs at, at + 3)
    (number (input_at bs at k)) (number_at bs at)
unfolding number number_at and_then provided
number_agrees bs at k =
    by_lt at (length bs)
    (λ h. by_lt most_base (byte_at bs at)
    (λ b. rw (byte_there bs at k h, lt-ltb at (length bs) h, lt-ltb most_base (byte_at bs at) b, lt-leb (byte_at bs at) most_base b) (refuses WrongField))
    (λ b. rw (byte_there bs at k h, lt-ltb at (length bs) h, le-ltb most_base (byte_at bs at) b, le-leb (byte_at bs at) most_base b)
    (by_lt (at + 1) (length bs)
    (λ l. rw (byte_next bs (at + 1) (at + 2) k l (omega arith))
    (by_lt (at + 2) (length bs)
    (λ e. rw (byte_next bs (at + 2) (at + 3) k e (omega arith), le-leb (at + 3) (length bs) (omega arith), based_number) (reads (omega arith)))
    (λ e. rw (byte_past bs (at + 2) k e, lt-leb (at + 3) (length bs) (omega arith)) (refuses TableStops))))
    (λ l. rw (byte_past bs (at + 1) k l, lt-leb (at + 3) (length bs) (omega arith)) (refuses TableStops)))))
    (λ h. rw (byte_past bs at k h, le-ltb at (length bs) h) (refuses TableStops))

-- so many numbers are three times as many
numbers_agree :
    (n : ℕ) (bs : List ℕ) (at k : ℕ) → at ≤ length bs →
    Agree (at + 3 * n ≤ length bs) (parsed (numbers_from n bs at) (input_at bs (at + 3 * n) k)) (at + 3 * n)
    (numbers n (input_at bs at k)) (numbers_at n bs at)
unfolding numbers numbers_at numbers_from
numbers_agree zero bs at k h = let e : at + 3 * 0 ≡ at = omega arith in rw e (reads h)
numbers_agree (suc n) bs at k h =
    let e : at + 3 * suc n ≡ at + 3 + 3 * n = omega arith in
    rw e
    (field_then _ _ _ _ _ (number_agrees bs at k) λ q.
    changed _ _ (λ ys. number_of (written_at bs at) ∷ ys) _ _ (numbers_agree n bs (at + 3) k q))

-- n lies within w bytes from `at` on, and within the table
pub record Within (bs : List ℕ) (at w n : ℕ) : Type 0 where
  pub low : at ≤ n
  pub high : n ≤ at + w
  pub inside : n ≤ length bs

-- removals are a count of at most 8, and numbers
removals_agree :
    (bs : List ℕ) (at k : ℕ) → 0 < at →
    Agree (Within bs at 25 (at + 1 + 3 * byte_at bs at)) (parsed (removals_of bs at) (input_at bs (at + 1 + 3 * byte_at bs at) k))
    (at + 1 + 3 * byte_at bs at) (removals (input_at bs at k)) (removals_at bs at)
unfolding removals removals_at removals_of and_then provided
removals_agree bs zero k z = absurd (omega arith)
removals_agree bs (suc at) k z =
    by_lt (suc at) (length bs)
    (λ h. rw (byte_there bs (suc at) k h, lt-ltb (suc at) (length bs) h)
    (by_eq (byte_at bs (suc at)) 0
    (λ e. rw e (refuses WrongField))
    (λ f. rw (ne_eqb (byte_at bs (suc at)) 0 f, le-leb 1 (byte_at bs (suc at)) (omega arith))
    (by_lt most_removals (byte_at bs (suc at))
    (λ m. rw (lt-ltb most_removals (byte_at bs (suc at)) m, lt-leb (byte_at bs (suc at)) most_removals m) (refuses WrongField))
    (λ m. rw (le-ltb most_removals (byte_at bs (suc at)) m, le-leb (byte_at bs (suc at)) most_removals m, add-one)
    (knowing (λ q. record { low = omega arith; high = omega arith; inside = q })
    (numbers_agree (byte_at bs (suc at)) bs (suc (suc at)) k h)))))))
    (λ h. rw (byte_past bs (suc at) k h, le-ltb (suc at) (length bs) h) (refuses TableStops))

-- removals, if any
after_agrees :
    (removes : Bool) (bs : List ℕ) (at k : ℕ) → 0 < at → at < place_count → at ≤ length bs →
    Agree (Within bs at 25 (after_removals removes bs at))
    (parsed (removals_of bs (place_of removes at)) (input_at bs (after_removals removes bs at) k)) (after_removals removes bs at)
    (optional removes removals [] (input_at bs at k)) (maybe_removals_at removes bs at)
unfolding optional maybe_removals_at place_of removals_of after_removals
after_agrees true bs at k z l h = rw (lt-ltb at place_count l) (removals_agree bs at k z)
after_agrees false bs at k z l h = reads (record { low = omega arith; high = omega arith; inside = h })

-- a procedure is a byte
procedure_agrees :
    (p : ℕ) (bs : List ℕ) (at k : ℕ) →
    Agree ((0 < byte_at bs at) × (byte_at bs at ≤ p) × (at + 1 ≤ length bs)) (parsed (byte_at bs at) (input_at bs (at + 1) k))
    (byte_at bs at, at + 1) (procedure p (input_at bs at k)) (procedure_at p bs at)
unfolding procedure procedure_at and_then provided
procedure_agrees p bs at k =
    by_lt at (length bs)
    (λ h. rw (byte_there bs at k h, lt-ltb at (length bs) h)
    (by_eq (byte_at bs at) 0
    (λ e. rw e (refuses WrongField))
    (λ f. rw (ne_eqb (byte_at bs at) 0 f, le-leb 1 (byte_at bs at) (omega arith))
    (by_lt p (byte_at bs at)
    (λ m. rw (lt-ltb p (byte_at bs at) m, lt-leb (byte_at bs at) p m) (refuses WrongField))
    (λ m. rw (le-ltb p (byte_at bs at) m, le-leb (byte_at bs at) p m) (reads (omega arith, m, omega arith)))))))
    (λ h. rw (byte_past bs at k h, le-ltb at (length bs) h) (refuses TableStops))

-- the kind of a record
unfoldable pub kind_of : Record → ℕ
kind_of kind.Skip = 0
kind_of (kind.Not at a) = 1
kind_of kind.Sequence = 2
kind_of kind.If = 3
kind_of (kind.Qcase at a) = 4
kind_of (kind.Call at f) = 5
kind_of (kind.Greater a b) = 6
kind_of (kind.AtLeast a b) = 7
kind_of (kind.Equal a b) = 8
kind_of kind.And = 9
kind_of kind.Or = 10
kind_of kind.Negation = 11

-- both give the fields of a record of this kind and the place behind them, within 28 bytes; or both refuse
data RecordAgree (bs : List ℕ) (at k j : ℕ) (r : Record) : Parsed Fields → Result (Record × ℕ) Refusal → Type 0 where
  reads : (next : ℕ) → kind_of r ≡ j → Within bs at 28 next → RecordAgree bs at k j r (parsed (fields_of bs r) (input_at bs next k)) (Ok (r, next))
  refuses : (why : Refusal) → RecordAgree bs at k j r (refused (limits.number_of why)) (Err why)

-- a call of one of p procedures
calling_is : (p at f : ℕ) → 0 < f → f ≤ p → call_record p at f ≡ kind.Call at f
unfolding call_record
calling_is p at f z l = rw (ne_eqb f 0 (omega arith), le-ltb p f l)

-- the map of a kind that has one map only
pub only : (map m : ℕ) → eqb map m || eqb map m ≡ true → map ≡ m
only map m t = or_cases (eqb map m) (eqb map m) t (eqb-true map m) (eqb-true map m)

-- a kind's fields, by what its map has
module _ (p : ℕ) (bs : List ℕ) (at k : ℕ) (h : at ≤ length bs) where
  settled :
      (j next : ℕ) (r s : Record) {S : Parsed Fields} {x : Result (Record × ℕ) Refusal} → kind_of s ≡ j →
      Agree ((r ≡ s) × Within bs at 28 next) (parsed (fields_of bs s) (input_at bs next k)) (s, next) S x → RecordAgree bs at k j r S x
  settled j next r s e (reads q) = rw q.0 (reads next e q.1)
  settled j next r s e (refuses why) = refuses why

  -- no field
  empty_agrees :
      (j : ℕ) (r : Record) → kind_of r ≡ j → fields_of bs r ≡ no_fields → (map : ℕ) → eqb map 0 || eqb map 0 ≡ true →
      RecordAgree bs at k j r (fields p map (input_at bs at k)) (Ok (r, at))
  unfolding fields optional and_then
  empty_agrees j r e f map t =
      rw (only map 0 t, ← f) (reads at e (record { low = omega arith; high = omega arith; inside = h }))

  -- numbers a and b
  compared_agrees :
      (j : ℕ) (make : Number → Number → Record) → ((a b : Number) → kind_of (make a b) ≡ j) →
      ((a b : Number) → fields_of bs (make a b) ≡ compared_fields (number_of a) (number_of b)) → (map : ℕ) → eqb map 6 || eqb map 6 ≡ true →
      RecordAgree bs at k j (make (written_at bs at) (written_at bs (at + 3))) (fields p map (input_at bs at k)) (with_numbers make bs at)
  unfolding fields optional and_then with_numbers compared_at
  compared_agrees j make e f map t =
      rw (only map 6 t)
      (settled j (at + 3 + 3) _ (make (written_at bs at) (written_at bs (at + 3))) (e _ _)
      (rw f
      (turned (λ t. (make t.0.0 t.0.1, t.1)) ((written_at bs at, written_at bs (at + 3)), at + 3 + 3) _
      (field_then _ _ _ _ _ (number_agrees bs at k) λ a.
      field_then _ _ _ _ _ (number_agrees bs (at + 3) k) λ b.
      reads (refl, record { low = omega arith; high = omega arith; inside = b })))))

  module _ (z : 0 < at) (s : at < place_count) where
    -- removals, if any, then number a
    touched_from :
        (j : ℕ) (make : ℕ → Number → Record) → ((place : ℕ) (a : Number) → kind_of (make place a) ≡ j) →
        ((place : ℕ) (a : Number) → fields_of bs (make place a) ≡ touched_fields (removals_of bs place) (number_of a)) → (removes : Bool) →
        RecordAgree bs at k j (make (place_of removes at) (written_at bs (after_removals removes bs at)))
        (and_then (optional removes removals [] (input_at bs at k)) (λ rs i. and_then (number i) (λ a l. parsed (touched_fields rs a) l)))
        (with_number make removes bs at)
    unfolding with_number touched_at
    touched_from j make e f removes =
        settled j (after_removals removes bs at + 3) _ (make (place_of removes at) (written_at bs (after_removals removes bs at))) (e _ _)
        (rw f
        (turned (λ t. (make t.0.0 t.0.1, t.1)) ((place_of removes at, written_at bs (after_removals removes bs at)), after_removals removes bs at + 3) _
        (field_then _ _ _ _ _ (after_agrees removes bs at k z s h) λ w.
        field_then _ _ _ _ _ (number_agrees bs (after_removals removes bs at) k) λ q.
        reads (refl, record { low = omega arith; high = omega arith; inside = q }))))

    touched_agrees :
        (j : ℕ) (make : ℕ → Number → Record) → ((place : ℕ) (a : Number) → kind_of (make place a) ≡ j) →
        ((place : ℕ) (a : Number) → fields_of bs (make place a) ≡ touched_fields (removals_of bs place) (number_of a)) → (map : ℕ) →
        eqb map 2 || eqb map 3 ≡ true →
        RecordAgree bs at k j (make (place_of (stands 0 map) at) (written_at bs (after_removals (stands 0 map) bs at)))
        (fields p map (input_at bs at k)) (with_number make (stands 0 map) bs at)
    unfolding fields optional and_then
    touched_agrees j make e f map t =
        or_cases (eqb map 2) (eqb map 3) t
        (λ q. rw (eqb-true map 2 q) (touched_from j make e f false)) (λ q. rw (eqb-true map 3 q) (touched_from j make e f true))

    -- removals, if any, then a procedure
    called_from :
        (removes : Bool) →
        RecordAgree bs at k 5 (call_record p (place_of removes at) (byte_at bs (after_removals removes bs at)))
        (and_then (optional removes removals [] (input_at bs at k)) (λ rs i. and_then (procedure p i) (λ f l. parsed (called_fields rs f) l)))
        (with_procedure p removes bs at)
    unfolding with_procedure called_at fields_of kind_of
    called_from removes =
        settled 5 (after_removals removes bs at + 1) _ (kind.Call (place_of removes at) (byte_at bs (after_removals removes bs at))) refl
        (turned (λ t. (kind.Call t.0.0 t.0.1, t.1)) ((place_of removes at, byte_at bs (after_removals removes bs at)), after_removals removes bs at + 1) _
        (field_then _ _ _ _ _ (after_agrees removes bs at k z s h) λ w.
        field_then _ _ _ _ _ (procedure_agrees p bs (after_removals removes bs at) k) λ q.
        reads (calling_is p _ _ q.0 q.1, record { low = omega arith; high = omega arith; inside = q.2 })))

    called_agrees :
        (map : ℕ) → eqb map 8 || eqb map 9 ≡ true →
        RecordAgree bs at k 5 (call_record p (place_of (stands 0 map) at) (byte_at bs (after_removals (stands 0 map) bs at)))
        (fields p map (input_at bs at k)) (with_procedure p (stands 0 map) bs at)
    unfolding fields optional and_then
    called_agrees map t =
        or_cases (eqb map 8) (eqb map 9) t
        (λ q. rw (eqb-true map 8 q) (called_from false)) (λ q. rw (eqb-true map 9 q) (called_from true))

-- the kinds 0 to 11
pub by_kinds :
    (C : ℕ → Type 0) → C 0 → C 1 → C 2 → C 3 → C 4 → C 5 → C 6 → C 7 → C 8 → C 9 → C 10 → C 11 → (j : ℕ) → j < kind_count → C j
by_kinds C c0 c1 c2 c3 c4 c5 c6 c7 c8 c9 c10 c11 j l =
    by_eq j 0 (λ e. rw e c0) λ f0. let l1 = past 0 j (omega arith) f0 in
    by_eq j 1 (λ e. rw e c1) λ f1. let l2 = past 1 j l1 f1 in
    by_eq j 2 (λ e. rw e c2) λ f2. let l3 = past 2 j l2 f2 in
    by_eq j 3 (λ e. rw e c3) λ f3. let l4 = past 3 j l3 f3 in
    by_eq j 4 (λ e. rw e c4) λ f4. let l5 = past 4 j l4 f4 in
    by_eq j 5 (λ e. rw e c5) λ f5. let l6 = past 5 j l5 f5 in
    by_eq j 6 (λ e. rw e c6) λ f6. let l7 = past 6 j l6 f6 in
    by_eq j 7 (λ e. rw e c7) λ f7. let l8 = past 7 j l7 f7 in
    by_eq j 8 (λ e. rw e c8) λ f8. let l9 = past 8 j l8 f8 in
    by_eq j 9 (λ e. rw e c9) λ f9. let l10 = past 9 j l9 f9 in
    by_eq j 10 (λ e. rw e c10) λ f10.
    rw (last j l (past 10 j l10 f10)) c11
  where
    past : (n j : ℕ) → n ≤ j → (j ≡ n → ⊥) → n + 1 ≤ j
    past n j l f = omega arith

    last : (j : ℕ) → j < kind_count → 11 ≤ j → j ≡ 11
    last j l m = omega arith

module _ (p j map : ℕ) (bs : List ℕ) (at k : ℕ) (z : 0 < at) (s : at < place_count) (h : at ≤ length bs) (l : j < kind_count) (t : permitted j map ≡ true) where
  -- the fields of a record are read at a place as the model reads them from the bytes from there on, where the map is permitted
  fields_agree : RecordAgree bs at k j (record_of p j (stands 0 map) bs at) (fields p map (input_at bs at k)) (fields_at p j (stands 0 map) bs at)
  unfolding fields_at record_of plain_record touch_record comparison_record fields_of kind_of
  fields_agree =
      by_kinds (λ (i : ℕ). permitted i map ≡ true →
      RecordAgree bs at k i (record_of p i (stands 0 map) bs at) (fields p map (input_at bs at k)) (fields_at p i (stands 0 map) bs at))
      (empty_agrees p bs at k h 0 kind.Skip refl refl map)
      (touched_agrees p bs at k h z s 1 kind.Not (λ place a. refl) (λ place a. refl) map)
      (empty_agrees p bs at k h 2 kind.Sequence refl refl map)
      (empty_agrees p bs at k h 3 kind.If refl refl map)
      (touched_agrees p bs at k h z s 4 kind.Qcase (λ place a. refl) (λ place a. refl) map)
      (called_agrees p bs at k h z s map)
      (compared_agrees p bs at k h 6 kind.Greater (λ a b. refl) (λ a b. refl) map)
      (compared_agrees p bs at k h 7 kind.AtLeast (λ a b. refl) (λ a b. refl) map)
      (compared_agrees p bs at k h 8 kind.Equal (λ a b. refl) (λ a b. refl) map)
      (empty_agrees p bs at k h 9 kind.And refl refl map)
      (empty_agrees p bs at k h 10 kind.Or refl refl map)
      (empty_agrees p bs at k h 11 kind.Negation refl refl map)
      j l t

  pub fields_read : fields p map (input_at bs at k) ≡ fields_parsed bs k (fields_at p j (stands 0 map) bs at)
  unfolding fields_parsed
  fields_read = go fields_agree
    where
      go : {S : Parsed Fields} {x : Result (Record × ℕ) Refusal} → RecordAgree bs at k j (record_of p j (stands 0 map) bs at) S x → S ≡ fields_parsed bs k x
      go (reads next e w) = refl
      go (refuses why) = refl

  -- the same by cases: both give the record that is written there, which is of its kind, and the place behind it; or both refuse
  pub fields_cases :
      (C : Parsed Fields → Result (Record × ℕ) Refusal → Type 0) →
      ((r : Record) (next : ℕ) → record_of p j (stands 0 map) bs at ≡ r → kind_of r ≡ j → Within bs at 28 next →
      C (parsed (fields_of bs r) (input_at bs next k)) (Ok (r, next))) →
      ((why : Refusal) → C (refused (limits.number_of why)) (Err why)) → C (fields p map (input_at bs at k)) (fields_at p j (stands 0 map) bs at)
  fields_cases C give refuse = go fields_agree
    where
      go : {S : Parsed Fields} {x : Result (Record × ℕ) Refusal} → RecordAgree bs at k j (record_of p j (stands 0 map) bs at) S x → C S x
      go (reads next e w) = give _ next refl e w
      go (refuses why) = refuse why

-- a record that was read has at most 8 removals, which stand inside the table
few_removals :
    {X Y : Type 0} (bs : List ℕ) (at : ℕ) (f : ℕ → Result X Refusal) (g : X → Result Y Refusal) (y : Y) →
    and_then_field (and_then_field (removals_at bs at) f) g ≡ Ok y → (at < length bs) × (byte_at bs at ≤ most_removals)
unfolding removals_at
few_removals bs at f g y e =
    by_lt at (length bs)
    (λ h. by_lt most_removals (byte_at bs at)
    (λ m. absurd (no_ok WrongField (rw (lt-ltb at (length bs) h, ne_eqb (byte_at bs at) 0 (omega arith), lt-ltb most_removals (byte_at bs at) m) at e)))
    (λ m. (h, m)))
    (λ h. absurd (no_ok TableStops (rw (le-ltb at (length bs) h) at e)))
  where
    no_ok : (why : Refusal) → Err why ≡ Ok y → ⊥
    no_ok why q = cc

pub removals_read :
    (p j map : ℕ) (bs : List ℕ) (at : ℕ) (r : Record) (next : ℕ) → j < kind_count → permitted j map ≡ true →
    fields_at p j (stands 0 map) bs at ≡ Ok (r, next) → stands 0 map ≡ true → (at < length bs) × (byte_at bs at ≤ most_removals)
unfolding fields_at with_number with_procedure touched_at called_at maybe_removals_at
removals_read p j map bs at r next l t e q =
    by_kinds (λ (j : ℕ). permitted j map ≡ true → fields_at p j true bs at ≡ Ok (r, next) → (at < length bs) × (byte_at bs at ≤ most_removals))
    (λ t e. none t) (λ t e. few_removals bs at _ _ _ e) (λ t e. none t) (λ t e. none t) (λ t e. few_removals bs at _ _ _ e)
    (λ t e. few_removals bs at _ _ _ e) (λ t e. compares t) (λ t e. compares t) (λ t e. compares t) (λ t e. none t) (λ t e. none t) (λ t e. none t)
    j l t (rw q at e)
  where
    none : eqb map 0 || eqb map 0 ≡ true → (at < length bs) × (byte_at bs at ≤ most_removals)
    none t = clash q (rw (only map 0 t))

    compares : eqb map 6 || eqb map 6 ≡ true → (at < length bs) × (byte_at bs at ≤ most_removals)
    compares t = clash q (rw (only map 6 t))

-- the reader's answer says what the model reads
pub fields_are_read : (p kind : ℕ) (removes : Bool) (bs : List ℕ) (at : ℕ) (r : Result (Record × ℕ) Refusal) → r ≡ fields_at p kind removes bs at → FieldsRead p kind removes bs at r
unfolding FieldsRead
fields_are_read p kind removes bs at r e map k t m l z s h = rw (e, ← m) (sym (fields_read p kind map bs at k z s h l t))

-- behind a byte that is no kind stands no field
pub fields_of_none : (p k : ℕ) (removes : Bool) (bs : List ℕ) (at : ℕ) → kind_count ≤ k → Ok (kind.Skip, at) ≡ fields_at p k removes bs at
unfolding fields_at
fields_of_none p k removes bs at l =
    rw (← required_none k k refl l)
    (ap (λ r. Ok (r, at)) (plain_last k (λ e. omega arith) (λ e. omega arith) (λ e. omega arith) (λ e. omega arith) (λ e. omega arith)))
