-- The writer of tables and the reader: writing what was read gives exactly the bytes, reading what is written gives the program.
use mathlib.Core.Path.{◌≡◌, refl, sym, ap, ◌∙◌, subst}
use mathlib.Core.Bool.{Bool, true, false, ◌&&◌, cond, false≢true}
use mathlib.Core.List.{List, [], ◌∷◌, ◌++◌, append_assoc, append-nil}
use mathlib.Core.Option.{Option, some}
use Prim.Native.Nat.{ℕ, zero, suc, ◌+◌, ◌*◌, ◌-◌, ◌/◌, ◌%◌, ◌≤◌, ◌<◌}
use native.Mathlib.Nat.{add_assoc}
use native.Mathlib.Omega.{arith}
use borrow.Author.Tests.{lt-ltb, le-ltb, le-leb, ltb-true, leb-true, eqb-true}
use lib.ListN.{length, get_or, get_elem?, drop}
use lib.Dec.{eqb, ltb, leb}
use lib.IntN.{ℤ, pos, negsuc}
use Rattle.model.specs.Limits.{most_procedures, most_records, most_depth, most_removals, table_edition}
use Rattle.model.specs.Limits.{wrong_edition, many_procedures, wrong_map, wrong_field, too_deep, bytes_left}
use Rattle.model.specs.Syntax.{Number, constant, size_plus, left_plus, Condition, greater, at_least, equal, conjunction, disjunction, negation}
use Rattle.model.specs.Syntax.{Statement, skip, NOT, sequence, if, qcase, call, Program, count}
use Rattle.model.specs.Reading.{Input, Parsed, parsed, and_then, provided, byte_of, byte, signed16, number_of, most_base, number, numbers}
use Rattle.model.specs.Reading.{removals, procedure, permitted_maps, required_map, optional_map, permitted, stands, Fields, optional, fields}
use Rattle.model.specs.Reading.{StatementKind, skips, nots, sequences, ifs, qcases, calls, statement_kind, known, opening, counted, contents, two}
use Rattle.model.specs.Reading.{ConditionKind, greaters, at_leasts, equals, ands, ors, negations, condition_kind}
use Rattle.model.specs.Reading.{condition_of, condition, statement_of, statement, statements, trees, read_table}
use Rattle.model.specs.Reach.{is_empty}
use Rattle.model.specs.Writing.{bits16, based_bytes, number_bytes, numbers_bytes, removal_bytes, map_of, where_stands, field_bytes, record_bytes, absent}
use Rattle.model.specs.Writing.{no_fields, touched_fields, compared_fields, called_fields}
use Rattle.model.specs.Writing.{condition_bytes, head_bytes, statement_bytes, statements_bytes, write_table}
use Rattle.model.proofs.BooleanLaws.{by_lt, and_left, and_right, or_cases}
use Rattle.model.proofs.ReadingLaws.{Reads, reads_then, reads_provided, reads_less, Anyhow, valued, no_bytes}
pub use Rattle.model.proofs.RoundTrip.{Bytes, left}

-- Bytes: none, one more, those behind the first k, and some behind others.
bytes_none : Bytes []
bytes_none k = omega arith

bytes_cons : (b : ℕ) (bs : List ℕ) → b < 256 → Bytes bs → Bytes (b ∷ bs)
bytes_cons b bs h g zero = h
bytes_cons b bs h g (suc k) = g k

pub bytes_drop : (k : ℕ) (bs : List ℕ) → Bytes bs → Bytes (drop k bs)
bytes_drop zero bs h = h
bytes_drop (suc k) [] h = h
bytes_drop (suc k) (b ∷ bs) h = bytes_drop k bs (λ n. h (suc n))

bytes_append : (l m : List ℕ) → Bytes l → Bytes m → Bytes (l ++ m)
bytes_append [] m h g = g
bytes_append (b ∷ l) m h g = bytes_cons b (l ++ m) (h 0) (bytes_append l m (bytes_drop 1 (b ∷ l) h) g)

-- between two inputs stand the bytes l and n records; bytes follow, and no more records came before them than may be
record Took (l : List ℕ) (n : ℕ) (i j : Input) : Type 0 where
  spelled : i.bytes ≡ l ++ j.bytes
  counts : j.records ≡ n + i.records
  behind : Bytes j.bytes
  bounded : i.records ≤ most_records → j.records ≤ most_records

took_none : (i : Input) → Bytes i.bytes → Took [] 0 i i
took_none i ok = record { spelled = refl; counts = omega arith; behind = ok; bounded = λ h. h }

took_then : (l m : List ℕ) (n o : ℕ) {i j k : Input} → Took l n i j → Took m o j k → Took (l ++ m) (n + o) i k
took_then l m n o {i} {j} {k} s t = record {
  spelled = s.spelled ∙ ap (λ x. l ++ x) t.spelled ∙ sym (append_assoc l m k.bytes);
  counts = omega (arith, s.counts, t.counts);
  behind = t.behind;
  bounded = λ h. t.bounded (s.bounded h);
}

-- What a table can hold. "a signed 16-bit constant"
abbrev pub Signed16 : ℤ → Type 0
Signed16 (pos k) = k < 32768
Signed16 (negsuc k) = k < 32768

abbrev pub NumberFits : Number → Type 0
NumberFits (constant z) = Signed16 z
NumberFits (size_plus z) = Signed16 z
NumberFits (left_plus z) = Signed16 z

abbrev pub NumbersFit : List Number → Type 0
NumbersFit [] = Unit {0}
NumbersFit (a ∷ rs) = NumberFits a × NumbersFit rs

-- "a count byte 1 to 8, then that many numbers"; no removals stand without bit 0
abbrev pub RemovalsFit : List Number → Type 0
RemovalsFit rs = (length rs ≤ most_removals) × NumbersFit rs

-- "a procedure byte, 1 to p"
abbrev pub ProcedureFits : ℕ → ℕ → Type 0
ProcedureFits p f = (1 ≤ f) × (f ≤ p)

-- a condition whose tree is at most `depth` records deep, with numbers that fit
unfoldable pub ConditionFits : ℕ → Condition → Type 0
ConditionFits zero c = ⊥
ConditionFits (suc depth) (greater a b) = NumberFits a × NumberFits b
ConditionFits (suc depth) (at_least a b) = NumberFits a × NumberFits b
ConditionFits (suc depth) (equal a b) = NumberFits a × NumberFits b
ConditionFits (suc depth) (conjunction c d) = ConditionFits depth c × ConditionFits depth d
ConditionFits (suc depth) (disjunction c d) = ConditionFits depth c × ConditionFits depth d
ConditionFits (suc depth) (negation c) = ConditionFits depth c

-- a statement of a table with p procedures, whose tree is at most `depth` records deep, with fields that fit
unfoldable pub StatementFits : ℕ → ℕ → Statement → Type 0
StatementFits p zero s = ⊥
StatementFits p (suc depth) skip = Unit {0}
StatementFits p (suc depth) (NOT rs a) = RemovalsFit rs × NumberFits a
StatementFits p (suc depth) (sequence s t) = StatementFits p depth s × StatementFits p depth t
StatementFits p (suc depth) (if c s t) = ConditionFits depth c × (StatementFits p depth s × StatementFits p depth t)
StatementFits p (suc depth) (qcase rs a s t) = (RemovalsFit rs × NumberFits a) × (StatementFits p depth s × StatementFits p depth t)
StatementFits p (suc depth) (call rs f) = RemovalsFit rs × ProcedureFits p f

-- statements that each fit a tree, "at most 32 records deep"
unfoldable pub StatementsFit : ℕ → List Statement → Type 0
StatementsFit p [] = Unit {0}
StatementsFit p (s ∷ ss) = StatementFits p most_depth s × StatementsFit p ss

-- how many records a condition has
unfoldable pub condition_records : Condition → ℕ
condition_records (greater a b) = 1
condition_records (at_least a b) = 1
condition_records (equal a b) = 1
condition_records (conjunction c d) = 1 + (condition_records c + condition_records d)
condition_records (disjunction c d) = 1 + (condition_records c + condition_records d)
condition_records (negation c) = 1 + condition_records c

-- how many a statement has, with those of its conditions
unfoldable pub statement_records : Statement → ℕ
statement_records skip = 1
statement_records (NOT rs a) = 1
statement_records (sequence s t) = 1 + (statement_records s + statement_records t)
statement_records (if c s t) = 1 + condition_records c + (statement_records s + statement_records t)
statement_records (qcase rs a s t) = 1 + (statement_records s + statement_records t)
statement_records (call rs f) = 1

-- how many statements have together
unfoldable pub statements_records : List Statement → ℕ
statements_records [] = 0
statements_records (s ∷ ss) = statement_records s + statements_records ss

-- a program that a table holds: at most 16 procedures, main and every body a tree that fits, and at most 255 records in all
pub record ProgramFits (P : Program) : Type 0 where
  pub few : count P ≤ most_procedures
  pub all_fit : StatementsFit (count P) (P.main ∷ P.procedures)
  pub small : statements_records (P.main ∷ P.procedures) ≤ most_records

-- two bytes make a constant in 16 bits, which has these bytes; and a constant's two bytes make it again
signed_bytes : (base low high : ℕ) → low < 256 → high < 256 →
    Signed16 (signed16 low high) × (based_bytes base (signed16 low high) ≡ base ∷ low ∷ high ∷ [])
unfolding signed16 bits16
signed_bytes base low high a b =
    let n = low + 256 * high in
    let e₀ : n % 256 ≡ low = omega arith in let e₁ : n / 256 ≡ high = omega arith in
    by_lt n 32768 (λ h. rw (lt-ltb n 32768 h) (h, rw (e₀, e₁)))
    (λ h. let e : 65535 - (65535 - n) ≡ n = omega arith in rw (le-ltb n 32768 h) (omega arith, rw (e, e₀, e₁)))

bits_signed : (z : ℤ) → Signed16 z → (signed16 (bits16 z % 256) (bits16 z / 256) ≡ z) × (bits16 z < 65536)
unfolding signed16 bits16
bits_signed (pos k) h = let e : k % 256 + 256 * (k / 256) ≡ k = omega arith in (rw (e, lt-ltb k 32768 h), omega arith)
bits_signed (negsuc k) h = let n = 65535 - k in
    let e : n % 256 + 256 * (n / 256) ≡ n = omega arith in (rw (e, le-ltb n 32768 (omega arith)) (ap negsuc (omega arith)), omega arith)

-- a number that is read from a base and a constant
based : (base : ℕ) (z : ℤ) → base ≤ most_base → Signed16 z → NumberFits (number_of base z) × (number_bytes (number_of base z) ≡ based_bytes base z)
unfolding number_of number_bytes
based zero z h s = (s, refl)
based (suc zero) z h s = (s, refl)
based (suc (suc zero)) z h s = (s, refl)
based (suc (suc (suc base))) z h s = absurd (omega arith)

-- what holds of every entry of a list, and of 0, holds at every place
abbrev Each : (ℕ → Type 0) → List ℕ → Type 0
Each Q [] = Q 0
Each Q (e ∷ l) = Q e × Each Q l

each_at : (Q : ℕ → Type 0) (l : List ℕ) → Each Q l → (k : ℕ) → Q (get_or l k 0)
each_at Q [] h k = h
each_at Q (e ∷ l) h zero = h.0
each_at Q (e ∷ l) h (suc k) = each_at Q l h.1 k

-- both maps of an entry, the required bits and those with the optional one, are the required bits and 1 where bit 0 stands
abbrev Bit0 : ℕ → ℕ → Type 0
Bit0 required map = map ≡ required + valued (stands 0 map) 1

entry_bit : (kind : ℕ) → Bit0 (required_map kind) (required_map kind) × Bit0 (required_map kind) (required_map kind + optional_map kind)
entry_bit kind = each_at (λ e. Bit0 (e % 16) (e % 16) × Bit0 (e % 16) (e % 16 + e / 16)) permitted_maps (
  (refl, refl),
  (
    (refl, refl),
    (
      (refl, refl),
      (
        (refl, refl),
        (
          (refl, refl),
          (
            (refl, refl),
            (
              (refl, refl),
              ((refl, refl), ((refl, refl), ((refl, refl), ((refl, refl), ((refl, refl), (refl, refl)))))),
            ),
          ),
        ),
      ),
    ),
  ),
) kind

permitted_bit : (kind map : ℕ) → permitted kind map ≡ true → Bit0 (required_map kind) map
permitted_bit kind map ok = let r = required_map kind in let o = optional_map kind in
    or_cases (eqb map r) (eqb map (r + o)) ok
    (λ e. subst (Bit0 r) (sym (eqb-true map r e)) (entry_bit kind).0)
    (λ e. subst (Bit0 r) (sym (eqb-true map (r + o) e)) (entry_bit kind).1)

-- a list whose entries are numbered from n on; what stands at its place k has the number n + k
abbrev Numbered : {K : Type 0} → (K → ℕ) → ℕ → List K → Type 0
Numbered number n [] = Unit {0}
Numbered number n (w ∷ l) = (number w ≡ n) × Numbered number (suc n) l

numbered_at : {K : Type 0} (number : K → ℕ) (n : ℕ) (l : List K) → Numbered number n l → (k : ℕ) (w : K) → get_elem? l k ≡ some w → number w ≡ n + k
numbered_at number n [] h k w e = cc
numbered_at number n (v ∷ l) h zero w e = let same : v ≡ w = cc in omega (arith, h.0, ap number same)
numbered_at number n (v ∷ l) h (suc k) w e = omega (arith, numbered_at number (suc n) l h.1 k w e)

-- the number of each kind of condition, and no other number is read as that kind
abbrev condition_number : ConditionKind → ℕ
condition_number greaters = 6
condition_number at_leasts = 7
condition_number equals = 8
condition_number ands = 9
condition_number ors = 10
condition_number negations = 11

condition_number_lem : (kind : ℕ) (what : ConditionKind) → condition_kind kind ≡ some what → kind ≡ condition_number what
unfolding condition_kind
condition_number_lem kind what e = by_lt kind 6 (λ h. let f = rw (lt-ltb kind 6 h) at e in cc) (λ h. let f = rw (le-ltb kind 6 h) at e in
    let all = greaters ∷ at_leasts ∷ equals ∷ ands ∷ ors ∷ negations ∷ [] in
    omega (arith, numbered_at condition_number 6 all (refl, (refl, (refl, (refl, (refl, (refl, tt)))))) (kind - 6) what f))

-- and of each kind of statement
abbrev statement_number : StatementKind → ℕ
statement_number skips = 0
statement_number nots = 1
statement_number sequences = 2
statement_number ifs = 3
statement_number qcases = 4
statement_number calls = 5

statement_number_lem : (kind : ℕ) (what : StatementKind) → statement_kind kind ≡ some what → kind ≡ statement_number what
unfolding statement_kind
statement_number_lem kind what e = let all = skips ∷ nots ∷ sequences ∷ ifs ∷ qcases ∷ calls ∷ [] in
    omega (arith, numbered_at statement_number 0 all (refl, (refl, (refl, (refl, (refl, (refl, tt)))))) kind what e)

module _ (p : ℕ) where
  -- a reader and a writer of a field: what is read fits and has those bytes, what fits is read back, and its bytes are bytes
  record Field {A : Type 0} (reader : Input → Parsed A) (bytes : A → List ℕ) (Fits : A → Type 0) : Type 0 where
    takes : (i : Input) → Bytes i.bytes → Reads (λ x j. Fits x × Took (bytes x) 0 i j) Anyhow (reader i)
    back : (x : A) → Fits x → (rest : List ℕ) (k : ℕ) → reader (left (bytes x ++ rest) k) ≡ parsed x (left rest k)
    held : p ≤ most_procedures → (x : A) → Fits x → Bytes (bytes x)

  byte_field : Field byte (λ b. b ∷ []) (λ b. b < 256)
  unfolding byte_of
  byte_field = record { takes = λ i ok. go i i.bytes ok; back = λ b h rest k. refl; held = λ few b h. bytes_cons b [] h bytes_none }
    where
      go : (i : Input) (bs : List ℕ) → Bytes bs → Reads (λ b j. (b < 256) × Took (b ∷ []) 0 (left bs i.records) j) Anyhow (byte_of bs i.records)
      go i [] ok = tt
      go i (b ∷ bs) ok = (ok 0, record { spelled = refl; counts = omega arith; behind = bytes_drop 1 (b ∷ bs) ok; bounded = λ h. h })

  number_takes : (i : Input) → Bytes i.bytes → Reads (λ x j. NumberFits x × Took (number_bytes x) 0 i j) Anyhow (number i)
  unfolding number
  number_takes i ok = let Q : Number → Input → Type 0 = λ x j. NumberFits x × Took (number_bytes x) 0 i j in
      reads_then _ Q Anyhow (byte i) _ (byte_field.takes i ok) (λ base j q. reads_provided Q Anyhow (leb base most_base) wrong_field _ tt (λ small.
      reads_then _ Q Anyhow (byte j) _ (byte_field.takes j q.1.behind) (λ low k r.
      reads_then _ Q Anyhow (byte k) _ (byte_field.takes k r.1.behind) (λ high l s.
      let z = signed_bytes base low high r.0 s.0 in let x = based base (signed16 low high) (leb-true base most_base small) z.0 in (
        x.0,
        subst (λ (y : List ℕ). Took y 0 i l) (sym (x.1 ∙ z.1))
            (took_then (base ∷ []) (low ∷ high ∷ []) 0 0 q.1 (took_then (low ∷ []) (high ∷ []) 0 0 r.1 s.1)),
      )))))

  number_field_lem : Field number number_bytes NumberFits
  unfolding number number_bytes number_of and_then provided byte_of
  number_field_lem = record { takes = number_takes; back = back; held = λ few. held }
    where
      back : (x : Number) → NumberFits x → (rest : List ℕ) (k : ℕ) → number (left (number_bytes x ++ rest) k) ≡ parsed x (left rest k)
      back (constant z) h rest k = rw (bits_signed z h).0
      back (size_plus z) h rest k = rw (bits_signed z h).0
      back (left_plus z) h rest k = rw (bits_signed z h).0

      based_held : (base : ℕ) (z : ℤ) → base < 256 → Signed16 z → Bytes (based_bytes base z)
      based_held base z h s = let small = (bits_signed z s).1 in let n = bits16 z in
          bytes_cons base (n % 256 ∷ n / 256 ∷ []) h (bytes_cons (n % 256) (n / 256 ∷ []) (omega arith) (bytes_cons (n / 256) [] (omega arith) bytes_none))

      held : (x : Number) → NumberFits x → Bytes (number_bytes x)
      held (constant z) h = based_held 0 z (omega arith) h
      held (size_plus z) h = based_held 1 z (omega arith) h
      held (left_plus z) h = based_held 2 z (omega arith) h

  -- as many numbers as asked for
  numbers_takes : (n : ℕ) (i : Input) → Bytes i.bytes →
      Reads (λ rs j. (length rs ≡ n) × NumbersFit rs × Took (numbers_bytes rs) 0 i j) Anyhow (numbers n i)
  unfolding numbers numbers_bytes
  numbers_takes zero i ok = (refl, tt, took_none i ok)
  numbers_takes (suc n) i ok =
      let Q : List Number → Input → Type 0 = λ rs j. (length rs ≡ suc n) × NumbersFit rs × Took (numbers_bytes rs) 0 i j in
      reads_then _ Q Anyhow (number i) _ (number_takes i ok) (λ a j q. reads_then _ Q Anyhow (numbers n j) _ (numbers_takes n j q.1.behind) (λ rs k r.
      (ap suc r.0, (q.0, r.1), took_then (number_bytes a) (numbers_bytes rs) 0 0 q.1 r.2)))

  numbers_back : (rs : List Number) → NumbersFit rs → (rest : List ℕ) (k : ℕ) →
      numbers (length rs) (left (numbers_bytes rs ++ rest) k) ≡ parsed rs (left rest k)
  unfolding numbers numbers_bytes and_then
  numbers_back [] h rest k = refl
  numbers_back (a ∷ rs) h rest k =
      rw (append_assoc (number_bytes a) (numbers_bytes rs) rest, number_field_lem.back a h.0 (numbers_bytes rs ++ rest) k) (rw (numbers_back rs h.1 rest k))

  numbers_held : p ≤ most_procedures → (rs : List Number) → NumbersFit rs → Bytes (numbers_bytes rs)
  unfolding numbers_bytes
  numbers_held few [] h = bytes_none
  numbers_held few (a ∷ rs) h = bytes_append (number_bytes a) (numbers_bytes rs) (number_field_lem.held few a h.0) (numbers_held few rs h.1)

  -- removals that stand are at least one
  abbrev RemovalsStand : List Number → Type 0
  RemovalsStand rs = (1 ≤ length rs) × RemovalsFit rs

  removals_takes : (i : Input) → Bytes i.bytes → Reads (λ rs j. RemovalsStand rs × Took (removal_bytes rs) 0 i j) Anyhow (removals i)
  unfolding removals
  removals_takes i ok = let Q : List Number → Input → Type 0 = λ rs j. RemovalsStand rs × Took (removal_bytes rs) 0 i j in
      reads_then _ Q Anyhow (byte i) _ (byte_field.takes i ok) (λ n j q.
      reads_provided Q Anyhow (leb 1 n && leb n most_removals) wrong_field _ tt (λ range.
      let some : 1 ≤ n = leb-true 1 n (and_left (leb 1 n) (leb n most_removals) range) in
      let most : n ≤ most_removals = leb-true n most_removals (and_right (leb 1 n) (leb n most_removals) range) in
      reads_less _ Q Anyhow (numbers n j) (λ rs k r. (
        (omega (arith, r.0), (omega (arith, r.0), r.1)),
        subst (λ (m : ℕ). Took (m ∷ numbers_bytes rs) 0 i k) (sym r.0) (took_then (n ∷ []) (numbers_bytes rs) 0 0 q.1 r.2),
      ))
      (numbers_takes n j q.1.behind)))

  removals_field_lem : Field removals removal_bytes RemovalsStand
  unfolding removals and_then provided byte_of
  removals_field_lem = record {
    takes = removals_takes;
    back = λ rs h rest k. rw (le-leb 1 (length rs) h.0, le-leb (length rs) most_removals h.1.0) (numbers_back rs h.1.1 rest k);
    held = λ few rs h. bytes_cons (length rs) (numbers_bytes rs) (omega (arith, h.1.0)) (numbers_held few rs h.1.1);
  }

  procedure_takes : (i : Input) → Bytes i.bytes → Reads (λ f j. ProcedureFits p f × Took (f ∷ []) 0 i j) Anyhow (procedure p i)
  unfolding procedure
  procedure_takes i ok = let Q : ℕ → Input → Type 0 = λ f j. ProcedureFits p f × Took (f ∷ []) 0 i j in
      reads_then _ Q Anyhow (byte i) _ (byte_field.takes i ok) (λ f j q. reads_provided Q Anyhow (leb 1 f && leb f p) wrong_field _ tt (λ range.
      ((leb-true 1 f (and_left (leb 1 f) (leb f p) range), leb-true f p (and_right (leb 1 f) (leb f p) range)), q.1)))

  procedure_field_lem : Field (procedure p) (λ f. f ∷ []) (ProcedureFits p)
  unfolding procedure and_then provided byte_of
  procedure_field_lem = record {
    takes = procedure_takes;
    back = λ f h rest k. rw (le-leb 1 f h.0, le-leb f p h.1);
    held = λ few f h. bytes_cons f [] (omega (arith, h.1)) bytes_none;
  }

  -- a field fits where its bit stands, and is absent elsewhere
  abbrev Standing : {A : Type 0} → Bool → (A → Type 0) → A → A → Type 0
  Standing true Fits none x = Fits x
  Standing false Fits none x = x ≡ none

  optionally : {A : Type 0} (b : Bool) {reader : Input → Parsed A} {bytes : A → List ℕ} {Fits : A → Type 0} (none : A) →
      Field reader bytes Fits → Field (optional b reader none) (λ x. where_stands b (bytes x)) (Standing b Fits none)
  unfolding optional where_stands
  optionally true none w = w
  optionally false none w = record {
    takes = λ i ok. (refl, took_none i ok);
    back = λ x h rest k. rw h;
    held = λ few x h. bytes_none;
  }

  -- the fields are those of a map
  abbrev Mapped : ℕ → Fields → Type 0
  Mapped map f = Standing (stands 0 map) RemovalsStand [] f.removed × Standing (stands 1 map) NumberFits absent f.a ×
      Standing (stands 2 map) NumberFits absent f.b × Standing (stands 3 map) (ProcedureFits p) 0 f.called

  fields_takes : (map : ℕ) (i : Input) → Bytes i.bytes → Reads (λ f j. Mapped map f × Took (field_bytes map f) 0 i j) Anyhow (fields p map i)
  unfolding fields field_bytes
  fields_takes map i ok = let Q : Fields → Input → Type 0 = λ f j. Mapped map f × Took (field_bytes map f) 0 i j in
      reads_then _ Q Anyhow _ _ ((optionally (stands 0 map) [] removals_field_lem).takes i ok) (λ rs j q.
      reads_then _ Q Anyhow _ _ ((optionally (stands 1 map) absent number_field_lem).takes j q.1.behind) (λ a k r.
      reads_then _ Q Anyhow _ _ ((optionally (stands 2 map) absent number_field_lem).takes k r.1.behind) (λ b l s.
      reads_then _ Q Anyhow _ _ ((optionally (stands 3 map) 0 procedure_field_lem).takes l s.1.behind) (λ f m t.
      ((q.0, r.0, s.0, t.0), took_then _ _ 0 0 q.1 (took_then _ _ 0 0 r.1 (took_then _ _ 0 0 s.1 t.1)))))))

  fields_back : (map : ℕ) (f : Fields) → Mapped map f → (rest : List ℕ) (k : ℕ) → fields p map (left (field_bytes map f ++ rest) k) ≡ parsed f (left rest k)
  unfolding fields field_bytes and_then
  fields_back map f h rest k =
      let removed = where_stands (stands 0 map) (removal_bytes f.removed) in let a = where_stands (stands 1 map) (number_bytes f.a) in
      let b = where_stands (stands 2 map) (number_bytes f.b) in let called = where_stands (stands 3 map) (f.called ∷ []) in
      rw (append_assoc removed (a ++ (b ++ called)) rest, append_assoc a (b ++ called) rest, append_assoc b called rest)
      (rw ((optionally (stands 0 map) [] removals_field_lem).back f.removed h.0 (a ++ (b ++ (called ++ rest))) k)
      (rw ((optionally (stands 1 map) absent number_field_lem).back f.a h.1 (b ++ (called ++ rest)) k)
      (rw ((optionally (stands 2 map) absent number_field_lem).back f.b h.2 (called ++ rest) k)
      (rw ((optionally (stands 3 map) 0 procedure_field_lem).back f.called h.3 rest k)))))

  fields_held : p ≤ most_procedures → (map : ℕ) (f : Fields) → Mapped map f → Bytes (field_bytes map f)
  unfolding field_bytes
  fields_held few map f h =
      let a = where_stands (stands 1 map) (number_bytes f.a) in
      let b = where_stands (stands 2 map) (number_bytes f.b) in let called = where_stands (stands 3 map) (f.called ∷ []) in
      bytes_append (where_stands (stands 0 map) (removal_bytes f.removed)) (a ++ (b ++ called))
      ((optionally (stands 0 map) [] removals_field_lem).held few f.removed h.0)
      (bytes_append a (b ++ called) ((optionally (stands 1 map) absent number_field_lem).held few f.a h.1)
      (bytes_append b called ((optionally (stands 2 map) absent number_field_lem).held few f.b h.2)
      ((optionally (stands 3 map) 0 procedure_field_lem).held few f.called h.3)))

  -- removals stand where the map has their bit
  removed_bit : (b : Bool) (rs : List Number) → Standing b RemovalsStand [] rs → cond (is_empty rs) 0 1 ≡ valued b 1
  unfolding is_empty
  removed_bit true [] h = absurd (omega (arith, h.0))
  removed_bit true (a ∷ rs) h = refl
  removed_bit false rs h = rw h

  -- so a permitted map is that of its fields
  map_of_lem : (kind map : ℕ) (f : Fields) → permitted kind map ≡ true → Mapped map f → map ≡ map_of kind f
  map_of_lem kind map f ok h = permitted_bit kind map ok ∙ ap (λ n. required_map kind + n) (sym (removed_bit (stands 0 map) f.removed h.0))

  -- the fields of a record: its map is permitted, and the fields are the map's
  abbrev FieldsFit : ℕ → Fields → Type 0
  FieldsFit kind f = (permitted kind (map_of kind f) ≡ true) × Mapped (map_of kind f) f

  record_takes : (kind map : ℕ) (i : Input) → permitted kind map ≡ true → Bytes i.bytes →
      Reads (λ f j. FieldsFit kind f × Took (record_bytes kind f) 0 (left (map ∷ kind ∷ i.bytes) i.records) j) Anyhow (fields p map i)
  record_takes kind map i ok all = let h : Input = left (map ∷ kind ∷ i.bytes) i.records in
      reads_less _ (λ f j. FieldsFit kind f × Took (record_bytes kind f) 0 h j) Anyhow (fields p map i) (λ f j q.
      let e = map_of_lem kind map f ok q.0 in (
        subst (λ (m : ℕ). (permitted kind m ≡ true) × Mapped m f) e (ok, q.0),
        subst (λ (m : ℕ). Took (m ∷ kind ∷ field_bytes m f) 0 h j) e (record {
          spelled = ap (λ x. map ∷ kind ∷ x) q.1.spelled;
          counts = q.1.counts;
          behind = q.1.behind;
          bounded = q.1.bounded;
        }),
      ))
      (fields_takes map i all)

  -- what is read as a record's fields under a permitted map is, written again, exactly the bytes
  pub record_written : (kind map : ℕ) (i : Input) → permitted kind map ≡ true → Bytes i.bytes →
      Reads (λ f j. map ∷ kind ∷ i.bytes ≡ record_bytes kind f ++ j.bytes) Anyhow (fields p map i)
  record_written kind map i ok all = reads_less _ (λ f j. map ∷ kind ∷ i.bytes ≡ record_bytes kind f ++ j.bytes) Anyhow (fields p map i)
      (λ f j q. q.1.spelled) (record_takes kind map i ok all)

  -- a map and a kind that is known are read
  opening_takes : {K A : Type 0} (Q : A → Input → Type 0) (sort : ℕ → Option K) (i : Input) (f : ℕ → ℕ → K → Input → Parsed A) → Bytes i.bytes →
      ((map kind : ℕ) (what : K) (j : Input) → sort kind ≡ some what → Took (map ∷ kind ∷ []) 0 i j → Reads Q Anyhow (f map kind what j)) →
      Reads Q Anyhow (opening sort i f)
  unfolding opening known
  opening_takes {K} Q sort i f ok h =
      reads_then _ Q Anyhow (byte i) _ (byte_field.takes i ok) (λ map j q.
      reads_then _ Q Anyhow (byte j) _ (byte_field.takes j q.1.behind) (λ kind k r.
      go map kind k (took_then (map ∷ []) (kind ∷ []) 0 0 q.1 r.1) (sort kind) refl))
    where
      go : (map kind : ℕ) (k : Input) → Took (map ∷ kind ∷ []) 0 i k → (o : Option K) → sort kind ≡ o → Reads Q Anyhow (known o (λ what. f map kind what k))
      go map kind k t Option.none e = tt
      go map kind k t (some what) e = h map kind what k e t

  -- then the record is counted and its fields are read
  contents_takes : {A : Type 0} (Q : A → Input → Type 0) (map kind : ℕ) {i j : Input} (f : Fields → Input → Parsed A) → Took (map ∷ kind ∷ []) 0 i j →
      ((fs : Fields) (k : Input) → FieldsFit kind fs → Took (record_bytes kind fs) 1 i k → Reads Q Anyhow (f fs k)) →
      Reads Q Anyhow (contents p map kind j f)
  unfolding contents
  contents_takes Q map kind {i} {j} f t h =
      reads_provided Q Anyhow (ltb j.records most_records) too_deep _ tt (λ fewer. reads_provided Q Anyhow (permitted kind map) wrong_map _ tt (λ permits.
      reads_then _ Q Anyhow (fields p map (counted j)) f (record_takes kind map (counted j) permits t.behind) (λ fs k r.
      h fs k r.0 (record {
        spelled = t.spelled ∙ r.1.spelled;
        counts = omega (arith, t.counts, r.1.counts);
        behind = r.1.behind;
        bounded = λ small. r.1.bounded (ltb-true j.records most_records fewer);
      }))))

  -- what is written is read back behind k records, where no more come than may be, and its bytes are bytes
  record Written {A : Type 0} (reader : Input → Parsed A) (x : A) (l : List ℕ) (n : ℕ) : Type 0 where
    back : (rest : List ℕ) (k m : ℕ) → m ≡ n + k → m ≤ most_records → reader (left (l ++ rest) k) ≡ parsed x (left rest m)
    held : p ≤ most_procedures → Bytes l

  -- first this, then that
  written_then : {A B : Type 0} {reader : Input → Parsed A} {x : A} (f : A → Input → Parsed B) {y : B} {l m : List ℕ} {n o : ℕ} →
      Written reader x l n → Written (f x) y m o → Written (λ i. and_then (reader i) f) y (l ++ m) (n + o)
  unfolding and_then
  written_then f {y} {l} {m} {n} {o} w v = record {
    back = λ rest k last e few. rw (append_assoc l m rest)
        (rw (w.back (m ++ rest) k (n + k) refl (omega arith)) (v.back rest (n + k) last (omega arith) few));
    held = λ few. bytes_append l m (w.held few) (v.held few);
  }

  -- what is made of it has its bytes
  written_made : {A B : Type 0} {reader : Input → Parsed A} {x : A} (make : A → B) {l : List ℕ} {n : ℕ} →
      Written reader x l n → Written (λ i. and_then (reader i) (λ y j. parsed (make y) j)) (make x) l n
  unfolding and_then
  written_made make w = record { back = λ rest k last e few. rw (w.back rest k last e few); held = w.held }

  -- the bytes of a record whose fields fit are bytes
  record_held : (kind : ℕ) (f : Fields) → kind < 256 → FieldsFit kind f → p ≤ most_procedures → Bytes (record_bytes kind f)
  record_held kind f small h few = let map = map_of kind f in
      bytes_cons map (kind ∷ field_bytes map f) (low (is_empty f.removed)) (bytes_cons kind (field_bytes map f) small (fields_held few map f h.1))
    where
      low : (b : Bool) → required_map kind + cond b 0 1 < 256
      low true = omega arith
      low false = omega arith

  -- the map and the kind of a record, the record counted, its fields, and what a reader of its kind reads behind them
  module _ {K A : Type 0} (sort : ℕ → Option K) (part : K → Fields → Input → Parsed A) where
    abbrev rooted : Input → Parsed A
    rooted i = opening sort i (λ map kind what j. contents p map kind j (part what))

    -- a record is read back, then what its kind reads goes on
    root_back : (kind : ℕ) (what : K) (f : Fields) → sort kind ≡ some what → FieldsFit kind f → (rest : List ℕ) (k m : ℕ) → m ≡ suc k → m ≤ most_records →
        rooted (left (record_bytes kind f ++ rest) k) ≡ part what f (left rest m)
    unfolding opening known contents and_then byte_of provided
    root_back kind what f e h rest k m next few =
        rw (e, next) (rw (lt-ltb k most_records (omega arith), h.0) (rw (fields_back (map_of kind f) f h.1 rest (suc k))))

    -- so a record alone is written,
    leaf_written : (kind : ℕ) (what : K) (f : Fields) {x : A} → sort kind ≡ some what → kind < 256 → FieldsFit kind f →
        ((i : Input) → part what f i ≡ parsed x i) → Written rooted x (record_bytes kind f) 1
    leaf_written kind what f e small h reads = record {
      back = λ rest k m next few. root_back kind what f e h rest k m (omega arith) few ∙ reads (left rest m);
      held = record_held kind f small h;
    }

    -- and one with children
    node_written : (kind : ℕ) (what : K) (f : Fields) {x : A} {l : List ℕ} {n : ℕ} → sort kind ≡ some what → kind < 256 → FieldsFit kind f →
        Written (part what f) x l n → Written rooted x (record_bytes kind f ++ l) (1 + n)
    node_written kind what f {x} {l} {n} e small h w = record {
      back = λ rest k m next few. rw (append_assoc (record_bytes kind f) l rest)
          (root_back kind what f e h (l ++ rest) k (suc k) refl (omega arith) ∙ w.back rest (suc k) m (omega arith) few);
      held = λ few. bytes_append (record_bytes kind f) l (record_held kind f small h few) (w.held few);
    }

    -- what is read begins with a record whose fields fit; the kinds by number
    root_takes : (Q : A → Input → Type 0) (number : K → ℕ) → ((kind : ℕ) (what : K) → sort kind ≡ some what → kind ≡ number what) →
        (i : Input) → Bytes i.bytes →
        ((what : K) (f : Fields) (j : Input) → FieldsFit (number what) f → Took (record_bytes (number what) f) 1 i j → Reads Q Anyhow (part what f j)) →
        Reads Q Anyhow (rooted i)
    root_takes Q number known i ok h = opening_takes Q sort i _ ok (λ map kind what j e t. contents_takes Q map kind (part what) t (λ f k fits took.
        let n = known kind what e in h what f k (subst (λ (n : ℕ). FieldsFit n f) n fits) (subst (λ (n : ℕ). Took (record_bytes n f) 1 i k) n took)))

  -- a reader and a writer of a tree, and how many records it has: what is read fits and has those bytes, what fits is read back
  record Tree {A : Type 0} (reader : Input → Parsed A) (bytes : A → List ℕ) (records : A → ℕ) (Fits : A → Type 0) : Type 0 where
    takes : (i : Input) → Bytes i.bytes → Reads (λ x j. Fits x × Took (bytes x) (records x) i j) Anyhow (reader i)
    written : (x : A) → Fits x → Written reader x (bytes x) (records x)

  -- two children: read behind what was taken before them, and written
  module _ {A B : Type 0} {part : Input → Parsed A} {bytes : A → List ℕ} {records : A → ℕ} {Fits : A → Type 0}
      (w : Tree part bytes records Fits) (make : A → A → B) where
    two_takes : (Q : B → Input → Type 0) {l : List ℕ} {n : ℕ} {i j : Input} → Took l n i j →
        ((x y : A) (k : Input) → Fits x × Fits y → Took (l ++ (bytes x ++ bytes y)) (n + (records x + records y)) i k → Q (make x y) k) →
        Reads Q Anyhow (two part make j)
    unfolding two
    two_takes Q {j = j} t h =
        reads_then _ Q Anyhow (part j) _ (w.takes j t.behind) (λ x k q. reads_then _ Q Anyhow (part k) _ (w.takes k q.1.behind) (λ y m r.
        h x y m (q.0, r.0) (took_then _ _ _ _ t (took_then _ _ _ _ q.1 r.1))))

    two_written : (x y : A) → Fits x × Fits y → Written (two part make) (make x y) (bytes x ++ bytes y) (records x + records y)
    unfolding two
    two_written x y h = written_then _ (w.written x h.0) (written_made (make x) (w.written y h.1))

  -- what holds of fields without removals and with some holds of all fields
  by_removals : (Q : Fields → Type 0) → ((a b : Number) (f : ℕ) → Q (record { removed = []; a = a; b = b; called = f })) →
      ((r : Number) (rs : List Number) (a b : Number) (f : ℕ) → Q (record { removed = r ∷ rs; a = a; b = b; called = f })) → (f : Fields) → Q f
  by_removals Q g h f = go f.removed
    where
      go : (rs : List Number) → Q (record { removed = rs; a = f.a; b = f.b; called = f.called })
      go [] = g f.a f.b f.called
      go (r ∷ rs) = h r rs f.a f.b f.called

  -- Fields that fit their kind are of its form: none (kinds 0, 2, 3, 9, 10, 11), removals and a (1, 4), a and b (6, 7, 8), removals and a procedure (5).
  no_fields_lem : (f : Fields) → FieldsFit 0 f → f ≡ no_fields
  unfolding is_empty
  no_fields_lem = by_removals _ (λ a b f h. cc) (λ r rs a b f h. absurd (false≢true h.0))

  touched_fields_lem : (f : Fields) → FieldsFit 1 f → (f ≡ touched_fields f.removed f.a) × (RemovalsFit f.removed × NumberFits f.a)
  unfolding is_empty
  touched_fields_lem = by_removals _ (λ a b f h. (cc, ((omega arith, tt), h.1.1))) (λ r rs a b f h. (cc, (h.1.0.1, h.1.1)))

  compared_fields_lem : (f : Fields) → FieldsFit 6 f → (f ≡ compared_fields f.a f.b) × (NumberFits f.a × NumberFits f.b)
  unfolding is_empty
  compared_fields_lem = by_removals _ (λ a b f h. (cc, (h.1.1, h.1.2))) (λ r rs a b f h. absurd (false≢true h.0))

  called_fields_lem : (f : Fields) → FieldsFit 5 f → (f ≡ called_fields f.removed f.called) × (RemovalsFit f.removed × ProcedureFits p f.called)
  unfolding is_empty
  called_fields_lem = by_removals _ (λ a b f h. (cc, ((omega arith, tt), h.1.3))) (λ r rs a b f h. (cc, (h.1.0.1, h.1.3)))

  -- And fields of that form fit.
  none_fit : FieldsFit 0 no_fields
  unfolding is_empty
  none_fit = (refl, (refl, refl, refl, refl))

  compared_fit : (a b : Number) → NumberFits a × NumberFits b → FieldsFit 6 (compared_fields a b)
  unfolding is_empty
  compared_fit a b h = (refl, (refl, h.0, h.1, refl))

  touched_fit : (rs : List Number) (a : Number) → RemovalsFit rs × NumberFits a → FieldsFit 1 (touched_fields rs a)
  unfolding is_empty
  touched_fit [] a h = (refl, (refl, h.1, refl, refl))
  touched_fit (r ∷ rs) a h = (refl, ((omega arith, h.0), h.1, refl, refl))

  called_fit : (rs : List Number) (f : ℕ) → RemovalsFit rs × ProcedureFits p f → FieldsFit 5 (called_fields rs f)
  unfolding is_empty
  called_fit [] f h = (refl, (refl, refl, refl, h.1))
  called_fit (r ∷ rs) f h = (refl, ((omega arith, h.0), refl, refl, h.1))

  -- a record's bytes are those of equal fields
  took_as : (kind : ℕ) {f g : Fields} {i j : Input} → f ≡ g → Took (record_bytes kind f) 1 i j → Took (record_bytes kind g) 1 i j
  took_as kind {i = i} {j} e t = subst (λ (f : Fields). Took (record_bytes kind f) 1 i j) e t

  -- A condition's tree: what its reader and its writer have to do with each other, at each depth.
  abbrev ConditionTree : ℕ → Type 0
  ConditionTree depth = Tree (condition p depth) condition_bytes condition_records (ConditionFits depth)

  abbrev ConditionRead : ℕ → Input → Condition → Input → Type 0
  ConditionRead depth i c j = ConditionFits depth c × Took (condition_bytes c) (condition_records c) i j

  -- what is read behind its record, for each kind
  condition_takes : (depth : ℕ) → ConditionTree depth → (i : Input) (what : ConditionKind) (f : Fields) (j : Input) → FieldsFit (condition_number what) f →
      Took (record_bytes (condition_number what) f) 1 i j → Reads (ConditionRead (suc depth) i) Anyhow (condition_of (condition p depth) what f j)
  unfolding condition_of ConditionFits condition_bytes condition_records
  condition_takes depth w i greaters f j h t = let c = compared_fields_lem f h in (c.1, took_as 6 c.0 t)
  condition_takes depth w i at_leasts f j h t = let c = compared_fields_lem f h in (c.1, took_as 7 c.0 t)
  condition_takes depth w i equals f j h t = let c = compared_fields_lem f h in (c.1, took_as 8 c.0 t)
  condition_takes depth w i ands f j h t = two_takes w conjunction _ (took_as 9 (no_fields_lem f h) t) (λ c d k fit u. (fit, u))
  condition_takes depth w i ors f j h t = two_takes w disjunction _ (took_as 10 (no_fields_lem f h) t) (λ c d k fit u. (fit, u))
  condition_takes depth w i negations f j h t =
      reads_then _ _ Anyhow (condition p depth j) _ (w.takes j t.behind) (λ c k q. (q.0, took_then _ _ _ _ (took_as 11 (no_fields_lem f h) t) q.1))

  -- each condition that fits is written
  condition_written : (depth : ℕ) → ConditionTree depth → (c : Condition) → ConditionFits (suc depth) c →
      Written (condition p (suc depth)) c (condition_bytes c) (condition_records c)
  unfolding condition condition_kind condition_of ConditionFits condition_bytes condition_records
  condition_written depth w (greater a b) h =
      leaf_written condition_kind _ 6 greaters (compared_fields a b) refl (omega arith) (compared_fit a b h) (λ i. refl)
  condition_written depth w (at_least a b) h =
      leaf_written condition_kind _ 7 at_leasts (compared_fields a b) refl (omega arith) (compared_fit a b h) (λ i. refl)
  condition_written depth w (equal a b) h =
      leaf_written condition_kind _ 8 equals (compared_fields a b) refl (omega arith) (compared_fit a b h) (λ i. refl)
  condition_written depth w (conjunction c d) h =
      node_written condition_kind _ 9 ands no_fields refl (omega arith) none_fit (two_written w conjunction c d h)
  condition_written depth w (disjunction c d) h =
      node_written condition_kind _ 10 ors no_fields refl (omega arith) none_fit (two_written w disjunction c d h)
  condition_written depth w (negation c) h =
      node_written condition_kind _ 11 negations no_fields refl (omega arith) none_fit (written_made negation (w.written c h))

  -- both, at each depth; no condition fits depth 0
  condition_tree : (depth : ℕ) → ConditionTree depth
  unfolding condition ConditionFits
  condition_tree zero = record {
    takes = λ i ok. opening_takes _ condition_kind i _ ok (λ map kind what j e t. tt);
    written = λ c h. absurd h;
  }
  condition_tree (suc depth) = let w = condition_tree depth in record {
    takes = λ i ok. root_takes condition_kind _ _ condition_number condition_number_lem i ok (condition_takes depth w i);
    written = condition_written depth w;
  }

  -- A statement's tree, in the same way.
  abbrev StatementTree : ℕ → Type 0
  StatementTree depth = Tree (statement p depth) statement_bytes statement_records (StatementFits p depth)

  abbrev StatementRead : ℕ → Input → Statement → Input → Type 0
  StatementRead depth i s j = StatementFits p depth s × Took (statement_bytes s) (statement_records s) i j

  statement_takes : (depth : ℕ) → StatementTree depth → (i : Input) (what : StatementKind) (f : Fields) (j : Input) → FieldsFit (statement_number what) f →
      Took (record_bytes (statement_number what) f) 1 i j →
      Reads (StatementRead (suc depth) i) Anyhow (statement_of (condition p depth) (statement p depth) what f j)
  unfolding statement_of StatementFits head_bytes statement_bytes statement_records
  statement_takes depth w i skips f j h t = (tt, took_as 0 (no_fields_lem f h) t)
  statement_takes depth w i nots f j h t = let c = touched_fields_lem f h in (c.1, took_as 1 c.0 t)
  statement_takes depth w i sequences f j h t = two_takes w sequence _ (took_as 2 (no_fields_lem f h) t) (λ x y k fit u. (fit, u))
  statement_takes depth w i ifs f j h t =
      reads_then _ _ Anyhow (condition p depth j) _ ((condition_tree depth).takes j t.behind) (λ c k q.
      two_takes w (if c) _ (took_then _ _ _ _ (took_as 3 (no_fields_lem f h) t) q.1) (λ x y k fit u. ((q.0, fit), u)))
  statement_takes depth w i qcases f j h t = let c = touched_fields_lem f h in
      two_takes w (qcase f.removed f.a) _ (took_as 4 c.0 t) (λ x y k fit u. ((c.1, fit), u))
  statement_takes depth w i calls f j h t = let c = called_fields_lem f h in (c.1, took_as 5 c.0 t)

  statement_written : (depth : ℕ) → StatementTree depth → (s : Statement) → StatementFits p (suc depth) s →
      Written (statement p (suc depth)) s (statement_bytes s) (statement_records s)
  unfolding statement statement_kind statement_of StatementFits head_bytes statement_bytes statement_records
  statement_written depth w skip h = leaf_written statement_kind _ 0 skips no_fields refl (omega arith) none_fit (λ i. refl)
  statement_written depth w (NOT rs a) h =
      leaf_written statement_kind _ 1 nots (touched_fields rs a) refl (omega arith) (touched_fit rs a h) (λ i. refl)
  statement_written depth w (sequence s t) h =
      node_written statement_kind _ 2 sequences no_fields refl (omega arith) none_fit (two_written w sequence s t h)
  statement_written depth w (if c s t) h =
      rw (append_assoc (record_bytes 3 no_fields) (condition_bytes c) (statement_bytes s ++ statement_bytes t), add_assoc 1 (condition_records c))
      (node_written statement_kind _ 3 ifs no_fields refl (omega arith) none_fit
      (written_then _ ((condition_tree depth).written c h.0) (two_written w (if c) s t h.1)))
  statement_written depth w (qcase rs a s t) h =
      node_written statement_kind _ 4 qcases (touched_fields rs a) refl (omega arith) (touched_fit rs a h.0) (two_written w (qcase rs a) s t h.1)
  statement_written depth w (call rs f) h =
      leaf_written statement_kind _ 5 calls (called_fields rs f) refl (omega arith) (called_fit rs f h) (λ i. refl)

  statement_tree : (depth : ℕ) → StatementTree depth
  unfolding statement StatementFits
  statement_tree zero = record {
    takes = λ i ok. opening_takes _ statement_kind i _ ok (λ map kind what j e t. tt);
    written = λ s h. absurd h;
  }
  statement_tree (suc depth) = let w = statement_tree depth in record {
    takes = λ i ok. root_takes statement_kind _ _ statement_number statement_number_lem i ok (statement_takes depth w i);
    written = statement_written depth w;
  }

  -- as many statements as asked for, each of which fits
  abbrev Bodies : ℕ → List Statement → Type 0
  Bodies n ss = (length ss ≡ n) × StatementsFit p ss

  statements_takes : (n : ℕ) (i : Input) → Bytes i.bytes →
      Reads (λ ss j. Bodies n ss × Took (statements_bytes ss) (statements_records ss) i j) Anyhow (statements p n i)
  unfolding statements StatementsFit statements_bytes statements_records
  statements_takes zero i ok = ((refl, tt), took_none i ok)
  statements_takes (suc n) i ok =
      let Q : List Statement → Input → Type 0 = λ ss j. Bodies (suc n) ss × Took (statements_bytes ss) (statements_records ss) i j in
      reads_then _ Q Anyhow (statement p most_depth i) _ ((statement_tree most_depth).takes i ok) (λ s j q.
      reads_then _ Q Anyhow (statements p n j) _ (statements_takes n j q.1.behind) (λ ss k r.
      ((ap suc r.0.0, (q.0, r.0.1)), took_then _ _ _ _ q.1 r.1)))

  -- and such statements are written
  statements_written : (ss : List Statement) → StatementsFit p ss → Written (statements p (length ss)) ss (statements_bytes ss) (statements_records ss)
  unfolding statements StatementsFit statements_bytes statements_records
  statements_written [] h = record { back = λ rest k m e few. ap (λ n. parsed [] (left rest n)) (omega arith); held = λ few. bytes_none }
  statements_written (s ∷ ss) h =
      written_then _ ((statement_tree most_depth).written s h.0) (written_made (λ all. s ∷ all) (statements_written ss h.1))

-- what the reader of tables gives: a program that a table holds, whose bytes are those that were read
reads_table : (bs : List ℕ) → Bytes bs → Reads (λ P i. (write_table P ≡ bs) × ProgramFits P) Anyhow (read_table bs)
unfolding read_table trees write_table StatementsFit statements_bytes statements_records
reads_table [] ok = tt
reads_table (edition ∷ []) ok = tt
reads_table (edition ∷ p ∷ rest) ok = let bs = edition ∷ p ∷ rest in let i : Input = left rest 0 in
    let Q : Program → Input → Type 0 = λ P i. (write_table P ≡ bs) × ProgramFits P in
    reads_provided Q Anyhow (eqb edition table_edition) wrong_edition _ tt (λ one. reads_provided Q Anyhow (leb p most_procedures) many_procedures _ tt (λ few.
    reads_then _ Q Anyhow (statement p most_depth i) _ ((statement_tree p most_depth).takes i (bytes_drop 2 bs ok)) (λ s j q.
    reads_then _ Q Anyhow (statements p p j) _ (statements_takes p p j q.1.behind) (λ ss k r.
    reads_provided Q Anyhow (eqb (length k.bytes) 0) bytes_left _ tt (λ end.
    let t = took_then (statement_bytes s) (statements_bytes ss) (statement_records s) (statements_records ss) q.1 r.1 in
    let header = eqb-true edition table_edition one in let all = r.0.0 in
    let nothing = no_bytes k.bytes (eqb-true (length k.bytes) 0 end) in
    let body : rest ≡ statement_bytes s ++ statements_bytes ss = t.spelled ∙ ap (λ x. (statement_bytes s ++ statements_bytes ss) ++ x) nothing ∙ append-nil _ in (
      cc,
      record {
        few = rw all (leb-true p most_procedures few);
        all_fit = subst (λ n. StatementsFit n (s ∷ ss)) (sym all) (q.0, r.0.1);
        small = omega (arith, t.bounded (omega arith), t.counts);
      },
    ))))))

-- Writing what was read gives exactly the bytes,
pub table_written : (bs : List ℕ) → Bytes bs → {P : Program} {i : Input} → read_table bs ≡ parsed P i → write_table P ≡ bs
table_written bs ok e = (rw e at (reads_table bs ok)).0

-- and what was read is a program that a table holds.
pub table_fits : (bs : List ℕ) → Bytes bs → {P : Program} {i : Input} → read_table bs ≡ parsed P i → ProgramFits P
table_fits bs ok e = (rw e at (reads_table bs ok)).1

-- Reading what is written of such a program gives the program,
pub table_read : (P : Program) → ProgramFits P → (i : Input) × (read_table (write_table P) ≡ parsed P i)
unfolding read_table trees write_table StatementsFit statements_bytes statements_records and_then provided
table_read P h = let p = count P in let s = P.main in let ss = P.procedures in let n = statement_records s in let m = statements_records ss + n in
    let nil = append-nil (statements_bytes ss) in let small = h.small in (
      left [] m,
      rw (le-leb p most_procedures h.few)
          (rw (((statement_tree p most_depth).written s h.all_fit.0).back (statements_bytes ss) 0 n (omega arith) (omega arith))
          (rw (rw nil at ((statements_written p ss h.all_fit.1).back [] n m refl (omega arith))))),
    )

-- and what is written are bytes.
pub table_held : (P : Program) → ProgramFits P → Bytes (write_table P)
unfolding write_table
table_held P h = let all = statements_bytes (P.main ∷ P.procedures) in
    bytes_cons table_edition (count P ∷ all) (omega arith)
    (bytes_cons (count P) all (omega (arith, h.few)) ((statements_written (count P) (P.main ∷ P.procedures) h.all_fit).held h.few))
