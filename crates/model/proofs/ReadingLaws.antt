-- What an accepted reading of a table says, which refusals the reader of tables gives, and how far into a table it looks.
use mathlib.Core.Path.{◌≡◌, refl, sym, ap, ◌∙◌, subst}
use mathlib.Core.Bool.{Bool, true, false, ◌&&◌, ◌||◌, false≢true}
use mathlib.Core.List.{List, [], ◌∷◌, ◌++◌}
use mathlib.Core.Option.{Option, none, some}
use Prim.Native.Nat.{ℕ, zero, suc, ◌+◌, ◌*◌, ◌≤◌, ◌<◌}
use native.Mathlib.Omega.{arith}
use borrow.Author.Tests.{ltb-true, leb-true, eqb-true, ne_eqb}
use lib.ListN.{length, get_or, length-append}
use lib.Dec.{eqb, ltb, leb, lit≤}
use Rattle.model.specs.Limits.{table_edition, most_procedures, most_records, most_depth, most_removals}
use Rattle.model.specs.Limits.{table_stops, wrong_edition, many_procedures, wrong_map, wrong_field, too_deep, bytes_left}
use Rattle.model.specs.Syntax.{Number, Condition, conjunction, disjunction, Statement, skip, sequence, if, qcase, Program, count}
use Rattle.model.specs.Reading.{Input, Parsed, parsed, refused, and_then, provided, byte_of, byte, number, numbers, removals, procedure}
use Rattle.model.specs.Reading.{StatementKind, skips, nots, sequences, ifs, qcases, statement_kind}
use Rattle.model.specs.Reading.{ConditionKind, greaters, at_leasts, equals, ands, ors, negations, condition_kind}
use Rattle.model.specs.Reading.{required_map, optional_map, permitted, stands, Fields, optional, fields, known, opening, counted, contents}
use Rattle.model.specs.Reading.{two, condition_of, condition, statement_of, statement, statements, trees, read_table}
use Rattle.model.specs.Reach.{calls}
use Rattle.model.specs.Answers.{Outcome, gives, refuses, outcome}
use Rattle.model.proofs.BooleanLaws.{clash, and_left, and_right, or_cases}
use Rattle.model.proofs.ReachAndRank.{Named}

-- of a reading: Q holds of what was read and of what is left, or N of the refusal's number
abbrev pub Reads : {A : Type 0} → (A → Input → Type 0) → (ℕ → Type 0) → Parsed A → Type 0
Reads Q N (parsed a i) = Q a i
Reads Q N (refused k) = N k

-- first this, then that
pub reads_then : {A B : Type 0} (Q : A → Input → Type 0) (R : B → Input → Type 0) (N : ℕ → Type 0) (x : Parsed A) (f : A → Input → Parsed B) →
    Reads Q N x → ((a : A) (i : Input) → Q a i → Reads R N (f a i)) → Reads R N (and_then x f)
unfolding and_then
reads_then Q R N (parsed a i) f h g = g a i h
reads_then Q R N (refused k) f h g = h

-- behind a test, the test holds
pub reads_provided : {A : Type 0} (Q : A → Input → Type 0) (N : ℕ → Type 0) (b : Bool) (k : ℕ) (x : Parsed A) →
    N k → (b ≡ true → Reads Q N x) → Reads Q N (provided b k x)
unfolding provided
reads_provided Q N true k x n h = h refl
reads_provided Q N false k x n h = n

-- less may be said
pub reads_less : {A : Type 0} (Q R : A → Input → Type 0) (N : ℕ → Type 0) (x : Parsed A) →
    ((a : A) (i : Input) → Q a i → R a i) → Reads Q N x → Reads R N x
reads_less Q R N (parsed a i) f h = f a i h
reads_less Q R N (refused k) f h = h

-- behind a byte, that byte is gone
pub after_byte : {B : Type 0} (R : B → Input → Type 0) (N : ℕ → Type 0) (i : Input) (f : ℕ → Input → Parsed B) →
    N table_stops → ((b : ℕ) (j : Input) → i.bytes ≡ b ∷ j.bytes → Reads R N (f b j)) → Reads R N (and_then (byte i) f)
unfolding byte_of
after_byte R N i f n h = reads_then (λ b j. i.bytes ≡ b ∷ j.bytes) R N (byte i) f (go i.bytes) h
  where
    go : (bs : List ℕ) → Reads (λ b j. bs ≡ b ∷ j.bytes) N (byte_of bs i.records)
    go [] = n
    go (b ∷ bs) = refl

-- any refusal
abbrev pub Anyhow : ℕ → Type 0
Anyhow k = Unit {0}

-- the table's refusals from its bytes: 1 to 8
abbrev pub Low : ℕ → Type 0
Low k = (1 ≤ k) × (k ≤ 8)

-- nothing is said of what was read
abbrev Any : {A : Type 0} → A → Input → Type 0
Any a i = Unit {0}

reads_number : (i : Input) → Reads Any Low (number i)
unfolding number
reads_number i = after_byte Any Low i _ (omega arith) (λ base j e₁. reads_provided Any Low _ wrong_field _ (omega arith) (λ ok.
    after_byte Any Low j _ (omega arith) (λ low k e₂. after_byte Any Low k _ (omega arith) (λ high l e₃. tt))))

reads_numbers : (n : ℕ) (i : Input) → Reads Any Low (numbers n i)
unfolding numbers
reads_numbers zero i = tt
reads_numbers (suc n) i = reads_then Any Any Low (number i) _ (reads_number i)
    (λ x j q. reads_then Any Any Low (numbers n j) _ (reads_numbers n j) (λ xs k q. tt))

reads_removals : (i : Input) → Reads Any Low (removals i)
unfolding removals
reads_removals i = after_byte Any Low i _ (omega arith) (λ n j e.
    reads_provided Any Low (leb 1 n && leb n most_removals) wrong_field _ (omega arith) (λ ok. reads_numbers n j))

-- a procedure byte is 1 to p
abbrev Names : ℕ → ℕ → Type 0
Names p f = (0 < f) × (f ≤ p)

reads_procedure : (p : ℕ) (i : Input) → Reads (λ f j. Names p f) Low (procedure p i)
unfolding procedure
reads_procedure p i = after_byte (λ f j. Names p f) Low i _ (omega arith) (λ f j e.
    reads_provided (λ f j. Names p f) Low (leb 1 f && leb f p) wrong_field _ (omega arith) (λ ok.
    (leb-true 1 f (and_left (leb 1 f) (leb f p) ok), leb-true f p (and_right (leb 1 f) (leb f p) ok))))

-- a field is read where its bit stands
reads_optional : {A : Type 0} (Q : A → Input → Type 0) (b : Bool) (reader : Input → Parsed A) (absent : A) (i : Input) →
    (b ≡ true → Reads Q Low (reader i)) → (b ≡ false → Q absent i) → Reads Q Low (optional b reader absent i)
unfolding optional
reads_optional Q true reader absent i h g = h refl
reads_optional Q false reader absent i h g = g refl

-- of the fields: the procedure byte, where its bit stands
abbrev Called : ℕ → ℕ → Fields → Input → Type 0
Called p map f i = stands 3 map ≡ true → Names p f.called

reads_fields : (p map : ℕ) (i : Input) → Reads (Called p map) Low (fields p map i)
unfolding fields
reads_fields p map i =
    reads_then Any (Called p map) Low (optional (stands 0 map) removals [] i) _
    (reads_optional Any (stands 0 map) removals [] i (λ e. reads_removals i) (λ e. tt)) (λ rs j q.
    reads_then Any (Called p map) Low (optional (stands 1 map) number _ j) _
    (reads_optional Any (stands 1 map) number _ j (λ e. reads_number j) (λ e. tt)) (λ a k q.
    reads_then Any (Called p map) Low (optional (stands 2 map) number _ k) _
    (reads_optional Any (stands 2 map) number _ k (λ e. reads_number k) (λ e. tt)) (λ b l q.
    reads_then (λ f m. stands 3 map ≡ true → Names p f) (Called p map) Low (optional (stands 3 map) (procedure p) 0 l) _
    (reads_optional (λ f m. stands 3 map ≡ true → Names p f) (stands 3 map) (procedure p) 0 l
    (λ e. reads_less (λ f m. Names p f) (λ f m. stands 3 map ≡ true → Names p f) Low (procedure p l) (λ f m n h. n) (reads_procedure p l))
    (λ e h. clash h e)) (λ f m q. q))))

-- a record's map and kind, then what is read by its kind
reads_opening : {K A : Type 0} (Q : A → Input → Type 0) (sort : ℕ → Option K) (i : Input) (f : ℕ → ℕ → K → Input → Parsed A) →
    ((map kind : ℕ) (what : K) (j : Input) → sort kind ≡ some what → Reads Q Low (f map kind what j)) → Reads Q Low (opening sort i f)
unfolding opening known
reads_opening {K} {A} Q sort i f h =
    after_byte Q Low i _ (omega arith) (λ map j e₁. after_byte Q Low j _ (omega arith) (λ kind k e₂. go map kind k (sort kind) refl))
  where
    go : (map kind : ℕ) (k : Input) (o : Option K) → sort kind ≡ o → Reads Q Low (known o (λ what. f map kind what k))
    go map kind k none e = omega arith
    go map kind k (some what) e = h map kind what k e

-- a record's fields under a permitted map
reads_contents : {A : Type 0} (Q : A → Input → Type 0) (p map kind : ℕ) (i : Input) (f : Fields → Input → Parsed A) →
    (permitted kind map ≡ true → (fs : Fields) (j : Input) → Called p map fs j → Reads Q Low (f fs j)) → Reads Q Low (contents p map kind i f)
unfolding contents
reads_contents Q p map kind i f h =
    reads_provided Q Low (ltb i.records most_records) too_deep _ (omega arith) (λ e.
    reads_provided Q Low (permitted kind map) wrong_map _ (omega arith) (λ ok.
    reads_then (Called p map) Q Low (fields p map (counted i)) f (reads_fields p map (counted i)) (h ok)))

-- two children
reads_two : {A B : Type 0} (Q : A → Input → Type 0) (R : B → Input → Type 0) (part : Input → Parsed A) (make : A → A → B) (i : Input) →
    ((j : Input) → Reads Q Low (part j)) → ((x y : A) (j k : Input) → Q x j → Q y k → R (make x y) k) → Reads R Low (two part make i)
unfolding two
reads_two Q R part make i h g = reads_then Q R Low (part i) _ (h i) (λ x j q. reads_then Q R Low (part j) _ (h j) (λ y k r. g x y j k q r))

reads_condition_of : (part : Input → Parsed Condition) → ((j : Input) → Reads Any Low (part j)) → (what : ConditionKind) (f : Fields) (i : Input) →
    Reads Any Low (condition_of part what f i)
unfolding condition_of
reads_condition_of part h greaters f i = tt
reads_condition_of part h at_leasts f i = tt
reads_condition_of part h equals f i = tt
reads_condition_of part h ands f i = reads_two Any Any part conjunction i h (λ x y j k q r. tt)
reads_condition_of part h ors f i = reads_two Any Any part disjunction i h (λ x y j k q r. tt)
reads_condition_of part h negations f i = reads_then Any Any Low (part i) _ (h i) (λ c j q. tt)

reads_condition : (p depth : ℕ) (i : Input) → Reads Any Low (condition p depth i)
unfolding condition
reads_condition p zero i = reads_opening Any condition_kind i _ (λ map kind what j e. omega arith)
reads_condition p (suc depth) i = reads_opening Any condition_kind i _ (λ map kind what j e.
    reads_contents Any p map kind j _ (λ ok f k c. reads_condition_of (condition p depth) (λ j. reads_condition p depth j) what f k))

-- every call of a statement names one of p procedures
abbrev pub CallsNamed : ℕ → Statement → Type 0
CallsNamed p s = (g : ℕ) → calls s g ≡ true → Names p g

abbrev StatementRead : ℕ → Statement → Input → Type 0
StatementRead p s i = CallsNamed p s

-- kind 5 is the call; its map, 8 or 9, has bit 3
call_kind : (kind : ℕ) → statement_kind kind ≡ some StatementKind.calls → kind ≡ 5
unfolding statement_kind
call_kind zero e = cc
call_kind (suc zero) e = cc
call_kind (suc (suc zero)) e = cc
call_kind (suc (suc (suc zero))) e = cc
call_kind (suc (suc (suc (suc zero)))) e = cc
call_kind (suc (suc (suc (suc (suc zero))))) e = refl
call_kind (suc (suc (suc (suc (suc (suc kind)))))) e = cc

call_map : (map : ℕ) → permitted 5 map ≡ true → stands 3 map ≡ true
call_map map e = or_cases (eqb map 8) (eqb map 9) e
    (λ x. rw (eqb-true map 8 x) refl)
    (λ x. rw (eqb-true map 9 x) refl)

call_names : (p map kind : ℕ) (what : StatementKind) (f : Fields) (i : Input) →
    statement_kind kind ≡ some what → permitted kind map ≡ true → Called p map f i → what ≡ StatementKind.calls → Names p f.called
call_names p map kind what f i e ok c w =
    let five : kind ≡ 5 = call_kind kind (cc) in
    c (call_map map (subst (λ (k : ℕ). permitted k map ≡ true) five ok))

-- the calls of two parts are the calls of the whole
both_named : (p : ℕ) (s t : Statement) → CallsNamed p s → CallsNamed p t → (g : ℕ) → calls s g || calls t g ≡ true → Names p g
both_named p s t a b g e = or_cases (calls s g) (calls t g) e (a g) (b g)

reads_statement_of : (p : ℕ) (test : Input → Parsed Condition) (part : Input → Parsed Statement) →
    ((j : Input) → Reads Any Low (test j)) → ((j : Input) → Reads (StatementRead p) Low (part j)) →
    (what : StatementKind) (f : Fields) (i : Input) → (what ≡ StatementKind.calls → Names p f.called) →
    Reads (StatementRead p) Low (statement_of test part what f i)
unfolding statement_of calls
reads_statement_of p test part ht hp skips f i c = λ g e. absurd (false≢true e)
reads_statement_of p test part ht hp nots f i c = λ g e. absurd (false≢true e)
reads_statement_of p test part ht hp sequences f i c =
    reads_two (StatementRead p) (StatementRead p) part sequence i hp (λ s t j k a b. both_named p s t a b)
reads_statement_of p test part ht hp ifs f i c = reads_then Any (StatementRead p) Low (test i) _ (ht i) (λ d j q.
    reads_two (StatementRead p) (StatementRead p) part (if d) j hp (λ s t j k a b. both_named p s t a b))
reads_statement_of p test part ht hp qcases f i c =
    reads_two (StatementRead p) (StatementRead p) part (qcase f.removed f.a) i hp (λ s t j k a b. both_named p s t a b)
reads_statement_of p test part ht hp StatementKind.calls f i c = λ g e. subst (λ (x : ℕ). Names p x) (eqb-true f.called g e) (c refl)

reads_statement : (p depth : ℕ) (i : Input) → Reads (StatementRead p) Low (statement p depth i)
unfolding statement
reads_statement p zero i = reads_opening (StatementRead p) statement_kind i _ (λ map kind what j e. omega arith)
reads_statement p (suc depth) i = reads_opening (StatementRead p) statement_kind i _ (λ map kind what j e.
    reads_contents (StatementRead p) p map kind j _ (λ ok f k c.
    reads_statement_of p (condition p depth) (statement p depth) (λ j. reads_condition p depth j) (λ j. reads_statement p depth j) what f k
    (call_names p map kind what f k e ok c)))

-- n bodies, each of whose calls is named
abbrev Bodies : ℕ → ℕ → List Statement → Input → Type 0
Bodies p n ss i = (length ss ≡ n) × ((f : ℕ) → CallsNamed p (get_or ss f skip))

skip_named : (p : ℕ) → CallsNamed p skip
unfolding calls
skip_named p g e = absurd (false≢true e)

cons_named : (p : ℕ) (s : Statement) (ss : List Statement) → CallsNamed p s → ((f : ℕ) → CallsNamed p (get_or ss f skip)) →
    (f : ℕ) → CallsNamed p (get_or (s ∷ ss) f skip)
cons_named p s ss a b zero = a
cons_named p s ss a b (suc f) = b f

reads_statements : (p n : ℕ) (i : Input) → Reads (Bodies p n) Low (statements p n i)
unfolding statements
reads_statements p zero i = (refl, λ f. skip_named p)
reads_statements p (suc n) i =
    reads_then (StatementRead p) (Bodies p (suc n)) Low (statement p most_depth i) _ (reads_statement p most_depth i) (λ s j q.
    reads_then (Bodies p n) (Bodies p (suc n)) Low (statements p n j) _ (reads_statements p n j) (λ ss k r.
    (ap suc r.0, cons_named p s ss q r.1)))

-- a list of length 0 is empty
pub no_bytes : (bs : List ℕ) → length bs ≡ 0 → bs ≡ []
no_bytes [] e = refl
no_bytes (b ∷ bs) e = cc

-- of a program that was read: p procedures, all calls named, and no byte left
abbrev TreesRead : ℕ → Program → Input → Type 0
TreesRead p P i = (count P ≡ p) × Named P × (i.bytes ≡ [])

reads_trees : (p : ℕ) (i : Input) → Reads (TreesRead p) Low (trees p i)
unfolding trees
reads_trees p i = reads_then (StatementRead p) (TreesRead p) Low (statement p most_depth i) _ (reads_statement p most_depth i) (λ s j q.
    reads_then (Bodies p p) (TreesRead p) Low (statements p p j) _ (reads_statements p p j) (λ ss k r.
    reads_provided (TreesRead p) Low (eqb (length k.bytes) 0) bytes_left _ (omega arith) (λ e.
    (r.0, (λ f. rw r.0 (cons_named p s ss q r.1 f)), no_bytes k.bytes (eqb-true (length k.bytes) 0 e)))))

-- of a table that is read: no more procedures than there may be, every call goes to one of them, no byte is left
abbrev pub TableRead : Program → Input → Type 0
TableRead P i = (count P ≤ most_procedures) × Named P × (i.bytes ≡ [])

-- what the reader of tables gives; a refusal is 1 to 8
reads_table : (bs : List ℕ) → Reads TableRead Low (read_table bs)
unfolding read_table
reads_table [] = omega arith
reads_table (edition ∷ []) = omega arith
reads_table (edition ∷ p ∷ rest) =
    reads_provided TableRead Low (eqb edition table_edition) wrong_edition _ (omega arith) (λ e.
    reads_provided TableRead Low (leb p most_procedures) many_procedures _ (omega arith) (λ few.
    let i : Input = record { bytes = rest; records = 0 } in
    reads_less (TreesRead p) TableRead Low (trees p i) (λ P j r. (rw r.0 (leb-true p most_procedures few), r.1, r.2)) (reads_trees p i)))

-- every call of a table that is read goes to one of its procedures
pub read_named : (bs : List ℕ) {P : Program} {i : Input} → read_table bs ≡ parsed P i → Named P
read_named bs e = (rw e at (reads_table bs)).1

-- it has no more procedures than there may be
pub read_count : (bs : List ℕ) {P : Program} {i : Input} → read_table bs ≡ parsed P i → count P ≤ most_procedures
read_count bs e = (rw e at (reads_table bs)).0

-- it is read to its end
pub read_end : (bs : List ℕ) {P : Program} {i : Input} → read_table bs ≡ parsed P i → i.bytes ≡ []
read_end bs e = (rw e at (reads_table bs)).2

-- the reader of tables gives no refusal but 1 to 8
pub read_refusal : (bs : List ℕ) {k : ℕ} → read_table bs ≡ refused k → (1 ≤ k) × (k ≤ 8)
read_refusal bs e = rw e at (reads_table bs)

-- the same of the reader's outcome
abbrev pub WasRead : Outcome Program → Type 0
WasRead (gives P) = Named P × (count P ≤ most_procedures)
WasRead (refuses k) = (1 ≤ k) × (k ≤ 8)

pub outcome_read_lem : (bs : List ℕ) → WasRead (outcome (read_table bs))
unfolding outcome
outcome_read_lem bs = by_reading (read_table bs) (reads_table bs)
  where
    by_reading : (x : Parsed Program) → Reads TableRead Low x → WasRead (outcome x)
    by_reading (parsed P i) r = (r.1, r.0)
    by_reading (refused k) r = r

-- What lies past the records that a table may have is never looked at.

-- a bit's value where it stands
abbrev pub valued : Bool → ℕ → ℕ
valued true v = v
valued false v = 0

-- "A number is a base byte and a signed 16-bit constant"
abbrev pub number_length : ℕ
number_length = 3

-- "removals: a count byte 1 to 8, then that many numbers"
abbrev pub longest_removals : ℕ
longest_removals = 1 + number_length * most_removals

-- a NOT or a qcase: map, kind, removals and number a
abbrev pub longest_record : ℕ
longest_record = 2 + longest_removals + number_length

-- edition, p and all records
abbrev pub longest_table : ℕ
longest_table = 2 + longest_record * most_records

-- no more of a table is ever looked at: map and kind of one record too many
abbrev pub looked_at : ℕ
looked_at = longest_table + 2

-- at most c bytes were read, and no record
abbrev Spent : {A : Type 0} → ℕ → Input → A → Input → Type 0
Spent c i a j = (length i.bytes ≤ length j.bytes + c) × (j.records ≡ i.records)

-- what is left is enough for all records that may still come, and for the map and kind of one more
abbrev Enough : Input → Type 0
Enough i = (i.records ≤ most_records) × (2 + longest_record * most_records ≤ length i.bytes + longest_record * i.records)

-- behind the map and the kind of a record
abbrev Opened : Input → Type 0
Opened i = (i.records ≤ most_records) × (longest_record * most_records ≤ length i.bytes + longest_record * i.records)

-- what is left behind a tree is enough
abbrev Leaves : {A : Type 0} → A → Input → Type 0
Leaves a i = Enough i

-- how many bytes the fields of a map take at most
abbrev cost : ℕ → ℕ
cost map = valued (stands 0 map) longest_removals + valued (stands 1 map) number_length + valued (stands 2 map) number_length + valued (stands 3 map) 1

-- with map and kind, those of a permitted map make no longer record than the longest
abbrev Short : ℕ → Type 0
Short map = 2 + cost map ≤ longest_record

kind_cost : (kind : ℕ) → Short (required_map kind) × Short (required_map kind + optional_map kind)
kind_cost zero = (lit≤ tt, lit≤ tt)
kind_cost (suc zero) = (lit≤ tt, lit≤ tt)
kind_cost (suc (suc zero)) = (lit≤ tt, lit≤ tt)
kind_cost (suc (suc (suc zero))) = (lit≤ tt, lit≤ tt)
kind_cost (suc (suc (suc (suc zero)))) = (lit≤ tt, lit≤ tt)
kind_cost (suc (suc (suc (suc (suc zero))))) = (lit≤ tt, lit≤ tt)
kind_cost (suc (suc (suc (suc (suc (suc zero)))))) = (lit≤ tt, lit≤ tt)
kind_cost (suc (suc (suc (suc (suc (suc (suc zero))))))) = (lit≤ tt, lit≤ tt)
kind_cost (suc (suc (suc (suc (suc (suc (suc (suc zero)))))))) = (lit≤ tt, lit≤ tt)
kind_cost (suc (suc (suc (suc (suc (suc (suc (suc (suc zero))))))))) = (lit≤ tt, lit≤ tt)
kind_cost (suc (suc (suc (suc (suc (suc (suc (suc (suc (suc zero)))))))))) = (lit≤ tt, lit≤ tt)
kind_cost (suc (suc (suc (suc (suc (suc (suc (suc (suc (suc (suc zero))))))))))) = (lit≤ tt, lit≤ tt)
kind_cost (suc (suc (suc (suc (suc (suc (suc (suc (suc (suc (suc (suc kind)))))))))))) = (lit≤ tt, lit≤ tt)

permitted_cost : (kind map : ℕ) → permitted kind map ≡ true → Short map
permitted_cost kind map ok =
    let required = required_map kind in let extra = optional_map kind in
    or_cases (eqb map required) (eqb map (required + extra)) ok
    (λ e. subst Short (sym (eqb-true map required e)) (kind_cost kind).0)
    (λ e. subst Short (sym (eqb-true map (required + extra) e)) (kind_cost kind).1)

module _ (more : List ℕ) where
  -- more bytes behind all
  abbrev longer : Input → Input
  longer i = record { bytes = i.bytes ++ more; records = i.records }

  abbrev lengthen : {A : Type 0} → Parsed A → Parsed A
  lengthen (parsed a i) = parsed a (longer i)
  lengthen (refused k) = refused k

  -- with more bytes the same is read or refused, and Q holds of what was read and of what is left
  record Same {A : Type 0} (Q : A → Input → Type 0) (x y : Parsed A) : Type 0 where
    same : y ≡ lengthen x
    holds : Reads Q Anyhow x

  same_then : {A B : Type 0} (Q : A → Input → Type 0) (R : B → Input → Type 0) (x y : Parsed A) (f : A → Input → Parsed B) →
      Same Q x y → ((a : A) (i : Input) → Q a i → Same R (f a i) (f a (longer i))) → Same R (and_then x f) (and_then y f)
  unfolding and_then
  same_then Q R (parsed a i) y f h g = subst (λ (z : Parsed _). Same R (f a i) (and_then z f)) (sym h.same) (g a i h.holds)
  same_then Q R (refused k) y f h g = record { same = ap (λ z. and_then z f) h.same; holds = tt }

  same_less : {A : Type 0} (Q R : A → Input → Type 0) (x y : Parsed A) → ((a : A) (i : Input) → Q a i → R a i) → Same Q x y → Same R x y
  same_less Q R x y f h = record { same = h.same; holds = reads_less Q R Anyhow x f h.holds }

  same_provided : {A : Type 0} (Q : A → Input → Type 0) (b : Bool) (k : ℕ) (x y : Parsed A) →
      (b ≡ true → Same Q x y) → Same Q (provided b k x) (provided b k y)
  unfolding provided
  same_provided Q true k x y h = h refl
  same_provided Q false k x y h = record { same = refl; holds = tt }

  same_byte : {B : Type 0} (R : B → Input → Type 0) (i : Input) (f : ℕ → Input → Parsed B) → 1 ≤ length i.bytes →
      ((b : ℕ) (j : Input) → length i.bytes ≡ suc (length j.bytes) → j.records ≡ i.records → Same R (f b j) (f b (longer j))) →
      Same R (and_then (byte i) f) (and_then (byte (longer i)) f)
  unfolding byte_of
  same_byte R i f room h =
      same_then (λ b j. (length i.bytes ≡ suc (length j.bytes)) × (j.records ≡ i.records)) R (byte i) (byte (longer i)) f
      (go i.bytes room) (λ b j q. h b j q.0 q.1)
    where
      go : (bs : List ℕ) → 1 ≤ length bs → Same (λ b j. (length bs ≡ suc (length j.bytes)) × (j.records ≡ i.records))
          (byte_of bs i.records) (byte_of (bs ++ more) i.records)
      go [] room = absurd (omega arith)
      go (b ∷ bs) room = record { same = refl; holds = (refl, refl) }

  same_number : (i : Input) → number_length ≤ length i.bytes → Same (Spent number_length i) (number i) (number (longer i))
  unfolding number
  same_number i room = let Q : Number → Input → Type 0 = Spent number_length i in
      same_byte Q i _ (omega arith) (λ base j e₁ r₁. same_provided Q _ wrong_field _ _ (λ ok.
      same_byte Q j _ (omega arith) (λ low k e₂ r₂. same_byte Q k _ (omega arith) (λ high l e₃ r₃.
      record { same = refl; holds = (omega arith, omega arith) }))))

  same_numbers : (n : ℕ) (i : Input) → number_length * n ≤ length i.bytes → Same (Spent (number_length * n) i) (numbers n i) (numbers n (longer i))
  unfolding numbers
  same_numbers zero i room = record { same = refl; holds = (omega arith, refl) }
  same_numbers (suc n) i room = let Q = Spent (number_length * suc n) i in
      same_then (Spent number_length i) Q (number i) (number (longer i)) _ (same_number i (omega arith)) (λ x j q.
      same_then (Spent (number_length * n) j) Q (numbers n j) (numbers n (longer j)) _ (same_numbers n j (omega (arith, q.0))) (λ xs k r.
      record { same = refl; holds = (omega (arith, q.0, r.0), r.1 ∙ q.1) }))

  same_removals : (i : Input) → longest_removals ≤ length i.bytes → Same (Spent longest_removals i) (removals i) (removals (longer i))
  unfolding removals
  same_removals i room = let Q : List Number → Input → Type 0 = Spent longest_removals i in
      same_byte Q i _ (omega arith) (λ n j e₁ r₁. same_provided Q (leb 1 n && leb n most_removals) wrong_field _ _ (λ ok.
      let few : n ≤ most_removals = leb-true n most_removals (and_right (leb 1 n) (leb n most_removals) ok) in
      same_less (Spent (number_length * n) j) Q (numbers n j) _ (λ xs k q. (omega (arith, q.0), q.1 ∙ r₁)) (same_numbers n j (omega arith))))

  same_procedure_lem : (p : ℕ) (i : Input) → 1 ≤ length i.bytes → Same (Spent 1 i) (procedure p i) (procedure p (longer i))
  unfolding procedure
  same_procedure_lem p i room = same_byte (Spent 1 i) i _ room (λ f j e₁ r₁.
      same_provided (Spent 1 i) (leb 1 f && leb f p) wrong_field _ _ (λ ok. record { same = refl; holds = (omega arith, r₁) }))

  -- a field takes bytes only where its bit stands
  same_optional : {A : Type 0} (c : ℕ) (b : Bool) (reader : Input → Parsed A) (absent : A) (i : Input) →
      (c ≤ length i.bytes → Same (Spent c i) (reader i) (reader (longer i))) → valued b c ≤ length i.bytes →
      Same (Spent (valued b c) i) (optional b reader absent i) (optional b reader absent (longer i))
  unfolding optional
  same_optional c true reader absent i h room = h room
  same_optional c false reader absent i h room = record { same = refl; holds = (omega arith, refl) }

  same_fields : (p map : ℕ) (i : Input) → cost map ≤ length i.bytes → Same (Spent (cost map) i) (fields p map i) (fields p map (longer i))
  unfolding fields
  same_fields p map i room =
      let Q : Fields → Input → Type 0 = Spent (cost map) i in
      let c₀ = valued (stands 0 map) longest_removals in let c₁ = valued (stands 1 map) number_length in
      let c₂ = valued (stands 2 map) number_length in let c₃ = valued (stands 3 map) 1 in
      same_then (Spent c₀ i) Q _ _ _ (same_optional longest_removals (stands 0 map) removals [] i (same_removals i) (omega arith)) (λ rs j q₀.
      same_then (Spent c₁ j) Q _ _ _ (same_optional number_length (stands 1 map) number _ j (same_number j) (omega (arith, q₀.0))) (λ a k q₁.
      same_then (Spent c₂ k) Q _ _ _ (same_optional number_length (stands 2 map) number _ k (same_number k) (omega (arith, q₀.0, q₁.0))) (λ b l q₂.
      same_then (Spent c₃ l) Q _ _ _
      (same_optional 1 (stands 3 map) (procedure p) 0 l (same_procedure_lem p l) (omega (arith, q₀.0, q₁.0, q₂.0))) (λ f m q₃.
      record { same = refl; holds = (omega (arith, q₀.0, q₁.0, q₂.0, q₃.0), q₃.1 ∙ q₂.1 ∙ q₁.1 ∙ q₀.1) }))))

  same_opening : {K A : Type 0} (Q : A → Input → Type 0) (sort : ℕ → Option K) (i : Input) (f : ℕ → ℕ → K → Input → Parsed A) → Enough i →
      ((map kind : ℕ) (what : K) (j : Input) → Opened j → Same Q (f map kind what j) (f map kind what (longer j))) →
      Same Q (opening sort i f) (opening sort (longer i) f)
  unfolding opening known
  same_opening {K} {A} Q sort i f enough h =
      let few : i.records ≤ most_records = enough.0 in
      let long : 2 + longest_record * most_records ≤ length i.bytes + longest_record * i.records = enough.1 in
      same_byte Q i _ (omega arith) (λ map j e₁ r₁. same_byte Q j _ (omega arith) (λ kind k e₂ r₂.
      go map kind k (omega arith) (sort kind)))
    where
      go : (map kind : ℕ) (k : Input) → Opened k → (o : Option K) →
          Same Q (known o (λ what. f map kind what k)) (known o (λ what. f map kind what (longer k)))
      go map kind k opened none = record { same = refl; holds = tt }
      go map kind k opened (some what) = h map kind what k opened

  same_contents : {A : Type 0} (Q : A → Input → Type 0) (p map kind : ℕ) (i : Input) (f : Fields → Input → Parsed A) → Opened i →
      ((fs : Fields) (j : Input) → Enough j → Same Q (f fs j) (f fs (longer j))) → Same Q (contents p map kind i f) (contents p map kind (longer i) f)
  unfolding contents
  same_contents Q p map kind i f opened h =
      same_provided Q (ltb i.records most_records) too_deep _ _ (λ fewer. same_provided Q (permitted kind map) wrong_map _ _ (λ ok.
      let less : i.records < most_records = ltb-true i.records most_records fewer in
      let long : longest_record * most_records ≤ length i.bytes + longest_record * i.records = opened.1 in
      let short : Short map = permitted_cost kind map ok in
      same_then (Spent (cost map) (counted i)) Q _ _ f (same_fields p map (counted i) (omega arith)) (λ fs j q.
      h fs j (omega (arith, q.0, q.1)))))

  -- where enough is left, the reader reads the same with more bytes behind, and leaves enough
  abbrev Steady : {A : Type 0} → (Input → Parsed A) → Type 0
  Steady part = (i : Input) → Enough i → Same Leaves (part i) (part (longer i))

  same_two : {A B : Type 0} (part : Input → Parsed A) (make : A → A → B) → Steady part → Steady (two part make)
  unfolding two
  same_two part make h i enough =
      same_then Leaves Leaves (part i) _ _ (h i enough) (λ x j q.
      same_then Leaves Leaves (part j) _ _ (h j q) (λ y k r. record { same = refl; holds = r }))

  same_condition_of : (part : Input → Parsed Condition) → Steady part → (what : ConditionKind) (f : Fields) → Steady (condition_of part what f)
  unfolding condition_of
  same_condition_of part h greaters f i enough = record { same = refl; holds = enough }
  same_condition_of part h at_leasts f i enough = record { same = refl; holds = enough }
  same_condition_of part h equals f i enough = record { same = refl; holds = enough }
  same_condition_of part h ands f i enough = same_two part conjunction h i enough
  same_condition_of part h ors f i enough = same_two part disjunction h i enough
  same_condition_of part h negations f i enough = same_then Leaves Leaves (part i) _ _ (h i enough) (λ c j q. record { same = refl; holds = q })

  same_condition : (p depth : ℕ) → Steady (condition p depth)
  unfolding condition
  same_condition p zero i enough = same_opening Leaves condition_kind i _ enough (λ map kind what j opened. record { same = refl; holds = tt })
  same_condition p (suc depth) i enough = same_opening Leaves condition_kind i _ enough (λ map kind what j opened.
      same_contents Leaves p map kind j _ opened (λ f k q. same_condition_of (condition p depth) (same_condition p depth) what f k q))

  same_statement_of : (test : Input → Parsed Condition) (part : Input → Parsed Statement) → Steady test → Steady part →
      (what : StatementKind) (f : Fields) → Steady (statement_of test part what f)
  unfolding statement_of
  same_statement_of test part ht hp skips f i enough = record { same = refl; holds = enough }
  same_statement_of test part ht hp nots f i enough = record { same = refl; holds = enough }
  same_statement_of test part ht hp sequences f i enough = same_two part sequence hp i enough
  same_statement_of test part ht hp ifs f i enough = same_then Leaves Leaves (test i) _ _ (ht i enough) (λ c j q. same_two part (if c) hp j q)
  same_statement_of test part ht hp qcases f i enough = same_two part (qcase f.removed f.a) hp i enough
  same_statement_of test part ht hp StatementKind.calls f i enough = record { same = refl; holds = enough }

  same_statement : (p depth : ℕ) → Steady (statement p depth)
  unfolding statement
  same_statement p zero i enough = same_opening Leaves statement_kind i _ enough (λ map kind what j opened. record { same = refl; holds = tt })
  same_statement p (suc depth) i enough = same_opening Leaves statement_kind i _ enough (λ map kind what j opened.
      same_contents Leaves p map kind j _ opened (λ f k q.
      same_statement_of (condition p depth) (statement p depth) (same_condition p depth) (same_statement p depth) what f k q))

  same_statements : (p n : ℕ) → Steady (statements p n)
  unfolding statements
  same_statements p zero i enough = record { same = refl; holds = enough }
  same_statements p (suc n) i enough = same_then Leaves Leaves (statement p most_depth i) _ _ (same_statement p most_depth i enough) (λ s j q.
      same_then Leaves Leaves (statements p n j) _ _ (same_statements p n j q) (λ ss k r. record { same = refl; holds = r }))

  -- bytes are left, so nothing is read
  same_trees : (p : ℕ) (i : Input) → Enough i → Same (λ P j. ⊥) (trees p i) (trees p (longer i))
  unfolding trees provided
  same_trees p i enough = same_then Leaves (λ P j. ⊥) (statement p most_depth i) _ _ (same_statement p most_depth i enough) (λ s j q.
      same_then Leaves (λ P j. ⊥) (statements p p j) _ _ (same_statements p p j q) (λ ss k r.
      let few : k.records ≤ most_records = r.0 in
      let long : 2 + longest_record * most_records ≤ length k.bytes + longest_record * k.records = r.1 in
      let both = length-append k.bytes more in
      rw (ne_eqb (length k.bytes) 0 (omega arith), ne_eqb (length (k.bytes ++ more)) 0 (omega arith))
      (record { same = refl; holds = tt })))

  refused_alike : {A : Type 0} (x y : Parsed A) → Same (λ a j. ⊥) x y → (k : ℕ) × (x ≡ refused k) × (y ≡ refused k)
  refused_alike (parsed a i) y h = absurd h.holds
  refused_alike (refused k) y h = (k, refl, h.same)

-- A table as long as what is ever looked at, or longer, is refused, with the same number whatever follows those bytes.
pub read_long : (bs more : List ℕ) → looked_at ≤ length bs →
    (k : ℕ) × (read_table bs ≡ refused k) × (read_table (bs ++ more) ≡ refused k)
unfolding read_table
read_long [] more h = absurd (omega arith)
read_long (edition ∷ []) more h = absurd (omega arith)
read_long (edition ∷ p ∷ rest) more h = refused_alike more _ _
    (same_provided more (λ P j. ⊥) (eqb edition table_edition) wrong_edition _ _ (λ e.
    same_provided more (λ P j. ⊥) (leb p most_procedures) many_procedures _ _ (λ few.
    same_trees more p (record { bytes = rest; records = 0 }) (omega arith))))
