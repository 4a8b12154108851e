-- Document 02, S-2: "Tables that use only bases 0 and 1 mean what they did." First of numbers: on bases 0 and 1 what was (specs/OldBases) is what is now.
-- Then of tables: what the old reader and the old ways make of such a table is what is made of it today.
use Prim.Native.Nat.{ℕ, zero, suc}
use native.Mathlib.Omega.{arith}
use mathlib.Core.Path.{◌≡◌, refl, sym, ap, ◌∙◌, subst}
use mathlib.Core.Logic.{◌≢◌, ◌↔◌}
use mathlib.Core.List.{List, [], ◌∷◌}
use borrow.Author.Tests.{lt-leb}
use lib.ListN.{length}
use lib.Dec.{leb}
use lib.IntN.{ℤ}
use Rattle.model.specs.Limits.{wrong_field}
use Rattle.model.specs.Syntax.{Number, constant, size_plus, left_plus, Condition, greater, at_least, equal, conjunction, disjunction, negation, Program}
use Rattle.model.specs.Reading.{Input, Parsed, parsed, refused, and_then, provided, byte, signed16, number_of, most_base, number, read_table}
use Rattle.model.specs.Lists.{sizes, value, position, remove, remove_all, remaining, touched, holds}
use Rattle.model.specs.Answers.{gives, outcome}
use Rattle.model.proofs.OutcomeLaws.{gives_same, not_both}
use Rattle.model.proofs.ReadingLaws.{Reads, Anyhow}
use Rattle.plain.specs.Numbers.{InList, InCondition}
use Rattle.plain.specs.ReadingBy.{read_table_by}
use Rattle.plain.specs.AnswersBy.{SameMeaning}
use Rattle.plain.specs.OldBases.{Old, OldProgram, old_number_of, number_or, old_number, OnlyOldBases}
use Rattle.plain.specs.OldBases.{old_value, old_remove_all, old_remaining, old_touched, old_holds, old_ways}
use Rattle.plain.proofs.ReadersAlike.{Alike, both_read, broken_off, Not, reads_on, alike_same, tables_alike, unbroken, not_broken}
use Rattle.plain.proofs.WaysAlike.{AsToday, program_faults_alike, end_word_alike, emission_alike}
use Rattle.plain.proofs.AnswersAlike.{accepted_read, same_meaning}

module _ (other : ℤ → ℕ → ℤ) where
  -- a number has the value it had
  pub value_stays : (a : Number) → Old a → (l now : List ℕ) → old_value other a (length l) ≡ value a (sizes l now)
  unfolding old_value
  value_stays (constant z) old l now = refl
  value_stays (size_plus z) old l now = refl
  value_stays (left_plus z) old l now = absurd old

  -- the same is left
  remove_all_stays : (rs : List Number) → InList Old rs → (l now : List ℕ) → old_remove_all other (length l) rs now ≡ remove_all l rs now
  unfolding remove_all old_remove_all
  remove_all_stays [] old l now = refl
  remove_all_stays (a ∷ rs) old l now =
      rw (value_stays a old.0 l now) (remove_all_stays rs old.1 l (remove (position (value a (sizes l now))) now))

  pub remaining_stays : (rs : List Number) → InList Old rs → (l : List ℕ) → old_remaining other rs l ≡ remaining rs l
  remaining_stays rs old l = remove_all_stays rs old l l

  -- the same is touched
  pub touched_stays : (rs : List Number) (a : Number) → InList Old rs × Old a → (l : List ℕ) → old_touched other rs a l ≡ touched rs a l
  touched_stays rs a old l = rw (value_stays a old.1 l (remaining rs l), remaining_stays rs old.0 l)

  -- a condition holds where it did
  pub holds_stays : (c : Condition) → InCondition Old c → (l : List ℕ) → old_holds other c (length l) ≡ holds c l
  unfolding holds old_holds
  holds_stays (greater a b) old l = rw (value_stays a old.0 l l, value_stays b old.1 l l)
  holds_stays (at_least a b) old l = rw (value_stays a old.0 l l, value_stays b old.1 l l)
  holds_stays (equal a b) old l = rw (value_stays a old.0 l l, value_stays b old.1 l l)
  holds_stays (conjunction c d) old l = rw (holds_stays c old.0 l, holds_stays d old.1 l)
  holds_stays (disjunction c d) old l = rw (holds_stays c old.0 l, holds_stays d old.1 l)
  holds_stays (negation c) old l = rw (holds_stays c old l)

  ways_stay : AsToday Old (old_ways other)
  ways_stay = record { leaves = remaining_stays; touches = touched_stays; tells = holds_stays }

-- behind base 0 or 1 both look for the constant
constant_stays : (make : ℤ → Number) → ((z : ℤ) → Old (make z)) → (j : Input) → Alike (Unit {0}) Old (λ a. Not (Old a))
    (λ m. and_then (byte j) (λ low k. and_then (byte k) (λ high l. parsed (make (signed16 low high)) l)))
    (and_then (byte j) (λ low k. and_then (byte k) (λ high l. parsed (make (signed16 low high)) l)))
constant_stays make old j = alike_same (Unit {0}) Old (λ a. Not (Old a)) (byte j) _ _ (λ low k.
    alike_same (Unit {0}) Old (λ a. Not (Old a)) (byte k) _ _ (λ high l. both_read (old (signed16 low high))))

-- behind base 0 or 1 a number is read, or refused, as it was; at base 2 and above the old reader broke off, and today's reads no number of base 0 or 1
base_stays : (base : ℕ) (j : Input) → Alike (Unit {0}) Old (λ a. Not (Old a))
    (λ m. provided (leb base 1) m (and_then (byte j) (λ low k. and_then (byte k) (λ high l. parsed (old_number_of base (signed16 low high)) l))))
    (provided (leb base most_base) wrong_field (and_then (byte j) (λ low k. and_then (byte k) (λ high l. parsed (number_of base (signed16 low high)) l))))
unfolding provided old_number_of number_of
base_stays zero j = constant_stays constant (λ z. tt) j
base_stays (suc zero) j = constant_stays size_plus (λ z. tt) j
base_stays (suc (suc zero)) j = let R : Number → Input → Type 0 = λ a i. Not (Old a) in
    broken_off tt (reads_on R (byte j) (λ low k. and_then (byte k) (λ high l. parsed (left_plus (signed16 low high)) l)) (λ low k.
    reads_on R (byte k) (λ high l. parsed (left_plus (signed16 low high)) l) (λ high l z. z)))
base_stays (suc (suc (suc base))) j = let b = suc (suc (suc base)) in
    rw (lt-leb b 1 (omega arith), lt-leb b most_base (omega arith)) (broken_off tt tt)

-- so the reader of numbers reads as the old one did, or the old one broke off, and so the reader of tables
pub number_stays : (i : Input) → Alike (Unit {0}) Old (λ a. Not (Old a)) (λ m. number_or m i) (number i)
unfolding number_or number
number_stays i = alike_same (Unit {0}) Old (λ a. Not (Old a)) (byte i) _ _ base_stays

pub table_stays : (table : List ℕ) → Alike (Unit {0}) OldProgram (λ P. Not (OldProgram P)) (λ m. read_table_by (number_or m) table) (read_table table)
table_stays table = tables_alike (Unit {0}) Old number_or tt number_stays table

-- what was read is no refusal
not_refused : {A : Type 0} {x : Parsed A} {a : A} {i : Input} (k : ℕ) → x ≡ parsed a i → x ≢ refused k
unfolding outcome
not_refused k e r = not_both (sym (ap outcome r) ∙ ap outcome e)

-- what holds of what was read holds of the program that is given
given_good : {A : Type 0} (Q : A → Type 0) (x : Parsed A) {a : A} → Reads (λ b i. Q b) Anyhow x → outcome x ≡ gives a → Q a
unfolding outcome
given_good Q (parsed b i) q e = subst Q (gives_same e) q
given_good Q (refused k) q e = not_both e

-- A table that is read uses only bases 0 and 1 exactly where all numbers of its program are of base 0 or 1.
pub bases_exactly : (table : List ℕ) {P : Program} {i : Input} → read_table table ≡ parsed P i → OnlyOldBases table ↔ OldProgram P
unfolding outcome
bases_exactly table e = (
  λ only. given_good OldProgram (read_table table) (unbroken (table_stays table) only.0 (λ c. only.1)).1 (ap outcome e),
  λ old. (0, not_refused 0 (not_broken (table_stays table) e old 0)),
)

-- So does every table that the old reader read, or refused with another number than 6.
pub not_six : (table : List ℕ) → read_table_by old_number table ≢ refused wrong_field → OnlyOldBases table
not_six table h = (wrong_field, h)

pub read_old : (table : List ℕ) {P : Program} {i : Input} → read_table_by old_number table ≡ parsed P i → OnlyOldBases table
read_old table e = not_six table (not_refused wrong_field e)

-- "Tables that use only bases 0 and 1 mean what they did.", whatever a number of base 2 would have meant
pub bases_mean : (other : ℤ → ℕ → ℤ) (table : List ℕ) → OnlyOldBases table → SameMeaning old_number (old_ways other) table
bases_mean other table only =
    let stays = unbroken (table_stays table) only.0 (λ c. only.1) in
    let W = old_ways other in
    let A = ways_stay other in
    let old : (P : Program) → outcome (read_table table) ≡ gives P → OldProgram P = λ P e. given_good OldProgram (read_table table) stays.1 e in
    same_meaning old_number W table (stays.0 wrong_field)
    (λ P n e. program_faults_alike Old W A P (old P e) n)
    (λ P n word e. end_word_alike Old W A P (old P (accepted_read table n P e)) n word)
    (λ P n e. emission_alike Old W A (λ w b cs. refl) P (old P (accepted_read table n P e)) n)
