-- With today's reader and today's ways the definitions of this crate are the model's, for every table, program and n. So nobody has to believe them.
use mathlib.Core.Path.{◌≡◌, refl}
use mathlib.Core.Bool.{Bool}
use mathlib.Core.List.{List, [], ◌∷◌}
use Prim.Native.Nat.{ℕ}
use Rattle.model.specs.Syntax.{Number, Condition, greater, at_least, equal, conjunction, disjunction, negation}
use Rattle.model.specs.Syntax.{Statement, skip, NOT, sequence, if, qcase, call, Program, body}
use Rattle.model.specs.Reading.{Parsed, parsed, refused, number, read_table}
use Rattle.model.specs.Faults.{program_faults}
use Rattle.model.specs.Meaning.{end_word}
use Rattle.model.specs.Gates.{Controls, with_control}
use Rattle.model.specs.Emission.{invocations, emission}
use Rattle.plain.specs.Numbers.{InList, InCondition, InStatement, InProgram}
use Rattle.plain.specs.Ways.{today_with, today}
use Rattle.plain.specs.ReadingBy.{read_table_by}
use Rattle.plain.specs.MeaningBy.{program_faults_by, end_word_by}
use Rattle.plain.specs.EmissionBy.{invocations_by, emission_by}
use Rattle.plain.specs.AnswersBy.{SameMeaning}
use Rattle.plain.proofs.ReadersAlike.{Alike, both_read, both_refused, Not, tables_alike, unbroken}
use Rattle.plain.proofs.WaysAlike.{AsToday, invocations_alike, program_faults_alike, end_word_alike, emission_alike}
use Rattle.plain.proofs.AnswersAlike.{same_meaning}

-- any number
abbrev Any : Number → Type 0
Any a = Unit {0}

any_list : (rs : List Number) → InList Any rs
any_list [] = tt
any_list (a ∷ rs) = (tt, any_list rs)

any_condition : (c : Condition) → InCondition Any c
any_condition (greater a b) = (tt, tt)
any_condition (at_least a b) = (tt, tt)
any_condition (equal a b) = (tt, tt)
any_condition (conjunction c d) = (any_condition c, any_condition d)
any_condition (disjunction c d) = (any_condition c, any_condition d)
any_condition (negation c) = any_condition c

any_statement : (s : Statement) → InStatement Any s
any_statement skip = tt
any_statement (NOT rs a) = (any_list rs, tt)
any_statement (sequence s t) = (any_statement s, any_statement t)
any_statement (if c s t) = (any_condition c, (any_statement s, any_statement t))
any_statement (qcase rs a s t) = ((any_list rs, tt), (any_statement s, any_statement t))
any_statement (call rs f) = any_list rs

any_program : (P : Program) → InProgram Any P
any_program P f = any_statement (body P f)

-- today's numbers, however controls are put
as_today : (put : ℕ → Bool → Controls → Controls) → AsToday Any (today_with put)
as_today put = record { leaves = λ rs q l. refl; touches = λ rs a q l. refl; tells = λ c q l. refl }

pub faults_numbers : (put : ℕ → Bool → Controls → Controls) (P : Program) (n : ℕ) → program_faults_by (today_with put) P n ≡ program_faults P n
faults_numbers put P n = program_faults_alike Any (today_with put) (as_today put) P (any_program P) n

pub words_numbers : (put : ℕ → Bool → Controls → Controls) (P : Program) (n word : ℕ) → end_word_by (today_with put) P n word ≡ end_word P n word
words_numbers put P n word = end_word_alike Any (today_with put) (as_today put) P (any_program P) n word

pub invocations_numbers : (put : ℕ → Bool → Controls → Controls) (r : ℕ → Bool) (s : Statement) (l : List ℕ) (next : ℕ) →
    invocations_by (today_with put) r s l next ≡ invocations r s l next
invocations_numbers put r s l next = invocations_alike Any (today_with put) (as_today put) r s l next (any_statement s)

-- today's reader beside itself does not break off
itself : (x : Parsed Number) → Alike ⊥ Any (λ a. Not (Any a)) (λ m. x) x
itself (parsed a i) = both_read tt
itself (refused k) = both_refused

pub reads_today : (bs : List ℕ) → read_table_by number bs ≡ read_table bs
reads_today bs = (unbroken (tables_alike ⊥ Any (λ m. number) tt (λ i. itself (number i)) bs) 0 (λ c. absurd c)).0 0

pub faults_today : (P : Program) (n : ℕ) → program_faults_by today P n ≡ program_faults P n
faults_today = faults_numbers with_control

pub words_today : (P : Program) (n word : ℕ) → end_word_by today P n word ≡ end_word P n word
words_today = words_numbers with_control

pub emission_today : (P : Program) (n : ℕ) → emission_by today P n ≡ emission P n
emission_today P n = emission_alike Any today (as_today with_control) (λ w b cs. refl) P (any_program P) n

-- every table means what it means
pub means_today : (table : List ℕ) → SameMeaning number today table
means_today table = same_meaning number today table (reads_today table) (λ P n e. faults_today P n) (λ P n word e. words_today P n word)
    (λ P n e. emission_today P n)
