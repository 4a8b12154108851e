-- Where the program that is read is the same, and its faults, end words and emission are, a table means what it means today.
use mathlib.Core.Path.{◌≡◌, refl, ap}
use mathlib.Core.Bool.{◌&&◌}
use mathlib.Core.List.{List}
use Prim.Native.Nat.{ℕ}
use lib.Dec.{leb}
use Rattle.model.specs.Limits.{most_qubits, wrong_qubits}
use Rattle.model.specs.Syntax.{Program}
use Rattle.model.specs.Reading.{read_table}
use Rattle.model.specs.Faults.{program_faults}
use Rattle.model.specs.Meaning.{end_word}
use Rattle.model.specs.Emission.{emission}
use Rattle.model.specs.Answers.{Outcome, gives, refuses, after, require, outcome, accepted, verdict, run, circuit, compile}
use Rattle.model.proofs.Acceptance.{accepted_exactly}
use Rattle.plain.specs.Ways.{Ways}
use Rattle.plain.specs.ReadingBy.{NumberReader, read_table_by}
use Rattle.plain.specs.MeaningBy.{program_faults_by, end_word_by}
use Rattle.plain.specs.EmissionBy.{emission_by}
use Rattle.plain.specs.AnswersBy.{circuit_by, accepted_by, verdict_by, run_by, compile_by, SameMeaning}

-- what comes behind an outcome is the same where it is for what was given
after_same : {A B : Type 0} (x : Outcome A) (f g : A → Outcome B) → ((a : A) → x ≡ gives a → f a ≡ g a) → after x f ≡ after x g
unfolding after
after_same (gives a) f g h = h a refl
after_same (refuses k) f g h = refl

-- the program of an accepted table is the one that was read
pub accepted_read : (table : List ℕ) (n : ℕ) (P : Program) → accepted table n ≡ gives P → outcome (read_table table) ≡ gives P
unfolding outcome
accepted_read table n P e = rw ((accepted_exactly table n P).0 e).reads

module _ (number : NumberReader) (W : Ways) (table : List ℕ) (reads : read_table_by number table ≡ read_table table)
    (faults_same : (P : Program) (n : ℕ) → outcome (read_table table) ≡ gives P → program_faults_by W P n ≡ program_faults P n)
    (words_same : (P : Program) (n word : ℕ) → accepted table n ≡ gives P → end_word_by W P n word ≡ end_word P n word)
    (emission_same : (P : Program) (n : ℕ) → accepted table n ≡ gives P → emission_by W P n ≡ emission P n) where
  -- acceptance asks for the faults alone
  accepts_same : (n : ℕ) → accepted_by number W table n ≡ accepted table n
  unfolding accepted_by accepted
  accepts_same n = rw reads (ap (require (leb 1 n && leb n most_qubits) wrong_qubits)
      (after_same (outcome (read_table table)) _ _ (λ P e. rw (faults_same P n e))))

  circuit_same : (P : Program) (n : ℕ) → accepted table n ≡ gives P → circuit_by W P n ≡ circuit P n
  unfolding circuit_by circuit
  circuit_same P n e = rw (emission_same P n e)

  pub same_meaning : SameMeaning number W table
  unfolding verdict_by verdict run_by run compile_by compile
  same_meaning = record {
    reads = reads;
    accepts = accepts_same;
    answers = λ n workspace. rw (accepts_same n);
    runs = λ n word workspace. rw (accepts_same n) (after_same (accepted table n) _ _ (λ P e. rw (words_same P n word e)));
    compiles = λ n room workspace. rw (accepts_same n)
        (after_same (accepted table n) _ _ (λ P e. rw (emission_same P n e, circuit_same P n e)));
  }
