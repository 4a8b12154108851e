-- `model/specs/Answers`, on tables, over a reader of numbers and ways to value them and to put controls.
use Rattle.std.specs.Prelude.{ℕ, ◌^◌, ◌≡◌, not, ◌&&◌, List, [], ltb, leb}
use Rattle.model.specs.Limits.{
  most_qubits,
  header_length,
  least_workspace,
  wrong_qubits,
  no_removal,
  too_wide,
  access_fault,
  high_bit,
  short_workspace,
  no_room,
}
use Rattle.model.specs.Syntax.{Program}
use Rattle.model.specs.Reach.{any_lacks_removal, any_too_wide}
use Rattle.model.specs.Emission.{gates, peak}
use Rattle.model.specs.Circuit.{Circuit}
use Rattle.model.specs.Reading.{read_table}
use Rattle.model.specs.Answers.{Outcome, gives, after, require, outcome, accepted, verdict, run, fit, fitted, usable, compile}
use Rattle.plain.specs.Ways.{Ways}
use Rattle.plain.specs.ReadingBy.{NumberReader, read_table_by}
use Rattle.plain.specs.MeaningBy.{program_faults_by, end_word_by}
use Rattle.plain.specs.EmissionBy.{emission_by}

unfoldable pub circuit_by : Ways → Program → ℕ → Circuit
circuit_by W P n = record { data_wires = n; ancillas = peak [] (emission_by W P n); gates = gates (emission_by W P n) }

module _ (number : NumberReader) (W : Ways) where
  unfoldable pub accepted_by : List ℕ → ℕ → Outcome Program
  accepted_by table n =
      require (leb 1 n && leb n most_qubits) wrong_qubits
      (after (outcome (read_table_by number table)) (λ P.
      require (not (any_lacks_removal P)) no_removal
      (require (not (any_too_wide P)) too_wide
      (require (not (program_faults_by W P n)) access_fault
      (gives P)))))

  unfoldable pub verdict_by : List ℕ → ℕ → ℕ → Outcome Program
  verdict_by table n workspace =
      after (accepted_by table n) (λ P.
      require (leb least_workspace workspace) short_workspace
      (gives P))

  unfoldable pub run_by : List ℕ → ℕ → ℕ → ℕ → Outcome ℕ
  run_by table n word workspace =
      after (accepted_by table n) (λ P.
      require (ltb word (2 ^ n)) high_bit
      (require (leb least_workspace workspace) short_workspace
      (gives (end_word_by W P n word))))

  unfoldable pub compile_by : List ℕ → ℕ → ℕ → ℕ → Outcome (List ℕ)
  compile_by table n room workspace =
      after (accepted_by table n) (λ P.
      require (leb least_workspace workspace) short_workspace
      (require (leb header_length (usable room)) no_room
      (fitted (fit (usable room) header_length (emission_by W P n)) (circuit_by W P n))))

-- A table means, over this reader and these ways, what it means today: it is read to the same program or refused with the same number, is accepted at the
-- same n, runs to the same end words and compiles to the same bytes, for every n, word, room and workspace, refusals too.
pub record SameMeaning (number : NumberReader) (W : Ways) (table : List ℕ) : Type 0 where
  pub reads : read_table_by number table ≡ read_table table
  pub accepts : (n : ℕ) → accepted_by number W table n ≡ accepted table n
  pub answers : (n workspace : ℕ) → verdict_by number W table n workspace ≡ verdict table n workspace
  pub runs : (n word workspace : ℕ) → run_by number W table n word workspace ≡ run table n word workspace
  pub compiles : (n room workspace : ℕ) → compile_by number W table n room workspace ≡ compile table n room workspace
