-- Document 02, S-5: what holds of the bytes that inverse gives for a table and n.
use Rattle.std.specs.Prelude.{ℕ, ◌^◌, ◌≤◌, ◌<◌, ◌≡◌, List, length}
use Rattle.model.specs.Limits.{least_workspace}
use Rattle.model.specs.Syntax.{Program}
use Rattle.model.specs.Writing.{write_table}
use Rattle.model.specs.Inverse.{inverse_program}
use Rattle.model.specs.Answers.{gives, after, accepted, run, inverse_table}

pub record Undoes (table : List ℕ) (n : ℕ) (bytes : List ℕ) : Type 0 where
  -- the program of the table, which is accepted at n
  pub program : Program
  pub accepts : accepted table n ≡ gives program
  -- "sequences turned round, everything else kept"
  pub written : bytes ≡ write_table (inverse_program program)
  -- so the inverse is as long as the table
  pub same_length : length bytes ≡ length table
  -- "It is accepted at the same n"
  pub accepts_inverse : accepted bytes n ≡ gives (inverse_program program)
  -- "and running one after the other gives the start word, whichever comes first": first the table,
  pub back : (word workspace : ℕ) → word < 2 ^ n → least_workspace ≤ workspace →
      after (run table n word workspace) (λ end. run bytes n end workspace) ≡ gives word
  -- first the inverse
  pub forth : (word workspace : ℕ) → word < 2 ^ n → least_workspace ≤ workspace →
      after (run bytes n word workspace) (λ end. run table n end workspace) ≡ gives word
  -- "Inverting again gives a table with the first one's bytes."
  pub again : (room : ℕ) → length table ≤ room → inverse_table bytes n room ≡ gives table
