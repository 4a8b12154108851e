-- What inverse promises, read off the definitions: for every table that it inverts, the bytes that it gives undo it.
use mathlib.Core.Path.{◌≡◌, refl, sym, ap, ◌∙◌, subst}
use mathlib.Core.List.{List}
use Prim.Native.Nat.{ℕ, ◌^◌, ◌≤◌, ◌<◌}
use native.Mathlib.Omega.{arith}
use borrow.Author.Tests.{le-leb}
use lib.ListN.{length}
use Rattle.model.specs.Limits.{least_workspace}
use Rattle.model.specs.Syntax.{Program}
use Rattle.model.specs.Meaning.{end_word}
use Rattle.model.specs.Writing.{write_table}
use Rattle.model.specs.Inverse.{inverse_program}
use Rattle.model.specs.Answers.{gives, after, require, accepted, run, inverse_table}
use Rattle.model.specs.Undoing.{Undoes}
use Rattle.model.proofs.Acceptance.{Passes, accepted_exactly, inverse_gives}
use Rattle.model.proofs.RoundTrip.{Bytes}
use Rattle.model.proofs.WrittenTables.{table_written, table_fits, table_read}
use Rattle.model.proofs.InverseTables.{inverse_fits, inverse_long, inverse_twice}
use Rattle.agreement.proofs.BitsPastTheLastWire.{end_below}
use Rattle.agreement.proofs.CompilePromise.{run_answers}
use Rattle.agreement.proofs.InverseProgram.{same_ten, same_eleven, same_twelve, word_undone}

-- one table's run, then the run of another whose program is the inverse, gives the start word
run_then : (table undone : List ℕ) (n : ℕ) (P : Program) → accepted table n ≡ gives P → accepted undone n ≡ gives (inverse_program P) →
    (word workspace : ℕ) → word < 2 ^ n → least_workspace ≤ workspace →
    after (run table n word workspace) (λ end. run undone n end workspace) ≡ gives word
unfolding after
run_then table undone n P accepts inverts word workspace low space =
    rw (run_answers table n P accepts word workspace low space)
    (run_answers undone n (inverse_program P) inverts (end_word P n word) workspace (end_below P n word) space
    ∙ ap gives (word_undone P n word ((accepted_exactly table n P).0 accepts).passes12 low))

module _ (table : List ℕ) (ok : Bytes table) (n : ℕ) (P : Program) (accepts : accepted table n ≡ gives P) where
  abbrev Q : Program
  Q = inverse_program P

  passes : Passes table n P
  passes = (accepted_exactly table n P).0 accepts

  written_again : write_table P ≡ table
  written_again = table_written table ok passes.reads

  as_long : length (write_table Q) ≡ length table
  as_long = inverse_long P ∙ ap length written_again

  -- "It is accepted at the same n": it is read, and passes refusals 10, 11 and 12 as the program does
  inverts : accepted (write_table Q) n ≡ gives Q
  inverts =
      let read = table_read Q (inverse_fits P (table_fits table ok passes.reads)) in
      (accepted_exactly (write_table Q) n Q).1 (record {
        some = passes.some;
        few = passes.few;
        left = read.0;
        reads = read.1;
        passes10 = same_ten P ∙ passes.passes10;
        passes11 = same_eleven P ∙ passes.passes11;
        passes12 = same_twelve P n ∙ passes.passes12;
      })

  -- "Inverting again gives a table with the first one's bytes."
  inverts_again : (room : ℕ) → length table ≤ room → inverse_table (write_table Q) n room ≡ gives table
  unfolding inverse_table after require
  inverts_again room enough =
      let long = as_long in
      rw (inverts, le-leb (length (write_table Q)) room (omega arith)) (ap gives (ap write_table (inverse_twice P) ∙ written_again))

  undone : Undoes table n (write_table Q)
  undone = record {
    program = P;
    accepts = accepts;
    written = refl;
    same_length = as_long;
    accepts_inverse = inverts;
    back = run_then table (write_table Q) n P accepts inverts;
    forth = run_then (write_table Q) table n Q inverts (accepts ∙ ap gives (sym (inverse_twice P)));
    again = inverts_again;
  }

-- For every table and n that inverse gives bytes for.
pub inverse_promises : (table : List ℕ) (n room : ℕ) {bytes : List ℕ} → Bytes table → inverse_table table n room ≡ gives bytes → Undoes table n bytes
inverse_promises table n room ok e =
    let given = inverse_gives table n room e in
    subst (Undoes table n) (sym given.1) (undone table ok n given.0.program given.0.accepts)
