-- The clauses of `word_does` at a condition and at a qubit's bit, and a qubit's number as it stands.
use mathlib.Core.Path.{◌≡◌}
use mathlib.Core.Bool.{true, false}
use mathlib.Core.List.{List}
use Prim.Native.Nat.{ℕ, ◌≤◌}
use borrow.Author.Tests.{le-ltb}
use Rattle.model.specs.Limits.{most_qubits}
use Rattle.model.specs.Syntax.{Number, Condition, Statement, if, qcase}
use Rattle.model.specs.Lists.{touched, holds}
use Rattle.run.specs.RunOnWords.{qubit_of, bit_of, CallWords, word_does}

module _ (o : CallWords) (c : Condition) (t u : Statement) (l : List ℕ) (word : ℕ) where
  -- if goes on as yes where its condition holds
  pub word_yes : holds c l ≡ true → word_does o (if c t u) l word ≡ word_does o t l word
  unfolding word_does
  word_yes e = rw (e, word_does)

  -- otherwise as no
  pub word_no : holds c l ≡ false → word_does o (if c t u) l word ≡ word_does o u l word
  unfolding word_does
  word_no e = rw (e, word_does)

module _ (o : CallWords) (rs : List Number) (a : Number) (t u : Statement) (l : List ℕ) (word : ℕ) where
  -- qcase goes on as zero where it reads 0
  pub word_zero : bit_of (touched rs a l) word ≡ false → word_does o (qcase rs a t u) l word ≡ word_does o t l word
  unfolding word_does
  word_zero e = rw (e, word_does)

  -- as one where it reads 1
  pub word_one : bit_of (touched rs a l) word ≡ true → word_does o (qcase rs a t u) l word ≡ word_does o u l word
  unfolding word_does
  word_one e = rw (e, word_does)

-- a qubit's number stands for itself
pub qubit_is : (q : ℕ) → q ≤ most_qubits → qubit_of q ≡ q
qubit_is q h = rw (le-ltb most_qubits q h)
