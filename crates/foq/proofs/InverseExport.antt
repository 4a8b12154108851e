-- From the answer and the room of inverse to what its export promises.
use mathlib.Core.Path.{◌≡◌, refl, sym, subst}
use mathlib.Core.List.{List}
use Prim.Native.Nat.{ℕ}
use native.Mathlib.Omega.{arith}
use mir.Syntax.{w8}
use mir.Val.{Fits}
use lib.ListN.{length, get_or}
use Rattle.model.specs.Answers.{Outcome, gives, refuses, after, inverse_table, room_after}
use Rattle.model.specs.Undoing.{Undoes}
use Rattle.model.proofs.Acceptance.{Refusal, inverse_numbered}
use Rattle.agreement.proofs.InversePromise.{inverse_promises}
use Rattle.answers.specs.declared.Answer.{Answer}
use Rattle.answers.specs.Structs.{answer_of, length_answer, Inverted}
use Rattle.foq.proofs.GivenBytes.{given_bytes}

module _ (table room : List ℕ) (n : ℕ) (byte : (k : ℕ) → Fits w8 (get_or table k 0)) where
  inverts : (o : Outcome (List ℕ)) → inverse_table table n (length room) ≡ o → Inverted table n (length_answer o) (room_after o room)
  unfolding after answer_of
  inverts (gives bytes) e zero_is =
      subst (Undoes table n) (sym (given_bytes bytes room)) (inverse_promises table n (length room) (λ k. (byte k).fits) e)
  inverts (refuses k) e zero_is =
      let number : Refusal k = rw e at (inverse_numbered table n (length room)) in let some = number.0 in absurd (omega arith)

  pub answer_inverts : (r : Answer) (room₁ : List ℕ) → r ≡ length_answer (inverse_table table n (length room)) →
      room₁ ≡ room_after (inverse_table table n (length room)) room → Inverted table n r room₁
  answer_inverts r room₁ a b = rw (a, b) (inverts (inverse_table table n (length room)) refl)
