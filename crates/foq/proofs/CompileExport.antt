-- From the answer and the room of compile to what its export promises.
use mathlib.Core.Path.{◌≡◌, refl, sym, subst}
use mathlib.Core.List.{List}
use Prim.Native.Nat.{ℕ}
use native.Mathlib.Omega.{arith}
use lib.ListN.{length}
use Rattle.model.specs.Answers.{Outcome, gives, refuses, after, compile, room_after}
use Rattle.model.specs.Demand.{Demand3}
use Rattle.model.proofs.Acceptance.{Refusal, compile_numbered}
use Rattle.agreement.proofs.CompilePromise.{compile_promises}
use Rattle.answers.specs.declared.Answer.{Answer}
use Rattle.answers.specs.Structs.{answer_of, length_answer, Delivered}
use Rattle.foq.proofs.GivenBytes.{given_bytes}

module _ (table room : List ℕ) (n workspace : ℕ) where
  delivers : (o : Outcome (List ℕ)) → compile table n (length room) workspace ≡ o → Delivered table n (length_answer o) (room_after o room)
  unfolding after answer_of
  delivers (gives bytes) e zero_is =
      subst (Demand3 table n) (sym (given_bytes bytes room)) (compile_promises table n (length room) workspace e).0
  delivers (refuses k) e zero_is =
      let number : Refusal k = rw e at (compile_numbered table n (length room) workspace) in let some = number.0 in absurd (omega arith)

  pub answer_delivers : (r : Answer) (room₁ : List ℕ) → r ≡ length_answer (compile table n (length room) workspace) →
      room₁ ≡ room_after (compile table n (length room) workspace) room → Delivered table n r room₁
  answer_delivers r room₁ a b = rw (a, b) (delivers (compile table n (length room) workspace) refl)
