-- The statement that an if chooses: for check, run and emission the if is that statement.
use Prim.Native.Nat.{ℕ, ◌-◌}
use mathlib.Core.Path.{◌≡◌, sym, ap, ◌∙◌}
use mathlib.Core.Bool.{Bool, true, false, cond}
use mathlib.Core.List.{List}
use borrow.Author.Rules.{rules}
use Rattle.model.specs.Syntax.{Condition, Statement, if}
use Rattle.model.specs.Lists.{holds}
use Rattle.model.proofs.BooleanLaws.{by_bool}
use Rattle.decoded.specs.declared.Program.{Program}
use Rattle.decoded.specs.DecodedTable.{test_at, statement_at}
use Rattle.decoded.specs.declared.Step.{Step}
use Rattle.decoded.specs.declared.Step.TheVariants as step
use Rattle.decoded.specs.Steps.{step_at}
use Rattle.decoded.proofs.StatementAtARecord.{at_step}

-- the ways out of `chosen`, and of any choice between two numbers
module _ (t b : Bool) (i j : ℕ) (e : t ≡ b) where
  pub choose_yes : t ≡ true → i ≡ cond b i j
  choose_yes h = rw (← e, h)

  pub choose_no : t ≡ false → j ≡ cond b i j
  choose_no h = rw (← e, h)

pub ruleset choosing = (rules, choose_yes, choose_no)

-- `means` says of an if what it says of its first statement where the condition holds, and of its second where it does not: so it says what it
-- says of the statement that is chosen
pub chosen_means : {A : Type 0} (means : Statement → A) (l : List ℕ) →
    ((c : Condition) (s t : Statement) → holds c l ≡ true → means (if c s t) ≡ means s) →
    ((c : Condition) (s t : Statement) → holds c l ≡ false → means (if c s t) ≡ means t) →
    (g : Program) (depth i : ℕ) {found : Step} → (depth ≡ 0 → ⊥) → found ≡ step_at g i →
    {c a b x : ℕ} → found ≡ step.Chooses c a b → x ≡ cond (holds (test_at g (depth - 1) c) l) a b →
    means (statement_at g depth i) ≡ means (statement_at g (depth - 1) x)
chosen_means means l on-yes on-no g depth i deep steps {c = c} {a = a} {b = b} {x = x} e q =
    let test = test_at g (depth - 1) c in
    let part = statement_at g (depth - 1) in
    ap means (at_step g depth i deep steps e) ∙ by_bool (holds test l)
    (λ h. on-yes test (part a) (part b) h ∙ ap (λ (j : ℕ). means (part j)) (sym (rw h at q)))
    (λ h. on-no test (part a) (part b) h ∙ ap (λ (j : ℕ). means (part j)) (sym (rw h at q)))
