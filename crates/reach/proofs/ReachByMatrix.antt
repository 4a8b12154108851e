-- The matrix that `fill_reach` leaves, and what is read off it: the model's reach, recursive calls, and refusal 10.
use mathlib.Core.Path.{◌≡◌, sym, ap, ◌∙◌, fun_ext}
use mathlib.Core.Bool.{Bool, true, false}
use Prim.Native.Nat.{ℕ, suc, ◌≤◌}
use native.Mathlib.Nat.{le_trans, le_of_suc-le-suc, lt_irrefl, lt_of_le_of_lt}
use borrow.Author.Tests.{le-ltb}
use Rattle.model.specs.Limits.{most_procedures}
use Rattle.model.specs.Syntax.{Program, Statement, count, body}
use Rattle.model.specs.Reach.{calls, Reaches, direct, onward, reaches, recursive, lacks_removal, any_below, any_lacks_removal}
use Rattle.model.proofs.BooleanLaws.{by_lt, clash, not_true_false, any_same}
use Rattle.model.proofs.ReachAndRank.{Named, body_out, reach_sound, reached_named}
use Rattle.decoded.specs.declared.Program as decoded
use Rattle.decoded.specs.DecodedTable.{procedure_count, body_at, program_at}
use Rattle.reach.specs.Matrix.{entry, recursive_in, rows_of, reach_table}
use Rattle.reach.specs.CallsInATable.{reach_at, lacks_in, any_lacks_in}
use Rattle.reach.proofs.MatrixRelation.{shows_entry, entry_past_row, entry_past_column, rows_shown}
use Rattle.reach.proofs.MatrixOfAProgram.{count_at, body_at_lem}

-- what calls something has a body, and so has what reaches something
from_body : (P : Program) (f g : ℕ) → calls (body P f) g ≡ true → f ≤ count P
unfolding calls
from_body P f g c = by_lt (count P) f (λ o. clash c (rw (body_out P f o))) (λ l. l)

reaches_low : (P : Program) {f g : ℕ} → Reaches P f g → f ≤ count P
reaches_low P (direct {f = f} {g = g} c) = from_body P f g c
reaches_low P (onward {f = f} {h = h} c r) = from_body P f h c

module _ (g : decoded.Program) (l : procedure_count g ≤ most_procedures) (named : Named (program_at g)) where
  abbrev p : ℕ
  p = procedure_count g

  abbrev P : Program
  P = program_at g

  -- the matrix is the table of reach
  pub reach_table_lem : reach_at g ≡ reach_table P
  unfolding reach_at
  reach_table_lem = rw (le-ltb most_procedures p l)

  outside : (f h : ℕ) → (f ≤ most_procedures → h ≤ most_procedures → ⊥) → false ≡ reaches P f h
  outside f h far = sym (not_true_false (reaches P f h) (λ r.
      let path = reach_sound P f h r in
      let low : f ≤ p = rw (count_at g) at (reaches_low P path) in
      let right : h ≤ p = rw (count_at g) at (reached_named P named path).1 in
      far (le_trans low l) (le_trans right l)))

  -- its entry of row f and column g says whether f reaches g
  pub reach_entry : (f h : ℕ) → entry (reach_at g) f h ≡ reaches P f h
  unfolding reach_table
  reach_entry f h = rw reach_table_lem (by_lt most_procedures f
      (λ o. sym (entry_past_row (rows_of (reaches P)) (reaches P) (rows_shown (reaches P)) f h o) ∙ outside f h (λ lf lg. lt_irrefl f (lt_of_le_of_lt lf o)))
      (λ lf. by_lt most_procedures h
      (λ o. sym (entry_past_column (rows_of (reaches P)) f h o) ∙ outside f h (λ lf lg. lt_irrefl h (lt_of_le_of_lt lg o)))
      (λ lg. shows_entry (rows_of (reaches P)) (reaches P) (rows_shown (reaches P)) f h lf lg)))

  -- a call from f is recursive by the matrix where it is
  pub recursive_entry : (f : ℕ) → recursive_in (reach_at g) f ≡ recursive P f
  recursive_entry f = fun_ext (λ h. reach_entry h f)

  -- a test of bodies by the matrix is the test by the program's reach
  pub any_read : (test : (ℕ → Bool) → Statement → Bool) →
      any_below (suc p) (λ f. test (recursive_in (reach_at g) f) (body_at g f))
      ≡ any_below (suc (count P)) (λ f. test (recursive P f) (body P f))
  any_read test =
      any_same (suc p) (λ f. test (recursive_in (reach_at g) f) (body_at g f)) (λ f. test (recursive P f) (body P f))
      (λ f h. ap (λ (r : ℕ → Bool). test r (body_at g f)) (recursive_entry f)
      ∙ ap (test (recursive P f)) (sym (body_at_lem g f (le_of_suc-le-suc h))))
      ∙ ap (λ (n : ℕ). any_below (suc n) (λ f. test (recursive P f) (body P f))) (sym (count_at g))

  -- refusal 10 of the program, by the matrix
  pub refusal_ten : any_lacks_in (reach_at g) g ≡ any_lacks_removal P
  unfolding any_lacks_removal lacks_in
  refusal_ten = any_read lacks_removal
