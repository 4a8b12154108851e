-- The matrix of a program: marks for every call of every body, then closed, is its table of reach.
use mathlib.Core.Path.{◌≡◌, refl, sym, ap, ◌∙◌, subst}
use mathlib.Core.Bool.{Bool, true, false, ◌&&◌, ◌||◌, and-false, or-false}
use mathlib.Core.List.{List}
use Prim.Native.Nat.{ℕ, zero, suc, ◌≤◌, ◌<◌, zero-le, suc-le-suc}
use native.Mathlib.Omega.{arith}
use borrow.Author.Tests.{lt-ltb, le-ltb, eqb-true}
use lib.ListN.{length-map}
use lib.Dec.{eqb, ltb}
use Rattle.model.specs.Limits.{most_procedures}
use Rattle.model.specs.Lists.{range}
use Rattle.model.specs.Syntax.{Statement, skip, NOT, sequence, if, qcase, call, Program, count, body}
use Rattle.model.specs.Reach.{calls, reaches_below, reaches}
use Rattle.model.proofs.BooleanLaws.{by_lt}
use Rattle.model.proofs.ListLaws.{range_length, tabulated}
use Rattle.model.proofs.ReachAndRank.{body_out}
use Rattle.decoded.specs.declared.Program as decoded
use Rattle.decoded.specs.DecodedTable.{procedure_count, body_at, program_at}
use Rattle.reach.specs.Matrix.{closed, reach_table, no_marks}
use Rattle.reach.specs.CallsInATable.{marked, marked_below}
use Rattle.reach.proofs.MatrixRelation.{Shows, shows_as, shows_mark, one_more, below_more, not_below, shows_none, shows_closed, shown_rows}

both_calls : (a row s t : Bool) → (a || (row && s)) || (row && t) ≡ a || (row && (s || t))
both_calls true row s t = refl
both_calls false true s t = refl
both_calls false false s t = refl

two_parts : (f : ℕ) (s t : Statement) (m : List ℕ) (R : ℕ → ℕ → Bool) →
    Shows m (λ x y. (R x y || (eqb f x && calls s y)) || (eqb f x && calls t y)) → Shows m (λ x y. R x y || (eqb f x && (calls s y || calls t y)))
two_parts f s t m R =
    shows_as m (λ x y. (R x y || (eqb f x && calls s y)) || (eqb f x && calls t y)) (λ x y. R x y || (eqb f x && (calls s y || calls t y)))
    (λ x y lx ly. both_calls (R x y) (eqb f x) (calls s y) (calls t y))

no_calls : (f : ℕ) (m : List ℕ) (R : ℕ → ℕ → Bool) → Shows m R → Shows m (λ x y. R x y || (eqb f x && false))
no_calls f m R = shows_as m R (λ x y. R x y || (eqb f x && false)) (λ x y lx ly. rw (and-false (eqb f x), or-false (R x y)))

-- the marks of a statement: a cell of row f is marked exactly if it was, or the statement calls its column
shows_marked : (f : ℕ) (s : Statement) (m : List ℕ) (R : ℕ → ℕ → Bool) → Shows m R →
    Shows (marked f s m) (λ x y. R x y || (eqb f x && calls s y))
unfolding marked calls
shows_marked f skip m R h = no_calls f m R h
shows_marked f (NOT rs a) m R h = no_calls f m R h
shows_marked f (sequence s t) m R h = two_parts f s t (marked f t (marked f s m)) R
    (shows_marked f t (marked f s m) (λ x y. R x y || (eqb f x && calls s y)) (shows_marked f s m R h))
shows_marked f (if c s t) m R h = two_parts f s t (marked f t (marked f s m)) R
    (shows_marked f t (marked f s m) (λ x y. R x y || (eqb f x && calls s y)) (shows_marked f s m R h))
shows_marked f (qcase rs a s t) m R h = two_parts f s t (marked f t (marked f s m)) R
    (shows_marked f t (marked f s m) (λ x y. R x y || (eqb f x && calls s y)) (shows_marked f s m R h))
shows_marked f (call rs g) m R h = shows_mark m R f g h

-- the rows below n marked, each for its body
shows_below : (part : ℕ → Statement) (n : ℕ) (m : List ℕ) (R : ℕ → ℕ → Bool) → Shows m R →
    Shows (marked_below part n m) (λ x y. R x y || (ltb x n && calls (part x) y))
unfolding marked_below
shows_below part zero m R h = shows_as m R (λ x y. R x y || (ltb x 0 && calls (part x) y))
    (λ x y lx ly. rw (le-ltb x 0 zero-le, or-false (R x y))) h
shows_below part (suc k) m R h =
    shows_as (marked_below part (suc k) m) (λ x y. S x y || (eqb k x && calls (part k) y)) (λ x y. R x y || (ltb x (suc k) && calls (part x) y))
    (λ x y lx ly. rw (below_more x k) (one_more (R x y) true (ltb x k) (eqb k x) (calls (part x) y) (calls (part k) y) (at x y)))
    (shows_marked k (part k) (marked_below part k m) S (shows_below part k m R h))
  where
    S : ℕ → ℕ → Bool
    S x y = R x y || (ltb x k && calls (part x) y)

    at : (x y : ℕ) → eqb k x ≡ true → (ltb x k ≡ false) × (calls (part k) y ≡ calls (part x) y)
    at x y e = rw (← eqb-true k x e) (not_below k, refl)

module _ (g : decoded.Program) where
  abbrev p : ℕ
  p = procedure_count g

  abbrev P : Program
  P = program_at g

  -- p is the number of procedures of the program
  pub count_at : count P ≡ p
  count_at = length-map (range p 1) (body_at g) ∙ range_length p 1

  -- and its body f is the one at the root of f
  pub body_at_lem : (f : ℕ) → f ≤ p → body P f ≡ body_at g f
  body_at_lem zero l = refl
  body_at_lem (suc f) l = tabulated (body_at g) skip p 1 f l ∙ ap (body_at g) (omega arith)

  -- the calls of a body, as its row is marked
  calls_at : (f h : ℕ) → ltb f (suc p) && calls (body_at g f) h ≡ calls (body P f) h
  unfolding calls
  calls_at f h = by_lt f (suc p)
      (λ l. rw (lt-ltb f (suc p) l, body_at_lem f (omega arith)))
      (λ ge. let over : count P < f = rw count_at ge in rw (le-ltb f (suc p) ge, body_out P f over))

  -- marked for every body and closed, the matrix is the table of reach
  pub filled_reach : p ≤ most_procedures → closed (suc p) (marked_below (body_at g) (suc p) no_marks) ≡ reach_table P
  unfolding reach_table
  filled_reach l = shown_rows (reaches P) (closed (suc p) m)
      (subst (λ (n : ℕ). Shows (closed (suc p) m) (reaches_below P (suc n))) (sym count_at) (shows_closed P m shown (suc p) (suc-le-suc l)))
    where
      m : List ℕ
      m = marked_below (body_at g) (suc p) no_marks

      shown : Shows m (λ f g. calls (body P f) g)
      shown = shows_as m (λ f h. ltb f (suc p) && calls (body_at g f) h) (λ f h. calls (body P f) h)
          (λ f h lf lg. calls_at f h) (shows_below (body_at g) (suc p) no_marks (λ f g. false) shows_none)
