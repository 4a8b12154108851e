-- The ways out of the functions that walk a statement, and of the loops over bodies.
use mathlib.Core.Path.{◌≡◌, refl, sym, ◌∙◌}
use mathlib.Core.Bool.{Bool, true, false, ◌&&◌, ◌||◌, and-true, and-false}
use mathlib.Core.List.{List, [], ◌∷◌}
use Prim.Native.Nat.{ℕ, suc, ◌+◌, ◌-◌, ◌≤◌, ◌<◌}
use native.Mathlib.Nat.{not-suc-le-zero}
use native.Mathlib.Numerals.{add-one}
use native.Mathlib.Omega.{arith}
use borrow.Author.Rules.{rules}
use borrow.Author.Tests.{lt-ltb, le-ltb, ne_eqb}
use lib.Dec.{eqb}
use lib.ListN.{length}
use Rattle.model.specs.Limits.{most_procedures, most_depth}
use Rattle.model.specs.Syntax.{Number, Statement}
use Rattle.model.specs.Reach.{is_empty, lacks_removal, any_below}
use Rattle.model.proofs.BooleanLaws.{or-false, any_here}
use Rattle.decoded.specs.declared.Program as decoded
use Rattle.decoded.specs.DecodedTable.{root_of, procedure_count, removals_in, statement_at, body_at}
use Rattle.decoded.specs.Steps.{parts_at}
use Rattle.decoded.specs.declared.Parts.{Parts}
use Rattle.decoded.specs.declared.Parts.TheVariants as parts
use Rattle.reach.specs.Matrix.{recursive_in, mark, closed, no_marks}
use Rattle.reach.specs.CallsInATable.{marked, marked_below, reach_at, lacks_in}
use Rattle.reach.proofs.MatrixOperations.{left_never}
use Rattle.reach.proofs.MatrixOfAProgram.{filled_reach}
use Rattle.decoded.proofs.PartsOfARecord.{ArePartsOf, as_skip, as_not, as_sequence, as_if, as_qcase, as_call, parts_here}

-- a call carries a removal where their number is not 0
bare : (rs : List Number) → length rs ≤ 0 → is_empty rs ≡ true
unfolding is_empty
bare [] h = refl
bare (a ∷ rs) h = absurd (not-suc-le-zero h)

carries : (rs : List Number) → 0 < length rs → is_empty rs ≡ false
unfolding is_empty
carries [] h = absurd (not-suc-le-zero h)
carries (a ∷ rs) h = refl

-- what a statement's parts do for each walk
marks_by : ℕ → (ℕ → Statement) → Parts → List ℕ → List ℕ
marks_by f part parts.Neither m = m
marks_by f part (parts.Two a b t) m = marked f (part b) (marked f (part a) m)
marks_by f part (parts.Call q at) m = mark f q m

lacks_by : (ℕ → Bool) → (ℕ → Statement) → decoded.Program → Parts → Bool
lacks_by r part g parts.Neither = false
lacks_by r part g (parts.Two a b t) = lacks_removal r (part a) || lacks_removal r (part b)
lacks_by r part g (parts.Call q at) = r q && is_empty (removals_in g at)

module _ (part : ℕ → Statement) (g : decoded.Program) where
  marks_by_parts : (f : ℕ) (m : List ℕ) {x : Parts} {s : Statement} → ArePartsOf part g x s → marked f s m ≡ marks_by f part x m
  unfolding marked marks_by
  marks_by_parts f m as_skip = refl
  marks_by_parts f m (as_not rs a) = refl
  marks_by_parts f m (as_sequence a b) = refl
  marks_by_parts f m (as_if c a b) = refl
  marks_by_parts f m (as_qcase rs q a b) = refl
  marks_by_parts f m (as_call q at) = refl

  lacks_by_parts : (r : ℕ → Bool) {x : Parts} {s : Statement} → ArePartsOf part g x s → lacks_removal r s ≡ lacks_by r part g x
  unfolding lacks_removal lacks_by
  lacks_by_parts r as_skip = refl
  lacks_by_parts r (as_not rs a) = refl
  lacks_by_parts r (as_sequence a b) = refl
  lacks_by_parts r (as_if c a b) = refl
  lacks_by_parts r (as_qcase rs q a b) = refl
  lacks_by_parts r (as_call q at) = refl

module _ (g : decoded.Program) (depth i : ℕ) where
  -- depth 0: there is nothing to walk
  module _ (z : depth ≡ 0) where
    pub marks_spent : (f : ℕ) (m : List ℕ) → m ≡ marked f (statement_at g depth i) m
    unfolding statement_at marked
    marks_spent f m = rw z

    pub lacks_spent : (r : ℕ → Bool) → false ≡ lacks_removal r (statement_at g depth i)
    unfolding statement_at lacks_removal
    lacks_spent r = rw z

  abbrev part : ℕ → Statement
  part = statement_at g (depth - 1)

  module _ (d : depth ≡ 0 → ⊥) (x : Parts) (e : x ≡ parts_at g i) where
    here : ArePartsOf part g x (statement_at g depth i)
    here = parts_here g depth i d x e

    -- marks
    module _ (f : ℕ) (m : List ℕ) where
      marks_are : (n : List ℕ) (y : Parts) → x ≡ y → n ≡ marks_by f part y m → n ≡ marked f (statement_at g depth i) m
      marks_are n y q b = rw (marks_by_parts part g f m here, q) b

      pub marks_none : x ≡ parts.Neither → m ≡ marked f (statement_at g depth i) m
      unfolding marks_by
      marks_none q = marks_are m parts.Neither q refl

      pub marks_two : (a b : ℕ) (t : Bool) (m₁ m₂ : List ℕ) → x ≡ parts.Two a b t → m₁ ≡ marked f (part a) m → m₂ ≡ marked f (part b) m₁ →
          m₂ ≡ marked f (statement_at g depth i) m
      unfolding marks_by
      marks_two a b t m₁ m₂ q o h = marks_are m₂ (parts.Two a b t) q (rw (← o) h)

      pub marks_call : (q at : ℕ) (n : List ℕ) → x ≡ parts.Call q at → n ≡ mark f q m → n ≡ marked f (statement_at g depth i) m
      unfolding marks_by
      marks_call q at n e h = marks_are n (parts.Call q at) e h

    -- a call without removal
    module _ (r : ℕ → Bool) where
      lacks_are : (n : Bool) (y : Parts) → x ≡ y → n ≡ lacks_by r part g y → n ≡ lacks_removal r (statement_at g depth i)
      lacks_are n y q b = rw (lacks_by_parts part g r here, q) b

      pub lacks_none : x ≡ parts.Neither → false ≡ lacks_removal r (statement_at g depth i)
      unfolding lacks_by
      lacks_none q = lacks_are false parts.Neither q refl

      module _ (a b : ℕ) (t : Bool) (q : x ≡ parts.Two a b t) (first : Bool) (o : first ≡ lacks_removal r (part a)) where
        pub lacks_first : first ≡ true → true ≡ lacks_removal r (statement_at g depth i)
        unfolding lacks_by
        lacks_first y = lacks_are true (parts.Two a b t) q (rw (← o, y))

        pub lacks_second : (second : Bool) → first ≡ false → second ≡ lacks_removal r (part b) →
            second ≡ lacks_removal r (statement_at g depth i)
        unfolding lacks_by
        lacks_second second y h = lacks_are second (parts.Two a b t) q (rw (← o, y) h)

      module _ (q at : ℕ) (c : x ≡ parts.Call q at) (n : ℕ) (h : n ≡ length (removals_in g at)) where
        pub lacks_call_carries : (n ≡ 0 → ⊥) → eqb n 0 ≡ lacks_removal r (statement_at g depth i)
        unfolding lacks_by
        lacks_call_carries some =
            rw (ne_eqb n 0 some) (lacks_are false (parts.Call q at) c (rw (carries (removals_in g at) (omega arith)) (sym (and-false (r q)))))

        pub lacks_call_bare : (b : Bool) → n ≡ 0 → b ≡ r q → b ≡ lacks_removal r (statement_at g depth i)
        unfolding lacks_by
        lacks_call_bare b none k = lacks_are b (parts.Call q at) c (rw (bare (removals_in g at) (omega arith)) (k ∙ sym (and-true (r q))))

-- refusal 10, and the marks, of one body and of all
pub lacks_is : (m : List ℕ) (g : decoded.Program) (f root : ℕ) (r : Bool) → root ≡ root_of g f →
    r ≡ lacks_removal (recursive_in m f) (statement_at g most_depth root) → r ≡ lacks_in m g f
unfolding lacks_in
lacks_is m g f root r e q = rw (← e) q

pub body_marked : (g : decoded.Program) (f root : ℕ) (m n : List ℕ) → root ≡ root_of g f → n ≡ marked f (statement_at g most_depth root) m →
    n ≡ marked f (body_at g f) m
body_marked g f root m n e q = rw (← e) q

-- body after body
module _ (body : ℕ → Statement) (m₀ m : List ℕ) (f : ℕ) (q : m ≡ marked_below body f m₀) where
  pub bodies_more : (next : List ℕ) → next ≡ marked f (body f) m → next ≡ marked_below body (f + 1) m₀
  unfolding marked_below
  bodies_more next e = rw (add-one f, ← q) e

  pub bodies_last : (p : ℕ) (next : List ℕ) → f ≤ p → p ≤ f → next ≡ marked f (body f) m → next ≡ marked_below body (suc p) m₀
  unfolding marked_below
  bodies_last p next l h e = let same : p ≡ f = omega arith in rw (same, ← q) e

pub bodies_start : (body : ℕ → Statement) (m : List ℕ) → m ≡ marked_below body 0 m
unfolding marked_below
bodies_start body m = refl

module _ (bad : ℕ → Bool) where
  pub any_start : any_below 0 bad ≡ false
  unfolding any_below
  any_start = refl

  module _ (f p : ℕ) (l : f ≤ p) (t : Bool) (q : t ≡ bad f) where
    pub any_yes : t ≡ true → true ≡ any_below (suc p) bad
    any_yes y = sym (any_here (suc p) bad f (omega arith) (sym q ∙ y))

    module _ (before : any_below f bad ≡ false) (y : t ≡ false) where
      pub any_more : any_below (f + 1) bad ≡ false
      unfolding any_below
      any_more = rw (add-one f) (or-false (any_below f bad) (bad f) before (sym q ∙ y))

      pub any_none : p ≤ f → false ≡ any_below (suc p) bad
      unfolding any_below
      any_none h = let same : p ≡ f = omega arith in rw same (sym (or-false (any_below f bad) (bad f) before (sym q ∙ y)))

-- the matrix filled
module _ (g : decoded.Program) where
  pub fill_many : (p : ℕ) → p ≡ procedure_count g → most_procedures < p → no_marks ≡ reach_at g
  unfolding reach_at
  fill_many p e l = let m : most_procedures < procedure_count g = rw e at l in rw (lt-ltb most_procedures (procedure_count g) m)

  pub fill_closed : (p : ℕ) (m n : List ℕ) → p ≡ procedure_count g → p ≤ most_procedures → m ≡ marked_below (body_at g) (suc p) no_marks →
      n ≡ closed (suc p) m → n ≡ reach_at g
  unfolding reach_at
  fill_closed p m n c l e q =
      let f : procedure_count g ≤ most_procedures = rw c at l in
      rw (le-ltb most_procedures (procedure_count g) f) (q ∙ rw (e, c) (filled_reach g f))

pub ruleset marking = (rules, marks_spent, marks_none, marks_two, marks_call)

pub ruleset lacking = (rules, lacks_spent, lacks_none, lacks_first, lacks_second, lacks_call_carries, lacks_call_bare)

pub ruleset bodies = (
  rules,
  lacks_is,
  body_marked,
  bodies_more,
  bodies_last,
  bodies_start,
  any_start,
  any_yes,
  any_more,
  any_none,
  fill_many,
  fill_closed,
  left_never,
)
