-- Widths as they are counted: one law for each way out of a function. Where the records of a statement are in order, a width that is kept stays.
use Prim.Native.Nat.{ℕ, zero, suc, ◌+◌, ◌-◌, ◌≤◌, ◌<◌, min, max}
use native.Mathlib.Nat.{not-suc-le-zero}
use native.Mathlib.Numerals.{add-one, sub-one}
use native.Mathlib.Omega.{arith}
use mathlib.Core.Path.{◌≡◌, refl, sym, ap, ◌∙◌}
use mathlib.Core.Bool.{Bool, true, false}
use mathlib.Core.List.{List}
use borrow.Author.Rules.{rules}
use borrow.Author.Tests.{lt-ltb, le-ltb}
use lib.Dec.{ltb}
use Rattle.std.specs.Int.{from_bool}
use Rattle.model.specs.Limits.{most_depth}
use Rattle.model.specs.Meaning.{digit}
use Rattle.model.specs.Syntax.{Statement, skip, NOT, sequence, if, qcase, call}
use Rattle.model.specs.Reach.{width, any_below}
use Rattle.model.proofs.BooleanLaws.{by_lt, by_eq, clash, any_here, or-false}
use Rattle.decoded.specs.declared.Program as decoded
use Rattle.decoded.specs.DecodedTable.{
  width_in,
  end_of,
  root_of,
  procedure_count,
  record_in,
  test_at,
  statement_of,
  statement_at,
  body_at,
  with_width,
  Unseen,
}
use Rattle.records.specs.declared.Record.{Record}
use Rattle.records.specs.declared.Record.TheVariants as kind
use Rattle.table.specs.ReadTable.{Numbered, BodiesNumbered}
use Rattle.decoded.specs.Steps.{step_of}
use Rattle.decoded.specs.declared.Parts.{Parts}
use Rattle.decoded.specs.declared.Parts.TheVariants as parts
use Rattle.reach.specs.Matrix.{recursive_in}
use Rattle.decoded.specs.Steps.{parts_of, parts_at}
use Rattle.decoded.proofs.PartsOfARecord.{ArePartsOf, as_skip, as_not, as_sequence, as_if, as_qcase, as_call, are_parts}
use Rattle.widths.specs.KeptWidths.{
  joined_width,
  OfParts,
  Known,
  PartsInOrder,
  InOrder,
  Notes,
  Noted,
  noted,
  wide_in,
  Judges,
  Judged,
  judged,
}
use Rattle.decoded.proofs.UnseenWidths.{
  width_there,
  width_other,
  width_unseen,
  width_whole,
  unseen_then,
  same_parts,
  same_statement,
  same_body,
  same_root,
}

-- the ways out of `joined`
module _ (t : Bool) (a b r : ℕ) where
  pub joined_turn : t ≡ true → r ≡ min 2 (a + b) → r ≡ joined_width t a b
  unfolding joined_width
  joined_turn e q = rw e q

  pub joined_one : t ≡ false → r ≡ max a b → r ≡ joined_width t a b
  unfolding joined_width
  joined_one e q = rw e q

-- records in order: the first comes before the end
order_less : (g : decoded.Program) (d i end : ℕ) → InOrder g d i end → i < end
unfolding InOrder
order_less g zero i end o = o
order_less g (suc d) i end o = o.0

module _ (g h : decoded.Program) (u : Unseen g h) where
  -- widths are seen by no order
  parts_same : (d i end : ℕ) → ((j e : ℕ) → InOrder g d j e → InOrder h d j e) → (x : Parts) → PartsInOrder (InOrder g d) i end x → PartsInOrder (InOrder h d) i end x
  parts_same d i end go parts.Neither o = tt
  parts_same d i end go (parts.Two a b t) o = (o.0, go a b o.1, go b end o.2)
  parts_same d i end go (parts.Call f at) o = tt

  order_same : (d i end : ℕ) → InOrder g d i end → InOrder h d i end
  unfolding InOrder
  order_same zero i end o = o
  order_same (suc d) i end o = (o.0, rw (same_parts g h u i) (parts_same d i end (order_same d) (parts_at g i) o.1))

  -- what is known is known still where the widths of these records are the same
  module _ (r : ℕ → Bool) where
    abbrev SameFrom : ℕ → ℕ → Type 0
    SameFrom i end = (j : ℕ) → i ≤ j → j < end → width_in h j ≡ width_in g j

    known_parts : (d i end : ℕ) → ((j e : ℕ) → InOrder g d j e → SameFrom j e → Known r g d j → Known r h d j) → SameFrom i end →
        (x : Parts) → PartsInOrder (InOrder g d) i end x → OfParts (Known r g d) x → OfParts (Known r h d) x
    known_parts d i end go s parts.Neither o k = tt
    known_parts d i end go s (parts.Two a b t) o k =
        let low : i < a = o.0 in
        let m : a < b = order_less g d a b o.1 in
        let n : b < end = order_less g d b end o.2 in
        (go a b o.1 (λ j e f. s j (omega arith) (omega arith)) k.0, go b end o.2 (λ j e f. s j (omega arith) (omega arith)) k.1)
    known_parts d i end go s (parts.Call f at) o k = tt

    known_same : (d i end : ℕ) → InOrder g d i end → SameFrom i end → Known r g d i → Known r h d i
    unfolding Known InOrder
    known_same zero i end o s k = s i (omega arith) o ∙ k
    known_same (suc d) i end o s k = (
      s i (omega arith) o.0 ∙ k.0 ∙ rw (same_statement g h u (suc d) i),
      rw (same_parts g h u i) (known_parts d i end (known_same d) s (parts_at g i) o.1 k.1),
    )

-- a statement's width, by its parts
width_by : (ℕ → Bool) → (ℕ → Statement) → Parts → ℕ
width_by r part parts.Neither = 0
width_by r part (parts.Two a b true) = width r (part a) + width r (part b)
width_by r part (parts.Two a b false) = max (width r (part a)) (width r (part b))
width_by r part (parts.Call q at) = digit (r q)

width_by_parts : (part : ℕ → Statement) (g : decoded.Program) (r : ℕ → Bool) {x : Parts} {s : Statement} → ArePartsOf part g x s → width r s ≡ width_by r part x
unfolding width width_by digit
width_by_parts part g r as_skip = refl
width_by_parts part g r (as_not rs a) = refl
width_by_parts part g r (as_sequence a b) = refl
width_by_parts part g r (as_if c a b) = refl
width_by_parts part g r (as_qcase rs q a b) = refl
width_by_parts part g r (as_call q at) = refl

joined_width_lem : (t : Bool) (x y : ℕ) (r : ℕ → Bool) (part : ℕ → Statement) (a b : ℕ) → x ≡ min 2 (width r (part a)) → y ≡ min 2 (width r (part b)) →
    joined_width t x y ≡ min 2 (width_by r part (parts.Two a b t))
unfolding joined_width width_by
joined_width_lem true x y r part a b e f = omega arith
joined_width_lem false x y r part a b e f = omega arith

module _ (r : ℕ → Bool) (d i : ℕ) (g : decoded.Program) where
  width_is : (x : Parts) → parts_at g i ≡ x → width r (statement_at g (suc d) i) ≡ width_by r (statement_at g d) x
  width_is x e = width_by_parts (statement_at g d) g r (are_parts g d i) ∙ ap (width_by r (statement_at g d)) e

  -- a statement without statements in it
  leaf : (w : ℕ) (h : decoded.Program) (x : Parts) → parts_at g i ≡ x → OfParts (Known r h d) x → w ≡ min 2 (width_by r (statement_at g d) x) → h ≡ with_width i w g →
      Notes r (suc d) i g w h
  unfolding Known InOrder
  leaf w h x e none q s =
      rw s
      (record {
        counted = q ∙ rw (width_is x e);
        unseen = width_unseen i w g;
        whole = width_whole i w g;
        known = λ whole end few o.
            let low : i < end = o.0 in (
              width_there i w g whole (omega arith) ∙ q ∙ rw (same_statement g (with_width i w g) (width_unseen i w g) (suc d) i, width_is x e),
              rw (same_parts g (with_width i w g) (width_unseen i w g) i, e) (rw s at none),
            );
        before = λ end few o j l. width_other i w g j (λ z. omega arith);
        behind = λ end few o j l. let low : i < end = o.0 in width_other i w g j (λ z. omega arith);
      })

  -- a statement of two parts
  two : (w w₁ w₂ : ℕ) (g₁ g₂ h : decoded.Program) (a b : ℕ) (t : Bool) → parts_at g i ≡ parts.Two a b t → Notes r d a g w₁ g₁ → Notes r d b g₁ w₂ g₂ →
      w ≡ joined_width t w₁ w₂ → h ≡ with_width i w g₂ → Notes r (suc d) i g w h
  unfolding Known InOrder
  two w w₁ w₂ g₁ g₂ h a b t e n₁ n₂ q s =
      rw s
      (record {
        counted = counts;
        unseen = all;
        whole = λ x. width_whole i w g₂ (n₂.whole (n₁.whole x));
        known = λ whole end few o.
            let parts_order : PartsInOrder (InOrder g d) i end (parts.Two a b t) = rw e at o.1 in
            let low : i < a = parts_order.0 in
            let m : a < b = order_less g d a b parts_order.1 in
            let n : b < end = order_less g d b end parts_order.2 in
            let o₁ = order_same g g₁ n₁.unseen d a b parts_order.1 in
            let o₂ = order_same g g₁ n₁.unseen d b end parts_order.2 in
            let o₃ = order_same g₁ g₂ n₂.unseen d a b o₁ in
            let o₄ = order_same g₁ g₂ n₂.unseen d b end o₂ in
            let first : Known r g₂ d a =
            known_same g₁ g₂ n₂.unseen r d a b o₁ (λ j x y. n₂.before end few o₂ j (omega arith))
            (n₁.known whole b (omega arith) parts_order.1) in
            let second : Known r g₂ d b = n₂.known (n₁.whole whole) end few o₂ in (
              width_there i w g₂ (n₂.whole (n₁.whole whole)) (omega arith) ∙ counts ∙ rw (same_statement g (with_width i w g₂) all (suc d) i),
              rw (same_parts g (with_width i w g₂) all i, e) (
                known_same g₂ (with_width i w g₂) (width_unseen i w g₂) r d a b o₃ (λ j x y. width_other i w g₂ j (λ z. omega arith)) first,
                known_same g₂ (with_width i w g₂) (width_unseen i w g₂) r d b end o₄ (λ j x y. width_other i w g₂ j (λ z. omega arith)) second,
              ),
            );
        before = λ end few o j l.
            let parts_order : PartsInOrder (InOrder g d) i end (parts.Two a b t) = rw e at o.1 in
            let low : i < a = parts_order.0 in
            let m : a < b = order_less g d a b parts_order.1 in
            let n : b < end = order_less g d b end parts_order.2 in
            width_other i w g₂ j (λ z. omega arith)
            ∙ n₂.before end few (order_same g g₁ n₁.unseen d b end parts_order.2) j (omega arith)
            ∙ n₁.before b (omega arith) parts_order.1 j (omega arith);
        behind = λ end few o j l.
            let parts_order : PartsInOrder (InOrder g d) i end (parts.Two a b t) = rw e at o.1 in
            let low : i < a = parts_order.0 in
            let m : a < b = order_less g d a b parts_order.1 in
            let n : b < end = order_less g d b end parts_order.2 in
            width_other i w g₂ j (λ z. omega arith)
            ∙ n₂.behind end few (order_same g g₁ n₁.unseen d b end parts_order.2) j l
            ∙ n₁.behind b (omega arith) parts_order.1 j (omega arith);
      })
    where
      all : Unseen g (with_width i w g₂)
      all = unseen_then n₁.unseen (unseen_then n₂.unseen (width_unseen i w g₂))

      counts : w ≡ min 2 (width r (statement_at g (suc d) i))
      counts =
          q ∙ rw (width_is (parts.Two a b t) e)
          (joined_width_lem t w₁ w₂ r (statement_at g d) a b n₁.counted (n₂.counted ∙ rw (same_statement g g₁ n₁.unseen d b)))

-- the ways out of `note_widths`
pub notes_spent : (r : ℕ → Bool) (depth i : ℕ) (g h : decoded.Program) → depth ≡ 0 → h ≡ with_width i 0 g → Noted r depth i g 0 h
unfolding statement_at width Known InOrder
notes_spent r depth i g h z s =
    rw (z, s)
    (noted (record {
      counted = refl;
      unseen = width_unseen i 0 g;
      whole = width_whole i 0 g;
      known = λ whole end few o. let low : i < end = o in width_there i 0 g whole (omega arith);
      before = λ end few o j l. width_other i 0 g j (λ e. omega arith);
      behind = λ end few o j l. let low : i < end = o in width_other i 0 g j (λ e. omega arith);
    }))

module _ (r : ℕ → Bool) (depth i : ℕ) (g : decoded.Program) (deep : depth ≡ 0 → ⊥) (x : Parts) (e : x ≡ parts_at g i) where
  pub notes_none : (h : decoded.Program) → x ≡ parts.Neither → h ≡ with_width i 0 g → Noted r depth i g 0 h
  unfolding width_by
  notes_none h q s = by depth deep
    where
      by : (depth : ℕ) → (depth ≡ 0 → ⊥) → Noted r depth i g 0 h
      by zero f = absurd (f refl)
      by (suc d) f = noted (leaf r d i g 0 h parts.Neither (sym e ∙ q) tt refl s)

  pub notes_call : (f at w : ℕ) (b : Bool) (h : decoded.Program) → x ≡ parts.Call f at → b ≡ r f → w ≡ from_bool b → h ≡ with_width i w g → Noted r depth i g w h
  unfolding width_by digit
  notes_call f at w b h q k v s = by depth deep
    where
      few : (b : Bool) → from_bool b ≡ min 2 (digit b)
      few true = refl
      few false = refl

      by : (depth : ℕ) → (depth ≡ 0 → ⊥) → Noted r depth i g w h
      by zero f = absurd (f refl)
      by (suc d) n = noted (leaf r d i g w h (parts.Call f at) (sym e ∙ q) tt (v ∙ rw (← k) (few b)) s)

  pub notes_two : (a b : ℕ) (t : Bool) (w w₁ w₂ : ℕ) (g₁ g₂ h : decoded.Program) → x ≡ parts.Two a b t → Noted r (depth - 1) a g w₁ g₁ →
      Noted r (depth - 1) b g₁ w₂ g₂ → w ≡ joined_width t w₁ w₂ → h ≡ with_width i w g₂ → Noted r depth i g w h
  notes_two a b t w w₁ w₂ g₁ g₂ h q (noted n₁) (noted n₂) j s = by depth deep n₁ n₂
    where
      by : (depth : ℕ) → (depth ≡ 0 → ⊥) → Notes r (depth - 1) a g w₁ g₁ → Notes r (depth - 1) b g₁ w₂ g₂ → Noted r depth i g w h
      by zero f m n = absurd (f refl)
      by (suc d) f m n = noted (two r d i g w w₁ w₂ g₁ g₂ h a b t (sym e ∙ q) (rw sub-one at m) (rw sub-one at n) j s)

-- the records that the reader left are in order
numbered_less : (g : decoded.Program) (i end : ℕ) (s : Statement) → Numbered g i end s → i < end
unfolding Numbered
numbered_less g i end skip n = n
numbered_less g i end (NOT rs a) n = n
numbered_less g i end (sequence s t) n =
    let a = numbered_less g (i + 1) (end_of g (i + 1)) s n.0 in let b = numbered_less g (end_of g (i + 1)) end t n.1 in omega arith
numbered_less g i end (if c s t) n =
    let a : i < end_of g (i + 1) = n.0 in
    let b = numbered_less g (end_of g (i + 1)) (end_of g (end_of g (i + 1))) s n.1 in
    let e = numbered_less g (end_of g (end_of g (i + 1))) end t n.2 in omega arith
numbered_less g i end (qcase rs q s t) n =
    let a = numbered_less g (i + 1) (end_of g (i + 1)) s n.0 in let b = numbered_less g (end_of g (i + 1)) end t n.1 in omega arith
numbered_less g i end (call rs f) n = n

record_order : (g : decoded.Program) (d i end : ℕ) → ((j e : ℕ) → Numbered g j e (statement_at g d j) → InOrder g d j e) → (r : Record) →
    Numbered g i end (statement_of (test_at g d) (statement_at g d) g i r) → PartsInOrder (InOrder g d) i end (parts_of (step_of g i r))
unfolding statement_of step_of parts_of Numbered
record_order g d i end go kind.Skip n = tt
record_order g d i end go (kind.Not at a) n = tt
record_order g d i end go kind.Sequence n = (omega arith, go (i + 1) (end_of g (i + 1)) n.0, go (end_of g (i + 1)) end n.1)
record_order g d i end go kind.If n =
    (n.0, go (end_of g (i + 1)) (end_of g (end_of g (i + 1))) n.1, go (end_of g (end_of g (i + 1))) end n.2)
record_order g d i end go (kind.Qcase at a) n = (omega arith, go (i + 1) (end_of g (i + 1)) n.0, go (end_of g (i + 1)) end n.1)
record_order g d i end go (kind.Call at f) n = tt
record_order g d i end go (kind.Greater a b) n = tt
record_order g d i end go (kind.AtLeast a b) n = tt
record_order g d i end go (kind.Equal a b) n = tt
record_order g d i end go kind.And n = tt
record_order g d i end go kind.Or n = tt
record_order g d i end go kind.Negation n = tt

in_order_lem : (g : decoded.Program) (d i end : ℕ) → Numbered g i end (statement_at g d i) → InOrder g d i end
unfolding InOrder statement_at
in_order_lem g zero i end n = numbered_less g i end skip n
in_order_lem g (suc d) i end n =
    (numbered_less g i end _ n, record_order g d i end (in_order_lem g d) (record_in g i) n)

-- the bodies, one behind the other
module _ (g : decoded.Program) (ordered : BodiesNumbered g) where
  body_order : (f : ℕ) → f ≤ procedure_count g → InOrder g most_depth (root_of g f) (end_of g (root_of g f))
  body_order f l = in_order_lem g most_depth (root_of g f) (end_of g (root_of g f)) (ordered.numbered f l)

  bodies_apart : (q f : ℕ) → q < f → f ≤ procedure_count g → end_of g (root_of g q) ≤ root_of g f
  bodies_apart q zero h l = absurd (not-suc-le-zero h)
  bodies_apart q (suc f) h l =
      let next : root_of g (suc f) ≡ end_of g (root_of g f) = rw (← add-one f) (ordered.behind f (omega arith)) in
      by_eq q f
      (λ e. rw (next, e) (omega arith))
      (λ n.
      let low = bodies_apart q f (omega arith) (omega arith) in
      let less = order_less g most_depth (root_of g f) (end_of g (root_of g f)) (body_order f (omega arith)) in
      rw next (omega arith))

-- body after body
module _ (m : List ℕ) (g : decoded.Program) where
  pub judged_start : Judged m g 0 false g
  unfolding any_below
  judged_start = judged (record {
    told = refl;
    unseen = record { procedures = refl; roots = refl; entries = λ i. refl };
    whole = λ x. x;
    known = λ e few ordered f l. absurd (not-suc-le-zero l);
  })

  -- a body's width told by the width given
  wide_is : (h k : decoded.Program) (f w : ℕ) → Unseen g h → Notes (recursive_in m f) most_depth (root_of h f) h w k → ltb 1 w ≡ wide_in m g f
  unfolding wide_in
  wide_is h k f w u n = rw (n.counted, same_body g h u f) (over (width (recursive_in m f) (body_at g f)))
    where
      over : (n : ℕ) → ltb 1 (min 2 n) ≡ ltb 1 n
      over n = by_lt 1 n
          (λ l. let capped : 1 < min 2 n = omega arith in rw (lt-ltb 1 n l, lt-ltb 1 (min 2 n) capped))
          (λ ge. let capped : min 2 n ≤ 1 = omega arith in rw (le-ltb 1 n ge, le-ltb 1 (min 2 n) capped))

  module _ (h k : decoded.Program) (f p w top : ℕ) (l : f ≤ p) (byte : p < 256) (rooted : top ≡ root_of h f) where
    pub judged_yes : Judged m g f false h → Noted (recursive_in m f) most_depth top h w k → 1 < w → Judged m g (suc p) true k
    judged_yes (judged j) (noted n) y =
        let e : ltb 1 w ≡ wide_in m g f = wide_is h k f w j.unseen (rw rooted at n) in
        judged (record {
          told = sym (any_here (suc p) (wide_in m g) f (omega arith) (sym e ∙ lt-ltb 1 w y));
          unseen = unseen_then j.unseen n.unseen;
          whole = λ x. n.whole (j.whole x);
          known = λ e few ordered. clash {b = true} refl e;
        })

    more : Judged m g f false h → Noted (recursive_in m f) most_depth top h w k → w ≤ 1 → Judges m g (suc f) false k
    unfolding any_below
    more (judged j) (noted n) y =
        let o : Notes (recursive_in m f) most_depth (root_of h f) h w k = rw rooted at n in
        let e : ltb 1 w ≡ wide_in m g f = wide_is h k f w j.unseen o in
        record {
          told = sym (or-false (any_below f (wide_in m g)) (wide_in m g f) (sym j.told) (sym e ∙ le-ltb 1 w y));
          unseen = unseen_then j.unseen n.unseen;
          whole = λ x. n.whole (j.whole x);
          known = λ e few ordered q s.
              let bound : f ≤ procedure_count g = omega arith in
              let end = end_of g (root_of g f) in
              let same_f : root_of h f ≡ root_of g f = same_root g h j.unseen f in
              let order : InOrder h most_depth (root_of h f) end = rw same_f (order_same g h j.unseen most_depth (root_of g f) end (body_order g ordered f bound)) in
              by_eq q f
              (λ z. rw (z, same_root h k n.unseen f) (o.known (j.whole ordered.whole) end (ordered.few f bound) order))
              (λ z.
              let low : q < f = omega arith in
              let same_q : root_of h q ≡ root_of g q = same_root g h j.unseen q in
              let stop = end_of g (root_of g q) in
              let before_f = bodies_apart g ordered q f low bound in
              let order_q : InOrder h most_depth (root_of h q) stop =
              rw same_q (order_same g h j.unseen most_depth (root_of g q) stop (body_order g ordered q (omega arith))) in
              rw (same_root h k n.unseen q)
              (known_same h k n.unseen (recursive_in m q) most_depth (root_of h q) stop order_q
              (λ x y w. o.before end (ordered.few f bound) order x (rw same_f (omega arith)))
              (j.known refl (omega arith) ordered q low)));
        }

    pub judged_more : Judged m g f false h → Noted (recursive_in m f) most_depth top h w k → w ≤ 1 → Judged m g (f + 1) false k
    judged_more j n y = rw (add-one f) (judged (more j n y))

    pub judged_last : p ≤ f → Judged m g f false h → Noted (recursive_in m f) most_depth top h w k → w ≤ 1 → Judged m g (suc p) false k
    judged_last q j n y = let same : p ≡ f = omega arith in rw same (judged (more j n y))

pub ruleset judging = (rules, judged_start, judged_yes, judged_more, judged_last)

pub ruleset keeping = (rules, joined_turn, joined_one)

pub ruleset noting = (rules, notes_spent, notes_none, notes_call, notes_two)
