-- A width that is kept stands there, and all else is as it was. Widths are seen by no statement: two programs that differ in nothing else have the same
-- statements.
use Rattle.std.proofs.Common.{length-set, ℕ, zero, suc, ◌+◌, ◌≤◌, ◌≡◌, refl, ap, ap₂, ◌∙◌, length, List, ◌∷◌, arith}
use mathlib.Core.List.{map}
use Rattle.std.proofs.lemmas.List.{set_past}
use lib.ListN.{get_or}
use Rattle.model.specs.Limits.{most_records, most_depth}
use Rattle.model.specs.Lists.{range}
use Rattle.model.specs.Syntax.{Statement}
use Rattle.model.proofs.BooleanLaws.{by_eq, by_lt}
use Rattle.records.specs.declared.Record.{Record}
use Rattle.records.specs.declared.Record.TheVariants as kind
use Rattle.records.specs.Fields.{number_of}
use Rattle.decoded.specs.declared.Entry.{Entry}
use Rattle.decoded.specs.declared.Program.{Program}
use Rattle.decoded.specs.DecodedTable.{
  Whole,
  no_number,
  kept,
  kept_record,
  blank,
  entry_of,
  start_of,
  end_of,
  root_of,
  width_in,
  procedure_count,
  removal_number,
  removals_from,
  removals_in,
  record_in,
  test_of,
  test_at,
  statement_of,
  statement_at,
  body_at,
  program_at,
  with_width,
  Unseen,
}
use Rattle.decoded.specs.Steps.{step_of, step_at, parts_at, parts_of}
use Rattle.decoded.proofs.KeptRecords.{entry_there, entry_other}

module _ (i w : ℕ) (g : Program) where
  -- the width stands there, every other width and all else are as they were
  pub width_there : Whole g → i ≤ most_records → width_in (with_width i w g) i ≡ w
  width_there whole l = ap (λ (x : Entry). x.width) (entry_there g i (record (entry_of g i) { width = w }) (rw whole.entries (omega arith)))

  pub width_other : (j : ℕ) → (j ≡ i → ⊥) → width_in (with_width i w g) j ≡ width_in g j
  width_other j n = ap (λ (x : Entry). x.width) (entry_other g i j (record (entry_of g i) { width = w }) n)

  pub width_unseen : Unseen g (with_width i w g)
  width_unseen = record { procedures = refl; roots = refl; entries = same }
    where
      at_i : ◌≡◌ {A = Entry} (record (entry_of (with_width i w g) i) { width = 0 }) (record (entry_of g i) { width = 0 })
      at_i = by_lt i (length g.entries)
          (λ l. ap (λ (x : Entry). record x { width = 0 }) (entry_there g i (record (entry_of g i) { width = w }) l))
          (λ l. ap (λ (es : List Entry). record (get_or es i blank) { width = 0 }) (set_past g.entries i (record (entry_of g i) { width = w }) l))

      same : (k : ℕ) → ◌≡◌ {A = Entry} (record (entry_of (with_width i w g) k) { width = 0 }) (record (entry_of g k) { width = 0 })
      same k = by_eq k i (λ e. rw e at_i) (λ n. ap (λ (x : Entry). record x { width = 0 }) (entry_other g i k (record (entry_of g i) { width = w }) n))

  pub width_whole : Whole g → Whole (with_width i w g)
  width_whole whole = record { roots = whole.roots; entries = length-set g.entries i (record (entry_of g i) { width = w }) ∙ whole.entries }

pub unseen_then : {g h k : Program} → Unseen g h → Unseen h k → Unseen g k
unseen_then u v =
    record { procedures = v.procedures ∙ u.procedures; roots = v.roots ∙ u.roots; entries = λ i. v.entries i ∙ u.entries i }

module _ (g h : Program) (u : Unseen g h) where
  pub same_end : (i : ℕ) → end_of h i ≡ end_of g i
  same_end i = ap (λ (x : Entry). x.end) (u.entries i)

  pub same_start : (i : ℕ) → start_of h i ≡ start_of g i
  same_start i = ap (λ (x : Entry). x.place) (u.entries i)

  pub same_root : (f : ℕ) → root_of h f ≡ root_of g f
  same_root f = rw u.roots

  pub same_count : procedure_count h ≡ procedure_count g
  same_count = u.procedures

  same_from : (n i k : ℕ) → removals_from n h i k ≡ removals_from n g i k
  unfolding removals_from
  same_from zero i k = refl
  same_from (suc n) i k =
      let one : removal_number h i k ≡ removal_number g i k = ap (λ (x : Entry). kept (get_or x.removals.numbers k no_number)) (u.entries i) in
      rw one (ap (λ rs. number_of (removal_number g i k) ∷ rs) (same_from n i (k + 1)))

  same_removals : (i : ℕ) → removals_in h i ≡ removals_in g i
  same_removals i =
      let all : (entry_of h i).removals.count ≡ (entry_of g i).removals.count = ap (λ (x : Entry). x.removals.count) (u.entries i) in
      rw all (same_from (entry_of g i).removals.count i 0)

  same_record : (i : ℕ) → record_in h i ≡ record_in g i
  same_record i = ap (λ (x : Entry). kept_record x.read) (u.entries i)

  step_same : (i : ℕ) (r : Record) → step_of h i r ≡ step_of g i r
  unfolding step_of
  step_same i kind.Skip = refl
  step_same i (kind.Not q a) = refl
  step_same i kind.Sequence = rw (same_end (i + 1))
  step_same i kind.If = rw (same_end (i + 1), same_end (end_of g (i + 1)))
  step_same i (kind.Qcase q a) = rw (same_end (i + 1))
  step_same i (kind.Call q f) = refl
  step_same i (kind.Greater a b) = refl
  step_same i (kind.AtLeast a b) = refl
  step_same i (kind.Equal a b) = refl
  step_same i kind.And = rw (same_end (i + 1))
  step_same i kind.Or = rw (same_end (i + 1))
  step_same i kind.Negation = refl

  pub same_step : (i : ℕ) → step_at h i ≡ step_at g i
  same_step i = rw (same_record i) (step_same i (record_in g i))

  pub same_parts : (i : ℕ) → parts_at h i ≡ parts_at g i
  same_parts i = ap parts_of (same_step i)

  test_same : (d i : ℕ) → ((j : ℕ) → test_at h d j ≡ test_at g d j) → (r : Record) → test_of (test_at h d) h i r ≡ test_of (test_at g d) g i r
  unfolding test_of
  test_same d i t kind.Skip = refl
  test_same d i t (kind.Not q a) = refl
  test_same d i t kind.Sequence = refl
  test_same d i t kind.If = refl
  test_same d i t (kind.Qcase q a) = refl
  test_same d i t (kind.Call q f) = refl
  test_same d i t (kind.Greater a b) = refl
  test_same d i t (kind.AtLeast a b) = refl
  test_same d i t (kind.Equal a b) = refl
  test_same d i t kind.And = rw (t (i + 1), same_end (i + 1), t (end_of g (i + 1)))
  test_same d i t kind.Or = rw (t (i + 1), same_end (i + 1), t (end_of g (i + 1)))
  test_same d i t kind.Negation = rw (t (i + 1))

  pub same_test : (depth i : ℕ) → test_at h depth i ≡ test_at g depth i
  unfolding test_at
  same_test zero i = refl
  same_test (suc d) i = rw (same_record i) (test_same d i (same_test d) (record_in g i))

  statement_same : (d i : ℕ) → ((j : ℕ) → statement_at h d j ≡ statement_at g d j) → (r : Record) →
      statement_of (test_at h d) (statement_at h d) h i r ≡ statement_of (test_at g d) (statement_at g d) g i r
  unfolding statement_of
  statement_same d i s kind.Skip = refl
  statement_same d i s (kind.Not q a) = rw (same_removals i)
  statement_same d i s kind.Sequence = rw (s (i + 1), same_end (i + 1), s (end_of g (i + 1)))
  statement_same d i s kind.If =
      rw (same_test d (i + 1), same_end (i + 1), s (end_of g (i + 1)), same_end (end_of g (i + 1)), s (end_of g (end_of g (i + 1))))
  statement_same d i s (kind.Qcase q a) = rw (same_removals i, s (i + 1), same_end (i + 1), s (end_of g (i + 1)))
  statement_same d i s (kind.Call q f) = rw (same_removals i)
  statement_same d i s (kind.Greater a b) = refl
  statement_same d i s (kind.AtLeast a b) = refl
  statement_same d i s (kind.Equal a b) = refl
  statement_same d i s kind.And = refl
  statement_same d i s kind.Or = refl
  statement_same d i s kind.Negation = refl

  pub same_statement : (depth i : ℕ) → statement_at h depth i ≡ statement_at g depth i
  unfolding statement_at
  same_statement zero i = refl
  same_statement (suc d) i = rw (same_record i) (statement_same d i (same_statement d) (record_in g i))

  pub same_body : (f : ℕ) → body_at h f ≡ body_at g f
  same_body f = rw (same_root f) (same_statement most_depth (root_of g f))

  same_bodies : (n f : ℕ) → map (body_at h) (range n f) ≡ map (body_at g) (range n f)
  unfolding range
  same_bodies zero f = refl
  same_bodies (suc n) f = rw (same_body f) (ap (λ ss. body_at g f ∷ ss) (same_bodies n (suc f)))

  pub same_program : program_at h ≡ program_at g
  same_program =
      ap₂ (λ (m : Statement) (ps : List Statement). record { main = m; procedures = ps }) (same_body 0)
      (ap (λ (n : ℕ). map (body_at h) (range n 1)) same_count ∙ same_bodies (procedure_count g) 1)
