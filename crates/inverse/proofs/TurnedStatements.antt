-- What is copied of a table that was read is the inverse program, written.
use mathlib.Core.Path.{◌≡◌, refl, sym, ap, ◌∙◌}
use mathlib.Core.List.{List, [], ◌∷◌, ◌++◌, map, append_assoc, append-nil}
use Prim.Native.Nat.{ℕ, zero, suc, ◌+◌, ◌≤◌}
use native.Mathlib.Nat.{add-zero}
use native.Mathlib.Omega.{arith}
use lib.ListN.{length-map, take}
use Rattle.model.specs.Limits.{table_edition, most_depth}
use Rattle.model.specs.Syntax.{Condition, Statement, count}
use Rattle.model.specs.Reading.{Input, parsed, read_table}
use Rattle.model.specs.Lists.{range}
use Rattle.model.specs.Writing.{head_bytes, statement_bytes, statements_bytes, write_table}
use Rattle.model.specs.Inverse.{inverse, inverse_program}
use Rattle.model.proofs.RoundTrip.{Bytes}
use Rattle.model.proofs.WrittenTables.{table_written}
use Rattle.records.specs.declared.Record.{Record}
use Rattle.records.specs.declared.Record.TheVariants as kind
use Rattle.decoded.specs.declared.Program as decoded
use Rattle.decoded.specs.DecodedTable.{procedure_count, record_in, statement_of, test_at, statement_at, body_at, program_at}
use Rattle.table.specs.ReadTable.{Placed, BodiesPlaced}
use Rattle.decoded.specs.Steps.{step_of}
use Rattle.decoded.specs.Steps.{parts_of}
use Rattle.inverse.specs.TurnedRecords.{in_order, turned_of, turned_at, turned_below, turned_table}

-- a record by its kind, where its parts are copied as their inverses
module _ (bs : List ℕ) (g : decoded.Program) (test : ℕ → Condition) (part : ℕ → Statement) (turned : ℕ → ℕ → List ℕ)
    (parts_are : (j end : ℕ) → Placed bs g j end (part j) → turned j end ≡ statement_bytes (inverse (part j))) (i end : ℕ) where
  turned_record : (r : Record) → Placed bs g i end (statement_of test part g i r) →
      turned_of turned bs g i end (parts_of (step_of g i r)) ≡ statement_bytes (inverse (statement_of test part g i r))
  unfolding statement_of parts_of step_of turned_of in_order Placed head_bytes statement_bytes inverse
  turned_record kind.Skip h = h
  turned_record (kind.Not at a) h = h
  turned_record kind.Sequence h = rw (h.1, parts_are _ _ h.2, parts_are _ _ h.3)
  turned_record kind.If h = rw (h.1, parts_are _ _ h.2, parts_are _ _ h.3)
  turned_record (kind.Qcase at a) h = rw (h.1, parts_are _ _ h.2, parts_are _ _ h.3)
  turned_record (kind.Call at f) h = h
  turned_record (kind.Greater a b) h = h
  turned_record (kind.AtLeast a b) h = h
  turned_record (kind.Equal a b) h = h
  turned_record kind.And h = h
  turned_record kind.Or h = h
  turned_record kind.Negation h = h

-- a statement that is placed
turned_statement : (bs : List ℕ) (g : decoded.Program) (depth i end : ℕ) → Placed bs g i end (statement_at g depth i) →
    turned_at bs g depth i end ≡ statement_bytes (inverse (statement_at g depth i))
unfolding turned_at statement_at Placed inverse statement_bytes
turned_statement bs g zero i end h = h
turned_statement bs g (suc depth) i end h =
    turned_record bs g (test_at g depth) (statement_at g depth) (turned_at bs g depth) (turned_statement bs g depth) i end
    (record_in g i) h

-- statements one behind the other, and one more
bytes_more : (ss : List Statement) (s : Statement) → statements_bytes (ss ++ (s ∷ [])) ≡ statements_bytes ss ++ statement_bytes s
unfolding statements_bytes
bytes_more [] s = append-nil (statement_bytes s)
bytes_more (t ∷ ss) s = rw (bytes_more ss s) (sym (append_assoc (statement_bytes t) (statements_bytes ss) (statement_bytes s)))

bytes_none : (h : ℕ → Statement) → statements_bytes (map h (range 0 0)) ≡ []
unfolding range statements_bytes
bytes_none h = refl

range_more : {A : Type 0} (h : ℕ → A) (n a : ℕ) → map h (range (suc n) a) ≡ map h (range n a) ++ (h (a + n) ∷ [])
unfolding range
range_more h zero a = rw (add-zero a)
range_more h (suc n) a = let e : suc a + n ≡ a + suc n = omega arith in ap (λ l. h a ∷ l) (rw (← e) (range_more h n (suc a)))

inverse_each : (h : ℕ → Statement) (l : List ℕ) → map inverse (map h l) ≡ map (λ f. inverse (h f)) l
inverse_each h [] = refl
inverse_each h (f ∷ l) = ap (λ ss. inverse (h f) ∷ ss) (inverse_each h l)

module _ (bs : List ℕ) (g : decoded.Program) (placed : BodiesPlaced bs g) where
  -- the bodies below n
  turned_bodies : (n : ℕ) → n ≤ suc (procedure_count g) → turned_below bs g n ≡ statements_bytes (map (λ f. inverse (body_at g f)) (range n 0))
  unfolding turned_below
  turned_bodies zero h = sym (bytes_none (λ f. inverse (body_at g f)))
  turned_bodies (suc n) h =
      let body : ℕ → Statement = λ f. inverse (body_at g f) in
      let e : 0 + n ≡ n = omega arith in
      rw (turned_bodies n (omega arith), turned_statement bs g most_depth _ _ (placed n (omega arith)))
      (sym (bytes_more (map body (range n 0)) (body n)) ∙ ap statements_bytes (sym (rw e at (range_more body n 0))))

  -- the whole table
  pub turned_program : Bytes bs → {i : Input} → read_table bs ≡ parsed (program_at g) i →
      turned_table bs g ≡ write_table (inverse_program (program_at g))
  unfolding turned_table write_table inverse_program range
  turned_program ok read =
      let P = program_at g in
      let first : take 2 bs ≡ table_edition ∷ count P ∷ [] = sym (ap (take 2) (table_written bs ok read)) in
      rw (first, turned_bodies (suc (procedure_count g)) (omega arith), length-map P.procedures inverse, inverse_each (body_at g) (range (procedure_count g) 1))
