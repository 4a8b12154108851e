-- Bodies stand in the table where they stood: what a program says of their places does not depend on the widths that it keeps.
use Prim.Native.Nat.{ℕ, ◌+◌, ◌≤◌}
use mathlib.Core.Path.{◌≡◌}
use mathlib.Core.List.{List}
use borrow.Author.Tests.{lt-ltb, le-ltb}
use Rattle.model.specs.Syntax.{Statement, skip, NOT, sequence, if, qcase, call}
use Rattle.model.proofs.BooleanLaws.{by_lt}
use Rattle.decoded.specs.declared.Program as decoded
use Rattle.decoded.specs.DecodedTable.{end_of, root_of, procedure_count, body_at, Unseen}
use Rattle.table.specs.ReadTable.{Placed, body_end, BodiesPlaced}
use Rattle.decoded.proofs.UnseenWidths.{same_end, same_start, same_count, same_root, same_body}

module _ (g h : decoded.Program) (u : Unseen g h) where
  -- bodies stand where they stood
  statement_placed : (bs : List ℕ) (i end : ℕ) (s : Statement) → Placed bs g i end s → Placed bs h i end s
  unfolding Placed
  statement_placed bs i end skip p = rw (same_start g h u i) p
  statement_placed bs i end (NOT rs a) p = rw (same_start g h u i) p
  statement_placed bs i end (sequence s t) p =
      rw (same_end g h u (i + 1), same_start g h u i, same_start g h u (i + 1), same_start g h u (end_of g (i + 1)))
      (p.0, p.1, statement_placed bs (i + 1) _ s p.2, statement_placed bs (end_of g (i + 1)) end t p.3)
  statement_placed bs i end (if c s t) p =
      rw (same_end g h u (i + 1), same_end g h u (end_of g (i + 1)), same_start g h u i, same_start g h u (end_of g (i + 1)), same_start g h u (end_of g (end_of g (i + 1))))
      (p.0, p.1, statement_placed bs (end_of g (i + 1)) _ s p.2, statement_placed bs (end_of g (end_of g (i + 1))) end t p.3)
  statement_placed bs i end (qcase rs a s t) p =
      rw (same_end g h u (i + 1), same_start g h u i, same_start g h u (i + 1), same_start g h u (end_of g (i + 1)))
      (p.0, p.1, statement_placed bs (i + 1) _ s p.2, statement_placed bs (end_of g (i + 1)) end t p.3)
  statement_placed bs i end (call rs f) p = rw (same_start g h u i) p

  same_body_end : (bs : List ℕ) (f : ℕ) → body_end bs h f ≡ body_end bs g f
  same_body_end bs f =
      by_lt f (procedure_count g)
      (λ l. rw (same_count g h u, lt-ltb f (procedure_count g) l, same_root g h u (f + 1)) (same_start g h u (root_of g (f + 1))))
      (λ l. rw (same_count g h u, le-ltb f (procedure_count g) l))

  pub same_placed : (bs : List ℕ) → BodiesPlaced bs g → BodiesPlaced bs h
  same_placed bs placed f l =
      let few : f ≤ procedure_count g = rw (same_count g h u) at l in
      rw (same_body_end bs f, same_body g h u f, same_root g h u f) (statement_placed bs (root_of g f) (body_end bs g f) (body_at g f) (placed f few))
