use Rattle.std.proofs.Common.{◌-◌, arith, sym}
use mathlib.Core.Path.{◌∙◌}
use Rattle.records.proofs.FieldLaws.{handed_out}
use Rattle.table.proofs.TreeReadingLaws.{many_refused, many_behind, many_none, children_none, children_conditions, children_statements, children_done}
use Rattle.table.proofs.TreeReadingLaws.{tree_none, tree_short, tree_kind, tree_deep, tree_many, tree_fields, tree_children}
use Rattle.table.proofs.Source.+reading.Goals as goal
use Rattle.table.proofs.Source.+reading.Goals.{read_tree-then-depth-eq0-via-then-depth-eq0, read_tree-then-depth-eq0-via-else-depth-eq0+then-from-ge-MOST_RECORDS}

pub read_children-returns-then-statements-eq0 : goal.read_children-returns-then-statements-eq0
read_children-returns-then-statements-eq0 t c =
    rw c.note_end.ensures
    (children_none _ _ _ _ _ (rw c.parts-conditions.ensures at c.if-conditions-eq0.true) (rw c.parts-conditions.ensures at c.if-statements-eq0.true))

pub read_children-returns-in_err-middle : goal.read_children-returns-in_err-middle
read_children-returns-in_err-middle t c =
    rw (handed_out _ _ c.from_residual.ensures.1) (children_conditions _ _ _ _ _ _ _ (rw c.parts-conditions.ensures at c.in_err-middle.ensures))

pub read_children-returns-in_err-end : goal.read_children-returns-in_err-end
read_children-returns-in_err-end t c =
    rw (handed_out _ _ c.from_residual-in_err-end.ensures.1)
    (children_statements _ _ _ _ _ _ _ (rw c.parts-conditions.ensures at c.in_ok-middle.ensures) _ _ (rw c.parts-conditions.ensures at c.in_err-end.ensures))

pub read_children-returns : goal.read_children-returns
read_children-returns t c =
    rw c.note_end-2.ensures
    (children_done _ _ _ _ _ _ _ (rw c.parts-conditions.ensures at c.in_ok-middle.ensures) _ _ (rw c.parts-conditions.ensures at c.in_ok-end.ensures))

pub read_many-returns-in_err-come : goal.read_many-returns-in_err-come
read_many-returns-in_err-come t c =
    rw (handed_out _ _ c.from_residual.ensures.1)
    (many_refused _ _ _ _ _ (c.args.count - c.loop.counter) _ (omega arith) c.in_err-come.ensures ∙ c.loop.invariant)

pub read_many-loop-preserved : goal.read_many-loop-preserved
read_many-loop-preserved t c =
    many_behind _ _ _ _ _ (c.args.count - c.loop.counter) _ _ (omega arith) c.in_ok-come.ensures ∙ c.loop.invariant

pub read_many-returns : goal.read_many-returns
read_many-returns t c = sym (many_none _ (c.args.count - c.loop.counter) _ _ (omega arith)) ∙ c.loop.invariant

pub read_tree-returns-in_err-map : goal.read_tree-returns-in_err-map
read_tree-returns-in_err-map t c =
    rw (handed_out _ _ c.from_residual.ensures.1) (tree_none _ _ _ _ _ _ _ _ c.in_err-map.ensures)

pub read_tree-returns-in_err-next_byte : goal.read_tree-returns-in_err-next_byte
read_tree-returns-in_err-next_byte t c =
    rw (handed_out _ _ c.from_residual-in_err-next_byte.ensures.1) (tree_short _ _ _ _ _ _ _ _ c.in_ok-map.ensures _ c.in_err-next_byte.ensures)

pub read_tree-returns-in_err-kind : goal.read_tree-returns-in_err-kind
read_tree-returns-in_err-kind t c =
    rw (handed_out _ _ c.from_residual-in_err-kind.ensures.1, c.in_err-kind.ensures.0)
    (tree_kind _ _ _ _ _ _ _ _ c.in_ok-map.ensures _ c.in_ok-next_byte.ensures c.in_err-kind.ensures.1)

pub read_tree-returns-then-depth-eq0 : goal.read_tree-returns-then-depth-eq0
read_tree-returns-then-depth-eq0 t c =
    elim c.then-depth-eq0.branch [
      | read_tree-then-depth-eq0-via-then-depth-eq0 w ↦
          tree_deep _ _ _ _ _ _ _ _ c.in_ok-map.ensures _ c.in_ok-next_byte.ensures c.in_ok-kind.ensures.1 w.if-depth-eq0.true
      | read_tree-then-depth-eq0-via-else-depth-eq0+then-from-ge-MOST_RECORDS w ↦
          tree_many _ _ _ _ _ _ _ _ c.in_ok-map.ensures _ c.in_ok-next_byte.ensures c.in_ok-kind.ensures.1 w.if-from-ge-MOST_RECORDS.true
    ]

pub read_tree-returns-in_err-record : goal.read_tree-returns-in_err-record
read_tree-returns-in_err-record t c =
    rw (handed_out _ _ c.from_residual-in_err-record.ensures.1)
    (tree_fields _ _ _ _ _ _ _ _ c.in_ok-map.ensures _ c.in_ok-next_byte.ensures c.in_ok-kind.ensures.1 (omega arith) c.if-from-ge-MOST_RECORDS.false _ (rw c.in_ok-kind.ensures.0 at c.in_err-record.ensures))

pub read_tree-returns : goal.read_tree-returns
read_tree-returns t c =
    tree_children _ _ _ _ _ _ _ _ c.in_ok-map.ensures _ c.in_ok-next_byte.ensures c.in_ok-kind.ensures.1 (omega arith) c.if-from-ge-MOST_RECORDS.false _ _ _
    (rw c.in_ok-kind.ensures.0 at c.in_ok-record.ensures)
    (rw (c.in_ok-kind.ensures.0, c.put_record.ensures) at c.read_children.ensures)
