use Rattle.std.proofs.Common.{map, subst}
use Rattle.typed_tree.specs.declared.expression.TypedRow.{out-TypedRow}
use Rattle.typed_tree.specs.Nodes as spec
use Rattle.dense_sizes.specs.Tallies.{Counts}
use Rattle.dense_sizes.proofs.Counting.{counted_twice, part_more}
use Rattle.dense_sizes.proofs.Shapes.{ref_nodes, block_nodes, row_splits}
use Rattle.dense_sizes.proofs.nodes.+expression.Goals as goal

pub form-returns-in-Ref : goal.form-returns-in-Ref
form-returns-in-Ref t c =
    rw c.in-Ref.is
    (rw (ref_nodes c.in-Ref.referent c.in-Ref.args c.in-Ref.field_args c.args.value_type)
    (counted_twice _ _ _ _ _ _
    (counted_twice _ _ _ _ _ _
    (subst (λ args. Counts c.args.sets.now c.args.tally (spec.joined (map spec.nodes_of args)) c.expressions-tally.result) c.as_slice.ensures c.expressions-tally.ensures)
    (subst (λ args. Counts c.args.sets.now c.expressions-tally.result (spec.joined (map spec.nodes_of args)) c.expressions-tally-in-Ref.result) c.as_slice-in-Ref.ensures c.expressions-tally-in-Ref.ensures))
    (c.named.ensures _ _ _)))

pub form-returns-in-Block : goal.form-returns-in-Block
form-returns-in-Block t c =
    rw c.in-Block.is
    (rw (block_nodes c.in-Block.parts c.args.value_type)
    (counted_twice _ _ _ _ _ _
    (subst (λ rows. Counts c.args.sets.now c.args.tally (spec.joined (map spec.nodes_of_row rows)) c.rows-tally.result) c.as_slice-in-Block.ensures c.rows-tally.ensures)
    c.own-in-Block.ensures))

pub rows-loop-row-preserved : goal.rows-loop-row-preserved
rows-loop-row-preserved t c =
    part_more c.args.sets.now (λ xs. spec.joined (map spec.nodes_of_row xs)) (λ xs. spec.joined (map spec.nodes_of_row xs)) c.args.rows.now c.loop-row.row-index c.row-item.result
    (spec.joined (map spec.nodes_of (out-TypedRow c.row-item.result).entries)) c.loop-row.all c.expressions-all.result _
    (row_splits c.row-item.result) c.loop-row-test.true c.row-item.is
    (subst (λ entries. Counts c.args.sets.now c.loop-row.all (spec.joined (map spec.nodes_of entries)) c.expressions-all.result) c.as_slice.ensures c.expressions-all.ensures) c.loop-row.invariant
