use Rattle.std.proofs.Common.{false, map, refl, subst, arith}
use Rattle.typed_tree.specs.declared.expression.TypedRow.{out-TypedRow}
use Rattle.typed_tree.specs.Nodes as spec
use Rattle.typed_measures.specs.Longer.{Longer}
use Rattle.typed_measures.specs.Parts as parts
use Rattle.typed_measures.proofs.Growing.{part_more, part_none, row_splits, term_splits, factor_splits}
use Rattle.typed_measures.proofs.nodes.+expression.Goals as goal

pub expressions-loop-value-preserved : goal.expressions-loop-value-preserved
expressions-loop-value-preserved t c =
    part_more (λ xs. spec.joined (map spec.nodes_of xs)) (λ xs. spec.joined (map spec.nodes_of xs)) c.args.values.now c.loop-value.value-index c.value-item.result (spec.nodes_of c.value-item.result) c.args.nodes.now c.loop-value.nodes c.expression.new.nodes _
    (λ rest. refl) c.loop-value-test.true c.value-item.is c.in_ok-expression.ensures c.loop-value.invariant

pub expressions-returns : goal.expressions-returns
expressions-returns t c =
    part_none (λ xs. spec.joined (map spec.nodes_of xs)) c.args.values.now c.loop-value.value-index c.args.nodes.now c.loop-value.nodes _ refl (omega arith) c.loop-value.invariant

pub rows-loop-row-preserved : goal.rows-loop-row-preserved
rows-loop-row-preserved t c =
    part_more (λ xs. spec.joined (map spec.nodes_of_row xs)) (λ xs. spec.joined (map spec.nodes_of_row xs)) c.args.rows.now c.loop-row.row-index c.row-item.result (spec.joined (map spec.nodes_of (out-TypedRow c.row-item.result).entries)) c.args.nodes.now c.loop-row.nodes c.expressions.new.nodes _
    (row_splits c.row-item.result) c.loop-row-test.true c.row-item.is (subst (λ entries. Longer c.loop-row.nodes c.expressions.new.nodes (spec.joined (map spec.nodes_of entries))) c.as_slice.ensures c.in_ok-expressions.ensures) c.loop-row.invariant

pub rows-returns : goal.rows-returns
rows-returns t c =
    part_none (λ xs. spec.joined (map spec.nodes_of_row xs)) c.args.rows.now c.loop-row.row-index c.args.nodes.now c.loop-row.nodes _ refl (omega arith) c.loop-row.invariant

pub sum-loop-part-preserved : goal.sum-loop-part-preserved
sum-loop-part-preserved t c =
    part_more (λ xs. spec.sum_nodes c.loop-part.is_first (map spec.nodes_of_term xs)) (λ xs. spec.sum_nodes false (map spec.nodes_of_term xs)) c.args.terms.now c.loop-part.part-index c.part-item.result (parts.term c.loop-part.is_first c.part-item.result) c.args.nodes.now c.loop-part.nodes c.term.new.nodes _
    (term_splits c.loop-part.is_first c.part-item.result) c.loop-part-test.true c.part-item.is c.in_ok-term.ensures c.loop-part.invariant

pub sum-returns : goal.sum-returns
sum-returns t c =
    part_none (λ xs. spec.sum_nodes c.loop-part.is_first (map spec.nodes_of_term xs)) c.args.terms.now c.loop-part.part-index c.args.nodes.now c.loop-part.nodes _ refl (omega arith) c.loop-part.invariant

pub product-loop-part-preserved : goal.product-loop-part-preserved
product-loop-part-preserved t c =
    part_more (λ xs. spec.product_nodes c.loop-part.is_first (map spec.nodes_of_factor xs)) (λ xs. spec.product_nodes false (map spec.nodes_of_factor xs)) c.args.factors.now c.loop-part.part-index c.part-item.result (parts.factor c.loop-part.is_first c.part-item.result) c.args.nodes.now c.loop-part.nodes c.factor.new.nodes _
    (factor_splits c.loop-part.is_first c.part-item.result) c.loop-part-test.true c.part-item.is c.in_ok-factor.ensures c.loop-part.invariant

pub product-returns : goal.product-returns
product-returns t c =
    part_none (λ xs. spec.product_nodes c.loop-part.is_first (map spec.nodes_of_factor xs)) c.args.factors.now c.loop-part.part-index c.args.nodes.now c.loop-part.nodes _ refl (omega arith) c.loop-part.invariant
