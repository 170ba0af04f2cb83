use Rattle.std.proofs.Common.{true, map, drop}
use Rattle.std.specs.List.{fold}
use Rattle.typed_tree.specs.Nodes as spec
use Rattle.dense_sizes.specs.Tallies.{Counts, with_node}
use Rattle.dense_sizes.proofs.nodes.+expression.Given as goal

-- the nodes that are left lead to what all nodes lead to
abbrev pub invariant-expressions-loop-value : goal.invariant-expressions-loop-value
invariant-expressions-loop-value l =
    Counts l.sets l.all (spec.joined (map spec.nodes_of (drop l.value-index l.values)))
    (fold (with_node l.sets) l.initial.all (spec.joined (map spec.nodes_of l.values)))

abbrev pub invariant-rows-loop-row : goal.invariant-rows-loop-row
invariant-rows-loop-row l =
    Counts l.sets l.all (spec.joined (map spec.nodes_of_row (drop l.row-index l.rows)))
    (fold (with_node l.sets) l.initial.all (spec.joined (map spec.nodes_of_row l.rows)))

abbrev pub invariant-sum-loop-part : goal.invariant-sum-loop-part
invariant-sum-loop-part l =
    Counts l.sets l.all (spec.sum_nodes l.is_first (map spec.nodes_of_term (drop l.part-index l.terms)))
    (fold (with_node l.sets) l.initial.all (spec.sum_nodes true (map spec.nodes_of_term l.terms)))

abbrev pub invariant-product-loop-part : goal.invariant-product-loop-part
invariant-product-loop-part l =
    Counts l.sets l.all (spec.product_nodes l.is_first (map spec.nodes_of_factor (drop l.part-index l.factors)))
    (fold (with_node l.sets) l.initial.all (spec.product_nodes true (map spec.nodes_of_factor l.factors)))
