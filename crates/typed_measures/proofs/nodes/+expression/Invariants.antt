use Rattle.std.proofs.Common.{◌≡◌, ◌++◌, true, map, drop}
use Rattle.typed_tree.specs.Nodes as spec
use Rattle.typed_measures.proofs.nodes.+expression.Given as goal

-- the expressions so far and those that are left have all nodes
abbrev pub invariant-expressions-loop-value : goal.invariant-expressions-loop-value
invariant-expressions-loop-value l = l.initial.nodes ++ spec.joined (map spec.nodes_of l.values) ≡ l.nodes ++ spec.joined (map spec.nodes_of (drop l.value-index l.values))

-- the rows so far and those that are left have all nodes
abbrev pub invariant-rows-loop-row : goal.invariant-rows-loop-row
invariant-rows-loop-row l = l.initial.nodes ++ spec.joined (map spec.nodes_of_row l.rows) ≡ l.nodes ++ spec.joined (map spec.nodes_of_row (drop l.row-index l.rows))

-- the terms so far and those that are left have all nodes
abbrev pub invariant-sum-loop-part : goal.invariant-sum-loop-part
invariant-sum-loop-part l = l.initial.nodes ++ spec.sum_nodes true (map spec.nodes_of_term l.terms) ≡ l.nodes ++ spec.sum_nodes l.is_first (map spec.nodes_of_term (drop l.part-index l.terms))

-- the factors so far and those that are left have all nodes
abbrev pub invariant-product-loop-part : goal.invariant-product-loop-part
invariant-product-loop-part l = l.initial.nodes ++ spec.product_nodes true (map spec.nodes_of_factor l.factors) ≡ l.nodes ++ spec.product_nodes l.is_first (map spec.nodes_of_factor (drop l.part-index l.factors))
