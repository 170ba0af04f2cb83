use Rattle.std.proofs.Common.{◌≡◌, ◌++◌, map, drop}
use Rattle.typed_tree.specs.Nodes as spec
use Rattle.typed_measures.proofs.nodes.condition.Given as goal

-- the conjunctions so far and those that are left have all nodes
abbrev pub invariant-loop-part : goal.invariant-loop-part
invariant-loop-part l = l.initial.nodes ++ spec.joined (map spec.conjunction_nodes l.part-items) ≡ l.nodes ++ spec.joined (map spec.conjunction_nodes (drop l.part-index l.part-items))
