use Rattle.std.proofs.Common.{map, drop}
use Rattle.std.specs.List.{fold}
use Rattle.typed_tree.specs.Nodes as spec
use Rattle.dense_sizes.specs.Tallies.{Counts, with_node}
use Rattle.dense_sizes.proofs.nodes.conjunction.Given as goal

-- the nodes that are left lead to what all nodes lead to
abbrev pub invariant-loop-part : goal.invariant-loop-part
invariant-loop-part l =
    Counts l.sets l.all (spec.joined (map spec.comparison_nodes (drop l.part-index l.part-items)))
    (fold (with_node l.sets) l.initial.all (spec.joined (map spec.comparison_nodes l.part-items)))
