use Rattle.std.proofs.Common.{◌≡◌, ◌++◌, map, drop}
use Rattle.typed_tree.specs.Nodes as spec
use Rattle.typed_measures.proofs.nodes.functions.Given as goal

-- the functions so far and those that are left have all nodes
abbrev pub invariant-loop-function : goal.invariant-loop-function
invariant-loop-function l = l.initial.nodes ++ spec.joined (map spec.body_nodes l.functions) ≡ l.nodes ++ spec.joined (map spec.body_nodes (drop l.function-index l.functions))
