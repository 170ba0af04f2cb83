use Rattle.std.proofs.Common.{◌≡◌, ◌++◌, map, drop}
use Rattle.typed_tree.specs.Nodes as spec
use Rattle.typed_measures.proofs.nodes.+main.Given as goal

-- the statements so far and those that are left have all nodes
abbrev pub invariant-main_statements-loop-statement : goal.invariant-main_statements-loop-statement
invariant-main_statements-loop-statement l = l.initial.nodes ++ spec.joined (map spec.main_nodes l.statements) ≡ l.nodes ++ spec.joined (map spec.main_nodes (drop l.statement-index l.statements))
