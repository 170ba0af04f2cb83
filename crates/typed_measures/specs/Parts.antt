-- The nodes of a term and of a factor.
use Rattle.std.specs.Prelude.{Bool, ◌++◌, []}
use Rattle.type_rules.specs.declared.types.NodeType.{NodeType}
use Rattle.typed_tree.specs.declared.expression.TypedTerm.{TypedTerm}
use Rattle.typed_tree.specs.declared.expression.TypedFactor.{TypedFactor}
use Rattle.typed_tree.specs.Nodes as nodes
use Rattle.typed_tree.specs.Nodes.{Nodes, nodes_of}

abbrev pub sum_node : Bool → Bool → NodeType → Nodes
sum_node is_first minus type = nodes.sum_node is_first (record { value = []; type = type; sign = minus })

abbrev pub term : Bool → TypedTerm → Nodes
term is_first t = nodes_of t.value ++ sum_node is_first t.minus t.node.value_type

abbrev pub product_node : Bool → NodeType → Nodes
product_node is_first type = nodes.product_node is_first (record { value = []; type = type; sign = is_first })

abbrev pub factor : Bool → TypedFactor → Nodes
factor is_first f = nodes_of f.value ++ product_node is_first f.node.value_type
