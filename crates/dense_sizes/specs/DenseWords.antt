-- How many words the dense matrices of a run take.
use Rattle.std.specs.Prelude.{ℕ, ◌+◌, ◌-◌, ◌*◌, List, take, length, map, Option, Some, None}
use Rattle.std.specs.List.{sum_by}
use Rattle.hypergraph.specs.SetValue.{SetValue}
use Rattle.hypergraph.specs.Sets.{set_at}
use Rattle.type_rules.specs.declared.types.NodeType.{NodeType}
use Rattle.type_rules.specs.declared.types.NodeType.TheVariants.{Local, SystemVector, SystemMatrix}
use Rattle.typed_tree.specs.declared.main_procedure.MainStmt.{MainStmt}
use Rattle.typed_tree.specs.declared.main_procedure.MainStmt.TheOpen.{MainStmt-F}
use Rattle.typed_tree.specs.declared.main_procedure.MainStmt.TheFolds.{fold-MainStmt}
use Rattle.typed_tree.specs.declared.main_procedure.TypedRight.{TypedRight}
use Rattle.typed_tree.specs.declared.main_procedure.TypedRight.TheVariants as right
use Rattle.typed_tree.specs.declared.nodes.Named.{Named}
use Rattle.typed_tree.specs.declared.nodes.NodeEntry.{NodeEntry}
use Rattle.typed_tree.specs.declared.program.TypedProgram.{TypedProgram}
use Rattle.typed_tree.specs.declared.program.Variable.{Variable}
use Rattle.typed_tree.specs.Cost.{entries_in}
use Rattle.typed_tree.specs.Nodes.{Nodes, joined, nodes_of, main_node}

-- the words of a value that is a system matrix: rows times columns times the entries of a block; another value is no matrix
abbrev pub matrix_words : List SetValue → NodeType → ℕ
matrix_words sets (Local block scale) = 0
matrix_words sets (SystemVector set block scale) = 0
matrix_words sets (SystemMatrix rows columns block scale) = (set_at sets rows).count * (set_at sets columns).count * entries_in block

abbrev pub variable_words : List SetValue → Variable → ℕ
variable_words sets variable = matrix_words sets variable.value_type

-- a name has no value of its own
abbrev pub words_unless_named : List SetValue → NodeType → Option Named → ℕ
words_unless_named sets type None = matrix_words sets type
words_unless_named sets type (Some name) = 0

abbrev pub node_words : List SetValue → NodeEntry → ℕ
node_words sets node = words_unless_named sets node.value_type node.stands_for

-- the nodes of an expression but its own, which is the last
abbrev pub all_but_own : Nodes → Nodes
all_but_own nodes = take (length nodes - 1) nodes

-- the nodes of a new variable's right side but the whole, whose value is the variable's
unfoldable pub nodes_of_new : TypedRight → Nodes
nodes_of_new (right.Map function set args) = joined (map nodes_of args)
nodes_of_new (right.Value e) = all_but_own (nodes_of e)

-- the nodes of a statement but the whole right side of a `var`
unfoldable pub dense_node : MainStmt-F Nodes → Nodes
dense_node (MainStmt-F.Var line variables e) = nodes_of_new e
dense_node statement = main_node statement

abbrev pub dense_nodes : MainStmt → Nodes
dense_nodes = fold-MainStmt Nodes dense_node

-- over all variables of the main procedure, and over all nodes of its statements but the whole right sides of `var`s
unfoldable pub dense_words : TypedProgram → List SetValue → ℕ
dense_words program sets =
    sum_by (variable_words sets) program.variables + sum_by (node_words sets) (joined (map dense_nodes program.body))
