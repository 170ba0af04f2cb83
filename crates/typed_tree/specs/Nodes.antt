-- The nodes of a typed program in the order of their numbers.
use Rattle.std.specs.Prelude.{Bool, true, false, List, [], ◌∷◌, ◌++◌, map, Option, Some, None, if◌then◌else◌}
use Rattle.std.specs.List.{flat_map}
use Rattle.type_rules.specs.declared.types.NodeType.{NodeType}
use Rattle.typed_tree.specs.declared.expression.Node.{Node}
use Rattle.typed_tree.specs.declared.expression.Referent.{Referent}
use Rattle.typed_tree.specs.declared.expression.Referent.TheVariants as referent
use Rattle.typed_tree.specs.declared.expression.TypedExpr.{TypedExpr}
use Rattle.typed_tree.specs.declared.expression.TypedRow.{TypedRow}
use Rattle.typed_tree.specs.declared.expression.TypedTerm.{TypedTerm}
use Rattle.typed_tree.specs.declared.expression.TypedFactor.{TypedFactor}
use Rattle.typed_tree.specs.declared.expression.TypedForm.{TypedForm}
use Rattle.typed_tree.specs.declared.expression.TypedForm.TheOpen.{TypedForm-F, TypedExpr-F, TypedFactor-F, TypedRow-F, TypedTerm-F}
use Rattle.typed_tree.specs.declared.expression.TypedForm.TheFolds.{fold-TypedForm, fold-TypedExpr, fold-TypedFactor, fold-TypedRow, fold-TypedTerm}
use Rattle.typed_tree.specs.declared.condition.TypedCond.{TypedCond}
use Rattle.typed_tree.specs.declared.condition.TypedConjunction.{TypedConjunction}
use Rattle.typed_tree.specs.declared.condition.TypedCmp.{TypedCmp}
use Rattle.typed_tree.specs.declared.function.FunctionStmt.{FunctionStmt}
use Rattle.typed_tree.specs.declared.function.FunctionStmt.TheOpen.{FunctionStmt-F}
use Rattle.typed_tree.specs.declared.function.FunctionStmt.TheFolds.{fold-FunctionStmt}
use Rattle.typed_tree.specs.declared.function.TypedFunction.{TypedFunction}
use Rattle.typed_tree.specs.declared.main_procedure.MainStmt.{MainStmt}
use Rattle.typed_tree.specs.declared.main_procedure.MainStmt.TheOpen.{MainStmt-F}
use Rattle.typed_tree.specs.declared.main_procedure.MainStmt.TheFolds.{fold-MainStmt}
use Rattle.typed_tree.specs.declared.main_procedure.TypedRight.{TypedRight}
use Rattle.typed_tree.specs.declared.main_procedure.TypedRight.TheVariants as right
use Rattle.typed_tree.specs.declared.nodes.Named.{Named}
use Rattle.typed_tree.specs.declared.nodes.Named.TheVariants as stands
use Rattle.typed_tree.specs.declared.nodes.NodeEntry.{NodeEntry}
use Rattle.typed_tree.specs.declared.program.TypedProgram.{TypedProgram}

abbrev pub named : Referent → Named
named (referent.Variable variable) = stands.Variable variable
named (referent.Local local) = stands.Local
named (referent.Turn local range) = stands.Local
named (referent.Field set field) = stands.Field set field
named (referent.Own field) = stands.Own field
named (referent.End field) = stands.End field
named (referent.Host number) = stands.Host number

abbrev pub Nodes : Type 0
Nodes = List NodeEntry

abbrev pub joined : List Nodes → Nodes
joined parts = flat_map (λ nodes. nodes) parts

-- a node that is a reference, and one that is none
abbrev pub reference_node : NodeType → Referent → Nodes
reference_node type referent = record { value_type = type; stands_for = Some (named referent) } ∷ []

abbrev pub own_node : NodeType → Nodes
own_node type = record { value_type = type; stands_for = None } ∷ []

-- a term or a factor: the nodes of its value, the type up to it, and whether it is taken away or multiplied entry by entry
pub record PartNodes : Type 0 where
  pub value : Nodes
  pub type : NodeType
  pub sign : Bool

-- the node of a sum up to a term: a first term has one of its own where it is taken away
abbrev pub sum_node : Bool → PartNodes → Nodes
sum_node true part = if part.sign then own_node part.type else []
sum_node false part = own_node part.type

abbrev pub sum_nodes : Bool → List PartNodes → Nodes
sum_nodes is_first [] = []
sum_nodes is_first (term ∷ terms) = term.value ++ sum_node is_first term ++ sum_nodes false terms

-- the node of a product up to a factor, which a first factor hasn't
abbrev pub product_node : Bool → PartNodes → Nodes
product_node true part = []
product_node false part = own_node part.type

abbrev pub product_nodes : Bool → List PartNodes → Nodes
product_nodes is_first [] = []
product_nodes is_first (factor ∷ factors) = factor.value ++ product_node is_first factor ++ product_nodes false factors

unfoldable pub form_nodes : TypedForm-F (NodeType → Nodes) Nodes PartNodes Nodes PartNodes → NodeType → Nodes
form_nodes (TypedForm-F.Number word) type = own_node type
form_nodes (TypedForm-F.Ref referent args field_args) type = joined args ++ joined field_args ++ reference_node type referent
form_nodes (TypedForm-F.Block rows) type = joined rows ++ own_node type
form_nodes (TypedForm-F.Sum terms) type = sum_nodes true terms
form_nodes (TypedForm-F.Product factors) type = product_nodes true factors
form_nodes (TypedForm-F.Transposed value) type = value ++ own_node type
form_nodes (TypedForm-F.Rescale value) type = value ++ own_node type
form_nodes (TypedForm-F.Quot dividend divisor) type = dividend ++ divisor ++ own_node type
form_nodes (TypedForm-F.Isqrt value) type = value ++ own_node type
form_nodes (TypedForm-F.Dot left right) type = left ++ right ++ own_node type

abbrev pub expression_form : TypedExpr-F (NodeType → Nodes) Nodes PartNodes Nodes PartNodes → Nodes
expression_form e = e.form e.node.value_type

abbrev pub factor_part : TypedFactor-F (NodeType → Nodes) Nodes PartNodes Nodes PartNodes → PartNodes
factor_part f = record { value = f.value; type = f.node.value_type; sign = f.entrywise }

abbrev pub row_entries : TypedRow-F (NodeType → Nodes) Nodes PartNodes Nodes PartNodes → Nodes
row_entries row = joined row.entries

abbrev pub term_part : TypedTerm-F (NodeType → Nodes) Nodes PartNodes Nodes PartNodes → PartNodes
term_part t = record { value = t.value; type = t.node.value_type; sign = t.minus }

abbrev pub nodes_of_form : TypedForm → NodeType → Nodes
nodes_of_form = fold-TypedForm (NodeType → Nodes) Nodes PartNodes Nodes PartNodes form_nodes expression_form factor_part row_entries term_part

abbrev pub nodes_of : TypedExpr → Nodes
nodes_of = fold-TypedExpr (NodeType → Nodes) Nodes PartNodes Nodes PartNodes form_nodes expression_form factor_part row_entries term_part

abbrev pub nodes_of_row : TypedRow → Nodes
nodes_of_row = fold-TypedRow (NodeType → Nodes) Nodes PartNodes Nodes PartNodes form_nodes expression_form factor_part row_entries term_part

abbrev pub nodes_of_term : TypedTerm → PartNodes
nodes_of_term = fold-TypedTerm (NodeType → Nodes) Nodes PartNodes Nodes PartNodes form_nodes expression_form factor_part row_entries term_part

abbrev pub nodes_of_factor : TypedFactor → PartNodes
nodes_of_factor = fold-TypedFactor (NodeType → Nodes) Nodes PartNodes Nodes PartNodes form_nodes expression_form factor_part row_entries term_part

-- ---- conditions

abbrev pub comparison_nodes : TypedCmp → Nodes
comparison_nodes cmp = nodes_of cmp.left ++ nodes_of cmp.right

abbrev pub conjunction_nodes : TypedConjunction → Nodes
conjunction_nodes parts = joined (map comparison_nodes parts.parts)

abbrev pub condition_nodes : TypedCond → Nodes
condition_nodes cond = joined (map conjunction_nodes cond.parts)

-- ---- statements

unfoldable pub function_node : FunctionStmt-F Nodes → Nodes
function_node (FunctionStmt-F.Var line local value) = nodes_of value
function_node (FunctionStmt-F.Assign line local value) = nodes_of value
function_node (FunctionStmt-F.Write line result places value) = nodes_of value
function_node (FunctionStmt-F.Loop line local from to body) = joined body
function_node (FunctionStmt-F.If line cond body otherwise) = condition_nodes cond ++ joined body ++ joined otherwise
function_node (FunctionStmt-F.Assert line cond) = condition_nodes cond

abbrev pub function_nodes : FunctionStmt → Nodes
function_nodes = fold-FunctionStmt Nodes function_node

abbrev pub right_nodes : TypedRight → Nodes
right_nodes (right.Map function set args) = joined (map nodes_of args)
right_nodes (right.Value e) = nodes_of e

unfoldable pub main_node : MainStmt-F Nodes → Nodes
main_node (MainStmt-F.Var line variables e) = right_nodes e
main_node (MainStmt-F.Assign line targets e) = right_nodes e
main_node (MainStmt-F.While line cond body) = condition_nodes cond ++ joined body
main_node (MainStmt-F.For line local from to body) = nodes_of from ++ nodes_of to ++ joined body
main_node (MainStmt-F.If line cond body otherwise) = condition_nodes cond ++ joined body ++ joined otherwise
main_node (MainStmt-F.Assert line cond) = condition_nodes cond

abbrev pub main_nodes : MainStmt → Nodes
main_nodes = fold-MainStmt Nodes main_node

-- ---- programs

abbrev pub body_nodes : TypedFunction → Nodes
body_nodes function = joined (map function_nodes function.body)

-- the entry of a node stands where its number says
abbrev pub program_nodes : TypedProgram → Nodes
program_nodes program = joined (map body_nodes program.functions) ++ joined (map main_nodes program.body)
