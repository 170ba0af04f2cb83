-- The nodes of forms and of statements of several parts.
use Rattle.std.proofs.Common.{◌≡◌, ℕ, List, ◌∷◌, ◌++◌, map, sym, ap, ◌∙◌}
use Rattle.type_rules.specs.declared.types.NodeType.{NodeType}
use Rattle.typed_tree.specs.declared.condition.TypedCond.{TypedCond}
use Rattle.typed_tree.specs.declared.expression.Referent.{Referent}
use Rattle.typed_tree.specs.declared.expression.TypedExpr.{TypedExpr}
use Rattle.typed_tree.specs.declared.expression.TypedForm.{TypedForm}
use Rattle.typed_tree.specs.declared.expression.TypedForm.TheFolds.{fold-roll-TypedForm, fold_out-TypedRow}
use Rattle.typed_tree.specs.declared.expression.TypedForm.TheOpen.{TypedForm-F}
use Rattle.typed_tree.specs.declared.expression.TypedForm.TheVariants as form
use Rattle.typed_tree.specs.declared.expression.TypedRow.{TypedRow, out-TypedRow}
use Rattle.typed_tree.specs.declared.main_procedure.MainStmt.{MainStmt}
use Rattle.typed_tree.specs.declared.main_procedure.MainStmt.TheFolds.{fold-roll-MainStmt}
use Rattle.typed_tree.specs.declared.main_procedure.MainStmt.TheOpen.{MainStmt-F}
use Rattle.typed_tree.specs.declared.main_procedure.MainStmt.TheVariants as statement
use Rattle.typed_tree.specs.Nodes.{Nodes, PartNodes, joined, form_nodes, expression_form, factor_part, row_entries, term_part, main_node, nodes_of, nodes_of_row, nodes_of_form, own_node, reference_node, condition_nodes}
use Rattle.dense_sizes.specs.DenseWords.{dense_node, dense_nodes}

pub row_splits : (row : TypedRow) (rest : List TypedRow) → joined (map nodes_of_row (row ∷ rest)) ≡ joined (map nodes_of (out-TypedRow row).entries) ++ joined (map nodes_of_row rest)
row_splits row rest =
    ap (λ (part : Nodes). part ++ joined (map nodes_of_row rest)) (fold_out-TypedRow (NodeType → Nodes) Nodes PartNodes Nodes PartNodes form_nodes expression_form factor_part row_entries term_part row)

pub ref_nodes : (referent : Referent) (args field_args : List TypedExpr) (type : NodeType)
    → nodes_of_form (form.Ref referent args field_args) type ≡ joined (map nodes_of args) ++ joined (map nodes_of field_args) ++ reference_node type referent
unfolding form_nodes
ref_nodes referent args field_args type =
    ap (λ (f : TypedForm). nodes_of_form f type) (sym (form.rolls-Ref referent args field_args))
    ∙ ap (λ (nodes : NodeType → Nodes). nodes type) (fold-roll-TypedForm (NodeType → Nodes) Nodes PartNodes Nodes PartNodes form_nodes expression_form factor_part row_entries term_part (TypedForm-F.Ref referent args field_args))

pub block_nodes : (rows : List TypedRow) (type : NodeType) → nodes_of_form (form.Block rows) type ≡ joined (map nodes_of_row rows) ++ own_node type
unfolding form_nodes
block_nodes rows type =
    ap (λ (f : TypedForm). nodes_of_form f type) (sym (form.rolls-Block rows))
    ∙ ap (λ (nodes : NodeType → Nodes). nodes type) (fold-roll-TypedForm (NodeType → Nodes) Nodes PartNodes Nodes PartNodes form_nodes expression_form factor_part row_entries term_part (TypedForm-F.Block rows))

pub for_nodes : (line local : ℕ) (from to : TypedExpr) (body : List MainStmt)
    → dense_nodes (statement.For line local from to body) ≡ nodes_of from ++ nodes_of to ++ joined (map dense_nodes body)
unfolding dense_node main_node
for_nodes line local from to body =
    ap dense_nodes (sym (statement.rolls-For line local from to body)) ∙ fold-roll-MainStmt Nodes dense_node (MainStmt-F.For line local from to body)

pub if_nodes : (line : ℕ) (cond : TypedCond) (body otherwise : List MainStmt)
    → dense_nodes (statement.If line cond body otherwise) ≡ condition_nodes cond ++ joined (map dense_nodes body) ++ joined (map dense_nodes otherwise)
unfolding dense_node main_node
if_nodes line cond body otherwise =
    ap dense_nodes (sym (statement.rolls-If line cond body otherwise)) ∙ fold-roll-MainStmt Nodes dense_node (MainStmt-F.If line cond body otherwise)
