-- The costs of the parts of an expression.
use Rattle.std.specs.Prelude.{ℕ, ◌+◌, Bool, true, false, List, [], ◌∷◌, Option, Some, None, if◌then◌else◌}
use Rattle.type_rules.specs.declared.types.NodeType.{NodeType}
use Rattle.typed_tree.specs.declared.expression.TypedExpr.{TypedExpr}
use Rattle.typed_tree.specs.declared.expression.TypedForm.{TypedForm}
use Rattle.typed_tree.specs.declared.expression.TypedRow.{TypedRow}
use Rattle.typed_tree.specs.declared.expression.TypedTerm.{TypedTerm}
use Rattle.typed_tree.specs.declared.expression.TypedFactor.{TypedFactor}
use Rattle.typed_tree.specs.declared.expression.TypedForm.TheFolds.{fold-TypedForm, fold-TypedExpr, fold-TypedFactor, fold-TypedRow, fold-TypedTerm}
use Rattle.typed_tree.specs.Cost.{Costed, CostedPart, entries_of, times_cost, form_cost, expression_costed, factor_costed, row_cost, term_costed}

abbrev pub form : TypedForm → NodeType → ℕ
form = fold-TypedForm (NodeType → ℕ) Costed CostedPart ℕ CostedPart form_cost expression_costed factor_costed row_cost term_costed

abbrev pub expression : TypedExpr → Costed
expression = fold-TypedExpr (NodeType → ℕ) Costed CostedPart ℕ CostedPart form_cost expression_costed factor_costed row_cost term_costed

abbrev pub row : TypedRow → ℕ
row = fold-TypedRow (NodeType → ℕ) Costed CostedPart ℕ CostedPart form_cost expression_costed factor_costed row_cost term_costed

abbrev pub term : TypedTerm → CostedPart
term = fold-TypedTerm (NodeType → ℕ) Costed CostedPart ℕ CostedPart form_cost expression_costed factor_costed row_cost term_costed

abbrev pub factor : TypedFactor → CostedPart
factor = fold-TypedFactor (NodeType → ℕ) Costed CostedPart ℕ CostedPart form_cost expression_costed factor_costed row_cost term_costed

-- the node of a sum up to a term, which may be the first
abbrev pub sum_node : Bool → Bool → NodeType → ℕ
sum_node true minus type = if minus then entries_of type else 0
sum_node false minus type = entries_of type

abbrev pub term_cost : Bool → TypedTerm → ℕ
term_cost is_first t = (expression t.value).cost + sum_node is_first t.minus t.node.value_type

abbrev pub terms_from : Bool → List CostedPart → ℕ
terms_from is_first [] = 0
terms_from is_first (part ∷ parts) = part.value.cost + sum_node is_first part.sign part.node.value_type + terms_from false parts

-- the node of a product up to a factor, by the type of the product before it, if there is one
abbrev pub product_node : Option NodeType → Bool → NodeType → NodeType → ℕ
product_node None entrywise right type = 0
product_node (Some left) entrywise right type = if entrywise then entries_of type else times_cost left right type

abbrev pub factor_cost : Option NodeType → TypedFactor → ℕ
factor_cost left f = (expression f.value).cost + product_node left f.entrywise f.value.node.value_type f.node.value_type

abbrev pub factors_from : Option NodeType → List CostedPart → ℕ
factors_from left [] = 0
factors_from left (part ∷ parts) = part.value.cost + product_node left part.sign part.value.type part.node.value_type + factors_from (Some part.node.value_type) parts
