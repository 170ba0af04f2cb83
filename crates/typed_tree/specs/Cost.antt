-- What a function costs: each statement 1, each expression node as many as its value has entries, and products the products of
-- numbers that they take. The body of a loop counts once for each turn.
use Rattle.std.specs.Prelude.{ℕ, suc, ◌+◌, ◌-◌, ◌*◌, Bool, true, false, List, [], ◌∷◌, map, if◌then◌else◌}
use Rattle.std.specs.List.{sum_by}
use Rattle.type_rules.specs.declared.types.BlockShape.{BlockShape}
use Rattle.type_rules.specs.declared.types.BlockShape.TheVariants.{Number, Vector, Matrix}
use Rattle.type_rules.specs.declared.types.NodeType.{NodeType}
use Rattle.type_rules.specs.declared.types.NodeType.TheVariants.{Local, SystemVector, SystemMatrix}
use Rattle.typed_tree.specs.declared.expression.Node.{Node}
use Rattle.typed_tree.specs.declared.expression.TypedExpr.{TypedExpr}
use Rattle.typed_tree.specs.declared.expression.TypedForm.TheOpen.{TypedForm-F, TypedExpr-F, TypedFactor-F, TypedRow-F, TypedTerm-F}
use Rattle.typed_tree.specs.declared.expression.TypedForm.TheFolds.{fold-TypedExpr}
use Rattle.typed_tree.specs.declared.condition.TypedCond.{TypedCond}
use Rattle.typed_tree.specs.declared.condition.TypedConjunction.{TypedConjunction}
use Rattle.typed_tree.specs.declared.condition.TypedCmp.{TypedCmp}
use Rattle.typed_tree.specs.declared.function.FunctionStmt.{FunctionStmt}
use Rattle.typed_tree.specs.declared.function.FunctionStmt.TheOpen.{FunctionStmt-F}
use Rattle.typed_tree.specs.declared.function.FunctionStmt.TheFolds.{fold-FunctionStmt}

abbrev pub entries_in : BlockShape → ℕ
entries_in Number = 1
entries_in (Vector n) = n
entries_in (Matrix m n) = m * n

-- the entries of a value of a function
abbrev pub entries_of : NodeType → ℕ
entries_of (Local block scale) = entries_in block
entries_of (SystemVector set block scale) = 0
entries_of (SystemMatrix rows columns block scale) = 0

-- a matrix times a matrix, or times a vector; another product costs as many as its entries
abbrev pub times_cost : NodeType → NodeType → NodeType → ℕ
times_cost (Local (Matrix m n) s) (Local (Matrix k p) t) type = m * n * p
times_cost (Local (Matrix m n) s) (Local (Vector k) t) type = m * n
times_cost left right type = entries_of type

-- an expression's cost, and its type
pub record Costed : Type 0 where
  pub type : NodeType
  pub cost : ℕ

-- a term or a factor: the node up to it, whether it is taken away or multiplied entry by entry, and its value
pub record CostedPart : Type 0 where
  pub node : Node
  pub sign : Bool
  pub value : Costed

abbrev pub cost_of_all : List Costed → ℕ
cost_of_all parts = sum_by (λ part. part.cost) parts

-- the first term has a node of its own where it is taken away
abbrev pub terms_cost : List CostedPart → ℕ
terms_cost [] = 0
terms_cost (first ∷ others) =
    first.value.cost + (if first.sign then entries_of first.node.value_type else 0)
    + sum_by (λ term. term.value.cost + entries_of term.node.value_type) others

-- the product up to a factor, which has this type, times the factor
abbrev pub product_cost : NodeType → CostedPart → ℕ
product_cost left factor =
    if factor.sign then entries_of factor.node.value_type else times_cost left factor.value.type factor.node.value_type

abbrev pub more_factors_cost : NodeType → List CostedPart → ℕ
more_factors_cost left [] = 0
more_factors_cost left (factor ∷ factors) = factor.value.cost + product_cost left factor + more_factors_cost factor.node.value_type factors

abbrev pub factors_cost : List CostedPart → ℕ
factors_cost [] = 0
factors_cost (first ∷ others) = first.value.cost + more_factors_cost first.node.value_type others

unfoldable pub form_cost : TypedForm-F (NodeType → ℕ) Costed CostedPart ℕ CostedPart → NodeType → ℕ
form_cost (TypedForm-F.Number word) type = entries_of type
form_cost (TypedForm-F.Ref referent args field_args) type = cost_of_all args + cost_of_all field_args + entries_of type
form_cost (TypedForm-F.Block rows) type = sum_by (λ row. row) rows + entries_of type
form_cost (TypedForm-F.Sum terms) type = terms_cost terms
form_cost (TypedForm-F.Product factors) type = factors_cost factors
form_cost (TypedForm-F.Transposed value) type = value.cost + entries_of type
form_cost (TypedForm-F.Rescale value) type = value.cost + entries_of type
form_cost (TypedForm-F.Quot dividend divisor) type = dividend.cost + divisor.cost + entries_of type
form_cost (TypedForm-F.Isqrt value) type = value.cost + entries_of type
form_cost (TypedForm-F.Dot left right) type = left.cost + right.cost + entries_of left.type

abbrev pub expression_costed : TypedExpr-F (NodeType → ℕ) Costed CostedPart ℕ CostedPart → Costed
expression_costed e = record { type = e.node.value_type; cost = e.form e.node.value_type }

abbrev pub factor_costed : TypedFactor-F (NodeType → ℕ) Costed CostedPart ℕ CostedPart → CostedPart
factor_costed f = record { node = f.node; sign = f.entrywise; value = f.value }

abbrev pub row_cost : TypedRow-F (NodeType → ℕ) Costed CostedPart ℕ CostedPart → ℕ
row_cost row = cost_of_all row.entries

abbrev pub term_costed : TypedTerm-F (NodeType → ℕ) Costed CostedPart ℕ CostedPart → CostedPart
term_costed t = record { node = t.node; sign = t.minus; value = t.value }

abbrev pub expression_cost : TypedExpr → ℕ
expression_cost e = (fold-TypedExpr (NodeType → ℕ) Costed CostedPart ℕ CostedPart form_cost expression_costed factor_costed row_cost term_costed e).cost

-- comparisons count nothing but their operands
abbrev pub comparison_cost : TypedCmp → ℕ
comparison_cost cmp = expression_cost cmp.left + expression_cost cmp.right

abbrev pub conjunction_cost : TypedConjunction → ℕ
conjunction_cost parts = sum_by comparison_cost parts.parts

abbrev pub condition_cost : TypedCond → ℕ
condition_cost cond = sum_by conjunction_cost cond.parts

unfoldable pub statement_cost_node : FunctionStmt-F ℕ → ℕ
statement_cost_node (FunctionStmt-F.Var line local value) = suc (expression_cost value)
statement_cost_node (FunctionStmt-F.Assign line local value) = suc (expression_cost value)
statement_cost_node (FunctionStmt-F.Write line result places value) = suc (expression_cost value)
statement_cost_node (FunctionStmt-F.Loop line local from to body) = suc ((to - from) * sum_by (λ cost. cost) body)
statement_cost_node (FunctionStmt-F.If line cond body otherwise) = suc (condition_cost cond + sum_by (λ cost. cost) body + sum_by (λ cost. cost) otherwise)
statement_cost_node (FunctionStmt-F.Assert line cond) = suc (condition_cost cond)

abbrev pub statement_cost : FunctionStmt → ℕ
statement_cost = fold-FunctionStmt ℕ statement_cost_node

abbrev pub body_cost : List FunctionStmt → ℕ
body_cost body = sum_by statement_cost body
