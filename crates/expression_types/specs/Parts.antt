-- The parts of expressions as steps, and an expression that is made of typed parts.
use Rattle.std.specs.Prelude.{ℕ, List, Option, Some, None, Result, Ok, Err}
use Rattle.vocabulary.specs.Answers.{◌>>=◌}
use Rattle.sim_syntax.specs.declared.expression.Expr.TheFolds.{fold-Row, fold-SumTerm, fold-ProductFactor}
use Rattle.sim_syntax.specs.declared.expression.Row.{Row}
use Rattle.sim_syntax.specs.declared.expression.SumTerm.{SumTerm}
use Rattle.sim_syntax.specs.declared.expression.ProductFactor.{ProductFactor}
use Rattle.type_rules.specs.declared.types.NodeType.{NodeType}
use Rattle.type_rules.specs.declared.types.TypeKind.{TypeKind}
use Rattle.type_rules.specs.declared.types.TypeKind.TheVariants.{Shape}
use Rattle.type_rules.specs.Rules.{block_rule}
use Rattle.typed_tree.specs.declared.environment.Environment.{Environment}
use Rattle.typed_tree.specs.declared.environment.Level.{Level}
use Rattle.typed_tree.specs.declared.environment.Level.TheVariants.{Function, Main}
use Rattle.typed_tree.specs.declared.expression.Node.{Node}
use Rattle.typed_tree.specs.declared.expression.Referent.{Referent}
use Rattle.typed_tree.specs.declared.expression.TypedExpr.{TypedExpr, roll-TypedExpr}
use Rattle.typed_tree.specs.declared.expression.TypedForm.{TypedForm}
use Rattle.typed_tree.specs.declared.expression.TypedForm.TheVariants.{Ref}
use Rattle.typed_tree.specs.declared.expression.TypedRow.{TypedRow}
use Rattle.typed_tree.specs.declared.fault.CheckFault.{CheckFault}
use Rattle.typed_tree.specs.declared.fault.CheckFault.TheVariants.{IllTyped}
use Rattle.typed_tree.specs.Expressions.{Found, SignedStep, numbered, ranked, expression_node, factor_step, row_step, term_step}
use Rattle.typed_tree.specs.Steps.{Step, at_line}

-- an expression of a form, by what its rule answers
abbrev pub made : Result NodeType TypeKind → TypedForm → ℕ → ℕ → Result (TypedExpr × ℕ) CheckFault
made answer form line next = at_line line answer >>= λ type. Ok (numbered next line type form)

abbrev pub row : Environment → Row → Step ℕ TypedRow
row env = fold-Row (Step ℕ TypedExpr) SignedStep (Step ℕ TypedRow) SignedStep (expression_node env) factor_step row_step term_step

abbrev pub term : Environment → SumTerm → SignedStep
term env = fold-SumTerm (Step ℕ TypedExpr) SignedStep (Step ℕ TypedRow) SignedStep (expression_node env) factor_step row_step term_step

abbrev pub factor : Environment → ProductFactor → SignedStep
factor env = fold-ProductFactor (Step ℕ TypedExpr) SignedStep (Step ℕ TypedRow) SignedStep (expression_node env) factor_step row_step term_step

-- the type of a block where it stands, by the types of its entries
abbrev pub block_of_types : Level → List (List NodeType) → Result NodeType TypeKind
block_of_types Function rows = block_rule rows
block_of_types Main rows = Err Shape

-- a reference, by what it stands for
abbrev pub referred : Result (Referent × NodeType) TypeKind → List TypedExpr → List TypedExpr → ℕ → ℕ → Result (TypedExpr × ℕ) CheckFault
referred answer args field_args line next = at_line line answer >>= λ what. Ok (numbered next line what.1 (Ref what.0 args field_args))

-- what was found, with as many indices as its view
abbrev pub with_rank : Option ℕ → Found → Found
with_rank rank what = what >>= ranked rank

-- a chain of parts, by the node up to its last part
abbrev pub chained_form : ℕ → Option Node → TypedForm → Result TypedExpr CheckFault
chained_form line None form = Err (IllTyped line Shape)
chained_form line (Some last) form = Ok (roll-TypedExpr (record { node = last; form = form }))
