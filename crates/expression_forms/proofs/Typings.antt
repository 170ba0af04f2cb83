-- The forms of expressions and their types.
use Rattle.std.proofs.Common.{◌≡◌, ℕ, List, map, Option, sym, ap, ◌∙◌}
use Rattle.std.proofs.Math.Path.{fun_ext}
use Rattle.sim_syntax.specs.declared.expression.Expr as tree
use Rattle.sim_syntax.specs.declared.expression.Expr.TheVariants as expr
use Rattle.sim_syntax.specs.declared.expression.Expr.TheOpen.{Expr-F}
use Rattle.sim_syntax.specs.declared.expression.Expr.TheFolds.{fold-SumTerm, fold-ProductFactor, fold-Row, fold-roll-Expr, fold_out-SumTerm, fold_out-ProductFactor}
use Rattle.sim_syntax.specs.declared.expression.Row.{Row}
use Rattle.sim_syntax.specs.declared.expression.SumTerm.{SumTerm}
use Rattle.sim_syntax.specs.declared.expression.ProductFactor.{ProductFactor}
use Rattle.type_rules.specs.Rules.{transposed_rule, dot_rule}
use Rattle.typed_tree.specs.declared.expression.TypedExpr.{TypedExpr}
use Rattle.typed_tree.specs.declared.expression.TypedForm.TheVariants as form
use Rattle.typed_tree.specs.declared.expression.TypedRow.{TypedRow}
use Rattle.typed_tree.specs.declared.environment.Environment.{Environment}
use Rattle.typed_tree.specs.Names.{Name}
use Rattle.typed_tree.specs.Steps.{Step}
use Rattle.typed_tree.specs.Expressions as typed
use Rattle.typed_tree.specs.Expressions.{SignedStep, unary, binary, number, reference, sum, product, expression, expression_node, row_step}
use Rattle.expression_forms.specs.Typings.{term_step, factor_step}

abbrev terms_of : Environment → SumTerm → SignedStep
terms_of env = fold-SumTerm (Step ℕ TypedExpr) SignedStep (Step ℕ TypedRow) SignedStep (expression_node env) typed.factor_step row_step typed.term_step

abbrev factors_of : Environment → ProductFactor → SignedStep
factors_of env = fold-ProductFactor (Step ℕ TypedExpr) SignedStep (Step ℕ TypedRow) SignedStep (expression_node env) typed.factor_step row_step typed.term_step

abbrev rows_of : Environment → Row → Step ℕ TypedRow
rows_of env = fold-Row (Step ℕ TypedExpr) SignedStep (Step ℕ TypedRow) SignedStep (expression_node env) typed.factor_step row_step typed.term_step

module _ (env : Environment) where
  terms_are : terms_of env ≡ term_step env
  terms_are = fun_ext (λ t. fold_out-SumTerm (Step ℕ TypedExpr) SignedStep (Step ℕ TypedRow) SignedStep (expression_node env) typed.factor_step row_step typed.term_step t)

  factors_are : factors_of env ≡ factor_step env
  factors_are = fun_ext (λ f. fold_out-ProductFactor (Step ℕ TypedExpr) SignedStep (Step ℕ TypedRow) SignedStep (expression_node env) typed.factor_step row_step typed.term_step f)

  rolled : (x : Expr-F tree.Expr ProductFactor Row SumTerm)
      → expression env (tree.roll-Expr x)
      ≡ expression_node env (tree.map-Expr tree.Expr ProductFactor Row SumTerm (Step ℕ TypedExpr) SignedStep (Step ℕ TypedRow) SignedStep
      (expression env) (factors_of env) (rows_of env) (terms_of env) x)
  rolled x = fold-roll-Expr (Step ℕ TypedExpr) SignedStep (Step ℕ TypedRow) SignedStep (expression_node env) typed.factor_step row_step typed.term_step x

  pub number_is : (line : ℕ) (digits : List ℕ) → expression env (expr.Number line digits) ≡ number line digits
  unfolding expression_node
  number_is line digits = ap (expression env) (sym (expr.rolls-Number line digits)) ∙ rolled (Expr-F.Number line digits)

  pub reference_is : (line : ℕ) (name : Name) (args : List tree.Expr) (field : Option Name) (field_args : List tree.Expr) (rank : Option ℕ)
      → expression env (expr.Ref line name args field field_args rank)
      ≡ reference env line name (map (expression env) args) field (map (expression env) field_args) rank
  unfolding expression_node
  reference_is line name args field field_args rank =
      ap (expression env) (sym (expr.rolls-Ref line name args field field_args rank)) ∙ rolled (Expr-F.Ref line name args field field_args rank)

  pub sum_is : (line : ℕ) (terms : List SumTerm) → expression env (expr.Sum line terms) ≡ sum line (map (term_step env) terms)
  unfolding expression_node
  sum_is line terms =
      ap (expression env) (sym (expr.rolls-Sum line terms)) ∙ rolled (Expr-F.Sum line terms) ∙ ap (λ f. sum line (map f terms)) terms_are

  pub product_is : (line : ℕ) (factors : List ProductFactor) → expression env (expr.Product line factors) ≡ product line (map (factor_step env) factors)
  unfolding expression_node
  product_is line factors =
      ap (expression env) (sym (expr.rolls-Product line factors)) ∙ rolled (Expr-F.Product line factors) ∙ ap (λ f. product line (map f factors)) factors_are

  pub transposed_is : (line : ℕ) (value : tree.Expr) → expression env (expr.Transposed line value) ≡ unary transposed_rule form.Transposed line (expression env value)
  unfolding expression_node
  transposed_is line value = ap (expression env) (sym (expr.rolls-Transposed line value)) ∙ rolled (Expr-F.Transposed line value)

  pub dot_is : (line : ℕ) (left right : tree.Expr)
      → expression env (expr.Dot line left right) ≡ binary dot_rule form.Dot line (expression env left) (expression env right)
  unfolding expression_node
  dot_is line left right = ap (expression env) (sym (expr.rolls-Dot line left right)) ∙ rolled (Expr-F.Dot line left right)
