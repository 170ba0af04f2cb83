-- What the definition of types says of each form of expression.
use Rattle.std.specs.Prelude.{◌≡◌, ℕ, List, map, Option}
use Rattle.sim_syntax.specs.declared.expression.Expr as tree
use Rattle.sim_syntax.specs.declared.expression.Expr.TheVariants as expr
use Rattle.sim_syntax.specs.declared.expression.SumTerm.{SumTerm}
use Rattle.sim_syntax.specs.declared.expression.ProductFactor.{ProductFactor}
use Rattle.type_rules.specs.Rules.{transposed_rule, dot_rule}
use Rattle.typed_tree.specs.declared.expression.TypedForm.TheVariants as form
use Rattle.typed_tree.specs.declared.environment.Environment.{Environment}
use Rattle.typed_tree.specs.Names.{Name}
use Rattle.typed_tree.specs.Expressions.{SignedStep, unary, binary, number, reference, sum, product, expression}

-- a term of a sum and a factor of a product, each with its sign
abbrev pub term_step : Environment → SumTerm → SignedStep
term_step env t = (t.minus, expression env t.value)

abbrev pub factor_step : Environment → ProductFactor → SignedStep
factor_step env f = (f.entrywise, expression env f.value)

pub record TypingForms : Type 0 where
  pub number_is : (env : Environment) (line : ℕ) (digits : List ℕ) → expression env (expr.Number line digits) ≡ number line digits
  pub reference_is : (env : Environment) (line : ℕ) (name : Name) (args : List tree.Expr) (field : Option Name) (field_args : List tree.Expr) (rank : Option ℕ)
      → expression env (expr.Ref line name args field field_args rank)
      ≡ reference env line name (map (expression env) args) field (map (expression env) field_args) rank
  pub sum_is : (env : Environment) (line : ℕ) (terms : List SumTerm) → expression env (expr.Sum line terms) ≡ sum line (map (term_step env) terms)
  pub product_is : (env : Environment) (line : ℕ) (factors : List ProductFactor) → expression env (expr.Product line factors) ≡ product line (map (factor_step env) factors)
  pub transposed_is : (env : Environment) (line : ℕ) (value : tree.Expr)
      → expression env (expr.Transposed line value) ≡ unary transposed_rule form.Transposed line (expression env value)
  pub dot_is : (env : Environment) (line : ℕ) (left right : tree.Expr)
      → expression env (expr.Dot line left right) ≡ binary dot_rule form.Dot line (expression env left) (expression env right)
