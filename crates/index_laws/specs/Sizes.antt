-- The values of expressions of the main procedure have the sizes of their types.
use Rattle.std.specs.Prelude.{◌≡◌, ℕ, List, Some, Ok}
use Rattle.sim_syntax.specs.declared.expression.Expr as tree
use Rattle.hypergraph.specs.SetValue.{SetValue}
use Rattle.type_rules.specs.Rules.{same_rule}
use Rattle.type_rules.specs.declared.types.NodeType.{NodeType}
use Rattle.typed_tree.specs.declared.environment.Environment.{Environment}
use Rattle.typed_tree.specs.declared.environment.Level.TheVariants.{Main}
use Rattle.typed_tree.specs.declared.expression.TypedExpr.{TypedExpr}
use Rattle.typed_tree.specs.declared.names.Meaning.{Meaning}
use Rattle.typed_tree.specs.declared.names.Meaning.TheVariants as meaning
use Rattle.typed_tree.specs.Expressions.{type_of}
use Rattle.typed_tree.specs.Names.{Name, meaning_of}
use Rattle.typing_laws.specs.Expressions.{IsTyping}
use Rattle.value_algebra.specs.declared.value.Value.{Value}
use Rattle.algebra_meaning.specs.Expression as meant
use Rattle.algebra_meaning.specs.Expression.{Scope}
use Rattle.index_laws.specs.Fits.{Fits, NamesFit, columns_of, rows_of}

-- what no name of the main procedure stands for: what a function alone names
abbrev pub IsOfMain : Meaning → Type 0
IsOfMain (meaning.Parameter local scale) = ⊥
IsOfMain (meaning.Local local type) = ⊥
IsOfMain (meaning.Turn local range) = ⊥
IsOfMain (meaning.Own element) = ⊥
IsOfMain (meaning.Ends element count) = ⊥
IsOfMain other = Unit {0}

pub record IsMain (env : Environment) : Type 0 where
  pub level : env.level ≡ Main
  pub names : (name : Name) (what : Meaning) → meaning_of env.names name ≡ Some what → IsOfMain what

-- where names fit, so does the value of each typed expression that has one
abbrev pub AreSized : Type 0
AreSized = (env : Environment) (scope : Scope) (e : tree.Expr) (t : TypedExpr) (from to : ℕ) (value : Value)
    → IsMain env → NamesFit env scope → IsTyping env e t from to → meant.meaning scope t ≡ Ok value → Fits scope.sets (type_of t) value

-- values of two types that have a sum are of one size
abbrev pub SumsAreSized : Type 0
SumsAreSized = (sets : List SetValue) (left right type : NodeType) → same_rule left right ≡ Ok type
    → (rows_of sets left ≡ rows_of sets right) × (columns_of sets left ≡ columns_of sets right)
