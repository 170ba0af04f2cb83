-- Which typed conditions are typings of a condition.
use Rattle.std.specs.Prelude.{◌≡◌, ℕ, Ok}
use Rattle.sim_syntax.specs.declared.condition.Cond.{Cond}
use Rattle.sim_syntax.specs.declared.condition.Conjunction.{Conjunction}
use Rattle.sim_syntax.specs.declared.condition.Cmp.{Cmp}
use Rattle.type_rules.specs.Rules.{comparison_rule}
use Rattle.typed_tree.specs.declared.condition.TypedCond.{TypedCond}
use Rattle.typed_tree.specs.declared.condition.TypedConjunction.{TypedConjunction}
use Rattle.typed_tree.specs.declared.condition.TypedCmp.{TypedCmp}
use Rattle.typed_tree.specs.declared.expression.TypedExpr.{TypedExpr}
use Rattle.typed_tree.specs.declared.environment.Environment.{Environment}
use Rattle.typed_tree.specs.Expressions.{type_of}
use Rattle.typing_laws.specs.Lists.{InTurn}
use Rattle.typing_laws.specs.Expressions.{IsTyping}

-- two sides that can be compared
pub data IsComparisonTyping (env : Environment) : Cmp → TypedCmp → ℕ → ℕ → Type 0 where
  comparison : (cmp : Cmp) (l r : TypedExpr) (from middle to : ℕ)
      → IsTyping env cmp.left l from middle → IsTyping env cmp.right r middle to → comparison_rule (type_of l) (type_of r) ≡ Ok tt
      → IsComparisonTyping env cmp (record { negated = cmp.negated; left = l; op = cmp.op; right = r }) from to

abbrev pub IsConjunctionTyping : Environment → Conjunction → TypedConjunction → ℕ → ℕ → Type 0
IsConjunctionTyping env parts typed = InTurn (IsComparisonTyping env) parts.parts typed.parts

abbrev pub IsConditionTyping : Environment → Cond → TypedCond → ℕ → ℕ → Type 0
IsConditionTyping env cond typed = InTurn (IsConjunctionTyping env) cond.parts typed.parts
