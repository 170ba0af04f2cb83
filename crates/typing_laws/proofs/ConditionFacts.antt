-- Conditions: what the definition answers is a typing, and each typing is what it answers.
use Rattle.std.proofs.Common.{◌≡◌, ℕ, map, Ok, ap, subst}
use Rattle.vocabulary.specs.Answers.{◌>>=◌}
use Rattle.sim_syntax.specs.declared.condition.Cond.{Cond}
use Rattle.sim_syntax.specs.declared.condition.Conjunction.{Conjunction}
use Rattle.sim_syntax.specs.declared.condition.Cmp.{Cmp}
use Rattle.type_rules.specs.Rules.{comparison_rule}
use Rattle.typed_tree.specs.declared.condition.TypedCond.{TypedCond}
use Rattle.typed_tree.specs.declared.condition.TypedConjunction.{TypedConjunction}
use Rattle.typed_tree.specs.declared.condition.TypedCmp.{TypedCmp}
use Rattle.typed_tree.specs.declared.expression.TypedExpr.{TypedExpr}
use Rattle.typed_tree.specs.declared.environment.Environment.{Environment}
use Rattle.typed_tree.specs.Steps.{at_line, several}
use Rattle.typed_tree.specs.Expressions.{type_of, expression, comparison, conjunction, condition}
use Rattle.typing_laws.specs.Conditions.{IsComparisonTyping, IsConjunctionTyping, IsConditionTyping}
use Rattle.typing_laws.proofs.Steps.{same_Ok, and_then, then_is, at_line_Ok}
use Rattle.typing_laws.proofs.TurnFacts.{in_turn_only, in_turn_typed}
use Rattle.typing_laws.proofs.OnlyExpressions.{only_expression}
use Rattle.typing_laws.proofs.TypedExpressions.{expression_typed}

abbrev compared : Cmp → TypedExpr → TypedExpr → TypedCmp
compared cmp l r = record { negated = cmp.negated; left = l; op = cmp.op; right = r }

only_comparison : (env : Environment) (cmp : Cmp) (t : TypedCmp) (from to : ℕ) → IsComparisonTyping env cmp t from to → comparison env cmp from ≡ Ok (t, to)
unfolding comparison
only_comparison env cmp t from to (IsComparisonTyping.comparison c l r from' middle to' first second allowed) =
    then_is (expression env c.left from') (λ a. expression env c.right a.1 >>= λ b. at_line c.line (comparison_rule (type_of a.0) (type_of b.0)) >>= λ _. Ok (compared c a.0 b.0, b.1))
    (l, middle) (Ok (compared c l r, to')) (only_expression env c.left l from' middle first)
    (then_is (expression env c.right middle) (λ b. at_line c.line (comparison_rule (type_of l) (type_of b.0)) >>= λ _. Ok (compared c l b.0, b.1))
    (r, to') (Ok (compared c l r, to')) (only_expression env c.right r middle to' second)
    (ap (λ o. at_line c.line o >>= λ _. Ok (compared c l r, to')) allowed))

comparison_typed : (env : Environment) (cmp : Cmp) (from : ℕ) (done : TypedCmp × ℕ) → comparison env cmp from ≡ Ok done → IsComparisonTyping env cmp done.0 from done.1
unfolding comparison
comparison_typed env cmp from done is =
    let l = and_then (expression env cmp.left from)
    (λ a. expression env cmp.right a.1 >>= λ b. at_line cmp.line (comparison_rule (type_of a.0) (type_of b.0)) >>= λ _. Ok (compared cmp a.0 b.0, b.1)) done is in
    let r = and_then (expression env cmp.right l.0.1)
    (λ b. at_line cmp.line (comparison_rule (type_of l.0.0) (type_of b.0)) >>= λ _. Ok (compared cmp l.0.0 b.0, b.1)) done l.2 in
    let rule = comparison_rule (type_of l.0.0) (type_of r.0.0) in
    let u = and_then (at_line cmp.line rule) (λ _. Ok (compared cmp l.0.0 r.0.0, r.0.1)) done r.2 in
    subst (λ d. IsComparisonTyping env cmp d.0 from d.1) (same_Ok (compared cmp l.0.0 r.0.0, r.0.1) done u.2)
    (IsComparisonTyping.comparison cmp l.0.0 r.0.0 from l.0.1 r.0.1 (expression_typed env cmp.left from l.0 l.1) (expression_typed env cmp.right l.0.1 r.0 r.1)
    (at_line_Ok cmp.line rule u.0 u.1))

only_conjunction : (env : Environment) (c : Conjunction) (t : TypedConjunction) (from to : ℕ) → IsConjunctionTyping env c t from to → conjunction env c from ≡ Ok (t, to)
unfolding conjunction
only_conjunction env c t from to typed =
    ap (λ r. r >>= λ ps. Ok (record { parts = ps.0 }, ps.1)) (in_turn_only (IsComparisonTyping env) (comparison env) (only_comparison env) c.parts t.parts from to typed)

conjunction_typed : (env : Environment) (c : Conjunction) (from : ℕ) (done : TypedConjunction × ℕ) → conjunction env c from ≡ Ok done → IsConjunctionTyping env c done.0 from done.1
unfolding conjunction
conjunction_typed env c from done is =
    let s = and_then (several (map (comparison env) c.parts) from) (λ ps. Ok (record { parts = ps.0 }, ps.1)) done is in
    subst (λ d. IsConjunctionTyping env c d.0 from d.1) (same_Ok (record { parts = s.0.0 }, s.0.1) done s.2)
    (in_turn_typed (IsComparisonTyping env) (comparison env) (comparison_typed env) c.parts from s.0 s.1)

pub only_condition : (env : Environment) (c : Cond) (t : TypedCond) (from to : ℕ) → IsConditionTyping env c t from to → condition env c from ≡ Ok (t, to)
unfolding condition
only_condition env c t from to typed =
    ap (λ r. r >>= λ ps. Ok (record { parts = ps.0 }, ps.1)) (in_turn_only (IsConjunctionTyping env) (conjunction env) (only_conjunction env) c.parts t.parts from to typed)

pub condition_typed : (env : Environment) (c : Cond) (from : ℕ) (done : TypedCond × ℕ) → condition env c from ≡ Ok done → IsConditionTyping env c done.0 from done.1
unfolding condition
condition_typed env c from done is =
    let s = and_then (several (map (conjunction env) c.parts) from) (λ ps. Ok (record { parts = ps.0 }, ps.1)) done is in
    subst (λ d. IsConditionTyping env c d.0 from d.1) (same_Ok (record { parts = s.0.0 }, s.0.1) done s.2)
    (in_turn_typed (IsConjunctionTyping env) (conjunction env) (conjunction_typed env) c.parts from s.0 s.1)
