-- A definition whose answers are judged, and that answers what is judged, has the laws.
use Rattle.std.proofs.Common.{◌≡◌, Result, Ok, Err, sym, ap, ◌∙◌}
use Rattle.typed_tree.specs.Steps.{Step}
use Rattle.typed_tree.specs.Expressions.{expression, condition}
use Rattle.typing_laws.specs.Laws.{TypingLaws, ExpressionLaws, ConditionLaws, FunctionLaws, MainLaws}
use Rattle.typing_laws.specs.Expressions.{IsTyping}
use Rattle.typed_tree.specs.Functions.{statements}
use Rattle.typing_laws.specs.Conditions.{IsConditionTyping}
use Rattle.typing_laws.specs.FunctionStatements.{IsBodyTyping}
use Rattle.typing_laws.proofs.FunctionFacts.{body_typed, only_body}
use Rattle.typed_tree.specs.MainProcedure.{main_statements}
use Rattle.typing_laws.specs.MainStatements.{IsMainBodyTyping}
use Rattle.typing_laws.proofs.MainFacts.{main_typed, only_main}
use Rattle.typing_laws.proofs.Steps.{same_Ok}
use Rattle.typing_laws.proofs.OnlyExpressions.{only_expression}
use Rattle.typing_laws.proofs.TypedExpressions.{expression_typed}
use Rattle.typing_laws.proofs.ConditionFacts.{only_condition, condition_typed}

-- two answers of one question are one
one_answer : {A S E : Type 0} (r : Result (A × S) E) (y z : A) (after end : S) → r ≡ Ok (y, after) → r ≡ Ok (z, end) → (y ≡ z) × (after ≡ end)
one_answer r y z after end first second =
    let same = same_Ok (y, after) (z, end) (sym first ∙ second) in
    (ap (λ d. d.0) same, ap (λ d. d.1) same)

-- a fault is no value
no_answer : {A E : Type 0} (r : Result A E) (a : A) (fault : E) → r ≡ Err fault → r ≡ Ok a → ⊥
no_answer r a fault first second = cc

pub has_laws : {S A B : Type 0} (known : A → Step S B) (judged : A → B → S → S → Type 0)
    → ((x : A) (before : S) (done : B × S) → known x before ≡ Ok done → judged x done.0 before done.1)
    → ((x : A) (y : B) (before after : S) → judged x y before after → known x before ≡ Ok (y, after))
    → TypingLaws known judged
has_laws known judged typed only = record {
  typing = λ x y before after is. typed x before (y, after) is;
  only = only;
  unique = λ x y z before after end first second. one_answer (known x before) y z after end (only x y before after first) (only x z before end second);
  refused = λ x y before after fault is this. no_answer (known x before) (y, after) fault is (only x y before after this);
}

pub expression_laws : ExpressionLaws
expression_laws env = has_laws (expression env) (IsTyping env) (expression_typed env) (only_expression env)

pub condition_laws : ConditionLaws
condition_laws env = has_laws (condition env) (IsConditionTyping env) (condition_typed env) (only_condition env)

pub function_laws : FunctionLaws
function_laws = has_laws statements IsBodyTyping body_typed only_body

pub main_laws : MainLaws
main_laws = has_laws main_statements IsMainBodyTyping main_typed only_main
