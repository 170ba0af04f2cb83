-- The laws of a judgement: the definition of types answers just what is judged.
use Rattle.std.specs.Prelude.{◌≡◌, Ok, Err}
use Rattle.typed_tree.specs.declared.fault.CheckFault.{CheckFault}
use Rattle.typed_tree.specs.declared.environment.Environment.{Environment}
use Rattle.typed_tree.specs.Steps.{Step}
use Rattle.typed_tree.specs.Expressions.{expression, condition}
use Rattle.typing_laws.specs.Expressions.{IsTyping}
use Rattle.typed_tree.specs.Functions.{statements}
use Rattle.typing_laws.specs.Conditions.{IsConditionTyping}
use Rattle.typing_laws.specs.FunctionStatements.{IsBodyTyping}
use Rattle.typed_tree.specs.MainProcedure.{main_statements}
use Rattle.typing_laws.specs.MainStatements.{IsMainBodyTyping}

pub record TypingLaws {S A B : Type 0} (known : A → Step S B) (judged : A → B → S → S → Type 0) : Type 0 where
  -- what the definition answers is a typing
  pub typing : (x : A) (y : B) (before after : S) → known x before ≡ Ok (y, after) → judged x y before after
  -- each typing is what the definition answers
  pub only : (x : A) (y : B) (before after : S) → judged x y before after → known x before ≡ Ok (y, after)
  -- there is at most one typing
  pub unique : (x : A) (y z : B) (before after end : S) → judged x y before after → judged x z before end → (y ≡ z) × (after ≡ end)
  -- where the definition answers a fault there is no typing
  pub refused : (x : A) (y : B) (before after : S) (fault : CheckFault) → known x before ≡ Err fault → judged x y before after → ⊥

abbrev pub ExpressionLaws : Type 0
ExpressionLaws = (env : Environment) → TypingLaws (expression env) (IsTyping env)

abbrev pub ConditionLaws : Type 0
ConditionLaws = (env : Environment) → TypingLaws (condition env) (IsConditionTyping env)

abbrev pub FunctionLaws : Type 0
FunctionLaws = TypingLaws statements IsBodyTyping

abbrev pub MainLaws : Type 0
MainLaws = TypingLaws main_statements IsMainBodyTyping
