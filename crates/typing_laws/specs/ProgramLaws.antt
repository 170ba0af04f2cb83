-- The laws of the judgement of a program's declarations, and of the whole.
use Rattle.std.specs.Prelude.{◌≡◌, List, Result, Ok, Err}
use Rattle.host_table.specs.declared.table.HostName.{HostName}
use Rattle.typed_tree.specs.declared.fault.CheckFault.{CheckFault}
use Rattle.typed_tree.specs.Typed.{declared, typed}
use Rattle.typing_laws.specs.Declarations.{AreDeclarations}
use Rattle.typing_laws.specs.Programs.{IsProgramTyping, at_first}

pub record AnswerLaws {A B : Type 0} (known : A → Result B CheckFault) (judged : A → B → Type 0) : Type 0 where
  -- what the definition answers is a typing
  pub typing : (x : A) (y : B) → known x ≡ Ok y → judged x y
  -- each typing is what the definition answers
  pub only : (x : A) (y : B) → judged x y → known x ≡ Ok y
  -- there is at most one typing
  pub unique : (x : A) (y z : B) → judged x y → judged x z → y ≡ z
  -- where the definition answers a fault there is no typing
  pub refused : (x : A) (y : B) (fault : CheckFault) → known x ≡ Err fault → judged x y → ⊥

abbrev pub DeclarationLaws : Type 0
DeclarationLaws = (hosts : List HostName) → AnswerLaws (declared hosts) (λ decls walk. AreDeclarations hosts decls at_first walk)

abbrev pub ProgramLaws : Type 0
ProgramLaws = (hosts : List HostName) → AnswerLaws (typed hosts) (IsProgramTyping hosts)
