-- Programs: what the definition answers is a typing, and each typing is what it answers.
use Rattle.std.proofs.Common.{◌≡◌, List, Result, Ok, Err, refl, sym, subst, ◌∙◌}
use Rattle.vocabulary.specs.Answers.{◌>>=◌}
use Rattle.host_table.specs.declared.table.HostName.{HostName}
use Rattle.sim_syntax.specs.declared.program.Program.{Program}
use Rattle.typed_tree.specs.declared.fault.CheckFault.{CheckFault}
use Rattle.typed_tree.specs.declared.program.TypedProgram.{TypedProgram}
use Rattle.typed_tree.specs.MainProcedure.{main_statements}
use Rattle.typed_tree.specs.Typed.{at_main, declared, program_of, typed}
use Rattle.typing_laws.specs.Declarations.{AreDeclarations}
use Rattle.typing_laws.specs.Programs.{IsProgramTyping, at_first, before_main}
use Rattle.typing_laws.specs.ProgramLaws.{AnswerLaws, DeclarationLaws, ProgramLaws}
use Rattle.typing_laws.proofs.Steps.{same_Ok, and_then, then_is}
use Rattle.typing_laws.proofs.MainFacts.{main_typed, only_main}
use Rattle.typing_laws.proofs.DeclarationFacts.{declarations_typed, only_declarations}

program_typed : (hosts : List HostName) (tree : Program) (done : TypedProgram) → typed hosts tree ≡ Ok done → IsProgramTyping hosts tree done
unfolding typed program_of
program_typed hosts tree done is =
    let a = and_then (declared hosts tree.decls) (λ walk. main_statements tree.body (at_main walk) >>= λ main. Ok (program_of tree main)) done is in
    let b = and_then (main_statements tree.body (at_main a.0)) (λ main. Ok (program_of tree main)) done a.2 in
    subst (IsProgramTyping hosts tree) (same_Ok (program_of tree b.0) done b.2)
    (IsProgramTyping.program tree a.0 b.0.1 b.0.0 (declarations_typed hosts tree.decls at_first a.0 a.1) (main_typed tree.body (before_main a.0) b.0 b.1))

only_program : (hosts : List HostName) (tree : Program) (done : TypedProgram) → IsProgramTyping hosts tree done → typed hosts tree ≡ Ok done
unfolding typed program_of
only_program hosts tree done (IsProgramTyping.program t walk after body are main) =
    then_is (declared hosts t.decls) (λ w. main_statements t.body (at_main w) >>= λ m. Ok (program_of t m)) walk _ (only_declarations hosts t.decls at_first walk are)
    (then_is (main_statements t.body (at_main walk)) (λ m. Ok (program_of t m)) (body, after) _ (only_main t.body body (before_main walk) after main) refl)

-- ---- the laws

no_answer : {A E : Type 0} (r : Result A E) (a : A) (fault : E) → r ≡ Err fault → r ≡ Ok a → ⊥
no_answer r a fault first second = cc

pub has_answer_laws : {A B : Type 0} (known : A → Result B CheckFault) (judged : A → B → Type 0) → ((x : A) (y : B) → known x ≡ Ok y → judged x y)
    → ((x : A) (y : B) → judged x y → known x ≡ Ok y) → AnswerLaws known judged
has_answer_laws known judged typed only = record {
  typing = typed;
  only = only;
  unique = λ x y z first second. same_Ok y z (sym (only x y first) ∙ only x z second);
  refused = λ x y fault is this. no_answer (known x) y fault is (only x y this);
}

pub declaration_laws : DeclarationLaws
declaration_laws hosts = has_answer_laws (declared hosts) (λ ds walk. AreDeclarations hosts ds at_first walk) (λ ds walk. declarations_typed hosts ds at_first walk)
    (λ ds walk. only_declarations hosts ds at_first walk)

pub program_laws : ProgramLaws
program_laws hosts = has_answer_laws (typed hosts) (IsProgramTyping hosts) (program_typed hosts) (only_program hosts)
