-- Declarations: what the definition answers is a typing, and each typing is what it answers.
use Rattle.std.proofs.Common.{◌≡◌, List, [], ◌∷◌, length, Ok, refl, ap, subst, ◌∙◌}
use Rattle.vocabulary.specs.Answers.{fold_result}
use Rattle.host_table.specs.declared.table.HostName.{HostName}
use Rattle.sim_syntax.specs.declared.declaration.Decl.{Decl}
use Rattle.sim_syntax.specs.declared.declaration.Decl.TheVariants as decl
use Rattle.typed_tree.specs.declared.environment.Walk.{Walk}
use Rattle.typed_tree.specs.declared.names.Meaning.TheVariants as meaning
use Rattle.typed_tree.specs.Declarations.{declaration, declaring, with_element, with_function, function_of}
use Rattle.typing_laws.specs.Scopes.{leaving}
use Rattle.typing_laws.specs.Declarations.{and_function, function_with, IsDeclaration, AreDeclarations}
use Rattle.typing_laws.proofs.Steps.{same_Ok, and_then, then_is}
use Rattle.typing_laws.proofs.SideFacts.{only_typed_results}
use Rattle.typing_laws.proofs.DeclarationFields.{element_typed, only_element}
use Rattle.typing_laws.proofs.DeclarationSets.{set_typed, only_set}
use Rattle.typing_laws.proofs.DeclarationFunctions.{function_typed, only_function}
use Rattle.typing_laws.proofs.DeclarationHosts.{host_typed, only_host}

declaration_typed : (hosts : List HostName) (d : Decl) (walk after : Walk) → declaration hosts walk d ≡ Ok after → IsDeclaration hosts d walk after
unfolding declaration
declaration_typed hosts (decl.Element line name fields) walk after is = element_typed hosts line name fields walk after is
declaration_typed hosts (decl.Set line name element ends) walk after is = set_typed hosts line name element ends walk after is
declaration_typed hosts (decl.Host line name args result) walk after is = host_typed hosts line name args result walk after is
declaration_typed hosts (decl.Func line name params results body) walk after is = function_typed hosts line name params results body walk after is

only_declaration : (hosts : List HostName) (d : Decl) (walk after : Walk) → IsDeclaration hosts d walk after → declaration hosts walk d ≡ Ok after
unfolding declaration with_element with_function function_of
only_declaration hosts d walk after (IsDeclaration.element_type line name fields typed here are few new) = only_element line name fields typed here are few new
only_declaration hosts d walk after (IsDeclaration.new_set line name element_name ends element over here means lie few columns room new) =
    only_set line name element_name ends element over here means lie few columns room new
only_declaration hosts d walk after (IsDeclaration.new_function line name params results body types signature result_types done made here named begun end ps rs s are is_signature arguments few cheap new) =
    only_function line name params results body types signature result_types done here named begun end ps rs s is_signature arguments few cheap new
    ∙ ap (λ ts. Ok (declaring (leaving here end) (and_function end.environment.declarations (function_with name signature ts done))
    name (meaning.Function (length end.environment.declarations.functions)))) (only_typed_results done 0 result_types made are)
only_declaration hosts d walk after (IsDeclaration.host_function line name args result number host scales scale here stands many given is new) =
    only_host hosts line name args result number host scales scale here stands many given is new

pub declarations_typed : (hosts : List HostName) (ds : List Decl) (walk after : Walk) → fold_result (declaration hosts) walk ds ≡ Ok after → AreDeclarations hosts ds walk after
declarations_typed hosts [] walk after is = subst (AreDeclarations hosts [] walk) (same_Ok walk after is) (AreDeclarations.none walk)
declarations_typed hosts (d ∷ ds) walk after is =
    let a = and_then (declaration hosts walk d) (λ next. fold_result (declaration hosts) next ds) after is in
    AreDeclarations.one_more d ds walk a.0 after (declaration_typed hosts d walk a.0 a.1) (declarations_typed hosts ds a.0 after a.2)

pub only_declarations : (hosts : List HostName) (ds : List Decl) (walk after : Walk) → AreDeclarations hosts ds walk after → fold_result (declaration hosts) walk ds ≡ Ok after
only_declarations hosts ds walk after (AreDeclarations.none here) = refl
only_declarations hosts ds walk after (AreDeclarations.one_more d others here between end one rest) =
    then_is (declaration hosts here d) (λ next. fold_result (declaration hosts) next others) between _ (only_declaration hosts d here between one) (only_declarations hosts others between end rest)
