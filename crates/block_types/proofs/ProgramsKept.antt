-- The declarations of a typed program are as they are to be.
use Rattle.std.proofs.Common.{◌≡◌, ℕ, ◌+◌, ◌<◌, ◌≤◌, inl, inr, List, [], length, Option, Some, None, refl, sym, ap, subst, ◌∙◌, arith}
use Rattle.std.specs.Prelude.{◌↔◌, All, IfSome, IsNone, is_some, slice_get}
use Rattle.std.specs.Option.{option_and_then}
use Rattle.std.proofs.lemmas.Option.{slice_get_cases, slice_get_within}
use Rattle.vocabulary.specs.declared.limits.TheConstants.{MOST_COLUMNS, MOST_ENDPOINTS, MOST_FIELD_SCALE}
use Rattle.host_table.specs.declared.table.HostName.{HostName}
use Rattle.sim_syntax.specs.declared.declaration.Decl.{Decl}
use Rattle.sim_syntax.specs.declared.program.Program.{Program}
use Rattle.typed_tree.specs.declared.environment.Environment.{Environment}
use Rattle.typed_tree.specs.declared.environment.Walk.{Walk}
use Rattle.typed_tree.specs.declared.names.Meaning.{Meaning}
use Rattle.typed_tree.specs.declared.names.Meaning.TheVariants as meaning
use Rattle.typed_tree.specs.declared.program.ElementType.{ElementType}
use Rattle.typed_tree.specs.declared.program.TypedField.{TypedField}
use Rattle.typed_tree.specs.declared.program.TypedProgram.{TypedProgram}
use Rattle.typed_tree.specs.declared.program.TypedSet.{TypedSet}
use Rattle.typed_tree.specs.Names.{Name}
use Rattle.typed_tree.specs.Lookups as lookups
use Rattle.typed_tree.specs.Declarations.{columns_of}
use Rattle.typing_laws.specs.Declarations.{AreDeclarations, IsDeclaration, LieIn}
use Rattle.typing_laws.specs.Programs.{IsProgramTyping, at_first, before_main}
use Rattle.block_types.specs.Readings as readings
use Rattle.block_types.specs.Readings.{set_fields}
use Rattle.block_types.specs.WellDeclared.{IsWellDeclared, WellDeclared, arity, arity_in}
use Rattle.block_types.proofs.StatementsLeave.{Leaves, on, parameters_leave, results_leave, body_leaves, main_body_leaves}
use Rattle.block_types.proofs.DeclarationsKept.{AreInRange, AreKept, IsKept, fields_small, none_kept, with_element_kept, with_element_name, with_other_name, with_set_kept}

-- ---- walks over declarations

-- what is known where a walk stands
record Keeps (walk : Walk) : Type 0 where
  pub kept : AreKept walk.environment.declarations.elements walk.environment.declarations.sets
  pub names : AreInRange walk.environment.names walk.environment.declarations.elements

-- where endpoints lie
lies_over : (env : Environment) (ends : List Name) (over : Option ℕ) → LieIn env ends over → AreKept env.declarations.elements env.declarations.sets
    → (IsNone over ↔ (length ends ≡ 0)) × IfSome over (λ earlier. (earlier < length env.declarations.sets) × (arity_in (slice_get env.declarations.sets earlier) ≡ 0))
lies_over env ends over LieIn.nowhere kept = ((λ none. refl, λ none. refl), tt)
lies_over env ends over (LieIn.together name names number each) kept =
    let set = each.0.1.0 in
    let at : slice_get env.declarations.sets number ≡ Some set = each.0.1.1 in
    let vertices = (kept.each number set at).over_none.0 (ap is_some each.0.1.2) in
    ((λ none. absurd (cc), λ none. absurd (omega arith)), (slice_get_within env.declarations.sets number set at, ap arity_in at ∙ vertices))

-- an element type, a set, a function or a host function more
declaration_keeps : (hosts : List HostName) (d : Decl) (before after : Walk) → IsDeclaration hosts d before after → Keeps before → Keeps after
declaration_keeps hosts d before after (IsDeclaration.element_type line name fields made walk are few new) keeps =
    let elements = walk.environment.declarations.elements in
    let element : ElementType = record { fields = made } in
    record {
      kept = with_element_kept elements walk.environment.declarations.sets element keeps.kept (fields_small [] fields made are);
      names = with_element_name walk.environment.names elements name element keeps.names;
    }
declaration_keeps hosts d before after (IsDeclaration.new_set line name element_name ends element over walk means lie few columns room new) keeps =
    let elements = walk.environment.declarations.elements in
    let sets = walk.environment.declarations.sets in
    let set : TypedSet = record { name = name; shape = record { element = element; over = over; arity = length ends } } in
    let lies = lies_over walk.environment ends over lie keeps.kept in
    let k : IsKept elements sets (length sets) set = record {
      in_range = keeps.names.each element_name element means;
      few_endpoints = few;
      over_none = lies.0;
      over_earlier = lies.1;
      few_columns = columns.1;
    } in
    record {
      kept = with_set_kept elements sets set keeps.kept room k;
      names = with_other_name walk.environment.names elements name (meaning.Set (length sets)) (λ n is. absurd (cc)) keeps.names;
    }
declaration_keeps hosts d before after (IsDeclaration.new_function line name params results body types signature result_types done made walk named begun end ps rs s are is_signature arguments few cheap new) keeps =
    let function : Meaning = meaning.Function (length end.environment.declarations.functions) in
    let leaves : Leaves walk end = on walk named end (parameters_leave params types walk named ps) (on named begun end (results_leave 0 results result_types named begun rs) (body_leaves body done begun end s)) in
    record {
      kept = subst (λ es. AreKept es end.environment.declarations.sets) (sym leaves.elements)
          (subst (λ ss. AreKept walk.environment.declarations.elements ss) (sym leaves.sets) keeps.kept);
      names = with_other_name walk.environment.names end.environment.declarations.elements name function (λ n is. absurd (cc))
          (subst (λ es. AreInRange walk.environment.names es) (sym leaves.elements) keeps.names);
    }
declaration_keeps hosts d before after (IsDeclaration.host_function line name args result number host scales scale walk is_host arity are whole new) keeps =
    let function : Meaning = meaning.Host (record { number = number; arguments = scales; scale = scale }) in
    record {
      kept = keeps.kept;
      names = with_other_name walk.environment.names walk.environment.declarations.elements name function (λ n is. absurd (cc)) keeps.names;
    }

declarations_keep : (hosts : List HostName) (ds : List Decl) (before after : Walk) → AreDeclarations hosts ds before after → Keeps before → Keeps after
declarations_keep hosts ds before after (AreDeclarations.none walk) keeps = keeps
declarations_keep hosts ds before after (AreDeclarations.one_more d rest walk between end one next) keeps =
    declarations_keep hosts rest between end next (declaration_keeps hosts d walk between one keeps)

at_first_keeps : Keeps at_first
at_first_keeps = record { kept = none_kept; names = record { each = λ name element is. absurd (cc) } }

-- ---- programs

same_fields : (found : Option ElementType) → lookups.fields_at found ≡ readings.fields_at found
same_fields None = refl
same_fields (Some element) = refl

set_well_declared : (program : TypedProgram) (number : ℕ) (set : TypedSet) → AreKept program.elements program.sets → slice_get program.sets number ≡ Some set
    → IsWellDeclared program number
set_well_declared program number set kept is =
    let k = kept.each number set is in
    let fields = same_fields (slice_get program.elements set.shape.element) in
    record {
      few_endpoints = subst (λ o. arity_in o ≤ MOST_ENDPOINTS) (sym is) k.few_endpoints;
      over_none = subst (λ o. IsNone (option_and_then {T = TypedSet} {U = ℕ} (λ s. s.shape.over) o) ↔ (arity_in o ≡ 0)) (sym is) k.over_none;
      over_earlier = subst (λ o. IfSome (option_and_then {T = TypedSet} {U = ℕ} (λ s. s.shape.over) o) (λ earlier. (earlier < number) × (arity program earlier ≡ 0))) (sym is) k.over_earlier;
      few_columns = subst (λ o. arity_in o + columns_of (readings.fields_in program o) ≤ MOST_COLUMNS) (sym is)
          (subst (λ fs. set.shape.arity + columns_of fs ≤ MOST_COLUMNS) fields k.few_columns);
      scales = subst (λ o. All (λ field. field.scale ≤ MOST_FIELD_SCALE) (readings.fields_in program o)) (sym is)
          (subst (λ fs. All (λ (field : TypedField). field.scale ≤ MOST_FIELD_SCALE) fs) fields (kept.scales set.shape.element));
    }

all_well_declared : (program : TypedProgram) → AreKept program.elements program.sets → WellDeclared program
all_well_declared program kept = record {
  few_sets = kept.few_sets;
  each = λ number within. elim (slice_get_cases program.sets number).1 [
    | inl there ↦ set_well_declared program number there.0 kept there.2
    | inr past ↦ let beyond : length program.sets ≤ number = past.0 in absurd (omega arith)
  ];
}

-- what is a typing of a program is well declared
pub well_declared : (hosts : List HostName) (tree : Program) (program : TypedProgram) → IsProgramTyping hosts tree program → WellDeclared program
well_declared hosts tree program (IsProgramTyping.program t walk after body are main) =
    let keeps = declarations_keep hosts t.decls at_first walk are at_first_keeps in
    let leaves = main_body_leaves t.body body (before_main walk) after main in
    all_well_declared _ (subst (λ es. AreKept es after.environment.declarations.sets) (sym leaves.elements)
    (subst (λ ss. AreKept walk.environment.declarations.elements ss) (sym leaves.sets) keeps.kept))

-- no set has too many columns
pub columns_few : (program : TypedProgram) (set : ℕ) → WellDeclared program → columns_of (set_fields program set) ≤ MOST_COLUMNS
columns_few program set well = elim (slice_get_cases program.sets set).1 [
  | inl there ↦ let few : arity program set + columns_of (set_fields program set) ≤ MOST_COLUMNS = (well.each set there.1).few_columns in omega arith
  | inr past ↦ subst (λ o. columns_of (readings.fields_in program o) ≤ MOST_COLUMNS) (sym past.1) (omega arith)
]
