-- Targets: what the definition answers is a typing, and each typing is what it answers.
use Rattle.std.proofs.Common.{◌≡◌, ℕ, Bool, true, false, if◌then◌else◌, List, [], ◌∷◌, map, Option, Some, None, Ok, Err, refl, sym, ap, subst, ◌∙◌}
use Rattle.vocabulary.specs.Answers.{◌>>=◌, all_ok}
use Rattle.sim_syntax.specs.declared.statement.Target.{Target}
use Rattle.type_rules.specs.Rules.{same_rule, earlier}
use Rattle.type_rules.specs.declared.types.NodeType.{NodeType}
use Rattle.type_rules.specs.declared.types.TypeKind.{TypeKind}
use Rattle.type_rules.specs.declared.types.TypeKind.TheVariants as kind
use Rattle.typed_tree.specs.declared.main_procedure.TypedTarget.{TypedTarget}
use Rattle.typed_tree.specs.declared.main_procedure.TypedTarget.TheVariants as typed_target
use Rattle.typed_tree.specs.declared.environment.Environment.{Environment}
use Rattle.typed_tree.specs.declared.names.Meaning.{Meaning}
use Rattle.typed_tree.specs.declared.names.Meaning.TheVariants as meaning
use Rattle.typed_tree.specs.Names.{Name, meaning_of}
use Rattle.typed_tree.specs.Lookups.{element_in, fields_of, find_field, over_set}
use Rattle.typed_tree.specs.MainProcedure.{Aim, is_system_matrix, variable_aim, field_aim, aim_at, aim_of, assigned_fault, targets_fault}
use Rattle.typing_laws.specs.MainStatements.{IsTarget, AreTargets}
use Rattle.typing_laws.proofs.Steps.{same_Ok, and_then, then_is}
use Rattle.typing_laws.proofs.NoFault.{none_earlier, earlier_none, none_kind, kind_none}

-- ---- one target

variable_target : (env : Environment) (t : Target) (aim : TypedTarget × NodeType) (value same : NodeType) (m : Option Meaning)
    → meaning_of env.names t.name ≡ m → t.field ≡ None → variable_aim m ≡ Ok aim → same_rule aim.1 value ≡ Ok same → IsTarget env t value aim.0
unfolding variable_aim
variable_target env t aim value same (Some (meaning.Variable number type)) means plain is rule = by_test (is_system_matrix type) refl is
  where
    by_test : (b : Bool) → is_system_matrix type ≡ b → (if b then Err kind.NotAPlace else Ok (typed_target.Variable number, type)) ≡ Ok aim → IsTarget env t value aim.0
    by_test true test answers = absurd (cc)
    by_test false test answers =
        let this = same_Ok (typed_target.Variable number, type) aim answers in
        subst (λ a. IsTarget env t value a.0) this
        (IsTarget.variable t number type value same plain means test (ap (λ a. same_rule a.1 value) this ∙ rule))
variable_target env t aim value same (Some (meaning.Counter local)) means plain is rule = absurd (cc)
variable_target env t aim value same other means plain is rule = absurd (cc)

field_target : (env : Environment) (t : Target) (name : Name) (aim : TypedTarget × NodeType) (value same : NodeType) (m : Option Meaning)
    → meaning_of env.names t.name ≡ m → t.field ≡ Some name → field_aim env.declarations m name ≡ Ok aim → same_rule aim.1 value ≡ Ok same → IsTarget env t value aim.0
unfolding field_aim
field_target env t name aim value same (Some (meaning.Set set)) means field is rule =
    by_field (find_field (fields_of env.declarations (element_in env.declarations set)) name) refl is
  where
    by_field : (f : Option (ℕ × NodeType)) → find_field (fields_of env.declarations (element_in env.declarations set)) name ≡ f
        → field_aim env.declarations (Some (meaning.Set set)) name ≡ Ok aim → IsTarget env t value aim.0
    by_field None has answers = absurd (let none = rw has at answers in cc)
    by_field (Some f) has answers =
        let this = same_Ok (typed_target.Field set f.0, over_set set f.1) aim (rw has at answers) in
        subst (λ a. IsTarget env t value a.0) this
        (IsTarget.field t name set f.0 f.1 value same field means has (ap (λ a. same_rule a.1 value) this ∙ rule))
field_target env t name aim value same other means field is rule = absurd (cc)

target_typed : (env : Environment) (t : Target) (aim : TypedTarget × NodeType) (value same : NodeType) (field : Option Name) → t.field ≡ field
    → aim_at env t.name field ≡ Ok aim → same_rule aim.1 value ≡ Ok same → IsTarget env t value aim.0
target_typed env t aim value same None field is rule = variable_target env t aim value same (meaning_of env.names t.name) refl field is rule
target_typed env t aim value same (Some name) field is rule = field_target env t name aim value same (meaning_of env.names t.name) refl field is rule

pub record Aims (env : Environment) (t : Target) (value : NodeType) (u : TypedTarget) : Type 0 where
  pub type : NodeType
  pub same : NodeType
  pub aim : aim_of env t ≡ Ok (u, type)
  pub rule : same_rule type value ≡ Ok same

only_target : (env : Environment) (t : Target) (value : NodeType) (u : TypedTarget) → IsTarget env t value u → Aims env t value u
unfolding variable_aim field_aim
only_target env t value u (IsTarget.variable t' number type v same plain means no_matrix rule) = record {
  type = type;
  same = same;
  aim = ap (aim_at env t'.name) plain ∙ ap variable_aim means ∙ ap (λ b. if b then Err kind.NotAPlace else Ok (typed_target.Variable number, type)) no_matrix;
  rule = rule;
}
only_target env t value u (IsTarget.field t' name set number f v same field means has rule) = record {
  type = over_set set f;
  same = same;
  aim = ap (aim_at env t'.name) field ∙ ap (λ m. field_aim env.declarations m name) means ∙ rw has refl;
  rule = rule;
}

-- ---- a target for each value

none_so_far : (aims : List Aim) (types : List NodeType) (so_far : Option TypeKind) → targets_fault so_far aims types ≡ None → so_far ≡ None
none_so_far [] [] so_far is = is
none_so_far [] (type ∷ types) so_far is = (none_earlier so_far (Some kind.Shape) is).0
none_so_far (aim ∷ aims) [] so_far is = (none_earlier so_far (assigned_fault aim None) (none_so_far aims [] (earlier so_far (assigned_fault aim None)) is)).0
none_so_far (aim ∷ aims) (type ∷ types) so_far is =
    (none_earlier so_far (assigned_fault aim (Some type)) (none_so_far aims types (earlier so_far (assigned_fault aim (Some type))) is)).0

no_value : (aim : Aim) → assigned_fault aim None ≡ None → ⊥
unfolding assigned_fault
no_value (Ok aim) is = cc
no_value (Err k) is = cc

a_value : (aim : Aim) (to : TypedTarget × NodeType) (type : NodeType) → aim ≡ Ok to → assigned_fault aim (Some type) ≡ None
    → (same : NodeType) × (same_rule to.1 type ≡ Ok same)
unfolding assigned_fault
a_value aim to type is none = none_kind (same_rule to.1 type) (sym (ap (λ a. assigned_fault a (Some type)) is) ∙ none)

value_more : (aim : Aim) (u : TypedTarget) (t type same : NodeType) → aim ≡ Ok (u, t) → same_rule t type ≡ Ok same → assigned_fault aim (Some type) ≡ None
unfolding assigned_fault
value_more aim u t type same is rule = ap (λ a. assigned_fault a (Some type)) is ∙ kind_none (same_rule t type) same rule

pub targets_typed : (env : Environment) (ts : List Target) (types : List NodeType) (so_far : Option TypeKind) (found : List (TypedTarget × NodeType))
    → targets_fault so_far (map (aim_of env) ts) types ≡ None → all_ok (map (aim_of env) ts) ≡ Ok found
    → (so_far ≡ None) × AreTargets env ts types (map (λ aim. aim.0) found)
targets_typed env [] [] so_far found is all = (is, subst (λ l. AreTargets env [] [] (map (λ aim. aim.0) l)) (same_Ok [] found all) AreTargets.none)
targets_typed env [] (type ∷ types) so_far found is all = absurd (let none = (none_earlier so_far (Some kind.Shape) is).1 in cc)
targets_typed env (t ∷ ts) [] so_far found is all =
    let rest = none_so_far (map (aim_of env) ts) [] (earlier so_far (assigned_fault (aim_of env t) None)) is in
    absurd (no_value (aim_of env t) (none_earlier so_far (assigned_fault (aim_of env t) None) rest).1)
targets_typed env (t ∷ ts) (type ∷ types) so_far found is all =
    let a = and_then (aim_of env t) (λ a. all_ok (map (aim_of env) ts) >>= λ as_found. Ok (a ∷ as_found)) found all in
    let others = and_then (all_ok (map (aim_of env) ts)) (λ l. Ok (a.0 ∷ l)) found a.2 in
    let rest = targets_typed env ts types (earlier so_far (assigned_fault (aim_of env t) (Some type))) others.0 is others.1 in
    let none = none_earlier so_far (assigned_fault (aim_of env t) (Some type)) rest.0 in
    let fits = a_value (aim_of env t) a.0 type a.1 none.1 in (
      none.0,
      subst (λ l. AreTargets env (t ∷ ts) (type ∷ types) (map (λ aim. aim.0) l)) (same_Ok (a.0 ∷ others.0) found others.2)
          (AreTargets.one_more t ts type types a.0.0 (map (λ aim. aim.0) others.0) (target_typed env t a.0 type fits.0 t.field refl a.1 fits.1) rest.1),
    )

pub record AimsAt (env : Environment) (ts : List Target) (types : List NodeType) (us : List TypedTarget) : Type 0 where
  pub found : List (TypedTarget × NodeType)
  pub all : all_ok (map (aim_of env) ts) ≡ Ok found
  pub targets : map (λ aim. aim.0) found ≡ us
  pub faultless : (so_far : Option TypeKind) → so_far ≡ None → targets_fault so_far (map (aim_of env) ts) types ≡ None

pub only_targets : (env : Environment) (ts : List Target) (types : List NodeType) (us : List TypedTarget) → AreTargets env ts types us → AimsAt env ts types us
only_targets env ts types us AreTargets.none = record { found = []; all = refl; targets = refl; faultless = λ so_far none. none }
only_targets env ts types us (AreTargets.one_more t others type more u us_more here rest) =
    let a = only_target env t type u here in
    let r = only_targets env others more us_more rest in
    record {
      found = (u, a.type) ∷ r.found;
      all =
          then_is (aim_of env t) (λ x. all_ok (map (aim_of env) others) >>= λ l. Ok (x ∷ l)) (u, a.type) _ a.aim (ap (λ x. x >>= λ l. Ok ((u, a.type) ∷ l)) r.all);
      targets = ap (λ l. u ∷ l) r.targets;
      faultless = λ so_far none. r.faultless (earlier so_far (assigned_fault (aim_of env t) (Some type)))
          (earlier_none so_far (assigned_fault (aim_of env t) (Some type)) none (value_more (aim_of env t) u a.type type a.same a.aim a.rule));
    }
