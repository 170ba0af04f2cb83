-- How loops go through the targets of an assignment.
use Rattle.std.proofs.Common.{◌≡◌, ℕ, ◌+◌, ◌<◌, ◌≤◌, List, [], ◌∷◌, ◌++◌, map, length, drop, get_or, Option, Some, None, Result, Ok, Err, refl, sym, ap, ◌∙◌, append_assoc, append-nil}
use Rattle.std.proofs.lemmas.List.{drop_all}
use Rattle.vocabulary.specs.Answers.{◌>>=◌, all_ok}
use Rattle.type_rules.specs.Rules.{earlier}
use Rattle.type_rules.specs.declared.types.NodeType.{NodeType}
use Rattle.type_rules.specs.declared.types.TypeKind.{TypeKind}
use Rattle.type_rules.specs.declared.types.TypeKind.TheVariants.{Shape}
use Rattle.typed_tree.specs.declared.fault.CheckFault.{CheckFault}
use Rattle.typed_tree.specs.declared.fault.CheckFault.TheVariants.{IllTyped}
use Rattle.typed_tree.specs.declared.main_procedure.TypedTarget.{TypedTarget}
use Rattle.typed_tree.specs.Steps.{at_line}
use Rattle.typed_tree.specs.MainProcedure.{Aim, all_targets, assigned_fault, targets_fault}
use Rattle.main_types.proofs.Steps.{from_here}

-- ---- faults

-- a target that gets a value
pub target_given : (fault : Option TypeKind) (aims : List Aim) (i : ℕ) (aim : Aim) (values rest : List NodeType) (value : NodeType)
    → i < length aims → aim ≡ get_or aims i aim → values ≡ value ∷ rest
    → targets_fault (earlier fault (assigned_fault aim (Some value))) (drop (i + 1) aims) rest ≡ targets_fault fault (drop i aims) values
target_given fault aims i aim values rest value below here first =
    sym (ap (λ l. targets_fault fault l values) (from_here aims i aim below here) ∙ ap (targets_fault fault (aim ∷ drop (i + 1) aims)) first)

-- a target that gets none
pub target_alone : (fault : Option TypeKind) (aims : List Aim) (i : ℕ) (aim : Aim) (values : List NodeType)
    → i < length aims → aim ≡ get_or aims i aim → values ≡ []
    → targets_fault (earlier fault (assigned_fault aim None)) (drop (i + 1) aims) [] ≡ targets_fault fault (drop i aims) values
target_alone fault aims i aim values below here none =
    sym (ap (λ l. targets_fault fault l values) (from_here aims i aim below here) ∙ ap (targets_fault fault (aim ∷ drop (i + 1) aims)) none)

-- no target is left, but a value
pub value_left : (fault : Option TypeKind) (aims : List Aim) (i : ℕ) (values rest : List NodeType) (value : NodeType) → length aims ≤ i → values ≡ value ∷ rest
    → targets_fault fault (drop i aims) values ≡ earlier fault (Some Shape)
value_left fault aims i values rest value past first = ap (λ l. targets_fault fault l values) (drop_all i aims past) ∙ ap (targets_fault fault []) first

-- neither is left
pub none_left : (fault : Option TypeKind) (aims : List Aim) (i : ℕ) (values : List NodeType) → length aims ≤ i → values ≡ []
    → targets_fault fault (drop i aims) values ≡ fault
none_left fault aims i values past none = ap (λ l. targets_fault fault l values) (drop_all i aims past) ∙ ap (targets_fault fault []) none

-- ---- targets

-- these targets, and then those
abbrev pub with_targets : List TypedTarget → Result (List TypedTarget) CheckFault → Result (List TypedTarget) CheckFault
with_targets before targets = targets >>= λ after. Ok (before ++ after)

-- the first target
first_target : (line : ℕ) (aim : TypedTarget × NodeType) (aims : List Aim) → all_targets line (Ok aim ∷ aims) ≡ with_targets (aim.0 ∷ []) (all_targets line aims)
first_target line aim aims = among (all_ok aims)
  where
    among : (found : Result (List (TypedTarget × NodeType)) TypeKind)
        → (at_line line (found >>= λ values. Ok (aim ∷ values)) >>= λ values. Ok (map (λ a. a.0) values))
        ≡ with_targets (aim.0 ∷ []) (at_line line found >>= λ values. Ok (map (λ a. a.0) values))
    among (Ok values) = refl
    among (Err fault) = refl

both_targets : (before after : List TypedTarget) (targets : Result (List TypedTarget) CheckFault) → with_targets before (with_targets after targets) ≡ with_targets (before ++ after) targets
both_targets before after (Ok targets) = ap Ok (sym (append_assoc before after targets))
both_targets before after (Err fault) = refl

-- a target that is aimed at
pub target_aimed : (line : ℕ) (before : List TypedTarget) (aims : List Aim) (i : ℕ) (target : TypedTarget) (type : NodeType)
    → i < length aims → Ok (target, type) ≡ get_or aims i (Ok (target, type))
    → with_targets (before ++ target ∷ []) (all_targets line (drop (i + 1) aims)) ≡ with_targets before (all_targets line (drop i aims))
target_aimed line before aims i target type below here =
    sym (ap (λ l. with_targets before (all_targets line l)) (from_here aims i (Ok (target, type)) below here)
    ∙ ap (with_targets before) (first_target line (target, type) (drop (i + 1) aims))
    ∙ both_targets before (target ∷ []) (all_targets line (drop (i + 1) aims)))

-- a target that isn't
pub target_missed : (line : ℕ) (before : List TypedTarget) (aims : List Aim) (i : ℕ) (kind : TypeKind)
    → i < length aims → Err kind ≡ get_or aims i (Err kind)
    → with_targets before (all_targets line (drop i aims)) ≡ Err (IllTyped line kind)
target_missed line before aims i kind below here = ap (λ l. with_targets before (all_targets line l)) (from_here aims i (Err kind) below here)

-- no target is left
pub targets_done : (line : ℕ) (before : List TypedTarget) (aims : List Aim) (i : ℕ) → length aims ≤ i
    → with_targets before (all_targets line (drop i aims)) ≡ Ok before
targets_done line before aims i past = ap (λ l. with_targets before (all_targets line l)) (drop_all i aims past) ∙ ap Ok (append-nil before)
