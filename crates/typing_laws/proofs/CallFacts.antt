-- When a function with numbers of certain scales may be called.
use Rattle.std.proofs.Common.{◌≡◌, ℕ, ◌==◌, not, ◌&&◌, List, [], ◌∷◌, length, map, Ok, refl, ap, ◌∙◌}
use Rattle.std.specs.List.{list_all}
use Rattle.std.proofs.lemmas.Bool.{eqb-true, eq-eqb, not-false, not_from_true}
use Rattle.std.proofs.lemmas.List.{length-map}
use Rattle.type_rules.specs.Types.{is_scalar}
use Rattle.type_rules.specs.Rules.{are_numbers, call_rule, have_scales}
use Rattle.type_rules.specs.declared.types.BlockShape.TheVariants.{Number}
use Rattle.type_rules.specs.declared.types.NodeType.{NodeType}
use Rattle.type_rules.specs.declared.types.NodeType.TheVariants.{Local}
use Rattle.type_rules.specs.declared.types.TypeKind.TheVariants as kind
use Rattle.typing_laws.proofs.Steps.{same_Ok}
use Rattle.typing_laws.proofs.MapFacts.{both_true, true_both, args_are, are_scalars, are_scaled}
use Rattle.typing_laws.proofs.DeclarationBlocks.{judged_split, judged_more}

pub call_split : (scales : List ℕ) (scale : ℕ) (args : List NodeType) (t : NodeType) → call_rule scales scale args ≡ Ok t
    → (args ≡ map (Local Number) scales) × (Local Number scale ≡ t)
unfolding call_rule
call_split scales scale args t is =
    let of = Local Number scale in
    let a = judged_split kind.Shape (not (are_numbers scales args)) ((kind.Scale, not (have_scales scales args)) ∷ []) of t is in
    let b = judged_split kind.Scale (not (have_scales scales args)) [] of t a.1 in
    let shape = both_true (length args == length scales) (list_all is_scalar args) (not-false (are_numbers scales args) a.0) in
    (args_are scales args (eqb-true (length args) (length scales) shape.0) shape.1 (not-false (have_scales scales args) b.0), same_Ok of t b.1)

pub call_is : (scales : List ℕ) (scale : ℕ) (args : List NodeType) → args ≡ map (Local Number) scales → call_rule scales scale args ≡ Ok (Local Number scale)
unfolding call_rule
call_is scales scale args is =
    let of = Local Number scale in
    let given = map (Local Number) scales in
    ap (call_rule scales scale) is
    ∙ judged_more kind.Shape (not (are_numbers scales given)) ((kind.Scale, not (have_scales scales given)) ∷ []) of (Ok of)
    (not_from_true (are_numbers scales given) (true_both (length given == length scales) (list_all is_scalar given)
    (eq-eqb (length given) (length scales) (length-map scales (Local Number))) (are_scalars scales)))
    (judged_more kind.Scale (not (have_scales scales given)) [] of (Ok of) (not_from_true (have_scales scales given) (are_scaled scales)) refl)
