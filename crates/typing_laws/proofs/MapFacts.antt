-- When a function may be mapped to a set, and what a right side is.
use Rattle.std.proofs.Common.{◌≡◌, ℕ, ◌==◌, Bool, true, false, not, ◌&&◌, ◌||◌, List, [], ◌∷◌, length, map, Option, Some, None, refl, sym, ap, ◌∙◌, arith}
use Rattle.std.specs.Prelude.{slice_get}
use Rattle.std.specs.List.{list_all}
use Rattle.std.specs.Option.{is_none, option_map}
use Rattle.std.proofs.lemmas.Bool.{eqb-true, eq-eqb, not-false, not_from_true}
use Rattle.std.proofs.lemmas.List.{length-map}
use Rattle.type_rules.specs.Types.{is_scalar, scale_of}
use Rattle.type_rules.specs.Rules.{have_scales}
use Rattle.type_rules.specs.declared.types.BlockShape.TheVariants.{Number}
use Rattle.type_rules.specs.declared.types.NodeType.{NodeType}
use Rattle.type_rules.specs.declared.types.NodeType.TheVariants.{Local}
use Rattle.type_rules.specs.declared.types.TypeKind.{TypeKind}
use Rattle.type_rules.specs.declared.types.TypeKind.TheVariants as kind
use Rattle.typed_tree.specs.declared.expression.TypedExpr.{TypedExpr}
use Rattle.typed_tree.specs.declared.function.TypedFunction.{TypedFunction}
use Rattle.typed_tree.specs.declared.function.TypedResult.{TypedResult}
use Rattle.typed_tree.specs.declared.function.ResultSide.{ResultSide}
use Rattle.typed_tree.specs.declared.function.Endpoints.{Endpoints}
use Rattle.typed_tree.specs.declared.program.SetShape.{SetShape}
use Rattle.typed_tree.specs.declared.program.TypedSet.{TypedSet}
use Rattle.typed_tree.specs.declared.environment.Declarations.{Declarations}
use Rattle.typed_tree.specs.declared.environment.Environment.{Environment}
use Rattle.typed_tree.specs.declared.names.Meaning.{Meaning}
use Rattle.typed_tree.specs.declared.names.Meaning.TheVariants as meaning
use Rattle.typed_tree.specs.Names.{Name, meaning_of}
use Rattle.typed_tree.specs.Expressions.{type_of}
use Rattle.typed_tree.specs.Lookups.{element_in, function_named, set_named}
use Rattle.typed_tree.specs.MainProcedure.{takes_endpoints, is_over, is_side_of, is_column_of, is_result_of, may_be_mapped, are_arguments, map_rule}
use Rattle.typing_laws.specs.Lists.{Each}
use Rattle.typing_laws.specs.References.{Means}
use Rattle.typing_laws.specs.MainStatements.{TakesEndpoints, LiesIn, LiesInColumns, IsResultOver, MayBeMapped}
use Rattle.typing_laws.proofs.NoFault.{none_first, first_none}
use Rattle.typing_laws.proofs.LookupFacts.{set_meant_split, set_meant_is}

-- ---- tests

pub both_true : (a b : Bool) → (a && b) ≡ true → (a ≡ true) × (b ≡ true)
both_true true b is = (refl, is)
both_true false b is = absurd (cc)

pub true_both : (a b : Bool) → a ≡ true → b ≡ true → (a && b) ≡ true
true_both a b first second = ap (λ x. x && b) first ∙ second

where_so : (a b : Bool) → (not a || b) ≡ true → a ≡ true → b ≡ true
where_so true b is so = is
where_so false b is so = absurd (cc)

so_where : (a b : Bool) → (a ≡ true → b ≡ true) → (not a || b) ≡ true
so_where true b is = is refl
so_where false b is = refl

-- ---- arguments

pub scalar_is : (t : NodeType) → is_scalar t ≡ true → t ≡ Local Number (scale_of t)
scalar_is (Local Number scale) is = refl
scalar_is other is = absurd (cc)

pub args_are : (scales : List ℕ) (args : List NodeType) → length args ≡ length scales → list_all is_scalar args ≡ true → have_scales scales args ≡ true
    → args ≡ map (Local Number) scales
args_are [] [] count scalars have = refl
args_are [] (a ∷ args) count scalars have = absurd (omega arith)
args_are (s ∷ scales) [] count scalars have = absurd (omega arith)
args_are (s ∷ scales) (a ∷ args) count scalars have =
    let one = both_true (is_scalar a) (list_all is_scalar args) scalars in
    let fit = both_true (s == scale_of a) (have_scales scales args) have in
    let first : a ≡ Local Number s = scalar_is a one.0 ∙ ap (Local Number) (sym (eqb-true s (scale_of a) fit.0)) in
    let others = args_are scales args (omega arith) one.1 fit.1 in
    λ i. first i ∷ others i

pub are_scalars : (scales : List ℕ) → list_all is_scalar (map (Local Number) scales) ≡ true
are_scalars [] = refl
are_scalars (s ∷ scales) = are_scalars scales

pub are_scaled : (scales : List ℕ) → have_scales scales (map (Local Number) scales) ≡ true
are_scaled [] = refl
are_scaled (s ∷ scales) = true_both (s == s) (have_scales scales (map (Local Number) scales)) (eq-eqb s s refl) (are_scaled scales)

-- ---- endpoints

takes_typed : (declarations : Declarations) (set : SetShape) (ends : Option Endpoints) → takes_endpoints declarations set ends ≡ true → TakesEndpoints declarations set ends
takes_typed declarations set None is = tt
takes_typed declarations set (Some ends) is = by_over set.over refl is
  where
    by_over : (o : Option ℕ) → set.over ≡ o → takes_endpoints declarations set (Some ends) ≡ true → TakesEndpoints declarations set (Some ends)
    by_over None over answers = absurd (let none = rw over at answers in cc)
    by_over (Some over) lies answers =
        let b = both_true (set.arity == ends.count) (element_in declarations over == ends.element) (rw lies at answers) in
        (over, lies, eqb-true set.arity ends.count b.0, eqb-true (element_in declarations over) ends.element b.1)

only_takes : (declarations : Declarations) (set : SetShape) (ends : Option Endpoints) → TakesEndpoints declarations set ends → takes_endpoints declarations set ends ≡ true
only_takes declarations set None takes = refl
only_takes declarations set (Some ends) takes =
    rw takes.1 (true_both (set.arity == ends.count) (element_in declarations takes.0 == ends.element)
    (eq-eqb set.arity ends.count takes.2) (eq-eqb (element_in declarations takes.0) ends.element takes.3))

-- ---- results

over_typed : (over : Option ℕ) (set : ℕ) → is_over over set ≡ true → over ≡ Some set
over_typed None set is = absurd (cc)
over_typed (Some n) set is = ap Some (eqb-true n set is)

only_over : (over : Option ℕ) (set : ℕ) → over ≡ Some set → is_over over set ≡ true
only_over over set is = ap (λ o. is_over o set) is ∙ eq-eqb set set refl

side_typed : (number : ℕ) (over : Option ℕ) (side : ResultSide) → is_side_of number over side ≡ true → LiesIn number over side
side_typed number over side is =
    let b = both_true (not side.at_element || (number == side.set)) (not side.at_endpoint || is_over over side.set) is in
    record {
      element = λ so. eqb-true number side.set (where_so side.at_element (number == side.set) b.0 so);
      endpoints = λ so. over_typed over side.set (where_so side.at_endpoint (is_over over side.set) b.1 so);
    }

only_side : (number : ℕ) (over : Option ℕ) (side : ResultSide) → LiesIn number over side → is_side_of number over side ≡ true
only_side number over side lies =
    true_both (not side.at_element || (number == side.set)) (not side.at_endpoint || is_over over side.set)
    (so_where side.at_element (number == side.set) (λ so. eq-eqb number side.set (lies.element so)))
    (so_where side.at_endpoint (is_over over side.set) (λ so. only_over over side.set (lies.endpoints so)))

columns_typed : (number : ℕ) (over : Option ℕ) (side : Option ResultSide) → is_column_of number over side ≡ true → LiesInColumns number over side
columns_typed number over None is = tt
columns_typed number over (Some side) is = side_typed number over side is

only_columns : (number : ℕ) (over : Option ℕ) (side : Option ResultSide) → LiesInColumns number over side → is_column_of number over side ≡ true
only_columns number over None lies = refl
only_columns number over (Some side) lies = only_side number over side lies

results_typed : (number : ℕ) (over : Option ℕ) (results : List TypedResult) → list_all (is_result_of number over) results ≡ true → Each (IsResultOver number over) results
results_typed number over [] is = tt
results_typed number over (r ∷ results) is =
    let b = both_true (is_result_of number over r) (list_all (is_result_of number over) results) is in
    let s = both_true (is_side_of number over r.rows) (is_column_of number over r.columns) b.0 in
    ((side_typed number over r.rows s.0, columns_typed number over r.columns s.1), results_typed number over results b.1)

only_results : (number : ℕ) (over : Option ℕ) (results : List TypedResult) → Each (IsResultOver number over) results → list_all (is_result_of number over) results ≡ true
only_results number over [] each = refl
only_results number over (r ∷ results) each =
    true_both (is_result_of number over r) (list_all (is_result_of number over) results)
    (true_both (is_side_of number over r.rows) (is_column_of number over r.columns) (only_side number over r.rows each.0.0) (only_columns number over r.columns each.0.1))
    (only_results number over results each.1)

-- ---- maps

abbrev scale_test : TypedFunction → List NodeType → List (TypeKind × Bool)
scale_test function args = (kind.Scale, not (have_scales function.arguments args)) ∷ []

abbrev set_test : Declarations → TypedFunction → ℕ → SetShape → List NodeType → List (TypeKind × Bool)
set_test declarations function number set args = (kind.Set, not (may_be_mapped declarations function number set)) ∷ scale_test function args

pub map_typed : (declarations : Declarations) (function : TypedFunction) (number : ℕ) (set : SetShape) (ts : List TypedExpr)
    → map_rule declarations function number set (map type_of ts) ≡ None → MayBeMapped declarations function number set ts
unfolding map_rule
map_typed declarations function number set ts is =
    let args = map type_of ts in
    let a = none_first kind.Shape (not (are_arguments function args)) (set_test declarations function number set args) is in
    let b = none_first kind.Set (not (may_be_mapped declarations function number set)) (scale_test function args) a.1 in
    let c = none_first kind.Scale (not (have_scales function.arguments args)) [] b.1 in
    let shape = both_true (length args == length function.arguments) (list_all is_scalar args) (not-false (are_arguments function args) a.0) in
    let fit = both_true ((function.element == set.element) && takes_endpoints declarations set function.endpoints) (list_all (is_result_of number set.over) function.results)
    (not-false (may_be_mapped declarations function number set) b.0) in
    let ends = both_true (function.element == set.element) (takes_endpoints declarations set function.endpoints) fit.0 in
    record {
      arguments = args_are function.arguments args (eqb-true (length args) (length function.arguments) shape.0) shape.1 (not-false (have_scales function.arguments args) c.0);
      element = eqb-true function.element set.element ends.0;
      endpoints = takes_typed declarations set function.endpoints ends.1;
      results = results_typed number set.over function.results fit.1;
    }

pub only_map : (declarations : Declarations) (function : TypedFunction) (number : ℕ) (set : SetShape) (ts : List TypedExpr)
    → MayBeMapped declarations function number set ts → map_rule declarations function number set (map type_of ts) ≡ None
unfolding map_rule
only_map declarations function number set ts may =
    let args = map (Local Number) function.arguments in
    let mapped = true_both ((function.element == set.element) && takes_endpoints declarations set function.endpoints) (list_all (is_result_of number set.over) function.results)
    (true_both (function.element == set.element) (takes_endpoints declarations set function.endpoints) (eq-eqb function.element set.element may.element)
    (only_takes declarations set function.endpoints may.endpoints)) (only_results number set.over function.results may.results) in
    ap (map_rule declarations function number set) may.arguments
    ∙ first_none kind.Shape (not (are_arguments function args)) (set_test declarations function number set args)
    (not_from_true (are_arguments function args) (true_both (length args == length function.arguments) (list_all is_scalar args)
    (eq-eqb (length args) (length function.arguments) (length-map function.arguments (Local Number))) (are_scalars function.arguments)))
    (first_none kind.Set (not (may_be_mapped declarations function number set)) (scale_test function args) (not_from_true (may_be_mapped declarations function number set) mapped)
    (first_none kind.Scale (not (have_scales function.arguments args)) [] (not_from_true (have_scales function.arguments args) (are_scaled function.arguments)) refl))

-- ---- names of functions and sets

mapped_split : {A : Type 0} (number : ℕ) (o : Option A) (f : ℕ × A) → option_map (λ a. (number, a)) o ≡ Some f → (number ≡ f.0) × (o ≡ Some f.1)
mapped_split number None f is = absurd (cc)
mapped_split number (Some a) f is =
    let same : (number, a) ≡ f = cc in
    (ap (λ d. d.0) same, ap (λ d. Some d.1) same)

pub function_split : (env : Environment) (name : Name) (f : ℕ × TypedFunction) → function_named env name ≡ Some f
    → Means env name (meaning.Function f.0) × (slice_get env.declarations.functions f.0 ≡ Some f.1)
function_split env name f is = by_meaning (meaning_of env.names name) refl is
  where
    by_meaning : (m : Option Meaning) → meaning_of env.names name ≡ m → function_named env name ≡ Some f
        → Means env name (meaning.Function f.0) × (slice_get env.declarations.functions f.0 ≡ Some f.1)
    by_meaning (Some (meaning.Function number)) means answers =
        let s = mapped_split number (slice_get env.declarations.functions number) f (rw means at answers) in
        (means ∙ ap (λ n. Some (meaning.Function n)) s.0, ap (slice_get env.declarations.functions) (sym s.0) ∙ s.1)
    by_meaning other means answers = absurd (let none = rw means at answers in cc)

pub set_split : (env : Environment) (name : Name) (s : ℕ × SetShape) → set_named env name ≡ Some s
    → (set : TypedSet) × Means env name (meaning.Set s.0) × (slice_get env.declarations.sets s.0 ≡ Some set) × (set.shape ≡ s.1)
set_split env name s is =
    let found = set_meant_split env.declarations (meaning_of env.names name) (ap is_none is) in
    let same : (found.0, found.1.shape) ≡ s =
    same_Some (found.0, found.1.shape) s (sym (set_meant_is env.declarations (meaning_of env.names name) found.0 found.1 found.2 found.3) ∙ is) in
    (found.1, found.2 ∙ ap (λ d. Some (meaning.Set d.0)) same, ap (λ d. slice_get env.declarations.sets d.0) (sym same) ∙ found.3, ap (λ d. d.1) same)
  where
    same_Some : (x y : ℕ × SetShape) → Some x ≡ Some y → x ≡ y
    same_Some x y both = cc

pub only_function : (env : Environment) (name : Name) (number : ℕ) (f : TypedFunction) → Means env name (meaning.Function number)
    → slice_get env.declarations.functions number ≡ Some f → function_named env name ≡ Some (number, f)
only_function env name number f means is = rw means (ap (option_map (λ x. (number, x))) is)

pub only_set : (env : Environment) (name : Name) (number : ℕ) (s : TypedSet) → Means env name (meaning.Set number)
    → slice_get env.declarations.sets number ≡ Some s → set_named env name ≡ Some (number, s.shape)
only_set env name number s means is = set_meant_is env.declarations (meaning_of env.names name) number s means is
