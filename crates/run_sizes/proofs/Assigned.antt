-- The values of right sides fit their types, and so what is known goes on where targets and new variables get them.
use Rattle.std.proofs.Common.{◌≡◌, ℕ, ◌<◌, ◌≤◌, false, List, [], length, map, Option, Some, None, Ok, refl, sym, ap, ◌∙◌, subst, arith}
use Rattle.std.specs.Prelude.{slice_get}
use Rattle.std.specs.List.{flat_map, range_with_len}
use Rattle.std.specs.Option.{option_map}
use Rattle.std.proofs.lemmas.Option.{slice_get_within}
use Rattle.hypergraph.specs.SetValue.{SetValue}
use Rattle.hypergraph.specs.Sets.{set_at}
use Rattle.sim_syntax.specs.declared.statement.Right.{Right}
use Rattle.sim_syntax.specs.declared.statement.Target.{Target}
use Rattle.type_rules.specs.declared.types.NodeType.{NodeType}
use Rattle.type_rules.specs.declared.types.NodeType.TheVariants as type
use Rattle.typed_tree.specs.declared.environment.Environment.{Environment}
use Rattle.typed_tree.specs.declared.environment.Walk.{Walk}
use Rattle.typed_tree.specs.declared.function.TypedFunction.{TypedFunction}
use Rattle.typed_tree.specs.declared.main_procedure.TypedRight.{TypedRight}
use Rattle.typed_tree.specs.declared.main_procedure.TypedTarget.{TypedTarget}
use Rattle.typed_tree.specs.declared.main_procedure.TypedTarget.TheVariants as target
use Rattle.algebra_meaning.specs.Linked.{LinkedProgram}
use Rattle.typed_tree.specs.declared.program.Variable.{Variable}
use Rattle.typed_tree.specs.Expressions.{type_of}
use Rattle.typed_tree.specs.MainProcedure.{is_system_matrix, result_type, with_variable}
use Rattle.typed_tree.specs.Names.{Name}
use Rattle.typing_laws.specs.Lists.{Each, Matched}
use Rattle.typing_laws.specs.MainStatements.{AreDeclared, AreTargets, IsRightTyping, IsTarget}
use Rattle.value_algebra.specs.declared.value.Value.{Value}
use Rattle.algebra_meaning.specs.declared.state.State.{State}
use Rattle.index_laws.specs.Fits.{Fits, HasBlocks}
use Rattle.index_laws.specs.Sizes.{AreSized, SumsAreSized}
use Rattle.run_laws.specs.Maps.{MapsTo}
use Rattle.run_laws.specs.Runs.{AreChanged, IsChanged, Yields, names_in}
use Rattle.run_sizes.proofs.Known.{Known, is_main, known_declared, known_set, names_fit}
use Rattle.run_sizes.proofs.Lists.{same_Some}
use Rattle.run_sizes.proofs.Names.{declared_grows, in_turn}
use Rattle.run_sizes.proofs.Sizes.{IsProper, results_fit}

-- the results of each function are of blocks that may be declared
abbrev pub AreProper : List TypedFunction → Type 0
AreProper functions = (f : ℕ) (function : TypedFunction) → slice_get functions f ≡ Some function → Each IsProper function.results

-- ---- right sides

map_fits : (program : LinkedProgram) (sets : List SetValue) (set : ℕ) (function : TypedFunction) (args values : List Value) → Each IsProper function.results
    → MapsTo program sets set function args (Ok values) → Matched (Fits sets) (map result_type function.results) values
map_fits program sets set function args values proper (MapsTo.all_contribute contributed all) =
    results_fit sets (flat_map contributed (range_with_len 0 (set_at sets set).count)) 0 function.results proper

pub no_function : (function : TypedFunction) → None ≡ Some function → ⊥
no_function function is = cc

module _ (sized : AreSized) (program : LinkedProgram) (proper : AreProper program.typed.functions) where
  pub right_fits : (env : Environment) (depth : ℕ) (state : State) (line : ℕ) (r : Right) (side : TypedRight) (types : List NodeType) (from to : ℕ) (values : List Value)
      → Known program state.sets env depth state.variables state.locals → IsRightTyping env r side types from to → Yields program line state side (Ok values)
      → Matched (Fits state.sets) types values
  right_fits env depth state line r side types from to values known (IsRightTyping.value e v from' to' typed) (Yields.value w x is) =
      Matched.one_more (type_of v) [] x []
      (sized env (names_in program state) e v from' to' x (is_main program state.sets env depth state.variables state.locals known)
      (names_fit program state.sets env depth state.variables state.locals known) typed is)
      Matched.none
  right_fits env depth state line r side types from to values known
      (IsRightTyping.mapped l fn sn args ts f s function set from' to' typed means at set_means set_at may)
      (Yields.results g u bs vs other results given found maps) =
      let same : other ≡ function = same_Some other function (sym found ∙ ap (λ fs. slice_get fs f) (sym known.functions) ∙ at) in
      map_fits program state.sets u function vs results (subst (λ fn. Each IsProper fn.results) same (proper f other found))
      (subst (λ fn. MapsTo program state.sets u fn vs (Ok results)) same maps)
  right_fits env depth state line r side types from to values known
      (IsRightTyping.mapped l fn sn args ts f s function set from' to' typed means at set_means set_at may)
      (Yields.no_function g u bs vs given none) =
      absurd (no_function function (sym none ∙ ap (λ fs. slice_get fs f) (sym known.functions) ∙ at))

-- ---- targets

no_matrix : (t : NodeType) → is_system_matrix t ≡ false → HasBlocks t
no_matrix (type.Local b s) is = tt
no_matrix (type.SystemVector set b s) is = tt
no_matrix (type.SystemMatrix rows columns b s) is = absurd (cc)

type_within : (vars : List Variable) (n : ℕ) (t : NodeType) → option_map (λ v. v.value_type) (slice_get vars n) ≡ Some t → n < length vars
type_within vars n t is = by_found (slice_get vars n) refl is
  where
    by_found : (o : Option Variable) → slice_get vars n ≡ o → option_map (λ v. v.value_type) o ≡ Some t → n < length vars
    by_found None at answers = absurd (cc)
    by_found (Some v) at answers = slice_get_within vars n v at

in_room : (n a b c : ℕ) → n < a → a ≤ b → c ≡ b → n < c
in_room n a b c below few all = omega (arith, below, few, all)

module _ (sums : SumsAreSized) (program : LinkedProgram) (sets : List SetValue) where
  target_known : (env : Environment) (depth : ℕ) (t : Target) (type : NodeType) (u : TypedTarget) (value : Value) (before after : State)
      → length env.declarations.variables ≤ length program.typed.variables
      → IsTarget env t type u → IsChanged program before u value after → Fits sets type value → Known program sets env depth before.variables before.locals
      → Known program sets env depth after.variables after.locals
  target_known env depth t type u value before after few (IsTarget.variable t' number own given same none means no_system rule) (IsChanged.variable n v) fits known =
      let typed = (known.of_variables t'.name number own means).0 in
      let sizes = sums sets own given same rule in
      known_set program sets env depth before.variables before.locals number own v known typed
      (in_room number (length env.declarations.variables) (length program.typed.variables) (length before.variables)
      (type_within env.declarations.variables number own typed) few known.count)
      (record { whole = fits.whole; rows = fits.rows ∙ sym sizes.0; columns = fits.columns ∙ sym sizes.1; blocks = no_matrix own no_system })
  target_known env depth t type u value before after few (IsTarget.field t' name set number f given same is means has rule) (IsChanged.field s k v) fits known = known

  pub targets_known : (env : Environment) (depth : ℕ) (ts : List Target) (types : List NodeType) (us : List TypedTarget) (values : List Value) (before after : State)
      → length env.declarations.variables ≤ length program.typed.variables
      → AreTargets env ts types us → AreChanged program us values before after → Matched (Fits sets) types values
      → Known program sets env depth before.variables before.locals → Known program sets env depth after.variables after.locals
  targets_known env depth ts types us values before after few AreTargets.none (AreChanged.no_target vs here) fit known = known
  targets_known env depth ts types us values before after few (AreTargets.one_more t more type others u us' one rest) (AreChanged.no_value_left w ws here) fit known =
      elim fit [ ]
  targets_known env depth ts types us values before after few (AreTargets.one_more t more type others u us' one rest) (AreChanged.one_more u' us'' v vs first between last changed goes)
      (Matched.one_more type' types' v' vs' fits fit) known =
      targets_known env depth more others us' vs between last few rest goes fit (target_known env depth t type u v first between few one changed fits known)

  -- ---- new variables

  pub declared_known : (names : List Name) (types : List NodeType) (numbers : List ℕ) (walk end : Walk) (values : List Value) (before after : State)
      → length end.environment.declarations.variables ≤ length program.typed.variables
      → AreDeclared names types numbers walk end → AreChanged program (map target.Variable numbers) values before after → Matched (Fits sets) types values
      → Known program sets walk.environment walk.locals before.variables before.locals → Known program sets end.environment end.locals after.variables after.locals
  declared_known names types numbers walk end values before after few (AreDeclared.none here) (AreChanged.no_target vs state) fit known = known
  declared_known names types numbers walk end values before after few (AreDeclared.one_more name rest type others more here last new declared)
      (AreChanged.no_value_left w ws state) fit known = elim fit [ ]
  declared_known names types numbers walk end values before after few (AreDeclared.one_more name rest type others more here last new declared)
      (AreChanged.one_more u us v vs first between ended changed goes) (Matched.one_more type' types' v' vs' fits fit) known =
      let next = with_variable here name type in
      let grows = declared_grows rest others more next last declared in
      let fewer = in_turn (length next.environment.declarations.variables) (length last.environment.declarations.variables) (length program.typed.variables) grows.count few in
      declared_known rest others more next last vs between ended few declared goes fit (set_known here name type first between v fewer fits changed known)
    where
      set_known : (here : Walk) (name : Name) (type : NodeType) (first between : State) (v : Value)
          → length (with_variable here name type).environment.declarations.variables ≤ length program.typed.variables → Fits sets type v
          → IsChanged program first (target.Variable (length here.environment.declarations.variables)) v between
          → Known program sets here.environment here.locals first.variables first.locals
          → Known program sets (with_variable here name type).environment (with_variable here name type).locals between.variables between.locals
      set_known here name type first between v fewer fits (IsChanged.variable n w) known =
          known_declared program sets here name type first.variables first.locals v known fewer fits
