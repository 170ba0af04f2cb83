-- Right sides: what the definition answers is a typing, and each typing is what it answers.
use Rattle.std.proofs.Common.{◌≡◌, ℕ, List, [], ◌∷◌, map, Option, Some, None, Result, Ok, refl, sym, ap, subst, ◌∙◌}
use Rattle.vocabulary.specs.Answers.{◌>>=◌}
use Rattle.sim_syntax.specs.declared.expression.Expr as tree
use Rattle.sim_syntax.specs.declared.statement.Right.{Right}
use Rattle.sim_syntax.specs.declared.statement.Right.TheVariants as right
use Rattle.type_rules.specs.declared.types.NodeType.{NodeType}
use Rattle.typed_tree.specs.declared.fault.CheckFault.{CheckFault}
use Rattle.typed_tree.specs.declared.expression.TypedExpr.{TypedExpr}
use Rattle.typed_tree.specs.declared.function.TypedFunction.{TypedFunction}
use Rattle.typed_tree.specs.declared.main_procedure.RightSide.{RightSide}
use Rattle.typed_tree.specs.declared.main_procedure.TypedRight.{TypedRight}
use Rattle.typed_tree.specs.declared.main_procedure.TypedRight.TheVariants as typed_right
use Rattle.typed_tree.specs.declared.program.SetShape.{SetShape}
use Rattle.typed_tree.specs.declared.environment.Environment.{Environment}
use Rattle.typed_tree.specs.declared.environment.Walk.{Walk}
use Rattle.typed_tree.specs.Names.{Name}
use Rattle.typed_tree.specs.Expressions.{type_of, expressions}
use Rattle.typed_tree.specs.Walking.{values, with_nodes}
use Rattle.typed_tree.specs.MainProcedure.{map_rule, result_type, map_side, value_side, mapped_side, right_side}
use Rattle.typed_tree.specs.Lookups.{function_named, set_named}
use Rattle.typing_laws.specs.Expressions.{AreTypings}
use Rattle.typing_laws.specs.MainStatements.{MayBeMapped, IsRightTyping}
use Rattle.typing_laws.proofs.Steps.{same_Ok, and_then, then_is}
use Rattle.typing_laws.proofs.ScopeFacts.{value_then, value_and}
use Rattle.typing_laws.proofs.OnlyExpressions.{only_expressions}
use Rattle.typing_laws.proofs.TypedExpressions.{expressions_typed}
use Rattle.typing_laws.proofs.MapFacts.{map_typed, only_map, function_split, set_split, only_function, only_set}

values_then : {B : Type 0} (es : List tree.Expr) (walk : Walk) (f : List TypedExpr × Walk → Result B CheckFault) (b : B)
    → (values es walk >>= f) ≡ Ok b → (vs : List TypedExpr × ℕ) × AreTypings walk.environment es vs.0 walk.nodes vs.1 × (f (vs.0, with_nodes walk vs.1) ≡ Ok b)
unfolding values
values_then es walk f b is =
    let w = and_then (expressions walk.environment es walk.nodes >>= λ v. Ok (v.0, with_nodes walk v.1)) f b is in
    let v = and_then (expressions walk.environment es walk.nodes) (λ v. Ok (v.0, with_nodes walk v.1)) w.0 w.1 in
    (v.0, expressions_typed walk.environment es walk.nodes v.0 v.1, ap f (same_Ok (v.0.0, with_nodes walk v.0.1) w.0 v.2) ∙ w.2)

values_and : {B : Type 0} (es : List tree.Expr) (walk : Walk) (f : List TypedExpr × Walk → Result B CheckFault) (vs : List TypedExpr) (to : ℕ) (r : Result B CheckFault)
    → AreTypings walk.environment es vs walk.nodes to → f (vs, with_nodes walk to) ≡ r → (values es walk >>= f) ≡ r
unfolding values
values_and es walk f vs to r typed next =
    ap (λ o. (o >>= λ w. Ok (w.0, with_nodes walk w.1)) >>= f) (only_expressions walk.environment es vs walk.nodes to typed) ∙ next

side_typed : (env : Environment) (line : ℕ) (function set : Name) (args : List tree.Expr) (ts : List TypedExpr) (from to : ℕ)
    (f : Option (ℕ × TypedFunction)) (s : Option (ℕ × SetShape)) → function_named env function ≡ f → set_named env set ≡ s → AreTypings env args ts from to
    → (map_side env.declarations f s ts).fault ≡ None
    → IsRightTyping env (right.Map line function args set) (map_side env.declarations f s ts).typed (map_side env.declarations f s ts).types from to
unfolding map_side
side_typed env line function set args ts from to (Some f) (Some s) f_is s_is typed none =
    let named = function_split env function f f_is in
    let over = set_split env set s s_is in
    IsRightTyping.mapped line function set args ts f.0 s.0 f.1 over.0 from to typed named.0 named.1 over.1 over.2
    (subst (λ shape. MayBeMapped env.declarations f.1 s.0 shape ts) (sym over.3) (map_typed env.declarations f.1 s.0 s.1 ts none))
side_typed env line function set args ts from to f s f_is s_is typed none = absurd (cc)

right_split : (r : Right) (walk : Walk) (done : RightSide × Walk) → right_side r walk ≡ Ok done
    → (to : ℕ) × (done.0.fault ≡ None → IsRightTyping walk.environment r done.0.typed done.0.types walk.nodes to) × (with_nodes walk to ≡ done.1)
unfolding right_side value_side mapped_side
right_split (right.Value e) walk done is =
    let made : TypedExpr × Walk → RightSide × Walk = λ v. (record { typed = typed_right.Value v.0; types = type_of v.0 ∷ []; fault = None }, v.1) in
    let v = value_then e walk (λ v. Ok (made v)) done is in
    let same = same_Ok (made (v.0.0, with_nodes walk v.0.1)) done v.2 in (
      v.0.1,
      λ none. subst (λ d. IsRightTyping walk.environment (right.Value e) d.0.typed d.0.types walk.nodes v.0.1) same
          (IsRightTyping.value e v.0.0 walk.nodes v.0.1 v.1),
      ap (λ d. d.1) same,
    )
right_split (right.Map line function args set) walk done is =
    let env = walk.environment in
    let made : List TypedExpr × Walk → RightSide × Walk =
    λ vs. (map_side vs.1.environment.declarations (function_named vs.1.environment function) (set_named vs.1.environment set) vs.0, vs.1) in
    let v = values_then args walk (λ vs. Ok (made vs)) done is in
    let same = same_Ok (made (v.0.0, with_nodes walk v.0.1)) done v.2 in (
      v.0.1,
      λ none. subst (λ d. IsRightTyping env (right.Map line function args set) d.0.typed d.0.types walk.nodes v.0.1) same
          (side_typed env line function set args v.0.0 walk.nodes v.0.1 (function_named env function) (set_named env set) refl refl v.1 (ap (λ d. d.0.fault) same ∙ none)),
      ap (λ d. d.1) same,
    )
right_split (right.Ix line free terms) walk done is = absurd (cc)

pub right_then : {B : Type 0} (r : Right) (walk : Walk) (f : RightSide × Walk → Result B CheckFault) (b : B) → (right_side r walk >>= f) ≡ Ok b
    → (side : RightSide) × (to : ℕ) × (side.fault ≡ None → IsRightTyping walk.environment r side.typed side.types walk.nodes to) × (f (side, with_nodes walk to) ≡ Ok b)
right_then r walk f b is =
    let d = and_then (right_side r walk) f b is in
    let s = right_split r walk d.0 d.1 in
    (d.0.0, s.0, s.1, ap (λ w. f (d.0.0, w)) s.2 ∙ d.2)

abbrev judged : TypedRight → List NodeType → RightSide
judged typed types = record { typed = typed; types = types; fault = None }

only_mapped : (env : Environment) (f s : ℕ) (function : TypedFunction) (set : SetShape) (ts : List TypedExpr) (fo : Option (ℕ × TypedFunction)) (so : Option (ℕ × SetShape))
    → fo ≡ Some (f, function) → so ≡ Some (s, set) → map_rule env.declarations function s set (map type_of ts) ≡ None
    → map_side env.declarations fo so ts ≡ judged (typed_right.Map f s ts) (map result_type function.results)
unfolding map_side
only_mapped env f s function set ts fo so f_is s_is none =
    ap (λ o. map_side env.declarations o so ts) f_is ∙ ap (λ o. map_side env.declarations (Some (f, function)) o ts) s_is
    ∙ ap (λ k. record { typed = typed_right.Map f s ts; types = map result_type function.results; fault = k }) none

only_right : (env : Environment) (r : Right) (side : TypedRight) (types : List NodeType) (from to : ℕ) (statements locals : ℕ) → IsRightTyping env r side types from to
    → right_side r (record { environment = env; nodes = from; statements = statements; locals = locals })
    ≡ Ok (judged side types, record { environment = env; nodes = to; statements = statements; locals = locals })
unfolding right_side value_side mapped_side
only_right env r side types from to statements locals (IsRightTyping.value e v from' to' typed) =
    let walk : Walk = record { environment = env; nodes = from'; statements = statements; locals = locals } in
    value_and e walk (λ v. Ok (judged (typed_right.Value v.0) (type_of v.0 ∷ []), v.1)) v to' _ typed refl
only_right env r side types from to statements locals (IsRightTyping.mapped line fn sn args ts f s function set from' to' typed fn_means f_is sn_means s_is may) =
    let walk : Walk = record { environment = env; nodes = from'; statements = statements; locals = locals } in
    let fo = function_named env fn in
    let so = set_named env sn in
    values_and args walk (λ vs. Ok (map_side vs.1.environment.declarations (function_named vs.1.environment fn) (set_named vs.1.environment sn) vs.0, vs.1)) ts to' _ typed
    (ap (λ x. Ok (x, with_nodes walk to')) (only_mapped env f s function set.shape ts fo so (only_function env fn f function fn_means f_is) (only_set env sn s set sn_means s_is)
    (only_map env.declarations function s set.shape ts may)))

pub right_and : {B : Type 0} (r : Right) (walk : Walk) (f : RightSide × Walk → Result B CheckFault) (side : TypedRight) (types : List NodeType) (to : ℕ) (out : Result B CheckFault)
    → IsRightTyping walk.environment r side types walk.nodes to → f (judged side types, with_nodes walk to) ≡ out → (right_side r walk >>= f) ≡ out
right_and r walk f side types to out typed next =
    then_is (right_side r walk) f (judged side types, with_nodes walk to) out
    (only_right walk.environment r side types walk.nodes to walk.statements walk.locals typed) next
