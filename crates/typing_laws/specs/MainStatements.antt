-- Which typed statements are typings of a statement of the main procedure: a line for each form.
use Rattle.std.specs.Prelude.{◌≡◌, ℕ, true, false, List, [], ◌∷◌, length, map, slice_get, Option, Some, None, Ok}
use Rattle.sim_syntax.specs.declared.expression.Expr as tree
use Rattle.sim_syntax.specs.declared.condition.Cond.{Cond}
use Rattle.sim_syntax.specs.declared.statement.Stmt.{Stmt}
use Rattle.sim_syntax.specs.declared.statement.Stmt.TheVariants as stmt
use Rattle.sim_syntax.specs.declared.statement.Right.{Right}
use Rattle.sim_syntax.specs.declared.statement.Right.TheVariants as right
use Rattle.sim_syntax.specs.declared.statement.Target.{Target}
use Rattle.type_rules.specs.Rules.{same_rule}
use Rattle.type_rules.specs.declared.types.BlockShape.TheVariants.{Number}
use Rattle.type_rules.specs.declared.types.NodeType.{NodeType}
use Rattle.type_rules.specs.declared.types.NodeType.TheVariants.{Local}
use Rattle.typed_tree.specs.declared.expression.TypedExpr.{TypedExpr}
use Rattle.typed_tree.specs.declared.condition.TypedCond.{TypedCond}
use Rattle.typed_tree.specs.declared.function.TypedFunction.{TypedFunction}
use Rattle.typed_tree.specs.declared.function.TypedResult.{TypedResult}
use Rattle.typed_tree.specs.declared.function.ResultSide.{ResultSide}
use Rattle.typed_tree.specs.declared.function.Endpoints.{Endpoints}
use Rattle.typed_tree.specs.declared.main_procedure.MainStmt.{MainStmt}
use Rattle.typed_tree.specs.declared.main_procedure.MainStmt.TheVariants as typed
use Rattle.typed_tree.specs.declared.main_procedure.TypedRight.{TypedRight}
use Rattle.typed_tree.specs.declared.main_procedure.TypedRight.TheVariants as typed_right
use Rattle.typed_tree.specs.declared.main_procedure.TypedTarget.{TypedTarget}
use Rattle.typed_tree.specs.declared.main_procedure.TypedTarget.TheVariants as typed_target
use Rattle.typed_tree.specs.declared.program.SetShape.{SetShape}
use Rattle.typed_tree.specs.declared.program.TypedSet.{TypedSet}
use Rattle.typed_tree.specs.declared.environment.Declarations.{Declarations}
use Rattle.typed_tree.specs.declared.environment.Environment.{Environment}
use Rattle.typed_tree.specs.declared.environment.Walk.{Walk}
use Rattle.typed_tree.specs.declared.names.Meaning.TheVariants as meaning
use Rattle.typed_tree.specs.Names.{Name}
use Rattle.typed_tree.specs.Expressions.{type_of}
use Rattle.typed_tree.specs.Lookups.{element_in, over_set}
use Rattle.typed_tree.specs.Walking.{with_nodes, naming_local}
use Rattle.typed_tree.specs.MainProcedure.{is_system_matrix, result_type, with_variable}
use Rattle.typing_laws.specs.Lists.{Each}
use Rattle.typing_laws.specs.References.{Means, HasField}
use Rattle.typing_laws.specs.Expressions.{IsTyping, AreTypings}
use Rattle.typing_laws.specs.Conditions.{IsConditionTyping}
use Rattle.typing_laws.specs.Scopes.{IsNew, HasRoom, past, leaving}

-- ---- maps

-- the endpoints that a function takes are those of a set's elements; a function that takes none takes any set
abbrev pub TakesEndpoints : Declarations → SetShape → Option Endpoints → Type 0
TakesEndpoints declarations set None = Unit {0}
TakesEndpoints declarations set (Some ends) =
    (over : ℕ) × (set.over ≡ Some over) × (set.arity ≡ ends.count) × (element_in declarations over ≡ ends.element)

-- the places of one side of a result lie in its set: the element where it is one, and its endpoints where they are
pub record LiesIn (number : ℕ) (over : Option ℕ) (side : ResultSide) : Type 0 where
  pub element : side.at_element ≡ true → number ≡ side.set
  pub endpoints : side.at_endpoint ≡ true → over ≡ Some side.set

abbrev pub LiesInColumns : ℕ → Option ℕ → Option ResultSide → Type 0
LiesInColumns number over None = Unit {0}
LiesInColumns number over (Some side) = LiesIn number over side

abbrev pub IsResultOver : ℕ → Option ℕ → TypedResult → Type 0
IsResultOver number over result = LiesIn number over result.rows × LiesInColumns number over result.columns

-- a function may be mapped to a set, with scalars of the scales of its parameters
pub record MayBeMapped (declarations : Declarations) (function : TypedFunction) (number : ℕ) (set : SetShape) (args : List TypedExpr) : Type 0 where
  pub arguments : map type_of args ≡ map (Local Number) function.arguments
  pub element : function.element ≡ set.element
  pub endpoints : TakesEndpoints declarations set function.endpoints
  pub results : Each (IsResultOver number set.over) function.results

-- ---- right sides

-- a right side, and the types of its values
pub data IsRightTyping (env : Environment) : Right → TypedRight → List NodeType → ℕ → ℕ → Type 0 where
  value : (e : tree.Expr) (v : TypedExpr) (from to : ℕ)
      → IsTyping env e v from to → IsRightTyping env (right.Value e) (typed_right.Value v) (type_of v ∷ []) from to
  mapped : (line : ℕ) (function_name set_name : Name) (args : List tree.Expr) (ts : List TypedExpr) (f s : ℕ) (function : TypedFunction) (set : TypedSet) (from to : ℕ)
      → AreTypings env args ts from to
      → Means env function_name (meaning.Function f) → slice_get env.declarations.functions f ≡ Some function
      → Means env set_name (meaning.Set s) → slice_get env.declarations.sets s ≡ Some set
      → MayBeMapped env.declarations function s set.shape ts
      → IsRightTyping env (right.Map line function_name args set_name) (typed_right.Map f s ts) (map result_type function.results) from to

-- ---- new variables and targets

-- new variables, one for each type: each name is new after those before it, and the variables are numbered on
pub data AreDeclared : List Name → List NodeType → List ℕ → Walk → Walk → Type 0 where
  none : (walk : Walk) → AreDeclared [] [] [] walk walk
  one_more : (name : Name) (names : List Name) (type : NodeType) (types : List NodeType) (numbers : List ℕ) (walk after : Walk)
      → IsNew walk name → AreDeclared names types numbers (with_variable walk name type) after
      → AreDeclared (name ∷ names) (type ∷ types) (length walk.environment.declarations.variables ∷ numbers) walk after

-- a target for a value of a type: a variable that is no matrix, or a field of a set
pub data IsTarget (env : Environment) : Target → NodeType → TypedTarget → Type 0 where
  variable : (t : Target) (number : ℕ) (type value same : NodeType) → t.field ≡ None → Means env t.name (meaning.Variable number type)
      → is_system_matrix type ≡ false → same_rule type value ≡ Ok same → IsTarget env t value (typed_target.Variable number)
  field : (t : Target) (name : Name) (set number : ℕ) (f : NodeType) (value same : NodeType) → t.field ≡ Some name → Means env t.name (meaning.Set set)
      → HasField env (element_in env.declarations set) name number f → same_rule (over_set set f) value ≡ Ok same
      → IsTarget env t value (typed_target.Field set number)

-- a target for each value
pub data AreTargets (env : Environment) : List Target → List NodeType → List TypedTarget → Type 0 where
  none : AreTargets env [] [] []
  one_more : (t : Target) (ts : List Target) (type : NodeType) (types : List NodeType) (u : TypedTarget) (us : List TypedTarget)
      → IsTarget env t type u → AreTargets env ts types us → AreTargets env (t ∷ ts) (type ∷ types) (u ∷ us)

-- ---- statements

mutual
  -- from what is known before a statement to what is known after it
  pub data IsMainTyping : Stmt → MainStmt → Walk → Walk → Type 0 where
    variables : (line : ℕ) (names : List Name) (r : Right) (side : TypedRight) (types : List NodeType) (numbers : List ℕ) (walk : Walk) (to : ℕ) (after : Walk)
        → IsRightTyping walk.environment r side types walk.nodes to → HasRoom walk
        → AreDeclared names types numbers (past (with_nodes walk to)) after
        → IsMainTyping (stmt.Var line names r) (typed.Var line numbers side) walk after
    assignment : (line : ℕ) (targets : List Target) (r : Right) (side : TypedRight) (types : List NodeType) (us : List TypedTarget) (walk : Walk) (to : ℕ)
        → IsRightTyping walk.environment r side types walk.nodes to → AreTargets walk.environment targets types us → HasRoom walk
        → IsMainTyping (stmt.Assign line targets r) (typed.Assign line us side) walk (past (with_nodes walk to))
    repetition : (line : ℕ) (cond : Cond) (body : List Stmt) (tested : TypedCond) (done : List MainStmt) (walk : Walk) (to : ℕ) (inner : Walk)
        → IsConditionTyping walk.environment cond tested walk.nodes to → AreMainTypings body done (with_nodes walk to) inner → HasRoom inner
        → IsMainTyping (stmt.While line cond body) (typed.While line tested done) walk (past (leaving walk inner))
    loop : (line : ℕ) (name : Name) (from to : tree.Expr) (body : List Stmt) (f t : TypedExpr) (done : List MainStmt) (walk : Walk) (middle end : ℕ) (inner : Walk)
        → IsTyping walk.environment from f walk.nodes middle → IsTyping walk.environment to t middle end
        → type_of f ≡ Local Number 0 → type_of t ≡ Local Number 0 → IsNew walk name
        → AreMainTypings body done (naming_local (with_nodes walk end) name (meaning.Counter walk.locals)) inner → HasRoom inner
        → IsMainTyping (stmt.For line name from to body) (typed.For line walk.locals f t done) walk (past (leaving walk inner))
    choice : (line : ℕ) (cond : Cond) (body otherwise : List Stmt) (tested : TypedCond) (done other : List MainStmt) (walk : Walk) (to : ℕ) (first second : Walk)
        → IsConditionTyping walk.environment cond tested walk.nodes to
        → AreMainTypings body done (with_nodes walk to) first → AreMainTypings otherwise other (leaving walk first) second → HasRoom second
        → IsMainTyping (stmt.If line cond body otherwise) (typed.If line tested done other) walk (past (leaving walk second))
    assertion : (line : ℕ) (cond : Cond) (tested : TypedCond) (walk : Walk) (to : ℕ)
        → IsConditionTyping walk.environment cond tested walk.nodes to → HasRoom walk
        → IsMainTyping (stmt.Assert line cond) (typed.Assert line tested) walk (past (with_nodes walk to))

  -- statements one after the other
  pub data AreMainTypings : List Stmt → List MainStmt → Walk → Walk → Type 0 where
    none : (walk : Walk) → AreMainTypings [] [] walk walk
    one_more : (s : Stmt) (body : List Stmt) (t : MainStmt) (done : List MainStmt) (before between after : Walk)
        → IsMainTyping s t before between → AreMainTypings body done between after
        → AreMainTypings (s ∷ body) (t ∷ done) before after

-- the statements of the main procedure, whose variables are visible in it alone
pub data IsMainBodyTyping : List Stmt → List MainStmt → Walk → Walk → Type 0 where
  body : (statements : List Stmt) (done : List MainStmt) (walk inner : Walk) → AreMainTypings statements done walk inner
      → IsMainBodyTyping statements done walk (leaving walk inner)
