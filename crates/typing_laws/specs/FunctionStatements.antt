-- Which typed statements are typings of a statement of a function: a line for each form.
use Rattle.std.specs.Prelude.{◌≡◌, ℕ, ◌-◌, ◌<◌, ◌≤◌, false, List, [], ◌∷◌, length, Some, None, Ok}
use Rattle.vocabulary.specs.declared.limits.TheConstants.{MOST_LOOP_BOUND}
use Rattle.sim_syntax.specs.declared.expression.Expr as tree
use Rattle.sim_syntax.specs.declared.condition.Cond.{Cond}
use Rattle.sim_syntax.specs.declared.statement.Stmt.{Stmt}
use Rattle.sim_syntax.specs.declared.statement.Stmt.TheVariants as stmt
use Rattle.sim_syntax.specs.declared.statement.Right.TheVariants as right
use Rattle.sim_syntax.specs.declared.statement.Target.{Target}
use Rattle.sim_syntax.specs.declared.statement.Place.{Place}
use Rattle.sim_syntax.specs.declared.statement.Index.{Index}
use Rattle.sim_syntax.specs.declared.statement.Index.TheVariants as index
use Rattle.type_rules.specs.Rules.{same_rule, is_outside}
use Rattle.type_rules.specs.declared.types.BlockShape.{BlockShape}
use Rattle.type_rules.specs.declared.types.NodeType.{NodeType}
use Rattle.type_rules.specs.declared.types.NodeType.TheVariants.{Local, SystemVector, SystemMatrix}
use Rattle.type_rules.specs.declared.types.IndexRange.{IndexRange}
use Rattle.type_rules.specs.declared.types.IndexRange.TheVariants as range
use Rattle.typed_tree.specs.declared.expression.TypedExpr.{TypedExpr}
use Rattle.typed_tree.specs.declared.condition.TypedCond.{TypedCond}
use Rattle.typed_tree.specs.declared.function.FunctionStmt.{FunctionStmt}
use Rattle.typed_tree.specs.declared.function.FunctionStmt.TheVariants as typed
use Rattle.typed_tree.specs.declared.function.WrittenPlace.{WrittenPlace}
use Rattle.typed_tree.specs.declared.function.WrittenPlace.TheVariants as place
use Rattle.typed_tree.specs.declared.function.PlaceIndex.{PlaceIndex}
use Rattle.typed_tree.specs.declared.function.PlaceIndex.TheVariants as indexed
use Rattle.typed_tree.specs.declared.environment.Environment.{Environment}
use Rattle.typed_tree.specs.declared.environment.Walk.{Walk}
use Rattle.typed_tree.specs.declared.names.Meaning.TheVariants as meaning
use Rattle.typed_tree.specs.Names.{Name}
use Rattle.typed_tree.specs.Literals.{whole}
use Rattle.typed_tree.specs.Expressions.{type_of}
use Rattle.typed_tree.specs.Walking.{with_nodes, naming_local}
use Rattle.typing_laws.specs.References.{Means}
use Rattle.typing_laws.specs.Expressions.{IsTyping}
use Rattle.typing_laws.specs.Conditions.{IsConditionTyping}
use Rattle.typing_laws.specs.Scopes.{IsNew, HasRoom, past, leaving}
use Rattle.typing_laws.specs.Lists.{Matched}

-- ---- places

-- which of so many endpoints: a whole number, or a constant loop's variable, each of whose values is below their count
pub data IsPlaceIndex (env : Environment) (count : ℕ) : Index → PlaceIndex → Type 0 where
  literal : (line number : ℕ) (digits : List ℕ) → whole digits ≡ Some number → number < count
      → IsPlaceIndex env count (index.Literal line digits) (indexed.Literal number)
  turn : (line : ℕ) (name : Name) (local : ℕ) (values : IndexRange) → Means env name (meaning.Turn local values) → is_outside count values ≡ false
      → IsPlaceIndex env count (index.Named line name) (indexed.Turn local values)

-- a place: the element, or one of its endpoints
pub data IsPlace (env : Environment) : Place → WrittenPlace → Type 0 where
  at_element : (p : Place) (element : ℕ) → Means env p.name (meaning.Own element) → p.index ≡ None → IsPlace env p place.Element
  at_endpoint : (p : Place) (element count : ℕ) (i : Index) (at : PlaceIndex) → Means env p.name (meaning.Ends element count) → p.index ≡ Some i
      → IsPlaceIndex env count i at → IsPlace env p (place.Endpoint at)

-- what is written at so many places of a result: a block at one of a vector, and at two of a matrix
pub data HasBlock : NodeType → ℕ → NodeType → Type 0 where
  of_vector : (set : ℕ) (block : BlockShape) (scale : ℕ) → HasBlock (SystemVector set block scale) 1 (Local block scale)
  of_matrix : (rows columns : ℕ) (block : BlockShape) (scale : ℕ) → HasBlock (SystemMatrix rows columns block scale) 2 (Local block scale)

-- ---- statements

mutual
  -- from what is known before a statement to what is known after it
  pub data IsStatementTyping : Stmt → FunctionStmt → Walk → Walk → Type 0 where
    variable : (line : ℕ) (name : Name) (e : tree.Expr) (v : TypedExpr) (walk : Walk) (to : ℕ)
        → IsTyping walk.environment e v walk.nodes to → IsNew walk name → HasRoom walk
        → IsStatementTyping (stmt.Var line (name ∷ []) (right.Value e)) (typed.Var line walk.locals v)
        walk (naming_local (past (with_nodes walk to)) name (meaning.Local walk.locals (type_of v)))
    assignment : (line : ℕ) (target : Target) (e : tree.Expr) (v : TypedExpr) (local : ℕ) (type same : NodeType) (walk : Walk) (to : ℕ)
        → IsTyping walk.environment e v walk.nodes to → target.field ≡ None → Means walk.environment target.name (meaning.Local local type)
        → same_rule type (type_of v) ≡ Ok same → HasRoom walk
        → IsStatementTyping (stmt.Assign line (target ∷ []) (right.Value e)) (typed.Assign line local v) walk (past (with_nodes walk to))
    write : (line : ℕ) (name : Name) (places : List Place) (e : tree.Expr) (v : TypedExpr) (result : ℕ) (type block same : NodeType) (written : List WrittenPlace)
        (walk : Walk) (to : ℕ)
        → IsTyping walk.environment e v walk.nodes to → Means walk.environment name (meaning.Result result type)
        → Matched (IsPlace walk.environment) places written → HasBlock type (length places) block → same_rule block (type_of v) ≡ Ok same → HasRoom walk
        → IsStatementTyping (stmt.Write line name places e) (typed.Write line result written v) walk (past (with_nodes walk to))
    loop : (line : ℕ) (name : Name) (from_digits to_digits : List ℕ) (from to : ℕ) (body : List Stmt) (done : List FunctionStmt) (walk inner : Walk)
        → whole from_digits ≡ Some from → whole to_digits ≡ Some to → from < to → to ≤ MOST_LOOP_BOUND → IsNew walk name
        → AreStatementTypings body done (naming_local walk name (meaning.Turn walk.locals (range.UpTo (to - 1)))) inner → HasRoom inner
        → IsStatementTyping (stmt.ConstFor line name from_digits to_digits body) (typed.Loop line walk.locals from to done) walk (past (leaving walk inner))
    choice : (line : ℕ) (cond : Cond) (body otherwise : List Stmt) (tested : TypedCond) (done other : List FunctionStmt) (walk : Walk) (to : ℕ) (first second : Walk)
        → IsConditionTyping walk.environment cond tested walk.nodes to
        → AreStatementTypings body done (with_nodes walk to) first → AreStatementTypings otherwise other (leaving walk first) second → HasRoom second
        → IsStatementTyping (stmt.If line cond body otherwise) (typed.If line tested done other) walk (past (leaving walk second))
    assertion : (line : ℕ) (cond : Cond) (tested : TypedCond) (walk : Walk) (to : ℕ)
        → IsConditionTyping walk.environment cond tested walk.nodes to → HasRoom walk
        → IsStatementTyping (stmt.Assert line cond) (typed.Assert line tested) walk (past (with_nodes walk to))

  -- statements one after the other
  pub data AreStatementTypings : List Stmt → List FunctionStmt → Walk → Walk → Type 0 where
    none : (walk : Walk) → AreStatementTypings [] [] walk walk
    one_more : (s : Stmt) (body : List Stmt) (t : FunctionStmt) (done : List FunctionStmt) (before between after : Walk)
        → IsStatementTyping s t before between → AreStatementTypings body done between after
        → AreStatementTypings (s ∷ body) (t ∷ done) before after

-- the statements of a function's body, whose variables are visible in it alone
pub data IsBodyTyping : List Stmt → List FunctionStmt → Walk → Walk → Type 0 where
  body : (statements : List Stmt) (done : List FunctionStmt) (walk inner : Walk) → AreStatementTypings statements done walk inner
      → IsBodyTyping statements done walk (leaving walk inner)
