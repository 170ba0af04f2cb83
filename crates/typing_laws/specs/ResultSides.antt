-- Where a function writes its results: which places the writes of its body name, at any depth.
use Rattle.std.specs.Prelude.{◌≡◌, ◌↔◌, ℕ, suc, true, List, [], ◌∷◌, slice_get, Some, None}
use Rattle.type_rules.specs.declared.types.BlockShape.{BlockShape}
use Rattle.type_rules.specs.declared.types.NodeType.{NodeType}
use Rattle.type_rules.specs.declared.types.NodeType.TheVariants.{SystemVector, SystemMatrix}
use Rattle.typed_tree.specs.declared.condition.TypedCond.{TypedCond}
use Rattle.typed_tree.specs.declared.expression.TypedExpr.{TypedExpr}
use Rattle.typed_tree.specs.declared.function.FunctionStmt.{FunctionStmt}
use Rattle.typed_tree.specs.declared.function.FunctionStmt.TheVariants as typed
use Rattle.typed_tree.specs.declared.function.PlaceIndex.{PlaceIndex}
use Rattle.typed_tree.specs.declared.function.ResultSide.{ResultSide}
use Rattle.typed_tree.specs.declared.function.TypedResult.{TypedResult}
use Rattle.typed_tree.specs.declared.function.WrittenPlace.{WrittenPlace}
use Rattle.typed_tree.specs.declared.function.WrittenPlace.TheVariants as place

mutual
  -- a statement, or one inside it, writes to a result with this place at a position
  pub data Writes (result position : ℕ) (at : WrittenPlace) : FunctionStmt → Type 0 where
    here : (line : ℕ) (places : List WrittenPlace) (value : TypedExpr) → slice_get places position ≡ Some at
        → Writes result position at (typed.Write line result places value)
    in_loop : (line local from to : ℕ) (body : List FunctionStmt) → SomeWrites result position at body
        → Writes result position at (typed.Loop line local from to body)
    in_body : (line : ℕ) (cond : TypedCond) (body otherwise : List FunctionStmt) → SomeWrites result position at body
        → Writes result position at (typed.If line cond body otherwise)
    in_otherwise : (line : ℕ) (cond : TypedCond) (body otherwise : List FunctionStmt) → SomeWrites result position at otherwise
        → Writes result position at (typed.If line cond body otherwise)

  -- so does one of these statements
  pub data SomeWrites (result position : ℕ) (at : WrittenPlace) : List FunctionStmt → Type 0 where
    first : (s : FunctionStmt) (body : List FunctionStmt) → Writes result position at s → SomeWrites result position at (s ∷ body)
    later : (s : FunctionStmt) (body : List FunctionStmt) → SomeWrites result position at body → SomeWrites result position at (s ∷ body)

-- one side of a result: its set, and whether the element, or an endpoint, is written there
pub record IsSide (body : List FunctionStmt) (result position set : ℕ) (side : ResultSide) : Type 0 where
  pub set_is : side.set ≡ set
  pub element : (side.at_element ≡ true) ↔ SomeWrites result position place.Element body
  pub endpoint : (side.at_endpoint ≡ true) ↔ ((at : PlaceIndex) × SomeWrites result position (place.Endpoint at) body)

-- a result of a type: rows, and columns where it is over two sets
pub data IsTypedResult (body : List FunctionStmt) (number : ℕ) : NodeType → TypedResult → Type 0 where
  over_set : (set : ℕ) (block : BlockShape) (scale : ℕ) (rows : ResultSide) → IsSide body number 0 set rows
      → IsTypedResult body number (SystemVector set block scale) (record { rows = rows; columns = None; block = block; scale = scale })
  over_sets : (set other : ℕ) (block : BlockShape) (scale : ℕ) (rows columns : ResultSide) → IsSide body number 0 set rows → IsSide body number 1 other columns
      → IsTypedResult body number (SystemMatrix set other block scale) (record { rows = rows; columns = Some columns; block = block; scale = scale })

-- results, numbered on
pub data AreTypedResults (body : List FunctionStmt) : ℕ → List NodeType → List TypedResult → Type 0 where
  none : (number : ℕ) → AreTypedResults body number [] []
  one_more : (number : ℕ) (type : NodeType) (types : List NodeType) (r : TypedResult) (rs : List TypedResult)
      → IsTypedResult body number type r → AreTypedResults body (suc number) types rs → AreTypedResults body number (type ∷ types) (r ∷ rs)
