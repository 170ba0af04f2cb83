-- Places that are written.
use Rattle.std.specs.Prelude.{ℕ, Bool, true, false}
use Rattle.typed_tree.specs.declared.function.FunctionStmt.{FunctionStmt}
use Rattle.typed_tree.specs.declared.function.FunctionStmt.TheFolds.{fold-FunctionStmt}
use Rattle.typed_tree.specs.declared.function.WrittenPlace.{WrittenPlace}
use Rattle.typed_tree.specs.Declarations.{is_written_node, is_element_place, is_endpoint_place}

-- the element, or else an endpoint
abbrev pub place_test : Bool → WrittenPlace → Bool
place_test true = is_element_place
place_test false = is_endpoint_place

-- whether a statement writes to a result at a place, in a position of it, that passes a test
abbrev pub is_written_by : ℕ → ℕ → (WrittenPlace → Bool) → FunctionStmt → Bool
is_written_by result position test = fold-FunctionStmt Bool (is_written_node result position test)
