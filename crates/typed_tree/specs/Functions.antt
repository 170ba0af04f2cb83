-- The statements of functions.
use Rattle.std.specs.Prelude.{ℕ, ◌-◌, ◌==◌, Bool, true, false, not, ◌&&◌, ◌||◌, nat_lt, List, [], ◌∷◌, length, map, fold, Option, Some, None, Result, Ok, Err, if◌then◌else◌}
use Rattle.std.specs.Option.{is_some}
use Rattle.vocabulary.specs.Answers.{◌>>=◌, all_ok}
use Rattle.vocabulary.specs.declared.limits.TheConstants.{MOST_LOOP_BOUND}
use Rattle.sim_syntax.specs.declared.expression.Expr as tree
use Rattle.sim_syntax.specs.declared.condition.Cond.{Cond}
use Rattle.sim_syntax.specs.declared.statement.Stmt.{Stmt}
use Rattle.sim_syntax.specs.declared.statement.Stmt.TheOpen.{Stmt-F}
use Rattle.sim_syntax.specs.declared.statement.Stmt.TheFolds.{fold-Stmt}
use Rattle.sim_syntax.specs.declared.statement.Right.{Right}
use Rattle.sim_syntax.specs.declared.statement.Right.TheVariants as right
use Rattle.sim_syntax.specs.declared.statement.Target.{Target}
use Rattle.sim_syntax.specs.declared.statement.Place.{Place}
use Rattle.sim_syntax.specs.declared.statement.Index.{Index}
use Rattle.sim_syntax.specs.declared.statement.Index.TheVariants as index
use Rattle.type_rules.specs.Rules.{first_kind, same_rule, is_missing, is_outside, or_zero, kind_of, earlier}
use Rattle.type_rules.specs.declared.types.NodeType.{NodeType}
use Rattle.type_rules.specs.declared.types.NodeType.TheVariants.{Local, SystemVector, SystemMatrix}
use Rattle.type_rules.specs.declared.types.IndexRange.{IndexRange}
use Rattle.type_rules.specs.declared.types.IndexRange.TheVariants as range
use Rattle.type_rules.specs.declared.types.TypeKind.{TypeKind}
use Rattle.type_rules.specs.declared.types.TypeKind.TheVariants as kind
use Rattle.typed_tree.specs.declared.fault.CheckFault.{CheckFault}
use Rattle.typed_tree.specs.declared.expression.TypedExpr.{TypedExpr}
use Rattle.typed_tree.specs.declared.function.FunctionStmt.{FunctionStmt}
use Rattle.typed_tree.specs.declared.function.FunctionStmt.TheVariants as stmt
use Rattle.typed_tree.specs.declared.function.WrittenPlace.{WrittenPlace}
use Rattle.typed_tree.specs.declared.function.WrittenPlace.TheVariants as place
use Rattle.typed_tree.specs.declared.function.PlaceIndex.{PlaceIndex}
use Rattle.typed_tree.specs.declared.function.PlaceIndex.TheVariants as indexed
use Rattle.typed_tree.specs.declared.environment.Walk.{Walk}
use Rattle.typed_tree.specs.declared.names.Meaning.{Meaning}
use Rattle.typed_tree.specs.declared.names.Meaning.TheVariants as meaning
use Rattle.typed_tree.specs.Names.{Known, Name, meaning_of}
use Rattle.typed_tree.specs.Literals.{whole}
use Rattle.typed_tree.specs.Steps.{Step, at_line}
use Rattle.typed_tree.specs.Expressions.{type_of}
use Rattle.typed_tree.specs.Walking.{value, cond, counted, misplaced, inside, scoped, naming_local, is_visible}

-- ---- variables

-- a new name
abbrev pub new_name : Walk → Name → Option TypeKind
new_name walk name = if is_visible walk name then Some kind.Twice else None

unfoldable pub local_var : ℕ → List Name → Right → Step Walk FunctionStmt
local_var line (name ∷ []) (right.Value e) walk = do
  v ← value e walk
  after ← counted line (new_name v.1 name) v.1
  Ok (stmt.Var line after.locals v.0, naming_local after name (meaning.Local after.locals (type_of v.0)))
local_var line names right walk = misplaced line walk

-- a variable that is assigned; parameters, results and the variables of loops are not
unfoldable pub local_target : Option Meaning → Result (ℕ × NodeType) TypeKind
local_target (Some (meaning.Local local type)) = Ok (local, type)
local_target (Some (meaning.Parameter local scale)) = Err kind.NotAPlace
local_target (Some (meaning.Own element)) = Err kind.NotAPlace
local_target (Some (meaning.Ends element count)) = Err kind.NotAPlace
local_target (Some (meaning.Result result type)) = Err kind.NotAPlace
local_target (Some (meaning.Turn local range)) = Err kind.NotAPlace
local_target other = Err kind.Unknown

-- the value has the variable's type
unfoldable pub assigned_local : Option Meaning → NodeType → Result ℕ TypeKind
assigned_local meaning type = local_target meaning >>= λ target. same_rule target.1 type >>= λ same. Ok target.0

unfoldable pub local_assign : ℕ → List Target → Right → Step Walk FunctionStmt
local_assign line (target ∷ []) (right.Value e) walk = assigned_name target.field
  where
    assigned_name : Option Name → Result (FunctionStmt × Walk) CheckFault
    assigned_name (Some field) = misplaced line walk
    assigned_name None = do
      v ← value e walk
      local ← at_line line (assigned_local (meaning_of v.1.environment.names target.name) (type_of v.0))
      after ← counted line None v.1
      Ok (stmt.Assign line local v.0, after)
local_assign line targets right walk = misplaced line walk

-- ---- contributions

-- the number of an endpoint: a whole number, or a constant loop's variable
unfoldable pub place_index : Known → Index → Result PlaceIndex TypeKind
place_index known (index.Literal line digits) = literal_index (whole digits)
  where
    literal_index : Option ℕ → Result PlaceIndex TypeKind
    literal_index None = Err kind.NotConstant
    literal_index (Some number) = Ok (indexed.Literal number)
place_index known (index.Named line name) = named_index (meaning_of known name)
  where
    named_index : Option Meaning → Result PlaceIndex TypeKind
    named_index None = Err kind.Unknown
    named_index (Some (meaning.Turn local range)) = Ok (indexed.Turn local range)
    named_index (Some other) = Err kind.NotConstant

abbrev pub values_of : PlaceIndex → IndexRange
values_of (indexed.Literal number) = range.UpTo number
values_of (indexed.Turn local range) = range

-- an endpoint, which is one of so many
unfoldable pub endpoint : ℕ → PlaceIndex → Result WrittenPlace TypeKind
endpoint count index = if is_outside count (values_of index) then Err kind.TooLarge else Ok (place.Endpoint index)

-- a place: the element without an index, or an endpoint with one
unfoldable pub place_at : Option Meaning → Option (Result PlaceIndex TypeKind) → Result WrittenPlace TypeKind
place_at None index = Err kind.Unknown
place_at (Some (meaning.Own element)) None = Ok place.Element
place_at (Some (meaning.Own element)) (Some index) = index >>= λ i. Err kind.Shape
place_at (Some (meaning.Ends element count)) None = Err kind.Shape
place_at (Some (meaning.Ends element count)) (Some index) = index >>= endpoint count
place_at (Some other) None = Err kind.NotAPlace
place_at (Some other) (Some index) = index >>= λ i. Err kind.NotAPlace

abbrev pub index_at : Known → Option Index → Option (Result PlaceIndex TypeKind)
index_at known None = None
index_at known (Some index) = Some (place_index known index)

abbrev pub place_rule : Known → Place → Result WrittenPlace TypeKind
place_rule known p = place_at (meaning_of known p.name) (index_at known p.index)

-- of the kinds of several parts, the first in their order
abbrev pub earliest : List (Option TypeKind) → Option TypeKind
earliest faults = fold earlier None faults

-- the block that is written at places of a result: a vector has one, a matrix two
abbrev pub has_places : NodeType → ℕ → Bool
has_places (SystemVector set block scale) places = places == 1
has_places (SystemMatrix rows columns block scale) places = places == 2
has_places (Local block scale) places = false

abbrev pub block_type : NodeType → NodeType
block_type (SystemVector set block scale) = Local block scale
block_type (SystemMatrix rows columns block scale) = Local block scale
block_type type = type

unfoldable pub written_rule : NodeType → ℕ → NodeType → Option TypeKind
written_rule result places type = if has_places result places then kind_of (same_rule (block_type result) type) else Some kind.Shape

-- a name that is written is a result's
unfoldable pub result_rule : Option Meaning → Result (ℕ × NodeType) TypeKind
result_rule None = Err kind.Unknown
result_rule (Some (meaning.Result result type)) = Ok (result, type)
result_rule (Some other) = Err kind.NotAPlace

unfoldable pub result_fault : Result (ℕ × NodeType) TypeKind → ℕ → NodeType → Option TypeKind
result_fault (Ok result) places type = written_rule result.1 places type
result_fault (Err fault) places type = Some fault

abbrev pub write_fault : Result (ℕ × NodeType) TypeKind → List (Result WrittenPlace TypeKind) → NodeType → Option TypeKind
write_fault result places type = earlier (result_fault result (length places) type) (earliest (map kind_of places))

abbrev pub write_parts : Result (ℕ × NodeType) TypeKind → List (Result WrittenPlace TypeKind) → Result (ℕ × List WrittenPlace) TypeKind
write_parts result places = result >>= λ r. all_ok places >>= λ ps. Ok (r.0, ps)

unfoldable pub write : ℕ → Name → List Place → tree.Expr → Step Walk FunctionStmt
write line name places e walk = do
  v ← value e walk
  let result = result_rule (meaning_of v.1.environment.names name)
  let found = map (place_rule v.1.environment.names) places
  after ← counted line (write_fault result found (type_of v.0)) v.1
  parts ← at_line line (write_parts result found)
  Ok (stmt.Write line parts.0 parts.1 v.0, after)

-- ---- loops

-- the values of a loop's variable: from the lower bound up to below the upper, which are whole numbers
unfoldable pub turns_of : Option ℕ → Option ℕ → IndexRange
turns_of (Some from) (Some to) = if nat_lt from to then range.UpTo (to - 1) else range.Never
turns_of from to = range.Never

unfoldable pub bounds_rule : Bool → Option ℕ → Option ℕ → Option TypeKind
bounds_rule taken from to =
    first_kind ((kind.Twice, taken) ∷ (kind.NotConstant, is_missing from || is_missing to)
    ∷ (kind.TooLarge, not (nat_lt (or_zero from) (or_zero to)) || nat_lt MOST_LOOP_BOUND (or_zero to)) ∷ [])

abbrev pub with_turn : Name → IndexRange → Walk → Walk
with_turn name range walk = naming_local walk name (meaning.Turn walk.locals range)

unfoldable pub loop : ℕ → Name → Option ℕ → Option ℕ → List (Step Walk FunctionStmt) → Step Walk FunctionStmt
loop line name from to body walk = do
  done ← inside (with_turn name (turns_of from to)) body walk
  after ← counted line (bounds_rule (is_visible walk name) from to) done.1
  Ok (stmt.Loop line walk.locals (or_zero from) (or_zero to) done.0, after)

-- ---- choices and assertions

unfoldable pub choice : ℕ → Cond → List (Step Walk FunctionStmt) → List (Step Walk FunctionStmt) → Step Walk FunctionStmt
choice line c body otherwise walk = do
  tested ← cond c walk
  done ← scoped body tested.1
  other ← scoped otherwise done.1
  after ← counted line None other.1
  Ok (stmt.If line tested.0 done.0 other.0, after)

unfoldable pub assertion : ℕ → Cond → Step Walk FunctionStmt
assertion line c walk = do
  tested ← cond c walk
  after ← counted line None tested.1
  Ok (stmt.Assert line tested.0, after)

-- ---- all statements

unfoldable pub statement_node : Stmt-F (Step Walk FunctionStmt) → Step Walk FunctionStmt
statement_node (Stmt-F.Var line names right) = local_var line names right
statement_node (Stmt-F.Assign line targets right) = local_assign line targets right
statement_node (Stmt-F.Write line result places e) = write line result places e
statement_node (Stmt-F.ConstFor line name from to body) = loop line name (whole from) (whole to) body
statement_node (Stmt-F.If line c body otherwise) = choice line c body otherwise
statement_node (Stmt-F.Assert line c) = assertion line c
statement_node (Stmt-F.For line name from to body) = misplaced line
statement_node (Stmt-F.While line c body) = misplaced line

abbrev pub statement : Stmt → Step Walk FunctionStmt
statement = fold-Stmt (Step Walk FunctionStmt) statement_node

abbrev pub statements : List Stmt → Step Walk (List FunctionStmt)
statements body = scoped (map statement body)
