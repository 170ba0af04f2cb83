-- The statements of the main procedure.
use Rattle.std.specs.Prelude.{ℕ, ◌==◌, Bool, true, false, not, ◌&&◌, ◌||◌, List, [], ◌∷◌, ◌++◌, length, map, fold, slice_get, Option, Some, None, Result, Ok, Err, if◌then◌else◌}
use Rattle.std.specs.List.{list_all, list_any, range_with_len, zip}
use Rattle.std.specs.Option.{option_map, option_and_then}
use Rattle.vocabulary.specs.Answers.{◌>>=◌, all_ok, fold_result}
use Rattle.sim_syntax.specs.declared.expression.Expr as tree
use Rattle.sim_syntax.specs.declared.condition.Cond.{Cond}
use Rattle.sim_syntax.specs.declared.statement.Stmt.{Stmt}
use Rattle.sim_syntax.specs.declared.statement.Stmt.TheOpen.{Stmt-F}
use Rattle.sim_syntax.specs.declared.statement.Stmt.TheFolds.{fold-Stmt}
use Rattle.sim_syntax.specs.declared.statement.Right.{Right}
use Rattle.sim_syntax.specs.declared.statement.Right.TheVariants as right
use Rattle.sim_syntax.specs.declared.statement.Target.{Target}
use Rattle.type_rules.specs.Types.{is_scalar, scale_of}
use Rattle.type_rules.specs.Rules.{first_kind, same_rule, kind_of, earlier, are_numbers, have_scales}
use Rattle.type_rules.specs.declared.types.NodeType.{NodeType}
use Rattle.type_rules.specs.declared.types.NodeType.TheVariants.{Local, SystemVector, SystemMatrix}
use Rattle.type_rules.specs.declared.types.TypeKind.{TypeKind}
use Rattle.type_rules.specs.declared.types.TypeKind.TheVariants as kind
use Rattle.typed_tree.specs.declared.fault.CheckFault.{CheckFault}
use Rattle.typed_tree.specs.declared.expression.TypedExpr.{TypedExpr}
use Rattle.typed_tree.specs.declared.function.TypedFunction.{TypedFunction}
use Rattle.typed_tree.specs.declared.function.TypedResult.{TypedResult}
use Rattle.typed_tree.specs.declared.function.ResultSide.{ResultSide}
use Rattle.typed_tree.specs.declared.function.Endpoints.{Endpoints}
use Rattle.typed_tree.specs.declared.main_procedure.MainStmt.{MainStmt}
use Rattle.typed_tree.specs.declared.main_procedure.MainStmt.TheVariants as stmt
use Rattle.typed_tree.specs.declared.main_procedure.TypedRight.{TypedRight}
use Rattle.typed_tree.specs.declared.main_procedure.TypedRight.TheVariants as typed_right
use Rattle.typed_tree.specs.declared.main_procedure.TypedTarget.{TypedTarget}
use Rattle.typed_tree.specs.declared.main_procedure.TypedTarget.TheVariants as target
use Rattle.typed_tree.specs.declared.main_procedure.RightSide.{RightSide}
use Rattle.typed_tree.specs.declared.program.SetShape.{SetShape}
use Rattle.typed_tree.specs.declared.environment.Declarations.{Declarations}
use Rattle.typed_tree.specs.declared.environment.Environment.{Environment}
use Rattle.typed_tree.specs.declared.environment.Walk.{Walk}
use Rattle.typed_tree.specs.declared.names.Meaning.{Meaning}
use Rattle.typed_tree.specs.declared.names.Meaning.TheVariants as meaning
use Rattle.typed_tree.specs.Names.{Known, Name, meaning_of, is_known, with_meaning}
use Rattle.typed_tree.specs.Steps.{Step, at_line}
use Rattle.typed_tree.specs.Expressions.{type_of}
use Rattle.typed_tree.specs.Lookups.{fields_of, element_in, find_field, over_set, set_named, function_named}
use Rattle.typed_tree.specs.Walking.{value, values, cond, counted, misplaced, inside, scoped, naming_local, is_visible, with_names}
use Rattle.typed_tree.specs.Functions.{earliest}

-- ---- maps

-- a function takes the elements of a set, and their endpoints, where it has any
abbrev pub takes_endpoints : Declarations → SetShape → Option Endpoints → Bool
takes_endpoints declarations set None = true
takes_endpoints declarations set (Some ends) = over_element set.over
  where
    over_element : Option ℕ → Bool
    over_element None = false
    over_element (Some over) = (set.arity == ends.count) && (element_in declarations over == ends.element)

-- a place that some write of the function names lies in the set of the result
abbrev pub is_over : Option ℕ → ℕ → Bool
is_over None set = false
is_over (Some over) set = over == set

abbrev pub is_side_of : ℕ → Option ℕ → ResultSide → Bool
is_side_of set over side = (not side.at_element || (set == side.set)) && (not side.at_endpoint || is_over over side.set)

abbrev pub is_column_of : ℕ → Option ℕ → Option ResultSide → Bool
is_column_of set over None = true
is_column_of set over (Some side) = is_side_of set over side

abbrev pub is_result_of : ℕ → Option ℕ → TypedResult → Bool
is_result_of set over result = is_side_of set over result.rows && is_column_of set over result.columns

-- a function may be mapped to a set
abbrev pub may_be_mapped : Declarations → TypedFunction → ℕ → SetShape → Bool
may_be_mapped declarations function number set =
    (function.element == set.element) && takes_endpoints declarations set function.endpoints && list_all (is_result_of number set.over) function.results

-- the arguments are numbers, as many as the function takes
abbrev pub are_arguments : TypedFunction → List NodeType → Bool
are_arguments function args = are_numbers function.arguments args

unfoldable pub map_rule : Declarations → TypedFunction → ℕ → SetShape → List NodeType → Option TypeKind
map_rule declarations function number set args =
    first_kind ((kind.Shape, not (are_arguments function args)) ∷ (kind.Set, not (may_be_mapped declarations function number set))
    ∷ (kind.Scale, not (have_scales function.arguments args)) ∷ [])

-- the type of a result
abbrev pub result_type : TypedResult → NodeType
result_type result = over_columns result.columns
  where
    over_columns : Option ResultSide → NodeType
    over_columns None = SystemVector result.rows.set result.block result.scale
    over_columns (Some columns) = SystemMatrix result.rows.set columns.set result.block result.scale

-- ---- right sides

-- a map of a function to a set: what it answers, the types of its results, and its fault
unfoldable pub map_side : Declarations → Option (ℕ × TypedFunction) → Option (ℕ × SetShape) → List TypedExpr → RightSide
map_side declarations (Some function) (Some set) args = record {
  typed = typed_right.Map function.0 set.0 args;
  types = map result_type function.1.results;
  fault = map_rule declarations function.1 set.0 set.1 (map type_of args);
}
map_side declarations function set args = record { typed = typed_right.Map 0 0 args; types = []; fault = Some kind.Unknown }

unfoldable pub value_side : tree.Expr → Step Walk RightSide
value_side e walk = do
  v ← value e walk
  Ok (record { typed = typed_right.Value v.0; types = type_of v.0 ∷ []; fault = None }, v.1)

unfoldable pub mapped_side : Name → List tree.Expr → Name → Step Walk RightSide
mapped_side function args set walk = do
  vs ← values args walk
  Ok (map_side vs.1.environment.declarations (function_named vs.1.environment function) (set_named vs.1.environment set) vs.0, vs.1)

unfoldable pub right_side : Right → Step Walk RightSide
right_side (right.Value e) walk = value_side e walk
right_side (right.Map line function args set) walk = mapped_side function args set walk
right_side (right.Ix line free terms) walk = misplaced line walk

-- ---- new variables

-- names that are new: they aren't known, and are none of those before them
abbrev pub are_new : Known → Known → List Name → Bool
are_new known before [] = true
are_new known before (name ∷ names) = not (is_known known name || is_known before name) && are_new known (with_meaning before name meaning.Taken) names

unfoldable pub names_fault : Known → List Name → ℕ → Option TypeKind
names_fault known names values = first_kind ((kind.Twice, not (are_new known [] names)) ∷ (kind.Shape, not (length names == values)) ∷ [])

-- a variable of the main procedure
unfoldable pub with_variable : Walk → Name → NodeType → Walk
with_variable walk name type = record {
  environment = record {
    level = walk.environment.level;
    declarations = record {
      elements = walk.environment.declarations.elements;
      sets = walk.environment.declarations.sets;
      functions = walk.environment.declarations.functions;
      variables = walk.environment.declarations.variables ++ record { name = name; value_type = type } ∷ [];
    };
    names = with_meaning walk.environment.names name (meaning.Variable (length walk.environment.declarations.variables) type);
  };
  nodes = walk.nodes;
  statements = walk.statements;
  locals = walk.locals;
}

abbrev pub with_variables : Walk → List Name → List NodeType → Walk
with_variables walk (name ∷ names) (type ∷ types) = with_variables (with_variable walk name type) names types
with_variables walk names types = walk

unfoldable pub main_var : ℕ → List Name → Right → Step Walk MainStmt
main_var line names e walk = do
  r ← right_side e walk
  after ← counted line (earlier r.0.fault (names_fault r.1.environment.names names (length r.0.types))) r.1
  Ok (stmt.Var line (range_with_len (length after.environment.declarations.variables) (length names)) r.0.typed, with_variables after names r.0.types)

-- ---- assignments

abbrev pub Aim : Type 0
Aim = Result (TypedTarget × NodeType) TypeKind

abbrev pub is_system_matrix : NodeType → Bool
is_system_matrix (SystemMatrix rows columns block scale) = true
is_system_matrix type = false

-- a variable that is assigned; matrices and the variables of loops are not
unfoldable pub variable_aim : Option Meaning → Aim
variable_aim (Some (meaning.Variable variable type)) = if is_system_matrix type then Err kind.NotAPlace else Ok (target.Variable variable, type)
variable_aim (Some (meaning.Counter local)) = Err kind.NotAPlace
variable_aim other = Err kind.Unknown

-- a field of a set that is assigned
unfoldable pub field_aim : Declarations → Option Meaning → Name → Aim
field_aim declarations (Some (meaning.Set set)) name = among (find_field (fields_of declarations (element_in declarations set)) name)
  where
    among : Option (ℕ × NodeType) → Aim
    among None = Err kind.Unknown
    among (Some field) = Ok (target.Field set field.0, over_set set field.1)
field_aim declarations other name = Err kind.Unknown

abbrev pub aim_at : Environment → Name → Option Name → Aim
aim_at env name None = variable_aim (meaning_of env.names name)
aim_at env name (Some field) = field_aim env.declarations (meaning_of env.names name) field

abbrev pub aim_of : Environment → Target → Aim
aim_of env t = aim_at env t.name t.field

-- a target gets a value of its type
unfoldable pub assigned_fault : Aim → Option NodeType → Option TypeKind
assigned_fault (Err fault) value = Some fault
assigned_fault (Ok aim) None = Some kind.Shape
assigned_fault (Ok aim) (Some type) = kind_of (same_rule aim.1 type)

-- each target gets the value in its place, and there are as many
abbrev pub targets_fault : Option TypeKind → List Aim → List NodeType → Option TypeKind
targets_fault so_far [] [] = so_far
targets_fault so_far [] (type ∷ types) = earlier so_far (Some kind.Shape)
targets_fault so_far (aim ∷ aims) [] = targets_fault (earlier so_far (assigned_fault aim None)) aims []
targets_fault so_far (aim ∷ aims) (type ∷ types) = targets_fault (earlier so_far (assigned_fault aim (Some type))) aims types

-- the targets of a statement of this line, which all are aimed at
abbrev pub all_targets : ℕ → List Aim → Result (List TypedTarget) CheckFault
all_targets line aims = at_line line (all_ok aims) >>= λ found. Ok (map (λ aim. aim.0) found)

unfoldable pub main_assign : ℕ → List Target → Right → Step Walk MainStmt
main_assign line targets e walk = do
  r ← right_side e walk
  let aims = map (aim_of r.1.environment) targets
  after ← counted line (targets_fault r.0.fault aims r.0.types) r.1
  aimed ← all_targets line aims
  Ok (stmt.Assign line aimed r.0.typed, after)

-- ---- loops

unfoldable pub main_while : ℕ → Cond → List (Step Walk MainStmt) → Step Walk MainStmt
main_while line c body walk = do
  tested ← cond c walk
  done ← scoped body tested.1
  after ← counted line None done.1
  Ok (stmt.While line tested.0 done.0, after)

-- the bounds are whole numbers
unfoldable pub turns_rule : Bool → NodeType → NodeType → Option TypeKind
turns_rule taken from to =
    first_kind ((kind.Twice, taken) ∷ (kind.Shape, not (is_scalar from && is_scalar to)) ∷ (kind.Scale, not (scale_of from == 0 && scale_of to == 0)) ∷ [])

abbrev pub with_counter : Name → Walk → Walk
with_counter name walk = naming_local walk name (meaning.Counter walk.locals)

unfoldable pub main_for : ℕ → Name → tree.Expr → tree.Expr → List (Step Walk MainStmt) → Step Walk MainStmt
main_for line name from to body walk = do
  f ← value from walk
  t ← value to f.1
  done ← inside (with_counter name) body t.1
  after ← counted line (turns_rule (is_visible t.1 name) (type_of f.0) (type_of t.0)) done.1
  Ok (stmt.For line t.1.locals f.0 t.0 done.0, after)

-- ---- choices and assertions

unfoldable pub main_choice : ℕ → Cond → List (Step Walk MainStmt) → List (Step Walk MainStmt) → Step Walk MainStmt
main_choice line c body otherwise walk = do
  tested ← cond c walk
  done ← scoped body tested.1
  other ← scoped otherwise done.1
  after ← counted line None other.1
  Ok (stmt.If line tested.0 done.0 other.0, after)

unfoldable pub main_assertion : ℕ → Cond → Step Walk MainStmt
main_assertion line c walk = do
  tested ← cond c walk
  after ← counted line None tested.1
  Ok (stmt.Assert line tested.0, after)

-- ---- all statements

unfoldable pub main_node : Stmt-F (Step Walk MainStmt) → Step Walk MainStmt
main_node (Stmt-F.Var line names e) = main_var line names e
main_node (Stmt-F.Assign line targets e) = main_assign line targets e
main_node (Stmt-F.For line name from to body) = main_for line name from to body
main_node (Stmt-F.While line c body) = main_while line c body
main_node (Stmt-F.If line c body otherwise) = main_choice line c body otherwise
main_node (Stmt-F.Assert line c) = main_assertion line c
main_node (Stmt-F.Write line result places e) = misplaced line
main_node (Stmt-F.ConstFor line name from to body) = misplaced line

abbrev pub main_statement : Stmt → Step Walk MainStmt
main_statement = fold-Stmt (Step Walk MainStmt) main_node

abbrev pub main_statements : List Stmt → Step Walk (List MainStmt)
main_statements body = scoped (map main_statement body)
