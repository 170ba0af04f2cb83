-- The declarations of a program.
use Rattle.std.specs.Prelude.{ℕ, suc, ◌+◌, ◌*◌, ◌==◌, Bool, true, false, not, ◌&&◌, ◌||◌, nat_lt, List, [], ◌∷◌, ◌++◌, length, map, filter, codes, decimal, position, slice_get, Option, Some, None, Result, Ok, Err, if◌then◌else◌}
use Rattle.std.specs.List.{list_all, list_any, range_with_len, sum_by}
use Rattle.std.specs.Option.{is_none, option_and_then, option_map}
use Rattle.std.specs.Str.{bytes_eq}
use Rattle.vocabulary.specs.Answers.{◌>>=◌, fold_result}
use Rattle.vocabulary.specs.declared.limits.TheConstants.{MOST_ARGUMENTS, MOST_COLUMNS, MOST_ENDPOINTS, MOST_FIELD_SCALE, MOST_FIELDS, MOST_FUNCTION_COST, MOST_RESULTS, MOST_SCALE, MOST_SETS}
use Rattle.host_table.specs.declared.table.HostName.{HostName}
use Rattle.sim_syntax.specs.declared.declaration.Decl.{Decl}
use Rattle.sim_syntax.specs.declared.declaration.Decl.TheVariants as decl
use Rattle.sim_syntax.specs.declared.declaration.Field.{Field}
use Rattle.sim_syntax.specs.declared.declaration.Local.{Local}
use Rattle.sim_syntax.specs.declared.declaration.Local.TheVariants as local
use Rattle.sim_syntax.specs.declared.declaration.Param.{Param}
use Rattle.sim_syntax.specs.declared.declaration.ParamKind.{ParamKind}
use Rattle.sim_syntax.specs.declared.declaration.ParamKind.TheVariants as param
use Rattle.sim_syntax.specs.declared.declaration.ResultDecl.{ResultDecl}
use Rattle.sim_syntax.specs.declared.statement.Stmt.{Stmt}
use Rattle.type_rules.specs.Types.{scale_of}
use Rattle.type_rules.specs.Rules.{first_kind, declared_rule, rank, is_missing, is_scale_past, or_zero}
use Rattle.type_rules.specs.declared.types.BlockShape.{BlockShape}
use Rattle.type_rules.specs.declared.types.BlockShape.TheVariants.{Number}
use Rattle.type_rules.specs.declared.types.NodeType.{NodeType}
use Rattle.type_rules.specs.declared.types.NodeType.TheVariants as type
use Rattle.type_rules.specs.declared.types.TypeKind.{TypeKind}
use Rattle.type_rules.specs.declared.types.TypeKind.TheVariants as kind
use Rattle.typed_tree.specs.declared.fault.CheckFault.{CheckFault}
use Rattle.typed_tree.specs.declared.fault.CheckFault.TheVariants.{IllTyped}
use Rattle.typed_tree.specs.declared.function.Endpoints.{Endpoints}
use Rattle.typed_tree.specs.declared.function.FunctionStmt.{FunctionStmt}
use Rattle.typed_tree.specs.declared.function.FunctionStmt.TheOpen.{FunctionStmt-F}
use Rattle.typed_tree.specs.declared.function.FunctionStmt.TheFolds.{fold-FunctionStmt}
use Rattle.typed_tree.specs.declared.function.ParameterType.{ParameterType}
use Rattle.typed_tree.specs.declared.function.ParameterType.TheVariants as parameter
use Rattle.typed_tree.specs.declared.function.ResultSide.{ResultSide}
use Rattle.typed_tree.specs.declared.function.Signature.{Signature}
use Rattle.typed_tree.specs.declared.function.TypedFunction.{TypedFunction}
use Rattle.typed_tree.specs.declared.function.TypedResult.{TypedResult}
use Rattle.typed_tree.specs.declared.function.WrittenPlace.{WrittenPlace}
use Rattle.typed_tree.specs.declared.function.WrittenPlace.TheVariants as place
use Rattle.typed_tree.specs.declared.environment.Declarations.{Declarations}
use Rattle.typed_tree.specs.declared.environment.Environment.{Environment}
use Rattle.typed_tree.specs.declared.environment.Walk.{Walk}
use Rattle.typed_tree.specs.declared.names.HostArguments.{HostArguments}
use Rattle.typed_tree.specs.declared.names.HostArguments.TheVariants as arguments
use Rattle.typed_tree.specs.declared.names.Meaning.{Meaning}
use Rattle.typed_tree.specs.declared.names.Meaning.TheVariants as meaning
use Rattle.typed_tree.specs.declared.program.ElementType.{ElementType}
use Rattle.typed_tree.specs.declared.program.TypedField.{TypedField}
use Rattle.typed_tree.specs.declared.program.SetShape.{SetShape}
use Rattle.typed_tree.specs.declared.program.TypedSet.{TypedSet}
use Rattle.typed_tree.specs.Names.{Known, Name, meaning_of, is_known, with_meaning}
use Rattle.typed_tree.specs.Literals.{whole}
use Rattle.typed_tree.specs.Steps.{Step, at_line, several}
use Rattle.typed_tree.specs.Lookups.{fields_of, element_named, set_named}
use Rattle.typed_tree.specs.Walking.{ended, is_visible, naming, naming_local, with_declarations, with_names}
use Rattle.typed_tree.specs.Functions.{statements}
use Rattle.typed_tree.specs.Cost.{body_cost, entries_in}

-- ---- several rules of one node

-- what a rule answers, unless a fault of another kind comes before its own
unfoldable pub unless : {A : Type 0} → Option TypeKind → Result A TypeKind → Result A TypeKind
unless None rule = rule
unless (Some fault) (Ok value) = Err fault
unless (Some fault) (Err other) = if nat_lt (rank other) (rank fault) then Err other else Err fault

-- no fault
abbrev pub faultless : Option TypeKind → Result (Unit {0}) TypeKind
faultless None = Ok tt
faultless (Some fault) = Err fault

-- ---- blocks

abbrev pub sides_of : Local → List (Option ℕ)
sides_of (local.Int line scale) = []
sides_of (local.Vector line side scale) = whole side ∷ []
sides_of (local.Matrix line rows columns scale) = whole rows ∷ whole columns ∷ []

abbrev pub digits_of : Local → List ℕ
digits_of (local.Int line scale) = scale
digits_of (local.Vector line side scale) = scale
digits_of (local.Matrix line rows columns scale) = scale

-- a block that is declared, with a scale up to a limit
unfoldable pub block_rule_up_to : ℕ → Local → Result NodeType TypeKind
block_rule_up_to most block = declared_rule most (sides_of block) (whole (digits_of block))

abbrev pub block_in : NodeType → BlockShape
block_in (type.Local block scale) = block
block_in (type.SystemVector set block scale) = block
block_in (type.SystemMatrix rows columns block scale) = block

-- ---- element types

-- the name of the column of the endpoints at a position: `p` and the position in decimal
abbrev pub endpoint_column : ℕ → Name
endpoint_column position = codes "p" ++ decimal position

-- the names of a table's own columns: `key`, and those of endpoints
abbrev pub is_reserved : Name → Bool
is_reserved name = bytes_eq name (codes "key") || list_any (λ position. bytes_eq name (endpoint_column position)) (range_with_len 0 MOST_ENDPOINTS)

abbrev pub taken : Bool → Option TypeKind
taken true = Some kind.Twice
taken false = None

-- a field, after those whose names are known
unfoldable pub field_rule : Known → Field → Result TypedField TypeKind
field_rule known field =
    unless (taken (is_known known field.name || is_reserved field.name)) (block_rule_up_to MOST_FIELD_SCALE field.local)
    >>= λ type. Ok (record { name = field.name; block = block_in type; scale = scale_of type })

abbrev pub Fields : Type 0
Fields = List TypedField × Known

unfoldable pub with_field : Fields → Field → Result Fields CheckFault
with_field so_far field = at_line field.line (field_rule so_far.1 field) >>= λ f. Ok (so_far.0 ++ f ∷ [], with_meaning so_far.1 field.name meaning.Taken)

unfoldable pub element_fault : Bool → ℕ → Option TypeKind
element_fault taken fields = first_kind ((kind.Twice, taken) ∷ (kind.TooLarge, nat_lt MOST_FIELDS fields) ∷ [])

abbrev pub declaring : Walk → Declarations → Name → Meaning → Walk
declaring walk declarations name meaning = naming (record {
  environment = with_declarations walk.environment declarations;
  nodes = walk.nodes;
  statements = walk.statements;
  locals = walk.locals;
}) name meaning

unfoldable pub with_element : Walk → Name → List TypedField → Walk
with_element walk name fields =
    let known = walk.environment.declarations in
    declaring walk (record {
      elements = known.elements ++ record { fields = fields } ∷ [];
      sets = known.sets;
      functions = known.functions;
      variables = known.variables;
    }) name (meaning.Element (length known.elements))

unfoldable pub element_decl : ℕ → Name → List Field → Walk → Result Walk CheckFault
element_decl line name fields walk = do
  fs ← fold_result with_field ([], []) fields
  _ ← at_line line (faultless (element_fault (is_visible walk name) (length fs.0)))
  Ok (with_element walk name fs.0)

-- ---- sets

abbrev pub End : Type 0
End = Option (ℕ × SetShape)

-- the endpoints lie in one set, which is a vertex set
abbrev pub lies_in : ℕ → End → Bool
lies_in number None = false
lies_in number (Some set) = set.0 == number

abbrev pub lie_together : List End → Bool
lie_together [] = true
lie_together (None ∷ ends) = false
lie_together (Some set ∷ ends) = is_none set.1.over && list_all (lies_in set.0) ends

abbrev pub over_of : List End → Option ℕ
over_of [] = None
over_of (None ∷ ends) = None
over_of (Some set ∷ ends) = Some set.0

-- the columns of fields
abbrev pub columns_of : List TypedField → ℕ
columns_of fields = sum_by (λ field. entries_in field.block) fields

unfoldable pub set_fault : Bool → Bool → List End → List TypedField → ℕ → Option TypeKind
set_fault unknown taken ends fields sets =
    first_kind ((kind.Unknown, unknown || list_any is_none ends) ∷ (kind.Twice, taken)
    ∷ (kind.Shape, (length ends == 0) && (columns_of fields == 0)) ∷ (kind.Set, not (lie_together ends))
    ∷ (kind.TooLarge, nat_lt MOST_ENDPOINTS (length ends) || nat_lt MOST_COLUMNS (length ends + columns_of fields) || not (nat_lt sets MOST_SETS)) ∷ [])

abbrev pub fields_named : Environment → Option ℕ → List TypedField
fields_named env None = []
fields_named env (Some element) = fields_of env.declarations element

unfoldable pub with_set : Walk → Name → ℕ → List End → Walk
with_set walk name element ends =
    let known = walk.environment.declarations in
    declaring walk (record {
      elements = known.elements;
      sets = known.sets ++ record { name = name; shape = record { element = element; over = over_of ends; arity = length ends } } ∷ [];
      functions = known.functions;
      variables = known.variables;
    }) name (meaning.Set (length known.sets))

unfoldable pub set_decl : ℕ → Name → Name → List Name → Walk → Result Walk CheckFault
set_decl line name element ends walk = do
  let env = walk.environment
  let found = map (set_named env) ends
  let of = element_named env element
  _ ← at_line line (faultless (set_fault (is_none of) (is_visible walk name) found (fields_named env of) (length env.declarations.sets)))
  Ok (with_set walk name (or_zero of) found)

-- ---- parameters and results

unfoldable pub count_fault : Bool → Bool → Option ℕ → Option TypeKind
count_fault unknown taken count =
    first_kind ((kind.Unknown, unknown) ∷ (kind.Twice, taken) ∷ (kind.NotConstant, is_missing count)
    ∷ (kind.TooLarge, (or_zero count == 0) || nat_lt MOST_ENDPOINTS (or_zero count)) ∷ [])

unfoldable pub parameter_rule : Walk → Name → ParamKind → Result ParameterType TypeKind
parameter_rule walk name (param.Int line scale) =
    unless (taken (is_visible walk name)) (declared_rule MOST_SCALE [] (whole scale)) >>= λ type. Ok (parameter.Scalar (scale_of type))
parameter_rule walk name (param.Element line element) =
    let of = element_named walk.environment element in
    faultless (first_kind ((kind.Unknown, is_none of) ∷ (kind.Twice, is_visible walk name) ∷ [])) >>= λ _. Ok (parameter.Element (or_zero of))
parameter_rule walk name (param.Ends line element count) =
    let of = element_named walk.environment element in
    faultless (count_fault (is_none of) (is_visible walk name) (whole count))
    >>= λ _. Ok (parameter.Ends (record { element = or_zero of; count = or_zero (whole count) }))

unfoldable pub with_parameter : Walk → Name → ParameterType → Walk
with_parameter walk name (parameter.Scalar scale) = naming_local walk name (meaning.Parameter walk.locals scale)
with_parameter walk name (parameter.Element element) = naming walk name (meaning.Own element)
with_parameter walk name (parameter.Ends ends) = naming walk name (meaning.Ends ends.element ends.count)

unfoldable pub parameter_step : Param → Step Walk ParameterType
parameter_step p walk = at_line p.line (parameter_rule walk p.name p.kind) >>= λ type. Ok (type, with_parameter walk p.name type)

-- a vector result has no matrix block, and a matrix result no vector block
abbrev pub is_block_of : Option Name → Local → Bool
is_block_of None (local.Matrix line rows columns scale) = false
is_block_of (Some set) (local.Vector line side scale) = false
is_block_of columns block = true

abbrev pub number_of : End → ℕ
number_of None = 0
number_of (Some set) = set.0

-- a result's columns are unknown
abbrev pub is_unknown_set : Environment → Option Name → Bool
is_unknown_set env None = false
is_unknown_set env (Some name) = is_none (set_named env name)

abbrev pub over_sets : ℕ → Option ℕ → BlockShape → ℕ → NodeType
over_sets rows None block scale = type.SystemVector rows block scale
over_sets rows (Some columns) block scale = type.SystemMatrix rows columns block scale

abbrev pub system_type : Environment → ResultDecl → NodeType → NodeType
system_type env r block =
    over_sets (number_of (set_named env r.rows)) (option_map (λ name. number_of (set_named env name)) r.columns) (block_in block) (scale_of block)

unfoldable pub result_rule : Walk → ResultDecl → Result NodeType TypeKind
result_rule walk r =
    let env = walk.environment in
    unless (first_kind ((kind.Unknown, is_none (set_named env r.rows) || is_unknown_set env r.columns) ∷ (kind.Twice, is_visible walk r.name)
    ∷ (kind.Shape, not (is_block_of r.columns r.block)) ∷ []))
    (block_rule_up_to MOST_SCALE r.block)
    >>= λ type. Ok (system_type env r type)

abbrev pub Results : Type 0
Results = List NodeType × Walk

unfoldable pub with_result : Results → ResultDecl → Result Results CheckFault
with_result so_far r =
    at_line r.line (result_rule so_far.1 r) >>= λ type. Ok (so_far.0 ++ type ∷ [], naming so_far.1 r.name (meaning.Result (length so_far.0) type))

-- ---- functions

abbrev pub scale_in : ParameterType → Option ℕ
scale_in (parameter.Scalar scale) = Some scale
scale_in other = None

abbrev pub is_scalar_parameter : ParameterType → Bool
is_scalar_parameter parameter = not (is_none (scale_in parameter))

-- scalars, then an element, then maybe endpoints
abbrev pub signature_of : List ParameterType → Option Signature
signature_of (parameter.Scalar scale ∷ parameters) =
    option_map (λ s. record { arguments = scale ∷ s.arguments; element = s.element; endpoints = s.endpoints }) (signature_of parameters)
signature_of (parameter.Element element ∷ []) = Some (record { arguments = []; element = element; endpoints = None })
signature_of (parameter.Element element ∷ parameter.Ends ends ∷ []) = Some (record { arguments = []; element = element; endpoints = Some ends })
signature_of parameters = None

-- whether a statement writes to a result at a place, in a position of it, that passes a test
abbrev pub passes : (WrittenPlace → Bool) → Option WrittenPlace → Bool
passes test None = false
passes test (Some place) = test place

abbrev pub any_true : List Bool → Bool
any_true = list_any (λ holds. holds)

abbrev pub is_written_node : ℕ → ℕ → (WrittenPlace → Bool) → FunctionStmt-F Bool → Bool
is_written_node result position test (FunctionStmt-F.Write line r places value) = (r == result) && passes test (slice_get places position)
is_written_node result position test (FunctionStmt-F.Loop line local from to body) = any_true body
is_written_node result position test (FunctionStmt-F.If line cond body otherwise) = any_true body || any_true otherwise
is_written_node result position test (FunctionStmt-F.Var line local value) = false
is_written_node result position test (FunctionStmt-F.Assign line local value) = false
is_written_node result position test (FunctionStmt-F.Assert line cond) = false

abbrev pub is_written : ℕ → ℕ → (WrittenPlace → Bool) → List FunctionStmt → Bool
is_written result position test body = any_true (map (fold-FunctionStmt Bool (is_written_node result position test)) body)

abbrev pub is_element_place : WrittenPlace → Bool
is_element_place place.Element = true
is_element_place (place.Endpoint index) = false

abbrev pub is_endpoint_place : WrittenPlace → Bool
is_endpoint_place place = not (is_element_place place)

abbrev pub side : List FunctionStmt → ℕ → ℕ → ℕ → ResultSide
side body result position set = record {
  set = set;
  at_element = is_written result position is_element_place body;
  at_endpoint = is_written result position is_endpoint_place body;
}

abbrev pub typed_result : List FunctionStmt → ℕ → NodeType → TypedResult
typed_result body result (type.SystemMatrix rows columns block scale) =
    record { rows = side body result 0 rows; columns = Some (side body result 1 columns); block = block; scale = scale }
typed_result body result (type.SystemVector set block scale) = record { rows = side body result 0 set; columns = None; block = block; scale = scale }
typed_result body result (type.Local block scale) = record { rows = side body result 0 0; columns = None; block = block; scale = scale }

abbrev pub typed_results : List FunctionStmt → ℕ → List NodeType → List TypedResult
typed_results body number [] = []
typed_results body number (type ∷ types) = typed_result body number type ∷ typed_results body (suc number) types

unfoldable pub function_fault : Bool → List ParameterType → ℕ → ℕ → Option TypeKind
function_fault taken parameters results cost =
    first_kind ((kind.Twice, taken) ∷ (kind.Shape, is_none (signature_of parameters))
    ∷ (kind.TooLarge, nat_lt MOST_ARGUMENTS (length (filter is_scalar_parameter parameters)) || nat_lt MOST_RESULTS results || nat_lt MOST_FUNCTION_COST cost) ∷ [])

-- the signature where there is one
abbrev pub signed : Option Signature → Signature
signed None = record { arguments = []; element = 0; endpoints = None }
signed (Some signature) = signature

unfoldable pub function_of : Name → Signature → List NodeType → List FunctionStmt → TypedFunction
function_of name signature results body = record {
  name = name;
  arguments = signature.arguments;
  element = signature.element;
  endpoints = signature.endpoints;
  results = typed_results body 0 results;
  body = body;
}

unfoldable pub with_function : Walk → TypedFunction → Walk
with_function walk function =
    let known = walk.environment.declarations in
    declaring walk (record {
      elements = known.elements;
      sets = known.sets;
      functions = known.functions ++ function ∷ [];
      variables = known.variables;
    }) function.name (meaning.Function (length known.functions))

-- a function's parameters, results and variables are visible in it alone
unfoldable pub func_decl : ℕ → Name → List Param → List ResultDecl → List Stmt → Walk → Result Walk CheckFault
func_decl line name params results body walk = do
  ps ← several (map parameter_step params) walk
  rs ← fold_result with_result ([], ps.1) results
  b ← statements body rs.1
  _ ← at_line line (faultless (function_fault (is_visible walk name) ps.0 (length rs.0) (body_cost b.0)))
  Ok (with_function (ended walk b.1) (function_of name (signed (signature_of ps.0)) rs.0 b.0))

-- ---- host functions

-- a host function by its name: its number in the table, and its entry
abbrev pub host_by_name : List HostName → Name → Option (ℕ × HostName)
host_by_name hosts name =
    option_and_then (λ number. option_map (λ host. (number, host)) (slice_get hosts number)) (position (λ host. bytes_eq host.name name) hosts)

abbrev pub number_in : Option (ℕ × HostName) → ℕ
number_in None = 0
number_in (Some host) = host.0

abbrev pub arity_in : Option (ℕ × HostName) → ℕ
arity_in None = 0
arity_in (Some host) = host.1.arity

-- a host function takes one argument or two
abbrev pub host_arguments : List (Option ℕ) → Option HostArguments
host_arguments (scale ∷ []) = Some (arguments.One (or_zero scale))
host_arguments (first ∷ second ∷ []) = Some (arguments.Two (or_zero first) (or_zero second))
host_arguments scales = None

-- the arguments where they are one or two
abbrev pub stated : Option HostArguments → HostArguments
stated None = arguments.One 0
stated (Some given) = given

-- why a host function may not be declared so, with the scales of its arguments and of its result
unfoldable pub host_fault : Option (ℕ × HostName) → Bool → List (Option ℕ) → Option ℕ → Option TypeKind
host_fault host taken scales result =
    first_kind ((kind.Unknown, is_none host) ∷ (kind.Twice, taken) ∷ (kind.NotConstant, is_missing result || list_any is_missing scales)
    ∷ (kind.Shape, not (length scales == arity_in host) || is_none (host_arguments scales))
    ∷ (kind.Scale, is_scale_past MOST_SCALE result || list_any (is_scale_past MOST_SCALE) scales) ∷ [])

unfoldable pub host_decl : List HostName → ℕ → Name → List (List ℕ) → List ℕ → Walk → Result Walk CheckFault
host_decl hosts line name args result walk = do
  let host = host_by_name hosts name
  let scales = map whole args
  _ ← at_line line (faultless (host_fault host (is_visible walk name) scales (whole result)))
  Ok (naming walk name (meaning.Host (record { number = number_in host; arguments = stated (host_arguments scales); scale = or_zero (whole result) })))

-- ---- all declarations

unfoldable pub declaration : List HostName → Walk → Decl → Result Walk CheckFault
declaration hosts walk (decl.Element line name fields) = element_decl line name fields walk
declaration hosts walk (decl.Set line name element ends) = set_decl line name element ends walk
declaration hosts walk (decl.Host line name args result) = host_decl hosts line name args result walk
declaration hosts walk (decl.Func line name params results body) = func_decl line name params results body walk
