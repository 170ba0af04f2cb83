-- Which declarations are typings of a declaration: what each makes known, after the declarations before it.
use Rattle.std.specs.Prelude.{◌≡◌, ℕ, suc, ◌+◌, ◌<◌, ◌≤◌, List, [], ◌∷◌, ◌++◌, length, map, codes, slice_get, Option, Some, None}
use Rattle.vocabulary.specs.declared.limits.TheConstants.{MOST_ARGUMENTS, MOST_COLUMNS, MOST_ENDPOINTS, MOST_FIELD_SCALE, MOST_FIELDS, MOST_FUNCTION_COST, MOST_RESULTS, MOST_SCALE, MOST_SETS, MOST_SIDE}
use Rattle.host_table.specs.declared.table.HostName.{HostName}
use Rattle.sim_syntax.specs.declared.declaration.Decl.{Decl}
use Rattle.sim_syntax.specs.declared.declaration.Decl.TheVariants as decl
use Rattle.sim_syntax.specs.declared.declaration.Field.{Field}
use Rattle.sim_syntax.specs.declared.declaration.Local as block_tree
use Rattle.sim_syntax.specs.declared.declaration.Local.TheVariants as written
use Rattle.sim_syntax.specs.declared.declaration.Param.{Param}
use Rattle.sim_syntax.specs.declared.declaration.ParamKind.TheVariants as param
use Rattle.sim_syntax.specs.declared.declaration.ResultDecl.{ResultDecl}
use Rattle.sim_syntax.specs.declared.statement.Stmt.{Stmt}
use Rattle.type_rules.specs.declared.types.BlockShape.{BlockShape}
use Rattle.type_rules.specs.declared.types.BlockShape.TheVariants.{Number, Vector, Matrix}
use Rattle.type_rules.specs.declared.types.NodeType.{NodeType}
use Rattle.type_rules.specs.declared.types.NodeType.TheVariants.{SystemVector, SystemMatrix}
use Rattle.typed_tree.specs.declared.environment.Declarations.{Declarations}
use Rattle.typed_tree.specs.declared.environment.Environment.{Environment}
use Rattle.typed_tree.specs.declared.environment.Walk.{Walk}
use Rattle.typed_tree.specs.declared.function.Endpoints.{Endpoints}
use Rattle.typed_tree.specs.declared.function.FunctionStmt.{FunctionStmt}
use Rattle.typed_tree.specs.declared.function.ParameterType.{ParameterType}
use Rattle.typed_tree.specs.declared.function.ParameterType.TheVariants as parameter
use Rattle.typed_tree.specs.declared.function.Signature.{Signature}
use Rattle.typed_tree.specs.declared.function.TypedFunction.{TypedFunction}
use Rattle.typed_tree.specs.declared.function.TypedResult.{TypedResult}
use Rattle.typed_tree.specs.declared.names.HostArguments.{HostArguments}
use Rattle.typed_tree.specs.declared.names.HostArguments.TheVariants as arguments
use Rattle.typed_tree.specs.declared.names.Meaning.TheVariants as meaning
use Rattle.typed_tree.specs.declared.program.ElementType.{ElementType}
use Rattle.typed_tree.specs.declared.program.TypedField.{TypedField}
use Rattle.typed_tree.specs.declared.program.TypedSet.{TypedSet}
use Rattle.typed_tree.specs.Names.{Name}
use Rattle.typed_tree.specs.Literals.{whole}
use Rattle.typed_tree.specs.Lookups.{fields_of}
use Rattle.typed_tree.specs.Walking.{naming, naming_local}
use Rattle.typed_tree.specs.Cost.{body_cost}
use Rattle.typed_tree.specs.Declarations.{columns_of, declaring, endpoint_column}
use Rattle.typing_laws.specs.References.{Means}
use Rattle.typing_laws.specs.Scopes.{IsNew, leaving}
use Rattle.typing_laws.specs.Lists.{Each, InTurn}
use Rattle.typing_laws.specs.FunctionStatements.{IsBodyTyping}
use Rattle.typing_laws.specs.ResultSides.{AreTypedResults}

-- ---- blocks

-- digits are a whole number up to a limit
abbrev pub IsWhole : ℕ → List ℕ → ℕ → Type 0
IsWhole most digits number = (whole digits ≡ Some number) × (number ≤ most)

-- the same of one that is at least 1
abbrev pub IsSize : ℕ → List ℕ → ℕ → Type 0
IsSize most digits number = (whole digits ≡ Some number) × (1 ≤ number) × (number ≤ most)

-- a block that is declared: its shape, and its scale, which is at most so large
pub data IsBlock (most : ℕ) : block_tree.Local → BlockShape → ℕ → Type 0 where
  number_block : (line : ℕ) (digits : List ℕ) (scale : ℕ) → IsWhole most digits scale → IsBlock most (written.Int line digits) Number scale
  vector_block : (line : ℕ) (side digits : List ℕ) (n scale : ℕ) → IsSize MOST_SIDE side n → IsWhole most digits scale
      → IsBlock most (written.Vector line side digits) (Vector n) scale
  matrix_block : (line : ℕ) (rows columns digits : List ℕ) (m n scale : ℕ) → IsSize MOST_SIDE rows m → IsSize MOST_SIDE columns n → IsWhole most digits scale
      → IsBlock most (written.Matrix line rows columns digits) (Matrix m n) scale

-- ---- element types

-- a name that a table's own columns don't have: `key`, and those of endpoints
pub record IsFree (name : Name) : Type 0 where
  pub key : name ≡ codes "key" → ⊥
  pub endpoints : (position : ℕ) → position < MOST_ENDPOINTS → name ≡ endpoint_column position → ⊥

-- a name that none of these fields has
abbrev pub IsNewField : List TypedField → Name → Type 0
IsNewField before name = Each (λ f. f.name ≡ name → ⊥) before

-- fields after others of the same element type
pub data AreFields : List TypedField → List Field → List TypedField → Type 0 where
  none : (before : List TypedField) → AreFields before [] []
  one_more : (before : List TypedField) (field : Field) (fields : List Field) (block : BlockShape) (scale : ℕ) (others : List TypedField)
      → IsNewField before field.name → IsFree field.name → IsBlock MOST_FIELD_SCALE field.local block scale
      → AreFields (before ++ record { name = field.name; block = block; scale = scale } ∷ []) fields others
      → AreFields before (field ∷ fields) (record { name = field.name; block = block; scale = scale } ∷ others)

-- ---- sets

-- a name stands for a vertex set
abbrev pub IsVertexSet : Environment → ℕ → Name → Type 0
IsVertexSet env number name = Means env name (meaning.Set number) × ((set : TypedSet) × (slice_get env.declarations.sets number ≡ Some set) × (set.shape.over ≡ None))

-- where endpoints lie: all in one vertex set; what has none lies in none
pub data LieIn (env : Environment) : List Name → Option ℕ → Type 0 where
  nowhere : LieIn env [] None
  together : (name : Name) (names : List Name) (number : ℕ) → Each (IsVertexSet env number) (name ∷ names) → LieIn env (name ∷ names) (Some number)

-- the columns of a table are at least 1 and at most so many
abbrev pub HasColumns : ℕ → List TypedField → Type 0
HasColumns ends fields = (1 ≤ ends + columns_of fields) × (ends + columns_of fields ≤ MOST_COLUMNS)

-- ---- parameters and results

-- from what is known before a parameter to what is known after it
pub data IsParameter : Param → ParameterType → Walk → Walk → Type 0 where
  scalar_parameter : (p : Param) (line : ℕ) (digits : List ℕ) (scale : ℕ) (walk : Walk) → p.kind ≡ param.Int line digits → IsWhole MOST_SCALE digits scale → IsNew walk p.name
      → IsParameter p (parameter.Scalar scale) walk (naming_local walk p.name (meaning.Parameter walk.locals scale))
  element_parameter : (p : Param) (line : ℕ) (name : Name) (element : ℕ) (walk : Walk) → p.kind ≡ param.Element line name
      → Means walk.environment name (meaning.Element element) → IsNew walk p.name
      → IsParameter p (parameter.Element element) walk (naming walk p.name (meaning.Own element))
  ends_parameter : (p : Param) (line : ℕ) (name : Name) (digits : List ℕ) (element count : ℕ) (walk : Walk) → p.kind ≡ param.Ends line name digits
      → Means walk.environment name (meaning.Element element) → IsSize MOST_ENDPOINTS digits count → IsNew walk p.name
      → IsParameter p (parameter.Ends (record { element = element; count = count })) walk (naming walk p.name (meaning.Ends element count))

-- scalars, then an element, then maybe endpoints
pub data IsSignature : List ParameterType → Signature → Type 0 where
  no_ends : (scales : List ℕ) (element : ℕ)
      → IsSignature (map parameter.Scalar scales ++ parameter.Element element ∷ []) (record { arguments = scales; element = element; endpoints = None })
  with_ends : (scales : List ℕ) (element : ℕ) (ends : Endpoints)
      → IsSignature (map parameter.Scalar scales ++ parameter.Element element ∷ parameter.Ends ends ∷ [])
      (record { arguments = scales; element = element; endpoints = Some ends })

-- a name stands for a set that is declared
abbrev pub IsSet : Environment → Name → ℕ → Type 0
IsSet env name number = Means env name (meaning.Set number) × ((set : TypedSet) × (slice_get env.declarations.sets number ≡ Some set))

-- blocks of system vectors are no matrices, and those of system matrices no vectors
abbrev pub IsVectorBlock : BlockShape → Type 0
IsVectorBlock (Matrix m n) = ⊥
IsVectorBlock block = Unit {0}

abbrev pub IsMatrixBlock : BlockShape → Type 0
IsMatrixBlock (Vector n) = ⊥
IsMatrixBlock block = Unit {0}

-- the type of a result: a vector over a set, or a matrix over two
pub data IsResult (env : Environment) : ResultDecl → NodeType → Type 0 where
  vector_result : (r : ResultDecl) (rows : ℕ) (block : BlockShape) (scale : ℕ) → r.columns ≡ None → IsSet env r.rows rows
      → IsBlock MOST_SCALE r.block block scale → IsVectorBlock block → IsResult env r (SystemVector rows block scale)
  matrix_result : (r : ResultDecl) (name : Name) (rows columns : ℕ) (block : BlockShape) (scale : ℕ) → r.columns ≡ Some name → IsSet env r.rows rows → IsSet env name columns
      → IsBlock MOST_SCALE r.block block scale → IsMatrixBlock block → IsResult env r (SystemMatrix rows columns block scale)

-- results from a number on, each of which is named after those before it
pub data AreResults : ℕ → List ResultDecl → List NodeType → Walk → Walk → Type 0 where
  none : (number : ℕ) (walk : Walk) → AreResults number [] [] walk walk
  one_more : (number : ℕ) (r : ResultDecl) (rs : List ResultDecl) (type : NodeType) (types : List NodeType) (walk after : Walk)
      → IsResult walk.environment r type → IsNew walk r.name → AreResults (suc number) rs types (naming walk r.name (meaning.Result number type)) after
      → AreResults number (r ∷ rs) (type ∷ types) walk after

-- ---- host functions

-- a host function stands at a number of the table: its entry has the name, and no earlier one has it
pub record IsHost (hosts : List HostName) (name : Name) (number : ℕ) (host : HostName) : Type 0 where
  pub entry : slice_get hosts number ≡ Some host
  pub has_name : host.name ≡ name
  pub first : (earlier : ℕ) (other : HostName) → earlier < number → slice_get hosts earlier ≡ Some other → other.name ≡ name → ⊥

-- the scales of the arguments of a host function, which are one or two
pub data AreHostArguments : List (List ℕ) → HostArguments → Type 0 where
  one : (digits : List ℕ) (scale : ℕ) → IsWhole MOST_SCALE digits scale → AreHostArguments (digits ∷ []) (arguments.One scale)
  two : (first_digits second_digits : List ℕ) (first second : ℕ) → IsWhole MOST_SCALE first_digits first → IsWhole MOST_SCALE second_digits second
      → AreHostArguments (first_digits ∷ second_digits ∷ []) (arguments.Two first second)

-- ---- declarations

-- what is declared, with an element type, a set or a function more
abbrev pub and_element : Declarations → ElementType → Declarations
and_element known element =
    record { elements = known.elements ++ element ∷ []; sets = known.sets; functions = known.functions; variables = known.variables }

abbrev pub and_set : Declarations → TypedSet → Declarations
and_set known set = record { elements = known.elements; sets = known.sets ++ set ∷ []; functions = known.functions; variables = known.variables }

abbrev pub and_function : Declarations → TypedFunction → Declarations
and_function known function =
    record { elements = known.elements; sets = known.sets; functions = known.functions ++ function ∷ []; variables = known.variables }

-- a function of a signature, with its results and its body
abbrev pub function_with : Name → Signature → List TypedResult → List FunctionStmt → TypedFunction
function_with name signature results body = record {
  name = name;
  arguments = signature.arguments;
  element = signature.element;
  endpoints = signature.endpoints;
  results = results;
  body = body;
}

-- From what is known before a declaration to what is known after it, by what the host offers: it has a new name, which
-- stands for the next of its sort, or for a function of the host.
pub data IsDeclaration (hosts : List HostName) : Decl → Walk → Walk → Type 0 where
  element_type : (line : ℕ) (name : Name) (fields : List Field) (typed : List TypedField) (walk : Walk)
      → AreFields [] fields typed → length typed ≤ MOST_FIELDS → IsNew walk name
      → IsDeclaration hosts (decl.Element line name fields) walk
      (declaring walk (and_element walk.environment.declarations (record { fields = typed })) name (meaning.Element (length walk.environment.declarations.elements)))
  new_set : (line : ℕ) (name element_name : Name) (ends : List Name) (element : ℕ) (over : Option ℕ) (walk : Walk)
      → Means walk.environment element_name (meaning.Element element) → LieIn walk.environment ends over → length ends ≤ MOST_ENDPOINTS
      → HasColumns (length ends) (fields_of walk.environment.declarations element) → length walk.environment.declarations.sets < MOST_SETS → IsNew walk name
      → IsDeclaration hosts (decl.Set line name element_name ends) walk
      (declaring walk (and_set walk.environment.declarations (record { name = name; shape = record { element = element; over = over; arity = length ends } }))
      name (meaning.Set (length walk.environment.declarations.sets)))
  new_function : (line : ℕ) (name : Name) (params : List Param) (results : List ResultDecl) (body : List Stmt) (types : List ParameterType) (signature : Signature)
      (result_types : List NodeType) (done : List FunctionStmt) (typed : List TypedResult) (walk named begun after : Walk)
      → InTurn IsParameter params types walk named → AreResults 0 results result_types named begun → IsBodyTyping body done begun after
      → AreTypedResults done 0 result_types typed
      → IsSignature types signature → length signature.arguments ≤ MOST_ARGUMENTS → length result_types ≤ MOST_RESULTS → body_cost done ≤ MOST_FUNCTION_COST
      → IsNew walk name
      → IsDeclaration hosts (decl.Func line name params results body) walk
      (declaring (leaving walk after) (and_function after.environment.declarations (function_with name signature typed done))
      name (meaning.Function (length after.environment.declarations.functions)))
  host_function : (line : ℕ) (name : Name) (args : List (List ℕ)) (result : List ℕ) (number : ℕ) (host : HostName) (scales : HostArguments) (scale : ℕ) (walk : Walk)
      → IsHost hosts name number host → length args ≡ host.arity → AreHostArguments args scales → IsWhole MOST_SCALE result scale → IsNew walk name
      → IsDeclaration hosts (decl.Host line name args result) walk
      (naming walk name (meaning.Host (record { number = number; arguments = scales; scale = scale })))

-- declarations one after the other
pub data AreDeclarations (hosts : List HostName) : List Decl → Walk → Walk → Type 0 where
  none : (walk : Walk) → AreDeclarations hosts [] walk walk
  one_more : (d : Decl) (ds : List Decl) (before between after : Walk)
      → IsDeclaration hosts d before between → AreDeclarations hosts ds between after → AreDeclarations hosts (d ∷ ds) before after
