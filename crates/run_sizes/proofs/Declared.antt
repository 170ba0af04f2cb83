-- What is known before the main procedure: sets, element types and functions alone, and results of blocks that may be declared.
use Rattle.std.proofs.Common.{◌≡◌, ◌⊎◌, ℕ, suc, ◌≤◌, List, length, Some, None, refl, sym, ◌∙◌, subst, inl, inr, arith}
use Rattle.std.specs.Prelude.{slice_get}
use Rattle.std.proofs.lemmas.List.{length-replicate}
use Rattle.host_table.specs.declared.table.HostName.{HostName}
use Rattle.hypergraph.specs.SetValue.{SetValue}
use Rattle.sim_syntax.specs.declared.declaration.Decl.{Decl}
use Rattle.sim_syntax.specs.declared.declaration.Param.{Param}
use Rattle.sim_syntax.specs.declared.declaration.ResultDecl.{ResultDecl}
use Rattle.sim_syntax.specs.declared.program.Program.{Program}
use Rattle.sim_syntax.specs.declared.statement.Stmt.{Stmt}
use Rattle.type_rules.specs.declared.types.NodeType.{NodeType}
use Rattle.type_rules.specs.declared.types.NodeType.TheVariants as type
use Rattle.typed_tree.specs.declared.environment.Declarations.{Declarations}
use Rattle.typed_tree.specs.declared.environment.Environment.{Environment}
use Rattle.typed_tree.specs.declared.environment.Walk.{Walk}
use Rattle.typed_tree.specs.declared.function.FunctionStmt.{FunctionStmt}
use Rattle.typed_tree.specs.declared.function.ParameterType.{ParameterType}
use Rattle.typed_tree.specs.declared.function.TypedFunction.{TypedFunction}
use Rattle.typed_tree.specs.declared.function.TypedResult.{TypedResult}
use Rattle.typed_tree.specs.declared.main_procedure.MainStmt.{MainStmt}
use Rattle.typed_tree.specs.declared.names.Meaning.{Meaning}
use Rattle.typed_tree.specs.declared.names.Meaning.TheVariants as meaning
use Rattle.typed_tree.specs.Declarations.{declaring}
use Rattle.typed_tree.specs.Names.{Name, meaning_of}
use Rattle.typing_laws.specs.Declarations.{AreDeclarations, AreResults, IsDeclaration, IsMatrixBlock, IsParameter, IsResult, IsVectorBlock, and_element, and_function, and_set, function_with}
use Rattle.typing_laws.specs.FunctionStatements.{AreStatementTypings, IsBodyTyping, IsStatementTyping}
use Rattle.typing_laws.specs.Lists.{Each, InTurn}
use Rattle.typing_laws.specs.Programs as programs
use Rattle.typing_laws.specs.Programs.{before_main, program_with}
use Rattle.typing_laws.specs.ResultSides.{AreTypedResults, IsTypedResult}
use Rattle.typing_laws.specs.Scopes.{leaving}
use Rattle.algebra_meaning.specs.Linked.{Answer, linked}
use Rattle.index_laws.specs.Sizes.{IsOfMain}
use Rattle.run_laws.specs.Runs as runs
use Rattle.run_sizes.proofs.Assigned.{AreProper, no_function}
use Rattle.run_sizes.proofs.Known.{KnownIn}
use Rattle.run_sizes.proofs.Lists.{get_grown}
use Rattle.run_sizes.proofs.Names.{GoesOn, found_after}
use Rattle.run_sizes.proofs.Sizes.{IsProper}

-- ---- functions declare nothing beside themselves

parameters_keep : (params : List Param) (types : List ParameterType) (walk after : Walk) → InTurn IsParameter params types walk after
    → after.environment.declarations ≡ walk.environment.declarations
parameters_keep params types walk after (InTurn.none here) = refl
parameters_keep params types walk after (InTurn.one_more p ps t ts here between end one others) = parameters_keep ps ts between end others ∙ parameter_keeps p t here between one
  where
    parameter_keeps : (p : Param) (t : ParameterType) (here between : Walk) → IsParameter p t here between → between.environment.declarations ≡ here.environment.declarations
    parameter_keeps p t here between (IsParameter.scalar_parameter q line digits scale w kind whole new) = refl
    parameter_keeps p t here between (IsParameter.element_parameter q line name element w kind means new) = refl
    parameter_keeps p t here between (IsParameter.ends_parameter q line name digits element count w kind means size new) = refl

results_keep : (number : ℕ) (results : List ResultDecl) (types : List NodeType) (walk after : Walk) → AreResults number results types walk after
    → after.environment.declarations ≡ walk.environment.declarations
results_keep number results types walk after (AreResults.none n here) = refl
results_keep number results types walk after (AreResults.one_more n r rs t ts here end is new others) = results_keep (suc n) rs ts _ end others

mutual
  statement_keeps : (s : Stmt) (t : FunctionStmt) (walk after : Walk) → IsStatementTyping s t walk after → after.environment.declarations ≡ walk.environment.declarations
  statement_keeps s t walk after (IsStatementTyping.variable line name e v here to typed new room) = refl
  statement_keeps s t walk after (IsStatementTyping.assignment line target e v local u same here to typed none means rule room) = refl
  statement_keeps s t walk after (IsStatementTyping.write line name places e v result u block same written here to typed means are has rule room) = refl
  statement_keeps s t walk after (IsStatementTyping.loop line name fd td from to body done here inner f_is t_is less few new typed room) = body_keeps body done _ inner typed
  statement_keeps s t walk after (IsStatementTyping.choice line cond body otherwise tested done other here to first second typed one two room) =
      body_keeps otherwise other (leaving here first) second two ∙ body_keeps body done _ first one
  statement_keeps s t walk after (IsStatementTyping.assertion line cond tested here to typed room) = refl

  body_keeps : (body : List Stmt) (done : List FunctionStmt) (walk after : Walk) → AreStatementTypings body done walk after
      → after.environment.declarations ≡ walk.environment.declarations
  body_keeps body done walk after (AreStatementTypings.none here) = refl
  body_keeps body done walk after (AreStatementTypings.one_more s rest t more here between end one others) =
      body_keeps rest more between end others ∙ statement_keeps s t here between one

function_keeps : (body : List Stmt) (done : List FunctionStmt) (walk after : Walk) → IsBodyTyping body done walk after
    → after.environment.declarations ≡ walk.environment.declarations
function_keeps body done walk after (IsBodyTyping.body statements typed here inner one) = body_keeps statements typed here inner one

-- ---- the blocks of results

abbrev IsResultType : NodeType → Type 0
IsResultType (type.Local block scale) = ⊥
IsResultType (type.SystemVector set block scale) = IsVectorBlock block
IsResultType (type.SystemMatrix rows columns block scale) = IsMatrixBlock block

result_proper : (env : Environment) (r : ResultDecl) (t : NodeType) → IsResult env r t → IsResultType t
result_proper env r t (IsResult.vector_result d rows block scale none set is proper) = proper
result_proper env r t (IsResult.matrix_result d name rows columns block scale some first second is proper) = proper

types_proper : (number : ℕ) (results : List ResultDecl) (types : List NodeType) (walk after : Walk) → AreResults number results types walk after → Each IsResultType types
types_proper number results types walk after (AreResults.none n here) = tt
types_proper number results types walk after (AreResults.one_more n r rs t ts here end is new others) =
    (result_proper here.environment r t is, types_proper (suc n) rs ts _ end others)

typed_proper : (body : List FunctionStmt) (number : ℕ) (types : List NodeType) (results : List TypedResult) → AreTypedResults body number types results → Each IsResultType types
    → Each IsProper results
typed_proper body number types results (AreTypedResults.none n) proper = tt
typed_proper body number types results (AreTypedResults.one_more n t ts r rs one others) proper = (of_type n t r one proper.0, typed_proper body (suc n) ts rs others proper.1)
  where
    of_type : (n : ℕ) (t : NodeType) (r : TypedResult) → IsTypedResult body n t r → IsResultType t → IsProper r
    of_type n t r (IsTypedResult.over_set set block scale rows side) is = is
    of_type n t r (IsTypedResult.over_sets set other block scale rows columns side along) is = is

-- ---- declarations

-- what a name stands for that is declared beside the main procedure
abbrev IsDeclared : Meaning → Type 0
IsDeclared (meaning.Element n) = Unit {0}
IsDeclared (meaning.Set n) = Unit {0}
IsDeclared (meaning.Function n) = Unit {0}
IsDeclared (meaning.Host host) = Unit {0}
IsDeclared other = ⊥

record Before (walk : Walk) : Type 0 where
  names : (name : Name) (what : Meaning) → meaning_of walk.environment.names name ≡ Some what → IsDeclared what
  locals : walk.locals ≡ 0
  proper : AreProper walk.environment.declarations.functions

one_named : (walk : Walk) (declarations : Declarations) (name : Name) (m : Meaning) → IsDeclared m → Before walk → AreProper declarations.functions
    → Before (declaring walk declarations name m)
one_named walk declarations name m is before proper = record {
  names = λ other what at. by_name other what (found_after walk.environment.names name m other what at);
  locals = before.locals;
  proper = proper;
}
  where
    by_name : (other : Name) (what : Meaning) → (what ≡ m) ⊎ (meaning_of walk.environment.names other ≡ Some what) → IsDeclared what
    by_name other what (inl same) = subst IsDeclared (sym same) is
    by_name other what (inr at) = before.names other what at

and_proper : (functions : List TypedFunction) (function : TypedFunction) → AreProper functions → Each IsProper function.results
    → (f : ℕ) (g : TypedFunction) → (function ≡ g) ⊎ (slice_get functions f ≡ Some g) → Each IsProper g.results
and_proper functions function all one f g (inl same) = subst (λ h. Each IsProper h.results) same one
and_proper functions function all one f g (inr at) = all f g at

declaration_before : (hosts : List HostName) (d : Decl) (walk after : Walk) → IsDeclaration hosts d walk after → Before walk → Before after
declaration_before hosts d walk after (IsDeclaration.element_type line name fields typed here are few new) before =
    one_named here (and_element here.environment.declarations (record { fields = typed })) name _ tt before before.proper
declaration_before hosts d walk after (IsDeclaration.new_set line name element_name ends element over here means lie few has room new) before =
    one_named here (and_set here.environment.declarations (record { name = name; shape = record { element = element; over = over; arity = length ends } })) name _ tt before before.proper
declaration_before hosts d walk after
    (IsDeclaration.new_function line name params results body types signature result_types done typed here named begun end parameters are made sides is few_arguments few_results cheap new) before =
    let same : end.environment.declarations ≡ here.environment.declarations =
    function_keeps body done begun end made ∙ results_keep 0 results result_types named begun are ∙ parameters_keep params types here named parameters in
    let all : AreProper end.environment.declarations.functions = subst (λ ds. AreProper ds.functions) (sym same) before.proper in
    let one : Each IsProper typed = typed_proper done 0 result_types typed sides (types_proper 0 results result_types named begun are) in
    let function = function_with name signature typed done in
    one_named (leaving here end) (and_function end.environment.declarations function) name _ tt
    (record { names = before.names; locals = before.locals; proper = all })
    (λ f g at. and_proper end.environment.declarations.functions function all one f g (get_grown end.environment.declarations.functions function g f at))
declaration_before hosts d walk after (IsDeclaration.host_function line name args result number host scales scale here is_host arity are whole new) before =
    one_named here here.environment.declarations name (meaning.Host (record { number = number; arguments = scales; scale = scale })) tt before before.proper

declarations_before : (hosts : List HostName) (ds : List Decl) (walk after : Walk) → AreDeclarations hosts ds walk after → Before walk → Before after
declarations_before hosts ds walk after (AreDeclarations.none here) before = before
declarations_before hosts ds walk after (AreDeclarations.one_more d rest here between end one others) before =
    declarations_before hosts rest between end others (declaration_before hosts d here between one before)

nothing_known : (what : Meaning) → None ≡ Some what → ⊥
nothing_known what is = cc

all_before : (hosts : List HostName) (ds : List Decl) (after : Walk) → AreDeclarations hosts ds programs.at_first after → Before after
all_before hosts ds after are = declarations_before hosts ds programs.at_first after are
    (record { names = λ name what at. absurd (nothing_known what at); locals = refl; proper = λ f function at. absurd (no_function function at) })

-- ---- the main procedure

of_main : (what : Meaning) → IsDeclared what → IsOfMain what
of_main (meaning.Element n) is = tt
of_main (meaning.Set n) is = tt
of_main (meaning.Function n) is = tt
of_main (meaning.Host host) is = tt
of_main (meaning.Parameter local scale) is = absurd is
of_main (meaning.Own element) is = absurd is
of_main (meaning.Ends element count) is = absurd is
of_main (meaning.Result result t) is = absurd is
of_main (meaning.Local local t) is = absurd is
of_main (meaning.Turn local range) is = absurd is
of_main (meaning.Variable n t) is = absurd is
of_main (meaning.Counter l) is = absurd is
of_main meaning.Taken is = absurd is

none_deep : (n : ℕ) → n ≡ 0 → n ≤ 0
none_deep n is = omega (arith, is)

-- before the first statement of a program what is known holds, for no variable is known
pub known_first : (hosts : List HostName) (answer : Answer) (ds : List Decl) (program : Program) (declared inner : Walk) (body : List MainStmt) (sets : List SetValue) (turns : ℕ) → AreDeclarations hosts ds programs.at_first declared
    → GoesOn (before_main declared) inner
    → KnownIn (linked answer (program_with program inner.environment.declarations body)) (before_main declared)
    (runs.at_first (linked answer (program_with program inner.environment.declarations body)) sets turns)
known_first hosts answer ds program declared inner body sets turns are grows =
    let before = all_before hosts ds declared are in
    record {
      level = refl;
      elements = sym grows.elements;
      sets_same = sym grows.sets;
      functions = sym grows.functions;
      of_main = λ name what at. of_main what (before.names name what at);
      of_variables = λ name n t at. absurd (before.names name (meaning.Variable n t) at);
      of_counters = λ name l at. absurd (before.names name (meaning.Counter l) at);
      deep = none_deep declared.locals before.locals;
      count = length-replicate (length inner.environment.declarations.variables) _;
    }

pub proper_functions : (hosts : List HostName) (ds : List Decl) (declared inner : Walk) → AreDeclarations hosts ds programs.at_first declared → GoesOn (before_main declared) inner
    → AreProper inner.environment.declarations.functions
proper_functions hosts ds declared inner are grows = subst AreProper (sym grows.functions) (all_before hosts ds declared are).proper
