-- Functions: what the definition answers is a typing, and each typing is what it answers.
use Rattle.std.proofs.Common.{◌≡◌, ℕ, suc, ◌≤◌, Bool, false, ◌||◌, nat_lt, List, [], ◌∷◌, ◌++◌, length, map, filter, Option, Some, None, Result, Ok, refl, sym, ap, subst, ◌∙◌}
use Rattle.std.proofs.lemmas.List.{append-nil}
use Rattle.std.proofs.lemmas.Bool.{ltb-false, le-ltb, or_from}
use Rattle.std.specs.Option.{is_none, option_map}
use Rattle.vocabulary.specs.Answers.{◌>>=◌, fold_result}
use Rattle.vocabulary.specs.declared.limits.TheConstants.{MOST_ARGUMENTS, MOST_FUNCTION_COST, MOST_RESULTS}
use Rattle.host_table.specs.declared.table.HostName.{HostName}
use Rattle.sim_syntax.specs.declared.declaration.Decl.TheVariants as decl
use Rattle.sim_syntax.specs.declared.declaration.Param.{Param}
use Rattle.sim_syntax.specs.declared.declaration.ResultDecl.{ResultDecl}
use Rattle.sim_syntax.specs.declared.statement.Stmt.{Stmt}
use Rattle.type_rules.specs.declared.types.NodeType.{NodeType}
use Rattle.type_rules.specs.declared.types.TypeKind.{TypeKind}
use Rattle.type_rules.specs.declared.types.TypeKind.TheVariants as kind
use Rattle.typed_tree.specs.declared.environment.Environment.{Environment}
use Rattle.typed_tree.specs.declared.environment.Walk.{Walk}
use Rattle.typed_tree.specs.declared.names.Meaning.TheVariants as meaning
use Rattle.typed_tree.specs.declared.function.Endpoints.{Endpoints}
use Rattle.typed_tree.specs.declared.function.FunctionStmt.{FunctionStmt}
use Rattle.typed_tree.specs.declared.function.ParameterType.{ParameterType}
use Rattle.typed_tree.specs.declared.function.ParameterType.TheVariants as parameter
use Rattle.typed_tree.specs.declared.function.Signature.{Signature}
use Rattle.typed_tree.specs.declared.fault.CheckFault.{CheckFault}
use Rattle.typed_tree.specs.Names.{Name, meaning_of}
use Rattle.typed_tree.specs.Steps.{at_line, several}
use Rattle.typed_tree.specs.Walking.{ended, is_visible, naming}
use Rattle.typed_tree.specs.Functions.{statements}
use Rattle.typed_tree.specs.Cost.{body_cost}
use Rattle.typed_tree.specs.Declarations.{faultless, func_decl, function_fault, function_of, is_scalar_parameter, parameter_step, signature_of, signed, typed_result, typed_results, with_function, with_result}
use Rattle.typing_laws.specs.Lists.{InTurn}
use Rattle.typing_laws.specs.Scopes.{IsNew, leaving}
use Rattle.typing_laws.specs.FunctionStatements.{IsBodyTyping}
use Rattle.typing_laws.specs.ResultSides.{AreTypedResults}
use Rattle.typing_laws.specs.Declarations.{IsResult, IsParameter, AreResults, IsSignature, IsDeclaration}
use Rattle.typing_laws.proofs.Steps.{same_Ok, and_then, then_is}
use Rattle.typing_laws.proofs.NoFault.{none_first, first_none, none_either}
use Rattle.typing_laws.proofs.ScopeFacts.{Extends, extends_on, ended_is, not_known, known_not, at_line_then, at_line_and}
use Rattle.typing_laws.proofs.TurnFacts.{in_turn_only, in_turn_typed}
use Rattle.typing_laws.proofs.SideFacts.{IsSystem, result_is}
use Rattle.typing_laws.proofs.FunctionFacts.{body_typed, only_body}
use Rattle.typing_laws.proofs.DeclarationBlocks.{faultless_split}
use Rattle.typing_laws.proofs.DeclarationParts.{parameter_step_typed, only_parameter, parameters_extend, results_typed, only_results, results_extend}

-- ---- signatures

abbrev and_scalar : ℕ → Signature → Signature
and_scalar scale s = record { arguments = scale ∷ s.arguments; element = s.element; endpoints = s.endpoints }

scalar_first : (scale : ℕ) (types : List ParameterType) (s : Signature) → IsSignature types s → IsSignature (parameter.Scalar scale ∷ types) (and_scalar scale s)
scalar_first scale types s (IsSignature.no_ends scales element) = IsSignature.no_ends (scale ∷ scales) element
scalar_first scale types s (IsSignature.with_ends scales element ends) = IsSignature.with_ends (scale ∷ scales) element ends

signature_split : (types : List ParameterType) (s : Signature) → signature_of types ≡ Some s → IsSignature types s
signature_split [] s is = absurd (cc)
signature_split (parameter.Scalar scale ∷ types) s is = by_rest (signature_of types) is (signature_split types)
  where
    by_rest : (o : Option Signature) → option_map (and_scalar scale) o ≡ Some s → ((r : Signature) → o ≡ Some r → IsSignature types r)
        → IsSignature (parameter.Scalar scale ∷ types) s
    by_rest None answers rest = absurd (cc)
    by_rest (Some r) answers rest =
        let same : and_scalar scale r ≡ s = cc in
        subst (IsSignature (parameter.Scalar scale ∷ types)) same (scalar_first scale types r (rest r refl))
signature_split (parameter.Element element ∷ []) s is =
    let same : record { arguments = []; element = element; endpoints = None } ≡ s = cc in
    subst (IsSignature (parameter.Element element ∷ [])) same (IsSignature.no_ends [] element)
signature_split (parameter.Element element ∷ parameter.Ends ends ∷ []) s is =
    let same : record { arguments = []; element = element; endpoints = Some ends } ≡ s = cc in
    subst (IsSignature (parameter.Element element ∷ parameter.Ends ends ∷ [])) same (IsSignature.with_ends [] element ends)
signature_split (parameter.Element element ∷ parameter.Ends ends ∷ other ∷ types) s is = absurd (cc)
signature_split (parameter.Element element ∷ parameter.Scalar scale ∷ types) s is = absurd (cc)
signature_split (parameter.Element element ∷ parameter.Element other ∷ types) s is = absurd (cc)
signature_split (parameter.Ends ends ∷ types) s is = absurd (cc)

after_scalars : (scales : List ℕ) (last : List ParameterType) (element : ℕ) (ends : Option Endpoints)
    → signature_of last ≡ Some (record { arguments = []; element = element; endpoints = ends })
    → signature_of (map parameter.Scalar scales ++ last) ≡ Some (record { arguments = scales; element = element; endpoints = ends })
after_scalars [] last element ends is = is
after_scalars (scale ∷ scales) last element ends is = ap (option_map (and_scalar scale)) (after_scalars scales last element ends is)

signature_is : (types : List ParameterType) (s : Signature) → IsSignature types s → signature_of types ≡ Some s
signature_is types s (IsSignature.no_ends scales element) = after_scalars scales (parameter.Element element ∷ []) element None refl
signature_is types s (IsSignature.with_ends scales element ends) = after_scalars scales (parameter.Element element ∷ parameter.Ends ends ∷ []) element (Some ends) refl

scalars_are : (scales : List ℕ) (last : List ParameterType) → filter is_scalar_parameter last ≡ []
    → length (filter is_scalar_parameter (map parameter.Scalar scales ++ last)) ≡ length scales
scalars_are [] last none = ap length none
scalars_are (scale ∷ scales) last none = ap suc (scalars_are scales last none)

arguments_are : (types : List ParameterType) (s : Signature) → IsSignature types s → length (filter is_scalar_parameter types) ≡ length s.arguments
arguments_are types s (IsSignature.no_ends scales element) = scalars_are scales (parameter.Element element ∷ []) refl
arguments_are types s (IsSignature.with_ends scales element ends) = scalars_are scales (parameter.Element element ∷ parameter.Ends ends ∷ []) refl

-- ---- functions

record IsFaultless (visible : Bool) (types : List ParameterType) (results cost : ℕ) : Type 0 where
  new : visible ≡ false
  signature : Signature
  is_signature : IsSignature types signature
  arguments : length signature.arguments ≤ MOST_ARGUMENTS
  few : results ≤ MOST_RESULTS
  cheap : cost ≤ MOST_FUNCTION_COST

there : (o : Option Signature) → is_none o ≡ false → (s : Signature) × (o ≡ Some s)
there None is = absurd (cc)
there (Some s) is = (s, refl)

abbrev large : List ParameterType → ℕ → ℕ → Bool
large types results cost = nat_lt MOST_ARGUMENTS (length (filter is_scalar_parameter types)) || nat_lt MOST_RESULTS results || nat_lt MOST_FUNCTION_COST cost

abbrev from_shape : List ParameterType → ℕ → ℕ → List (TypeKind × Bool)
from_shape types results cost = (kind.Shape, is_none (signature_of types)) ∷ (kind.TooLarge, large types results cost) ∷ []

no_function_fault : (visible : Bool) (types : List ParameterType) (results cost : ℕ) → function_fault visible types results cost ≡ None
    → IsFaultless visible types results cost
unfolding function_fault
no_function_fault visible types results cost is =
    let many = length (filter is_scalar_parameter types) in
    let a = none_first kind.Twice visible (from_shape types results cost) is in
    let b = none_first kind.Shape (is_none (signature_of types)) ((kind.TooLarge, large types results cost) ∷ []) a.1 in
    let c = none_first kind.TooLarge (large types results cost) [] b.1 in
    let d = none_either (nat_lt MOST_ARGUMENTS many || nat_lt MOST_RESULTS results) (nat_lt MOST_FUNCTION_COST cost) c.0 in
    let e = none_either (nat_lt MOST_ARGUMENTS many) (nat_lt MOST_RESULTS results) d.0 in
    let s = there (signature_of types) b.0 in
    let signed_by = signature_split types s.0 s.1 in
    record {
      new = a.0;
      signature = s.0;
      is_signature = signed_by;
      arguments = subst (λ n. n ≤ MOST_ARGUMENTS) (arguments_are types s.0 signed_by) (ltb-false MOST_ARGUMENTS many e.0);
      few = ltb-false MOST_RESULTS results e.1;
      cheap = ltb-false MOST_FUNCTION_COST cost d.1;
    }

function_fault_none : (visible : Bool) (types : List ParameterType) (results cost : ℕ) → IsFaultless visible types results cost
    → function_fault visible types results cost ≡ None
unfolding function_fault
function_fault_none visible types results cost none =
    let many = length (filter is_scalar_parameter types) in
    first_none kind.Twice visible (from_shape types results cost) none.new
    (first_none kind.Shape (is_none (signature_of types)) ((kind.TooLarge, large types results cost) ∷ []) (ap is_none (signature_is types none.signature none.is_signature))
    (first_none kind.TooLarge (large types results cost) []
    (or_from (nat_lt MOST_ARGUMENTS many || nat_lt MOST_RESULTS results) (nat_lt MOST_FUNCTION_COST cost)
    (or_from (nat_lt MOST_ARGUMENTS many) (nat_lt MOST_RESULTS results)
    (le-ltb MOST_ARGUMENTS many (subst (λ n. n ≤ MOST_ARGUMENTS) (sym (arguments_are types none.signature none.is_signature)) none.arguments))
    (le-ltb MOST_RESULTS results none.few)) (le-ltb MOST_FUNCTION_COST cost none.cheap)) refl))

body_extends : (body : List Stmt) (done : List FunctionStmt) (before after : Walk) → IsBodyTyping body done before after → Extends before after
body_extends body done before after (IsBodyTyping.body b d walk inner typed) = record { more = []; names = sym (append-nil walk.environment.names); level = refl }

function_extends : (params : List Param) (types : List ParameterType) (results : List ResultDecl) (result_types : List NodeType) (body : List Stmt) (done : List FunctionStmt)
    (walk named begun after : Walk)
    → InTurn IsParameter params types walk named → AreResults 0 results result_types named begun → IsBodyTyping body done begun after → Extends walk after
function_extends params types results result_types body done walk named begun after first second third =
    extends_on walk begun after (extends_on walk named begun (parameters_extend params types walk named first) (results_extend 0 results result_types named begun second))
    (body_extends body done begun after third)

system_result : (env : Environment) (r : ResultDecl) (t : NodeType) → IsResult env r t → IsSystem t
system_result env r t (IsResult.vector_result q rows shape scale none set is_block fits) = IsSystem.is_vector rows shape scale
system_result env r t (IsResult.matrix_result q name rows columns shape scale some set others is_block fits) = IsSystem.is_matrix rows columns shape scale

results_are : (body : List FunctionStmt) (number : ℕ) (rs : List ResultDecl) (types : List NodeType) (walk after : Walk) → AreResults number rs types walk after
    → AreTypedResults body number types (typed_results body number types)
results_are body number rs types walk after (AreResults.none n here) = AreTypedResults.none n
results_are body number rs types walk after (AreResults.one_more n r rs' t types' here end is new rest) =
    AreTypedResults.one_more n t types' (typed_result body n t) (typed_results body (suc n) types') (result_is body n t (system_result here.environment r t is))
    (results_are body (suc n) rs' types' (naming here r.name (meaning.Result n t)) end rest)

-- what is known after a function
abbrev pub made_function : Walk → Name → Signature → List NodeType → List FunctionStmt → Walk
made_function walk name signature results body = with_function walk (function_of name signature results body)

function_judged : (hosts : List HostName) (line : ℕ) (name : Name) (params : List Param) (results : List ResultDecl) (body : List Stmt) (types : List ParameterType) (signature : Signature)
    (result_types : List NodeType) (done : List FunctionStmt) (walk named begun after : Walk)
    → InTurn IsParameter params types walk named → AreResults 0 results result_types named begun → IsBodyTyping body done begun after
    → IsSignature types signature → length signature.arguments ≤ MOST_ARGUMENTS → length result_types ≤ MOST_RESULTS → body_cost done ≤ MOST_FUNCTION_COST
    → IsNew walk name → IsDeclaration hosts (decl.Func line name params results body) walk (made_function (leaving walk after) name signature result_types done)
unfolding with_function function_of
function_judged hosts line name params results body types signature result_types done walk named begun after ps rs s is_signature arguments few cheap new =
    IsDeclaration.new_function line name params results body types signature result_types done (typed_results done 0 result_types) walk named begun after ps rs s
    (results_are done 0 results result_types named begun rs) is_signature arguments few cheap new

pub function_typed : (hosts : List HostName) (line : ℕ) (name : Name) (params : List Param) (results : List ResultDecl) (body : List Stmt) (walk after : Walk)
    → func_decl line name params results body walk ≡ Ok after → IsDeclaration hosts (decl.Func line name params results body) walk after
unfolding func_decl
function_typed hosts line name params results body walk after is =
    let visible = is_visible walk name in
    let end : List ParameterType → List NodeType → List FunctionStmt × Walk → Result Walk CheckFault = λ types result_types b.
    at_line line (faultless (function_fault visible types (length result_types) (body_cost b.0)))
    >>= λ u. Ok (made_function (ended walk b.1) name (signed (signature_of types)) result_types b.0) in
    let a = and_then (several (map parameter_step params) walk) (λ ps. fold_result with_result ([], ps.1) results >>= λ rs. statements body rs.1 >>= end ps.0 rs.0) after is in
    let types = a.0.0 in
    let b = and_then (fold_result with_result ([], a.0.1) results) (λ rs. statements body rs.1 >>= end types rs.0) after a.2 in
    let c = and_then (statements body b.0.1) (end types b.0.0) after b.2 in
    let done = c.0.0 in
    let fault = function_fault visible types (length b.0.0) (body_cost done) in
    let l = at_line_then line (faultless fault) (λ u. Ok (made_function (ended walk c.0.1) name (signed (signature_of types)) b.0.0 done)) after c.2 in
    let f = no_function_fault visible types (length b.0.0) (body_cost done) (faultless_split fault l.0 l.1) in
    let ps = in_turn_typed IsParameter parameter_step parameter_step_typed params walk a.0 a.1 in
    let rs = results_typed results [] a.0.1 b.0 b.1 in
    let s = body_typed body b.0.1 c.0 c.1 in
    let left = ended_is walk c.0.1 (function_extends params types results rs.0 body done walk a.0.1 b.0.1 c.0.1 ps rs.1 s) in
    subst (λ w. IsDeclaration hosts (decl.Func line name params results body) walk w)
    (ap (λ w. made_function w name f.signature rs.0 done) (sym left)
    ∙ ap (λ o. made_function (ended walk c.0.1) name (signed o) rs.0 done) (sym (signature_is types f.signature f.is_signature))
    ∙ ap (λ ts. made_function (ended walk c.0.1) name (signed (signature_of types)) ts done) (sym rs.2)
    ∙ same_Ok (made_function (ended walk c.0.1) name (signed (signature_of types)) b.0.0 done) after l.2)
    (function_judged hosts line name params results body types f.signature rs.0 done walk a.0.1 b.0.1 c.0.1 ps rs.1 s f.is_signature f.arguments
    (subst (λ ts. length ts ≤ MOST_RESULTS) rs.2 f.few) f.cheap (not_known (meaning_of walk.environment.names name) f.new))

pub only_function : (line : ℕ) (name : Name) (params : List Param) (results : List ResultDecl) (body : List Stmt) (types : List ParameterType) (signature : Signature)
    (result_types : List NodeType) (done : List FunctionStmt) (walk named begun after : Walk)
    → InTurn IsParameter params types walk named → AreResults 0 results result_types named begun → IsBodyTyping body done begun after
    → IsSignature types signature → length signature.arguments ≤ MOST_ARGUMENTS → length result_types ≤ MOST_RESULTS → body_cost done ≤ MOST_FUNCTION_COST
    → IsNew walk name → func_decl line name params results body walk ≡ Ok (made_function (leaving walk after) name signature result_types done)
unfolding func_decl
only_function line name params results body types signature result_types done walk named begun after ps rs s is_signature arguments few cheap new =
    let visible = is_visible walk name in
    let end : List ParameterType → List NodeType → List FunctionStmt × Walk → Result Walk CheckFault = λ ts result_ts b.
    at_line line (faultless (function_fault visible ts (length result_ts) (body_cost b.0)))
    >>= λ u. Ok (made_function (ended walk b.1) name (signed (signature_of ts)) result_ts b.0) in
    let left = ended_is walk after (function_extends params types results result_types body done walk named begun after ps rs s) in
    let none : IsFaultless visible types (length result_types) (body_cost done) = record {
      new = known_not (meaning_of walk.environment.names name) new;
      signature = signature;
      is_signature = is_signature;
      arguments = arguments;
      few = few;
      cheap = cheap;
    } in
    then_is (several (map parameter_step params) walk) (λ ps. fold_result with_result ([], ps.1) results >>= λ rs. statements body rs.1 >>= end ps.0 rs.0) (types, named) _
    (in_turn_only IsParameter parameter_step only_parameter params types walk named ps)
    (then_is (fold_result with_result ([], named) results) (λ rs. statements body rs.1 >>= end types rs.0) (result_types, begun) _
    (only_results 0 results result_types named begun rs [] refl)
    (then_is (statements body begun) (end types result_types) (done, after) _ (only_body body done begun after s)
    (at_line_and line (faultless (function_fault visible types (length result_types) (body_cost done)))
    (λ u. Ok (made_function (ended walk after) name (signed (signature_of types)) result_types done)) tt _
    (ap faultless (function_fault_none visible types (length result_types) (body_cost done) none))
    (ap (λ o. Ok (made_function (ended walk after) name (signed o) result_types done)) (signature_is types signature is_signature)
    ∙ ap (λ w. Ok (made_function w name signature result_types done)) left))))
