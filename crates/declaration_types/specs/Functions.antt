-- The declaration of a function, after its statements.
use Rattle.std.specs.Prelude.{ℕ, Bool, List, ◌++◌, length, Option, Some, None, Result, Ok}
use Rattle.vocabulary.specs.Answers.{◌>>=◌}
use Rattle.type_rules.specs.declared.types.NodeType.{NodeType}
use Rattle.typed_tree.specs.declared.fault.CheckFault.{CheckFault}
use Rattle.typed_tree.specs.declared.function.FunctionStmt.{FunctionStmt}
use Rattle.typed_tree.specs.declared.function.ParameterType.{ParameterType}
use Rattle.typed_tree.specs.declared.function.Signature.{Signature}
use Rattle.typed_tree.specs.declared.function.TypedFunction.{TypedFunction}
use Rattle.typed_tree.specs.Names.{Name}
use Rattle.typed_tree.specs.Steps.{at_line}
use Rattle.typed_tree.specs.Cost.{body_cost}
use Rattle.typed_tree.specs.declared.environment.Walk.{Walk}
use Rattle.typed_tree.specs.Walking.{cut_back, is_visible}
use Rattle.typed_tree.specs.Declarations.{faultless, function_fault, function_of, signature_of, signed, with_function}
use Rattle.declaration_types.specs.declared.functions.Before.{Before}

-- a signature with scalars before its own
abbrev pub prepended : List ℕ → Option Signature → Option Signature
prepended arguments None = None
prepended arguments (Some s) = Some (record { arguments = arguments ++ s.arguments; element = s.element; endpoints = s.endpoints })

-- a function whose parts have no fault, judged as a whole
unfoldable pub judged : ℕ → Name → Bool → List ParameterType → List NodeType → List FunctionStmt → Result TypedFunction CheckFault
judged line name taken parameters results body =
    at_line line (faultless (function_fault taken parameters (length results) (body_cost body)))
    >>= λ _. Ok (function_of name (signed (signature_of parameters)) results body)

-- what was known before a function
abbrev pub known_before : Name → Walk → Before
known_before name walk = record { is_taken = is_visible walk name; names = length walk.environment.names; locals = walk.locals }

-- a function whose parts have no fault is declared, and what was visible in it alone no longer is
unfoldable pub concluded : ℕ → Name → Before → List ParameterType → List NodeType → List FunctionStmt → Walk → Result Walk CheckFault
concluded line name known parameters results body walk =
    judged line name known.is_taken parameters results body >>= λ function. Ok (with_function (cut_back known.names known.locals walk) function)
