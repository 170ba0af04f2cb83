-- The run of a program as a relation by cases: which outcome a statement has in a state. An outcome is the state after the statement,
-- or why the run stops in it. Nothing bounds the turns of a loop here but the turns that are left.
use Rattle.std.specs.Prelude.{◌≡◌, ℕ, suc, true, false, List, [], ◌∷◌, length, map, replicate, slice_get, slice_set, Some, None, Result, Ok, Err}
use Rattle.ring_words.specs.Word.{add, is_less}
use Rattle.ring_words.specs.declared.trap.TrapKind.{TrapKind}
use Rattle.ring_words.specs.declared.trap.TrapKind.TheVariants.{Assertion}
use Rattle.hypergraph.specs.SetValue.{SetValue}
use Rattle.hypergraph.specs.Sets.{set_at}
use Rattle.typed_tree.specs.declared.condition.TypedCond.{TypedCond}
use Rattle.typed_tree.specs.declared.expression.TypedExpr.{TypedExpr}
use Rattle.typed_tree.specs.declared.function.TypedFunction.{TypedFunction}
use Rattle.typed_tree.specs.declared.main_procedure.MainStmt.{MainStmt}
use Rattle.typed_tree.specs.declared.main_procedure.MainStmt.TheVariants as stmt
use Rattle.typed_tree.specs.declared.main_procedure.TypedRight.{TypedRight}
use Rattle.typed_tree.specs.declared.main_procedure.TypedRight.TheVariants as right
use Rattle.typed_tree.specs.declared.main_procedure.TypedTarget.{TypedTarget}
use Rattle.typed_tree.specs.declared.main_procedure.TypedTarget.TheVariants as target
use Rattle.algebra_meaning.specs.Linked.{LinkedProgram}
use Rattle.value_algebra.specs.declared.value.Value.{Value}
use Rattle.value_algebra.specs.Value.{number, word_of}
use Rattle.value_algebra.specs.Fields.{with_field}
use Rattle.algebra_meaning.specs.Expression.{Scope, meaning, meanings, holds, no_value, set_fields}
use Rattle.algebra_meaning.specs.Element.{with_local}
use Rattle.algebra_meaning.specs.declared.state.State.{State}
use Rattle.algebra_meaning.specs.declared.stopped.Stop.{Stop}
use Rattle.algebra_meaning.specs.declared.stopped.Stop.TheVariants.{Trap, Spent}
use Rattle.algebra_meaning.specs.declared.stopped.Trapped.{Trapped}
use Rattle.run_laws.specs.Maps.{MapsTo}

-- what the names of an expression stand for in a state
abbrev pub names_in : LinkedProgram → State → Scope
names_in program state = record { program = program; sets = state.sets; variables = state.variables; locals = state.locals; place = None }

-- ---- right sides

-- the values of a right side, or why the statement stops: always by a trap at its line, which names an element only where a map's does
pub data Yields (program : LinkedProgram) (line : ℕ) (before : State) : TypedRight → Result (List Value) Stop → Type 0 where
  -- one value, or the trap of the expression
  value : (e : TypedExpr) (v : Value) → meaning (names_in program before) e ≡ Ok v
      → Yields program line before (right.Value e) (Ok (v ∷ []))
  value_traps : (e : TypedExpr) (kind : TrapKind) → meaning (names_in program before) e ≡ Err kind
      → Yields program line before (right.Value e) (Err (Trap line None kind))
  -- a map evaluates its arguments once, before any element: the results, or the trap of an argument, or of an element
  results : (f set : ℕ) (args : List TypedExpr) (values : List Value) (function : TypedFunction) (results : List Value)
      → meanings (names_in program before) args ≡ Ok values → slice_get program.typed.functions f ≡ Some function
      → MapsTo program before.sets set function values (Ok results)
      → Yields program line before (right.Map f set args) (Ok results)
  argument_traps : (f set : ℕ) (args : List TypedExpr) (kind : TrapKind) → meanings (names_in program before) args ≡ Err kind
      → Yields program line before (right.Map f set args) (Err (Trap line None kind))
  element_traps : (f set : ℕ) (args : List TypedExpr) (values : List Value) (function : TypedFunction) (trapped : Trapped)
      → meanings (names_in program before) args ≡ Ok values → slice_get program.typed.functions f ≡ Some function
      → MapsTo program before.sets set function values (Err trapped)
      → Yields program line before (right.Map f set args) (Err (Trap line (Some trapped.element) trapped.kind))
  -- a function that isn't there has no results: the rules of types let none be named
  no_function : (f set : ℕ) (args : List TypedExpr) (values : List Value)
      → meanings (names_in program before) args ≡ Ok values → slice_get program.typed.functions f ≡ None
      → Yields program line before (right.Map f set args) (Ok [])

-- ---- targets

-- a whole target gets a value, and nothing else changes
pub data IsChanged (program : LinkedProgram) (before : State) : TypedTarget → Value → State → Type 0 where
  variable : (variable : ℕ) (value : Value)
      → IsChanged program before (target.Variable variable) value (record before { variables = slice_set before.variables variable value })
  field : (set field : ℕ) (value : Value)
      → IsChanged program before (target.Field set field) value
      (record before { sets = slice_set before.sets set (with_field (set_fields program.typed set) (set_at before.sets set) field value.words) })

-- targets change from left to right, each to its own value; where there are more of the one than of the other, which the rules of types
-- refuse, the rest is left
pub data AreChanged (program : LinkedProgram) : List TypedTarget → List Value → State → State → Type 0 where
  no_target : (values : List Value) (here : State) → AreChanged program [] values here here
  no_value_left : (t : TypedTarget) (ts : List TypedTarget) (here : State) → AreChanged program (t ∷ ts) [] here here
  one_more : (t : TypedTarget) (ts : List TypedTarget) (value : Value) (values : List Value) (before between after : State)
      → IsChanged program before t value between → AreChanged program ts values between after
      → AreChanged program (t ∷ ts) (value ∷ values) before after

-- ---- statements

mutual
  -- the outcome of a statement
  pub data RunsTo (program : LinkedProgram) : MainStmt → State → Result State Stop → Type 0 where
    -- the whole right side is evaluated before a target changes
    variables : (line : ℕ) (numbers : List ℕ) (r : TypedRight) (values : List Value) (before after : State)
        → Yields program line before r (Ok values) → AreChanged program (map target.Variable numbers) values before after
        → RunsTo program (stmt.Var line numbers r) before (Ok after)
    variables_stop : (line : ℕ) (numbers : List ℕ) (r : TypedRight) (stop : Stop) (before : State)
        → Yields program line before r (Err stop) → RunsTo program (stmt.Var line numbers r) before (Err stop)
    assignment : (line : ℕ) (targets : List TypedTarget) (r : TypedRight) (values : List Value) (before after : State)
        → Yields program line before r (Ok values) → AreChanged program targets values before after
        → RunsTo program (stmt.Assign line targets r) before (Ok after)
    assignment_stops : (line : ℕ) (targets : List TypedTarget) (r : TypedRight) (stop : Stop) (before : State)
        → Yields program line before r (Err stop) → RunsTo program (stmt.Assign line targets r) before (Err stop)
    repetition : (line : ℕ) (cond : TypedCond) (body : List MainStmt) (before : State) (outcome : Result State Stop)
        → Repeats program line cond body before outcome → RunsTo program (stmt.While line cond body) before outcome
    -- both bounds are evaluated once, before the first turn, from left to right
    loop : (line local : ℕ) (from to : TypedExpr) (body : List MainStmt) (a b : Value) (before : State) (outcome : Result State Stop)
        → meaning (names_in program before) from ≡ Ok a → meaning (names_in program before) to ≡ Ok b
        → Counts program local (word_of b) body (word_of a) before outcome
        → RunsTo program (stmt.For line local from to body) before outcome
    from_traps : (line local : ℕ) (from to : TypedExpr) (body : List MainStmt) (kind : TrapKind) (before : State)
        → meaning (names_in program before) from ≡ Err kind
        → RunsTo program (stmt.For line local from to body) before (Err (Trap line None kind))
    to_traps : (line local : ℕ) (from to : TypedExpr) (body : List MainStmt) (a : Value) (kind : TrapKind) (before : State)
        → meaning (names_in program before) from ≡ Ok a → meaning (names_in program before) to ≡ Err kind
        → RunsTo program (stmt.For line local from to body) before (Err (Trap line None kind))
    -- one of the two lists runs
    choice_holds : (line : ℕ) (cond : TypedCond) (body otherwise : List MainStmt) (before : State) (outcome : Result State Stop)
        → holds (names_in program before) cond ≡ Ok true → AllRunTo program body before outcome
        → RunsTo program (stmt.If line cond body otherwise) before outcome
    choice_fails : (line : ℕ) (cond : TypedCond) (body otherwise : List MainStmt) (before : State) (outcome : Result State Stop)
        → holds (names_in program before) cond ≡ Ok false → AllRunTo program otherwise before outcome
        → RunsTo program (stmt.If line cond body otherwise) before outcome
    choice_traps : (line : ℕ) (cond : TypedCond) (body otherwise : List MainStmt) (kind : TrapKind) (before : State)
        → holds (names_in program before) cond ≡ Err kind
        → RunsTo program (stmt.If line cond body otherwise) before (Err (Trap line None kind))
    -- an assertion changes nothing
    assertion_holds : (line : ℕ) (cond : TypedCond) (before : State) → holds (names_in program before) cond ≡ Ok true
        → RunsTo program (stmt.Assert line cond) before (Ok before)
    assertion_fails : (line : ℕ) (cond : TypedCond) (before : State) → holds (names_in program before) cond ≡ Ok false
        → RunsTo program (stmt.Assert line cond) before (Err (Trap line None Assertion))
    assertion_traps : (line : ℕ) (cond : TypedCond) (kind : TrapKind) (before : State) → holds (names_in program before) cond ≡ Err kind
        → RunsTo program (stmt.Assert line cond) before (Err (Trap line None kind))

  -- the outcome of a `while` from a state on: the condition is evaluated before each turn
  pub data Repeats (program : LinkedProgram) : ℕ → TypedCond → List MainStmt → State → Result State Stop → Type 0 where
    while_traps : (line : ℕ) (cond : TypedCond) (body : List MainStmt) (kind : TrapKind) (before : State)
        → holds (names_in program before) cond ≡ Err kind
        → Repeats program line cond body before (Err (Trap line None kind))
    while_ends : (line : ℕ) (cond : TypedCond) (body : List MainStmt) (before : State)
        → holds (names_in program before) cond ≡ Ok false
        → Repeats program line cond body before (Ok before)
    -- a turn is due, and none is left
    while_spent : (line : ℕ) (cond : TypedCond) (body : List MainStmt) (before : State)
        → holds (names_in program before) cond ≡ Ok true → before.turns ≡ 0
        → Repeats program line cond body before (Err Spent)
    -- a turn is spent, and its body stops
    while_stops : (line : ℕ) (cond : TypedCond) (body : List MainStmt) (left : ℕ) (stop : Stop) (before : State)
        → holds (names_in program before) cond ≡ Ok true → before.turns ≡ suc left
        → AllRunTo program body (record before { turns = left }) (Err stop)
        → Repeats program line cond body before (Err stop)
    -- a turn is spent, its body ends, and the `while` goes on from there
    while_goes_on : (line : ℕ) (cond : TypedCond) (body : List MainStmt) (left : ℕ) (before between : State) (outcome : Result State Stop)
        → holds (names_in program before) cond ≡ Ok true → before.turns ≡ suc left
        → AllRunTo program body (record before { turns = left }) (Ok between) → Repeats program line cond body between outcome
        → Repeats program line cond body before outcome

  -- the outcome of a `for` from a state and a value of its variable on, up to below another value: both words by their signed readings
  pub data Counts (program : LinkedProgram) : ℕ → ℕ → List MainStmt → ℕ → State → Result State Stop → Type 0 where
    for_ends : (local to : ℕ) (body : List MainStmt) (from : ℕ) (before : State)
        → is_less from to ≡ false
        → Counts program local to body from before (Ok before)
    -- a turn is due, and none is left
    for_spent : (local to : ℕ) (body : List MainStmt) (from : ℕ) (before : State)
        → is_less from to ≡ true → before.turns ≡ 0
        → Counts program local to body from before (Err Spent)
    -- the variable gets the value, a turn is spent, and its body stops
    for_stops : (local to : ℕ) (body : List MainStmt) (from left : ℕ) (stop : Stop) (before : State)
        → is_less from to ≡ true → before.turns ≡ suc left
        → AllRunTo program body (record before { locals = with_local before.locals local (number from); turns = left }) (Err stop)
        → Counts program local to body from before (Err stop)
    -- the variable gets the value, a turn is spent, its body ends, and the `for` goes on from there with the next value
    for_goes_on : (local to : ℕ) (body : List MainStmt) (from left : ℕ) (before between : State) (outcome : Result State Stop)
        → is_less from to ≡ true → before.turns ≡ suc left
        → AllRunTo program body (record before { locals = with_local before.locals local (number from); turns = left }) (Ok between)
        → Counts program local to body (add from 1) between outcome
        → Counts program local to body from before outcome

  -- the outcome of statements one after the other
  pub data AllRunTo (program : LinkedProgram) : List MainStmt → State → Result State Stop → Type 0 where
    none : (here : State) → AllRunTo program [] here (Ok here)
    first_stops : (s : MainStmt) (body : List MainStmt) (stop : Stop) (before : State)
        → RunsTo program s before (Err stop) → AllRunTo program (s ∷ body) before (Err stop)
    one_more : (s : MainStmt) (body : List MainStmt) (before between : State) (outcome : Result State Stop)
        → RunsTo program s before (Ok between) → AllRunTo program body between outcome
        → AllRunTo program (s ∷ body) before outcome

-- ---- programs

-- before the first statement no variable has a value
abbrev pub at_first : LinkedProgram → List SetValue → ℕ → State
at_first program sets turns = record { sets = sets; variables = replicate (length program.typed.variables) no_value; locals = []; turns = turns }

-- the outcome of a program: the sets after it, or why it stops
pub data RunsProgram (program : LinkedProgram) (sets : List SetValue) (turns : ℕ) : Result (List SetValue) Stop → Type 0 where
  ended : (after : State) → AllRunTo program program.typed.body (at_first program sets turns) (Ok after)
      → RunsProgram program sets turns (Ok after.sets)
  stopped : (stop : Stop) → AllRunTo program program.typed.body (at_first program sets turns) (Err stop)
      → RunsProgram program sets turns (Err stop)
