-- What a program does to its sets.
use Rattle.std.specs.Prelude.{ℕ, zero, suc, List, [], ◌∷◌, length, map, replicate, slice_get, slice_set, Option, Some, None, Result, Ok, Err, Bool, if◌then◌else◌}
use Rattle.std.specs.List.{zip}
use Rattle.vocabulary.specs.Answers.{◌>>=◌, fold_result}
use Rattle.ring_words.specs.Word.{add, is_less}
use Rattle.ring_words.specs.declared.trap.TrapKind.{TrapKind}
use Rattle.ring_words.specs.declared.trap.TrapKind.TheVariants.{Assertion}
use Rattle.hypergraph.specs.SetValue.{SetValue}
use Rattle.hypergraph.specs.Sets.{set_at}
use Rattle.typed_tree.specs.declared.condition.TypedCond.{TypedCond}
use Rattle.typed_tree.specs.declared.expression.TypedExpr.{TypedExpr}
use Rattle.typed_tree.specs.declared.function.TypedFunction.{TypedFunction}
use Rattle.typed_tree.specs.declared.main_procedure.MainStmt.{MainStmt}
use Rattle.typed_tree.specs.declared.main_procedure.MainStmt.TheOpen.{MainStmt-F}
use Rattle.typed_tree.specs.declared.main_procedure.MainStmt.TheFolds.{fold-MainStmt}
use Rattle.typed_tree.specs.declared.main_procedure.TypedRight.{TypedRight}
use Rattle.typed_tree.specs.declared.main_procedure.TypedRight.TheVariants as right
use Rattle.typed_tree.specs.declared.main_procedure.TypedTarget.{TypedTarget}
use Rattle.typed_tree.specs.declared.main_procedure.TypedTarget.TheVariants as target
use Rattle.value_algebra.specs.declared.value.Value.{Value}
use Rattle.algebra_meaning.specs.Linked.{LinkedProgram}
use Rattle.value_algebra.specs.Value.{number, word_of}
use Rattle.value_algebra.specs.Fields.{with_field}
use Rattle.algebra_meaning.specs.Expression.{Scope, meaning, meanings, holds, no_value, set_fields}
use Rattle.algebra_meaning.specs.Element.{with_local}
use Rattle.algebra_meaning.specs.declared.state.State.{State}
use Rattle.algebra_meaning.specs.declared.stopped.Stop.{Stop}
use Rattle.algebra_meaning.specs.declared.stopped.Stop.TheVariants.{Trap, Spent}
use Rattle.algebra_meaning.specs.declared.stopped.Trapped.{Trapped}
use Rattle.algebra_meaning.specs.Assembled.{mapped}

abbrev pub Runs : Type 0
Runs = State → Result State Stop

-- what the names of an expression of the main procedure stand for
abbrev pub scope_in : LinkedProgram → State → Scope
scope_in program state = record { program = program; sets = state.sets; variables = state.variables; locals = state.locals; place = None }

-- ---- traps

-- a trap outside of maps, and one of a map's element
abbrev pub at : {A : Type 0} → ℕ → Result A TrapKind → Result A Stop
at line (Ok value) = Ok value
at line (Err kind) = Err (Trap line None kind)

abbrev pub at_element : {A : Type 0} → ℕ → Result A Trapped → Result A Stop
at_element line (Ok value) = Ok value
at_element line (Err trapped) = Err (Trap line (Some trapped.element) trapped.kind)

-- ---- right sides

-- the value of an expression, and those of a map's arguments
abbrev pub value_in : LinkedProgram → State → ℕ → TypedExpr → Result Value Stop
value_in program state line e = at line (meaning (scope_in program state) e)

abbrev pub arguments : LinkedProgram → State → ℕ → List TypedExpr → Result (List Value) Stop
arguments program state line args = at line (meanings (scope_in program state) args)

abbrev pub map_values : LinkedProgram → State → ℕ → Option TypedFunction → ℕ → List Value → Result (List Value) Stop
map_values program state line None set args = Ok []
map_values program state line (Some function) set args = at_element line (mapped program state.sets set function args)

-- the values of a right side: the results of a map, whose arguments are evaluated once, or one
unfoldable pub right_values : LinkedProgram → State → ℕ → TypedRight → Result (List Value) Stop
right_values program state line (right.Value e) = value_in program state line e >>= λ value. Ok (value ∷ [])
right_values program state line (right.Map function set args) =
    arguments program state line args >>= λ values. map_values program state line (slice_get program.typed.functions function) set values

-- ---- what is assigned

abbrev pub with_variable : State → ℕ → Value → State
with_variable state variable value = record {
  sets = state.sets;
  variables = slice_set state.variables variable value;
  locals = state.locals;
  turns = state.turns;
}

abbrev pub with_set : State → ℕ → SetValue → State
with_set state set changed = record {
  sets = slice_set state.sets set changed;
  variables = state.variables;
  locals = state.locals;
  turns = state.turns;
}

-- a whole target gets a value
unfoldable pub assigned : LinkedProgram → State → TypedTarget × Value → State
assigned program state (target.Variable variable, value) = with_variable state variable value
assigned program state (target.Field set field, value) =
    with_set state set (with_field (set_fields program.typed set) (set_at state.sets set) field value.words)

-- targets get values, from left to right
abbrev pub all_assigned : LinkedProgram → State → List (TypedTarget × Value) → State
all_assigned program state [] = state
all_assigned program state (one ∷ others) = all_assigned program (assigned program state one) others

unfoldable pub assignment : LinkedProgram → ℕ → List TypedTarget → TypedRight → Runs
assignment program line targets e state =
    right_values program state line e >>= λ values. Ok (all_assigned program state (zip targets values))

-- ---- loops

-- several statements, one after the other
abbrev pub in_order : List Runs → Runs
in_order statements state = fold_result (λ so_far statement. statement so_far) state statements

abbrev pub with_turns : State → ℕ → State
with_turns state turns = record { sets = state.sets; variables = state.variables; locals = state.locals; turns = turns }

abbrev pub with_locals : State → List Value → State
with_locals state locals = record { sets = state.sets; variables = state.variables; locals = locals; turns = state.turns }

-- one turn is spent, and then the body runs; where none is left, the run is spent
abbrev pub turn : List Runs → Runs
turn body state = spend state.turns
  where
    spend : ℕ → Result State Stop
    spend zero = Err Spent
    spend (suc left) = in_order body (with_turns state left)

abbrev pub test : LinkedProgram → ℕ → TypedCond → State → Result Bool Stop
test program line cond state = at line (holds (scope_in program state) cond)

-- turns as long as a condition holds. A turn that begins spends one, so that one more than the turns that are left bounds them.
abbrev pub while_up_to : ℕ → (State → Result Bool Stop) → List Runs → Runs
while_up_to zero condition body state = Err Spent
while_up_to (suc bound) condition body state =
    condition state >>= λ held. if held then turn body state >>= while_up_to bound condition body else Ok state

unfoldable pub while_held : LinkedProgram → ℕ → TypedCond → List Runs → Runs
while_held program line cond body state = while_up_to (suc state.turns) (test program line cond) body state

-- turns with the values from one up to below another, by their signed readings
abbrev pub count_up_to : ℕ → ℕ → ℕ → ℕ → List Runs → Runs
count_up_to zero local from to body state = Err Spent
count_up_to (suc bound) local from to body state =
    if is_less from to
    then turn body (with_locals state (with_local state.locals local (number from))) >>= count_up_to bound local (add from 1) to body
    else Ok state

-- the bounds are evaluated once
unfoldable pub counted : LinkedProgram → ℕ → ℕ → TypedExpr → TypedExpr → List Runs → Runs
counted program line local from to body state = do
  a ← value_in program state line from
  b ← value_in program state line to
  count_up_to (suc state.turns) local (word_of a) (word_of b) body state

-- ---- choices and assertions

unfoldable pub chosen : LinkedProgram → ℕ → TypedCond → List Runs → List Runs → Runs
chosen program line cond body otherwise state = test program line cond state >>= λ held. in_order (if held then body else otherwise) state

unfoldable pub asserted : LinkedProgram → ℕ → TypedCond → Runs
asserted program line cond state = test program line cond state >>= λ held. if held then Ok state else at line (Err Assertion)

-- ---- all statements

unfoldable pub statement_runs : LinkedProgram → MainStmt-F Runs → Runs
statement_runs program (MainStmt-F.Var line variables e) = assignment program line (map target.Variable variables) e
statement_runs program (MainStmt-F.Assign line targets e) = assignment program line targets e
statement_runs program (MainStmt-F.While line cond body) = while_held program line cond body
statement_runs program (MainStmt-F.For line local from to body) = counted program line local from to body
statement_runs program (MainStmt-F.If line cond body otherwise) = chosen program line cond body otherwise
statement_runs program (MainStmt-F.Assert line cond) = asserted program line cond

abbrev pub runs_of : LinkedProgram → MainStmt → Runs
runs_of program = fold-MainStmt Runs (statement_runs program)

-- before the first statement
abbrev pub beginning : LinkedProgram → List SetValue → ℕ → State
beginning program sets turns = record { sets = sets; variables = replicate (length program.typed.variables) no_value; locals = []; turns = turns }

-- the sets after a program, or why it stops before its end
unfoldable pub run : LinkedProgram → List SetValue → ℕ → Result (List SetValue) Stop
run program sets turns = in_order (map (runs_of program) program.typed.body) (beginning program sets turns) >>= λ state. Ok state.sets
