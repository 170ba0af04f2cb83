-- The laws of the run, and of maps: the definition has just the outcomes that the relation has.
use Rattle.std.specs.Prelude.{◌≡◌, ℕ, List, Result}
use Rattle.hypergraph.specs.SetValue.{SetValue}
use Rattle.typed_tree.specs.declared.function.TypedFunction.{TypedFunction}
use Rattle.typed_tree.specs.declared.main_procedure.MainStmt.{MainStmt}
use Rattle.algebra_meaning.specs.Linked.{LinkedProgram}
use Rattle.value_algebra.specs.declared.value.Value.{Value}
use Rattle.algebra_meaning.specs.Assembled.{mapped}
use Rattle.algebra_meaning.specs.Run.{run, runs_of}
use Rattle.algebra_meaning.specs.declared.state.State.{State}
use Rattle.algebra_meaning.specs.declared.stopped.Stop.{Stop}
use Rattle.algebra_meaning.specs.declared.stopped.Trapped.{Trapped}
use Rattle.run_laws.specs.Maps.{MapsTo}
use Rattle.run_laws.specs.Runs.{RunsTo, RunsProgram}

-- the definition's outcome is one that the relation has
abbrev pub IsAnswered : Type 0
IsAnswered = (program : LinkedProgram) (sets : List SetValue) (turns : ℕ) → RunsProgram program sets turns (run program sets turns)

-- each outcome that the relation has is the definition's
abbrev pub AnswersOnly : Type 0
AnswersOnly = (program : LinkedProgram) (sets : List SetValue) (turns : ℕ) (outcome : Result (List SetValue) Stop)
    → RunsProgram program sets turns outcome → run program sets turns ≡ outcome

-- the same of each statement of a program
abbrev pub IsStatementAnswered : Type 0
IsStatementAnswered = (program : LinkedProgram) (s : MainStmt) (before : State) → RunsTo program s before (runs_of program s before)

abbrev pub StatementAnswersOnly : Type 0
StatementAnswersOnly = (program : LinkedProgram) (s : MainStmt) (before : State) (outcome : Result State Stop)
    → RunsTo program s before outcome → runs_of program s before ≡ outcome

-- what the definition of a map answers is an outcome that the relation has
abbrev pub IsMapAnswered : Type 0
IsMapAnswered = (program : LinkedProgram) (sets : List SetValue) (set : ℕ) (function : TypedFunction) (args : List Value)
    → MapsTo program sets set function args (mapped program sets set function args)

-- each outcome that the relation has is what the definition answers
abbrev pub MapAnswersOnly : Type 0
MapAnswersOnly = (program : LinkedProgram) (sets : List SetValue) (set : ℕ) (function : TypedFunction) (args : List Value) (outcome : Result (List Value) Trapped)
    → MapsTo program sets set function args outcome → mapped program sets set function args ≡ outcome
