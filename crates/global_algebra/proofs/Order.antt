-- Statements, one after the other.
use Rattle.std.proofs.Common.{◌≡◌, ℕ, ◌+◌, ◌<◌, ◌≤◌, List, map, Result, Ok, Err, length, drop, get_or, refl}
use Rattle.vocabulary.specs.Answers.{fold_result}
use Rattle.typed_tree.specs.declared.main_procedure.MainStmt.{MainStmt}
use Rattle.algebra_meaning.specs.declared.state.State.{State}
use Rattle.algebra_meaning.specs.declared.stopped.Stop.{Stop}
use Rattle.algebra_meaning.specs.declared.stopped.Stopped.{Stopped}
use Rattle.algebra_meaning.specs.declared.stopped.Stopped.TheVariants.{By}
use Rattle.algebra_meaning.specs.Linked.{LinkedProgram}
use Rattle.algebra_meaning.specs.Run.{Runs, runs_of}
use Rattle.loop_laws.specs.Loops.{ItemLaws}

-- a statement runs from a state
abbrev pub step : State → Runs → Result State Stop
step state statement = statement state

pub statement_ran : ItemLaws State MainStmt Stop → (program : LinkedProgram) (before after : State) (known : Result State Stop) (ss : List MainStmt) (i : ℕ) (s : MainStmt)
    → i < length ss → s ≡ get_or ss i s → runs_of program s before ≡ Ok after
    → fold_result step before (map (runs_of program) (drop i ss)) ≡ known → fold_result step after (map (runs_of program) (drop (i + 1) ss)) ≡ known
statement_ran laws program before after known ss i s below here ran so_far =
    laws.taken (λ start ss. fold_result step start (map (runs_of program) ss)) (λ start s. runs_of program s start) (record { ends = λ start. refl; goes_on = λ start s ss. refl }) before after known ss i s below here ran so_far

pub statement_stopped : ItemLaws State MainStmt Stop → (program : LinkedProgram) (before : State) (known : Result State Stop) (ss : List MainStmt) (i : ℕ) (s : MainStmt) (stopped : Stopped Stop)
    → i < length ss → s ≡ get_or ss i s → ((cause : Stop) → stopped ≡ By cause → runs_of program s before ≡ Err cause)
    → fold_result step before (map (runs_of program) (drop i ss)) ≡ known → (cause : Stop) → stopped ≡ By cause → known ≡ Err cause
statement_stopped laws program before known ss i s stopped below here stops so_far cause is =
    laws.refused (λ start ss. fold_result step start (map (runs_of program) ss)) (λ start s. runs_of program s start) (record { ends = λ start. refl; goes_on = λ start s ss. refl }) before known ss i s cause below here (stops cause is) so_far

pub statements_ended : ItemLaws State MainStmt Stop → (program : LinkedProgram) (before : State) (known : Result State Stop) (ss : List MainStmt) (i : ℕ)
    → length ss ≤ i → fold_result step before (map (runs_of program) (drop i ss)) ≡ known → known ≡ Ok before
statements_ended laws program before known ss i past so_far = laws.ended (λ start ss. fold_result step start (map (runs_of program) ss)) (λ start s. runs_of program s start) (record { ends = λ start. refl; goes_on = λ start s ss. refl }) before known ss i past so_far
