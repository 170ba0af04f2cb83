-- Wherever a run comes, names fit; so index expressions mean their sums there.
use Rattle.std.proofs.Common.{ℕ, List, length}
use Rattle.host_table.specs.declared.table.HostName.{HostName}
use Rattle.hypergraph.specs.SetValue.{SetValue}
use Rattle.typing_laws.specs.Laws.{ExpressionLaws}
use Rattle.typing_laws.specs.Programs.{before_main, program_with}
use Rattle.algebra_meaning.specs.Linked.{LinkedProgram, linked}
use Rattle.index_laws.specs.Laws.{IsSumMeant}
use Rattle.index_laws.specs.Sizes.{AreSized, SumsAreSized}
use Rattle.run_laws.specs.Runs as runs
use Rattle.run_laws.specs.Runs.{names_in}
use Rattle.run_laws.specs.Shapes.{StatementsChangeWords}
use Rattle.run_sizes.specs.Laws.{AreMeantInRuns, FitInRuns}
use Rattle.run_sizes.specs.Reaches.{Begun, Reaches}
use Rattle.run_sizes.proofs.Declared.{known_first, proper_functions}
use Rattle.run_sizes.proofs.Known.{KnownIn, names_fit}
use Rattle.run_sizes.proofs.Names.{itself}
use Rattle.run_sizes.proofs.Runs.{come_on, list_begun}

module _ (sized : AreSized) (sums : SumsAreSized) (changes : StatementsChangeWords) where
  known_there : (hosts : List HostName) (program : LinkedProgram) (sets : List SetValue) (turns : ℕ) (begun : Begun) → Reaches hosts program sets turns begun → KnownIn program begun.walk begun.state
  known_there hosts program sets turns begun (Reaches.reaches answer tree declared inner body over most it are comes) =
      let whole = linked answer (program_with tree inner.environment.declarations body) in
      let grows = come_on whole tree.body body (before_main declared) inner (runs.at_first whole over most) it comes in
      list_begun sized sums changes whole (proper_functions hosts tree.decls declared inner are grows) tree.body body (before_main declared) inner (runs.at_first whole over most) it comes
      (itself (length inner.environment.declarations.variables)) (known_first hosts answer tree.decls tree declared inner body over most are grows)

  pub fit_in_runs : FitInRuns
  fit_in_runs hosts answer program sets turns begun comes =
      names_fit (linked answer program) begun.state.sets begun.walk.environment begun.walk.locals begun.state.variables begun.state.locals (known_there hosts (linked answer program) sets turns begun comes)

  pub meant_in_runs : ExpressionLaws → IsSumMeant → AreMeantInRuns
  meant_in_runs typing meant hosts answer program sets turns begun free line terms e t from to comes lowers typed =
      meant begun.walk.environment (names_in (linked answer program) begun.state) free line terms e from (t, to) (fit_in_runs hosts answer program sets turns begun comes) lowers
      ((typing begun.walk.environment).only e t from to typed)
