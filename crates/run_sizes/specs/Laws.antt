-- The laws of the values in a run: they have the sizes of their types, and index expressions mean their sums.
use Rattle.std.specs.Prelude.{◌≡◌, ℕ, List, Ok}
use Rattle.host_table.specs.declared.table.HostName.{HostName}
use Rattle.sim_syntax.specs.declared.expression.Expr as tree
use Rattle.sim_syntax.specs.declared.statement.IxTerm.{IxTerm}
use Rattle.hypergraph.specs.SetValue.{SetValue}
use Rattle.typed_tree.specs.declared.expression.TypedExpr.{TypedExpr}
use Rattle.typed_tree.specs.declared.program.TypedProgram.{TypedProgram}
use Rattle.typing_laws.specs.Expressions.{IsTyping}
use Rattle.chain_forms.specs.Lowered.{lowered_ix}
use Rattle.algebra_meaning.specs.Linked.{Answer, linked}
use Rattle.index_sums.specs.IndexSums.{Name}
use Rattle.index_laws.specs.Fits.{NamesFit}
use Rattle.index_laws.specs.Laws.{MeansSum}
use Rattle.run_laws.specs.Runs.{names_in}
use Rattle.run_sizes.specs.Reaches.{Begun, Reaches}

-- whatever the host offers and answers: wherever a run begins a statement, what each name that is known there stands for has the size of its type
abbrev pub FitInRuns : Type 0
FitInRuns = (hosts : List HostName) (answer : Answer) (program : TypedProgram) (sets : List SetValue) (turns : ℕ) (begun : Begun)
    → Reaches hosts (linked answer program) sets turns begun → NamesFit begun.walk.environment (names_in (linked answer program) begun.state)

-- there, each typing of what an index expression is lowered to means the sum of its terms' sums, with their signs
abbrev pub AreMeantInRuns : Type 0
AreMeantInRuns = (hosts : List HostName) (answer : Answer) (program : TypedProgram) (sets : List SetValue) (turns : ℕ) (begun : Begun)
    (free : List Name) (line : ℕ) (terms : List IxTerm) (e : tree.Expr) (t : TypedExpr) (from to : ℕ)
    → Reaches hosts (linked answer program) sets turns begun → lowered_ix free line terms ≡ Ok e → IsTyping begun.walk.environment e t from to
    → MeansSum begun.walk.environment (names_in (linked answer program) begun.state) free terms t
