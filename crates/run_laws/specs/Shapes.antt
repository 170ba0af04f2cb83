-- What a run leaves of its sets: all but the words in their columns.
use Rattle.std.specs.Prelude.{◌≡◌, ℕ, List, length, map, Option, Ok}
use Rattle.hypergraph.specs.SetValue.{SetValue}
use Rattle.hypergraph.specs.Sets.{set_at}
use Rattle.typed_tree.specs.declared.main_procedure.MainStmt.{MainStmt}
use Rattle.algebra_meaning.specs.Linked.{LinkedProgram}
use Rattle.algebra_meaning.specs.Run.{run}
use Rattle.algebra_meaning.specs.declared.state.State.{State}
use Rattle.run_laws.specs.Runs.{RunsTo}

-- a set but for its words: its elements, its endpoints, and how many columns it has
pub record Shape : Type 0 where
  pub count : ℕ
  pub over : Option ℕ
  pub arity : ℕ
  pub endpoints : List ℕ
  pub columns : ℕ

abbrev pub shape_of : SetValue → Shape
shape_of set = record { count = set.count; over = set.over; arity = set.arity; endpoints = set.endpoints; columns = length set.columns }

-- one set is another but for its words
pub record DiffersInWords (before after : SetValue) : Type 0 where
  pub count : after.count ≡ before.count
  pub over : after.over ≡ before.over
  pub arity : after.arity ≡ before.arity
  pub endpoints : after.endpoints ≡ before.endpoints
  pub columns : length after.columns ≡ length before.columns

-- there are as many sets as before, and each is the one before but for its words
pub record DifferInWords (before after : List SetValue) : Type 0 where
  pub count : length after ≡ length before
  pub each : (number : ℕ) → DiffersInWords (set_at before number) (set_at after number)

-- a run that ends leaves the shapes of all sets
abbrev pub LeavesShapes : Type 0
LeavesShapes = (program : LinkedProgram) (sets after : List SetValue) (turns : ℕ) → run program sets turns ≡ Ok after → map shape_of after ≡ map shape_of sets

-- the same of each set by its number
abbrev pub ChangesWords : Type 0
ChangesWords = (program : LinkedProgram) (sets after : List SetValue) (turns : ℕ) → run program sets turns ≡ Ok after → DifferInWords sets after

-- the same of a statement that ends
abbrev pub StatementsChangeWords : Type 0
StatementsChangeWords = (program : LinkedProgram) (s : MainStmt) (before after : State) → RunsTo program s before (Ok after) → DifferInWords before.sets after.sets
