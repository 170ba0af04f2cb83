-- To which statements of the main procedure a run comes: with what is known where each stands, and the state in which it begins. The
-- judgement of types and the relation of runs go over the statements side by side.
use Rattle.std.specs.Prelude.{◌≡◌, ℕ, suc, true, false, List, ◌∷◌, Ok}
use Rattle.ring_words.specs.Word.{add, is_less}
use Rattle.host_table.specs.declared.table.HostName.{HostName}
use Rattle.sim_syntax.specs.declared.condition.Cond.{Cond}
use Rattle.sim_syntax.specs.declared.expression.Expr as tree
use Rattle.sim_syntax.specs.declared.program.Program.{Program}
use Rattle.sim_syntax.specs.declared.statement.Stmt.{Stmt}
use Rattle.sim_syntax.specs.declared.statement.Stmt.TheVariants as stmt
use Rattle.hypergraph.specs.SetValue.{SetValue}
use Rattle.typed_tree.specs.declared.condition.TypedCond.{TypedCond}
use Rattle.typed_tree.specs.declared.environment.Walk.{Walk}
use Rattle.typed_tree.specs.declared.expression.TypedExpr.{TypedExpr}
use Rattle.typed_tree.specs.declared.main_procedure.MainStmt.{MainStmt}
use Rattle.typed_tree.specs.declared.main_procedure.MainStmt.TheVariants as typed
use Rattle.typed_tree.specs.declared.names.Meaning.TheVariants as meaning
use Rattle.typed_tree.specs.Names.{Name}
use Rattle.typed_tree.specs.Walking.{with_nodes, naming_local}
use Rattle.typing_laws.specs.Conditions.{IsConditionTyping}
use Rattle.typing_laws.specs.Declarations.{AreDeclarations}
use Rattle.typing_laws.specs.Expressions.{IsTyping}
use Rattle.typing_laws.specs.MainStatements.{IsMainTyping, AreMainTypings}
use Rattle.typing_laws.specs.Programs as programs
use Rattle.typing_laws.specs.Programs.{before_main, program_with}
use Rattle.typing_laws.specs.Scopes.{IsNew, past, leaving}
use Rattle.value_algebra.specs.declared.value.Value.{Value}
use Rattle.value_algebra.specs.Value.{number, word_of}
use Rattle.algebra_meaning.specs.Element.{with_local}
use Rattle.algebra_meaning.specs.Linked.{Answer, LinkedProgram, linked}
use Rattle.algebra_meaning.specs.Expression.{holds, meaning}
use Rattle.algebra_meaning.specs.declared.state.State.{State}
use Rattle.run_laws.specs.Runs as runs
use Rattle.run_laws.specs.Runs.{AllRunTo, RunsTo, names_in}

-- a statement that begins: itself and its typing, what is known before it, and the state before it
pub record Begun : Type 0 where
  pub statement : Stmt
  pub typing : MainStmt
  pub walk : Walk
  pub state : State

-- a turn of a loop is spent
abbrev pub with_turns : State → ℕ → State
with_turns state left = record state { turns = left }

-- a turn of a loop is spent, and its variable has this value
abbrev pub in_turn_of : State → ℕ → ℕ → ℕ → State
in_turn_of state local from left = record state { locals = with_local state.locals local (number from); turns = left }

mutual
  -- Of a statement and its typing, what is known before and after it, and the state before it: which statements begin in its run.
  pub data Comes (program : LinkedProgram) : Stmt → MainStmt → Walk → Walk → State → Begun → Type 0 where
    -- the statement itself
    begins : (s : Stmt) (t : MainStmt) (walk after : Walk) (state : State) → IsMainTyping s t walk after
        → Comes program s t walk after state (record { statement = s; typing = t; walk = walk; state = state })
    -- one in the first turn of a `while`, or the `while` goes on after a turn
    in_while : (line : ℕ) (cond : Cond) (body : List Stmt) (tested : TypedCond) (done : List MainStmt) (walk : Walk) (to : ℕ) (inner : Walk) (state : State) (left : ℕ)
        (begun : Begun)
        → IsConditionTyping walk.environment cond tested walk.nodes to
        → holds (names_in program state) tested ≡ Ok true → state.turns ≡ suc left
        → AllCome program body done (with_nodes walk to) inner (with_turns state left) begun
        → Comes program (stmt.While line cond body) (typed.While line tested done) walk (past (leaving walk inner)) state begun
    while_goes_on : (line : ℕ) (cond : Cond) (body : List Stmt) (tested : TypedCond) (done : List MainStmt) (walk : Walk) (to : ℕ) (inner : Walk) (state between : State)
        (left : ℕ) (begun : Begun)
        → IsConditionTyping walk.environment cond tested walk.nodes to → AreMainTypings body done (with_nodes walk to) inner
        → holds (names_in program state) tested ≡ Ok true → state.turns ≡ suc left
        → AllRunTo program done (with_turns state left) (Ok between)
        → Comes program (stmt.While line cond body) (typed.While line tested done) walk (past (leaving walk inner)) between begun
        → Comes program (stmt.While line cond body) (typed.While line tested done) walk (past (leaving walk inner)) state begun
    -- one in a turn of a `for`
    in_for : (line : ℕ) (name : Name) (from to : tree.Expr) (body : List Stmt) (f t : TypedExpr) (done : List MainStmt) (walk : Walk) (middle end : ℕ) (inner : Walk)
        (a b : Value) (state : State) (begun : Begun)
        → IsTyping walk.environment from f walk.nodes middle → IsTyping walk.environment to t middle end → IsNew walk name
        → meaning (names_in program state) f ≡ Ok a → meaning (names_in program state) t ≡ Ok b
        → ComesCounting program walk.locals (word_of b) body done (naming_local (with_nodes walk end) name (meaning.Counter walk.locals)) inner (word_of a) state begun
        → Comes program (stmt.For line name from to body) (typed.For line walk.locals f t done) walk (past (leaving walk inner)) state begun
    -- one of the list that runs
    in_body : (line : ℕ) (cond : Cond) (body otherwise : List Stmt) (tested : TypedCond) (done other : List MainStmt) (walk : Walk) (to : ℕ) (first second : Walk)
        (state : State) (begun : Begun)
        → IsConditionTyping walk.environment cond tested walk.nodes to → AreMainTypings otherwise other (leaving walk first) second
        → holds (names_in program state) tested ≡ Ok true
        → AllCome program body done (with_nodes walk to) first state begun
        → Comes program (stmt.If line cond body otherwise) (typed.If line tested done other) walk (past (leaving walk second)) state begun
    in_otherwise : (line : ℕ) (cond : Cond) (body otherwise : List Stmt) (tested : TypedCond) (done other : List MainStmt) (walk : Walk) (to : ℕ) (first second : Walk)
        (state : State) (begun : Begun)
        → IsConditionTyping walk.environment cond tested walk.nodes to → AreMainTypings body done (with_nodes walk to) first
        → holds (names_in program state) tested ≡ Ok false
        → AllCome program otherwise other (leaving walk first) second state begun
        → Comes program (stmt.If line cond body otherwise) (typed.If line tested done other) walk (past (leaving walk second)) state begun

  -- the same of the body of a `for`, from a value of its variable on, up to below another
  pub data ComesCounting (program : LinkedProgram) : ℕ → ℕ → List Stmt → List MainStmt → Walk → Walk → ℕ → State → Begun → Type 0 where
    this_turn : (local to : ℕ) (body : List Stmt) (done : List MainStmt) (walk inner : Walk) (from left : ℕ) (state : State) (begun : Begun)
        → is_less from to ≡ true → state.turns ≡ suc left
        → AllCome program body done walk inner (in_turn_of state local from left) begun
        → ComesCounting program local to body done walk inner from state begun
    later_turn : (local to : ℕ) (body : List Stmt) (done : List MainStmt) (walk inner : Walk) (from left : ℕ) (state between : State) (begun : Begun)
        → AreMainTypings body done walk inner → is_less from to ≡ true → state.turns ≡ suc left
        → AllRunTo program done (in_turn_of state local from left) (Ok between)
        → ComesCounting program local to body done walk inner (add from 1) between begun
        → ComesCounting program local to body done walk inner from state begun

  -- the same of statements one after the other
  pub data AllCome (program : LinkedProgram) : List Stmt → List MainStmt → Walk → Walk → State → Begun → Type 0 where
    first : (s : Stmt) (body : List Stmt) (t : MainStmt) (done : List MainStmt) (walk between after : Walk) (state : State) (begun : Begun)
        → Comes program s t walk between state begun → AreMainTypings body done between after
        → AllCome program (s ∷ body) (t ∷ done) walk after state begun
    later : (s : Stmt) (body : List Stmt) (t : MainStmt) (done : List MainStmt) (walk between after : Walk) (state next : State) (begun : Begun)
        → IsMainTyping s t walk between → RunsTo program t state (Ok next) → AllCome program body done between after next begun
        → AllCome program (s ∷ body) (t ∷ done) walk after state begun

-- the run of a program, with its typing by what the host offers, over sets and with so many turns
pub data Reaches (hosts : List HostName) : LinkedProgram → List SetValue → ℕ → Begun → Type 0 where
  reaches : (answer : Answer) (program : Program) (declared inner : Walk) (body : List MainStmt) (sets : List SetValue) (turns : ℕ) (begun : Begun)
      → AreDeclarations hosts program.decls programs.at_first declared
      → AllCome (linked answer (program_with program inner.environment.declarations body)) program.body body (before_main declared) inner
      (runs.at_first (linked answer (program_with program inner.environment.declarations body)) sets turns) begun
      → Reaches hosts (linked answer (program_with program inner.environment.declarations body)) sets turns begun
