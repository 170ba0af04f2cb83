-- What the definition says of each form of a statement, and of a turn.
use Rattle.std.proofs.Common.{◌≡◌, ℕ, suc, List, map, Err, refl, sym, ap, subst, ◌∙◌}
use Rattle.typed_tree.specs.declared.condition.TypedCond.{TypedCond}
use Rattle.typed_tree.specs.declared.expression.TypedExpr.{TypedExpr}
use Rattle.typed_tree.specs.declared.main_procedure.MainStmt as tree
use Rattle.typed_tree.specs.declared.main_procedure.MainStmt.{MainStmt}
use Rattle.typed_tree.specs.declared.main_procedure.MainStmt.TheVariants as stmt
use Rattle.typed_tree.specs.declared.main_procedure.MainStmt.TheOpen.{MainStmt-F}
use Rattle.typed_tree.specs.declared.main_procedure.MainStmt.TheFolds.{fold-roll-MainStmt}
use Rattle.typed_tree.specs.declared.main_procedure.TypedRight.{TypedRight}
use Rattle.typed_tree.specs.declared.main_procedure.TypedTarget.{TypedTarget}
use Rattle.typed_tree.specs.declared.main_procedure.TypedTarget.TheVariants as target
use Rattle.algebra_meaning.specs.Linked.{LinkedProgram}
use Rattle.algebra_meaning.specs.Run as spec
use Rattle.algebra_meaning.specs.Run.{Runs, runs_of, statement_runs}
use Rattle.algebra_meaning.specs.declared.state.State.{State}
use Rattle.algebra_meaning.specs.declared.stopped.Stop.TheVariants.{Spent}

rolled : (program : LinkedProgram) (x : MainStmt-F MainStmt)
    → runs_of program (tree.roll-MainStmt x) ≡ statement_runs program (tree.map-MainStmt MainStmt Runs (runs_of program) x)
rolled program x = fold-roll-MainStmt Runs (statement_runs program) x

pub var_is : (program : LinkedProgram) (line : ℕ) (numbers : List ℕ) (r : TypedRight)
    → runs_of program (stmt.Var line numbers r) ≡ spec.assignment program line (map target.Variable numbers) r
unfolding statement_runs
var_is program line numbers r = ap (runs_of program) (sym (stmt.rolls-Var line numbers r)) ∙ rolled program (MainStmt-F.Var line numbers r)

pub assign_is : (program : LinkedProgram) (line : ℕ) (targets : List TypedTarget) (r : TypedRight)
    → runs_of program (stmt.Assign line targets r) ≡ spec.assignment program line targets r
unfolding statement_runs
assign_is program line targets r = ap (runs_of program) (sym (stmt.rolls-Assign line targets r)) ∙ rolled program (MainStmt-F.Assign line targets r)

pub while_is : (program : LinkedProgram) (line : ℕ) (c : TypedCond) (body : List MainStmt)
    → runs_of program (stmt.While line c body) ≡ spec.while_held program line c (map (runs_of program) body)
unfolding statement_runs
while_is program line c body = ap (runs_of program) (sym (stmt.rolls-While line c body)) ∙ rolled program (MainStmt-F.While line c body)

pub for_is : (program : LinkedProgram) (line local : ℕ) (from to : TypedExpr) (body : List MainStmt)
    → runs_of program (stmt.For line local from to body) ≡ spec.counted program line local from to (map (runs_of program) body)
unfolding statement_runs
for_is program line local from to body =
    ap (runs_of program) (sym (stmt.rolls-For line local from to body)) ∙ rolled program (MainStmt-F.For line local from to body)

pub choice_is : (program : LinkedProgram) (line : ℕ) (c : TypedCond) (body otherwise : List MainStmt)
    → runs_of program (stmt.If line c body otherwise) ≡ spec.chosen program line c (map (runs_of program) body) (map (runs_of program) otherwise)
unfolding statement_runs
choice_is program line c body otherwise =
    ap (runs_of program) (sym (stmt.rolls-If line c body otherwise)) ∙ rolled program (MainStmt-F.If line c body otherwise)

pub assertion_is : (program : LinkedProgram) (line : ℕ) (c : TypedCond) → runs_of program (stmt.Assert line c) ≡ spec.asserted program line c
unfolding statement_runs
assertion_is program line c = ap (runs_of program) (sym (stmt.rolls-Assert line c)) ∙ rolled program (MainStmt-F.Assert line c)

-- ---- turns

pub turn_spent : (body : List Runs) (state : State) → state.turns ≡ 0 → spec.turn body state ≡ Err Spent
turn_spent body state none =
    subst (λ turns. spec.turn body (record { sets = state.sets; variables = state.variables; locals = state.locals; turns = turns }) ≡ Err Spent) (sym none) refl

pub turn_begun : (body : List Runs) (state : State) (left : ℕ) → state.turns ≡ suc left
    → spec.turn body state ≡ spec.in_order body (spec.with_turns state left)
turn_begun body state left one =
    subst (λ turns. spec.turn body (record { sets = state.sets; variables = state.variables; locals = state.locals; turns = turns })
    ≡ spec.in_order body (spec.with_turns state left)) (sym one) refl
