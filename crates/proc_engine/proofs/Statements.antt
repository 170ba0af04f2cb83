-- Statements of a function, and where they lead.
use Rattle.std.proofs.Common.{◌≡◌, ℕ, List, ◌++◌, Result, Ok, Err, sym, ap, ◌∙◌}
use Rattle.ring_words.specs.declared.trap.TrapKind.{TrapKind}
use Rattle.hypergraph.specs.SetValue.{SetValue}
use Rattle.typed_tree.specs.declared.condition.TypedCond.{TypedCond}
use Rattle.typed_tree.specs.declared.expression.TypedExpr.{TypedExpr}
use Rattle.typed_tree.specs.declared.function.FunctionStmt.{FunctionStmt}
use Rattle.typed_tree.specs.declared.function.FunctionStmt.TheFolds.{fold-roll-FunctionStmt}
use Rattle.typed_tree.specs.declared.function.FunctionStmt.TheOpen.{FunctionStmt-F}
use Rattle.typed_tree.specs.declared.function.FunctionStmt.TheVariants as typed
use Rattle.typed_tree.specs.declared.function.TypedResult.{TypedResult}
use Rattle.value_algebra.specs.declared.value.Value.{Value}
use Rattle.algebra_meaning.specs.declared.contribution.Contribution.{Contribution}
use Rattle.algebra_meaning.specs.declared.contribution.Point.{Point}
use Rattle.algebra_meaning.specs.declared.stopped.Stopped.{Stopped}
use Rattle.algebra_meaning.specs.Assembled.{all_assembled}
use Rattle.algebra_meaning.specs.Element.{Call, Steps, asserted, assigned_local, new_local, statement_steps, steps_of}
use Rattle.algebra_meaning.specs.Means.{Leads}
use Rattle.proc_engine.specs.Running.{Runs, point}
use Rattle.proc_engine.proofs.Running.{reached}

-- ---- what statements do that contribute nothing

var_steps : (call : Call) (line local : ℕ) (e : TypedExpr) (p : Point) → steps_of call (typed.Var line local e) p ≡ new_local call local e p
unfolding statement_steps
var_steps call line local e p = ap (λ (s : FunctionStmt). steps_of call s p) (sym (typed.rolls-Var line local e)) ∙ ap (λ (step : Steps). step p) (fold-roll-FunctionStmt Steps (statement_steps call) (FunctionStmt-F.Var line local e))

assign_steps : (call : Call) (line local : ℕ) (e : TypedExpr) (p : Point) → steps_of call (typed.Assign line local e) p ≡ assigned_local call local e p
unfolding statement_steps
assign_steps call line local e p = ap (λ (s : FunctionStmt). steps_of call s p) (sym (typed.rolls-Assign line local e)) ∙ ap (λ (step : Steps). step p) (fold-roll-FunctionStmt Steps (statement_steps call) (FunctionStmt-F.Assign line local e))

assert_steps : (call : Call) (line : ℕ) (cond : TypedCond) (p : Point) → steps_of call (typed.Assert line cond) p ≡ asserted call cond p
unfolding statement_steps
assert_steps call line cond p = ap (λ (s : FunctionStmt). steps_of call s p) (sym (typed.rolls-Assert line cond)) ∙ ap (λ (step : Steps). step p) (fold-roll-FunctionStmt Steps (statement_steps call) (FunctionStmt-F.Assert line cond))

-- ---- where they lead

-- the sums stay where nothing is contributed
stays : (sets : List SetValue) (results : List TypedResult) (before contributed : List Contribution) (known other : Result Point TrapKind) (result : Result (Unit {0}) (Stopped TrapKind))
    (locals sums : List Value) → known ≡ other → Leads other result (point locals contributed) → sums ≡ all_assembled sets (before ++ contributed) 0 results
    → Runs sets results before known result locals sums
stays sets results before contributed known other (Ok done) locals sums same leads so = reached sets results before contributed known locals sums (same ∙ leads) so
stays sets results before contributed known other (Err stopped) locals sums same leads so = λ kind is. same ∙ leads kind is

pub var_runs : (call : Call) (results : List TypedResult) (before contributed : List Contribution) (s : FunctionStmt) (line local : ℕ) (e : TypedExpr) (result : Result (Unit {0}) (Stopped TrapKind))
    (old locals sums : List Value) → s ≡ typed.Var line local e
    → ((contributed : List Contribution) → Leads (new_local call local e (point old contributed)) result (point locals contributed))
    → sums ≡ all_assembled call.sets (before ++ contributed) 0 results → Runs call.sets results before (steps_of call s (point old contributed)) result locals sums
var_runs call results before contributed s line local e result old locals sums is leads so =
    stays call.sets results before contributed (steps_of call s (point old contributed)) (new_local call local e (point old contributed)) result locals sums
    (ap (λ (t : FunctionStmt). steps_of call t (point old contributed)) is ∙ var_steps call line local e (point old contributed)) (leads contributed) so

pub assign_runs : (call : Call) (results : List TypedResult) (before contributed : List Contribution) (s : FunctionStmt) (line local : ℕ) (e : TypedExpr) (result : Result (Unit {0}) (Stopped TrapKind))
    (old locals sums : List Value) → s ≡ typed.Assign line local e
    → ((contributed : List Contribution) → Leads (assigned_local call local e (point old contributed)) result (point locals contributed))
    → sums ≡ all_assembled call.sets (before ++ contributed) 0 results → Runs call.sets results before (steps_of call s (point old contributed)) result locals sums
assign_runs call results before contributed s line local e result old locals sums is leads so =
    stays call.sets results before contributed (steps_of call s (point old contributed)) (assigned_local call local e (point old contributed)) result locals sums
    (ap (λ (t : FunctionStmt). steps_of call t (point old contributed)) is ∙ assign_steps call line local e (point old contributed)) (leads contributed) so

pub assert_runs : (call : Call) (results : List TypedResult) (before contributed : List Contribution) (s : FunctionStmt) (line : ℕ) (cond : TypedCond) (result : Result (Unit {0}) (Stopped TrapKind))
    (locals sums : List Value) → s ≡ typed.Assert line cond
    → ((contributed : List Contribution) → Leads (asserted call cond (point locals contributed)) result (point locals contributed))
    → sums ≡ all_assembled call.sets (before ++ contributed) 0 results → Runs call.sets results before (steps_of call s (point locals contributed)) result locals sums
assert_runs call results before contributed s line cond result locals sums is leads so =
    stays call.sets results before contributed (steps_of call s (point locals contributed)) (asserted call cond (point locals contributed)) result locals sums
    (ap (λ (t : FunctionStmt). steps_of call t (point locals contributed)) is ∙ assert_steps call line cond (point locals contributed)) (leads contributed) so
