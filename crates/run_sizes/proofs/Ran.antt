-- What a statement that ended did, by its form.
use Rattle.std.proofs.Common.{◌≡◌, ◌⊎◌, ℕ, List, map, Result, Ok, Err, refl, sym, ap, ◌∙◌, subst, inl, inr}
use Rattle.typed_tree.specs.declared.condition.TypedCond.{TypedCond}
use Rattle.typed_tree.specs.declared.expression.TypedExpr.{TypedExpr}
use Rattle.typed_tree.specs.declared.main_procedure.MainStmt.{MainStmt, out-MainStmt, out-roll-MainStmt}
use Rattle.typed_tree.specs.declared.main_procedure.MainStmt.TheVariants as stmt
use Rattle.typed_tree.specs.declared.main_procedure.MainStmt.TheOpen.{MainStmt-F}
use Rattle.typed_tree.specs.declared.main_procedure.TypedRight.{TypedRight}
use Rattle.typed_tree.specs.declared.main_procedure.TypedTarget.{TypedTarget}
use Rattle.typed_tree.specs.declared.main_procedure.TypedTarget.TheVariants as target
use Rattle.algebra_meaning.specs.Linked.{LinkedProgram}
use Rattle.value_algebra.specs.declared.value.Value.{Value}
use Rattle.value_algebra.specs.Value.{word_of}
use Rattle.algebra_meaning.specs.declared.state.State.{State}
use Rattle.algebra_meaning.specs.declared.stopped.Stop.{Stop}
use Rattle.run_laws.specs.Runs.{Yields, AreChanged, RunsTo, Repeats, Counts, AllRunTo}

-- targets got the values of a right side
pub record Assigned (program : LinkedProgram) (line : ℕ) (targets : List TypedTarget) (r : TypedRight) (before after : State) : Type 0 where
  pub values : List Value
  pub yields : Yields program line before r (Ok values)
  pub changed : AreChanged program targets values before after

-- a `for` went over all its values
pub record Counted (program : LinkedProgram) (local : ℕ) (body : List MainStmt) (before after : State) : Type 0 where
  pub from : ℕ
  pub to : ℕ
  pub counts : Counts program local to body from before (Ok after)

abbrev pub Ran : LinkedProgram → MainStmt-F MainStmt → State → State → Type 0
Ran program (MainStmt-F.Var line numbers r) before after = Assigned program line (map target.Variable numbers) r before after
Ran program (MainStmt-F.Assign line targets r) before after = Assigned program line targets r before after
Ran program (MainStmt-F.While line cond body) before after = Repeats program line cond body before (Ok after)
Ran program (MainStmt-F.For line local from to body) before after = Counted program local body before after
Ran program (MainStmt-F.If line cond body otherwise) before after = AllRunTo program body before (Ok after) ⊎ AllRunTo program otherwise before (Ok after)
Ran program (MainStmt-F.Assert line cond) before after = before ≡ after

abbrev Ends : LinkedProgram → MainStmt-F MainStmt → State → Result State Stop → Type 0
Ends program form before (Ok after) = Ran program form before after
Ends program form before (Err stop) = Unit {0}

var_out : (line : ℕ) (numbers : List ℕ) (r : TypedRight) → out-MainStmt (stmt.Var line numbers r) ≡ MainStmt-F.Var line numbers r
var_out line numbers r = ap out-MainStmt (sym (stmt.rolls-Var line numbers r)) ∙ out-roll-MainStmt (MainStmt-F.Var line numbers r)

assign_out : (line : ℕ) (targets : List TypedTarget) (r : TypedRight) → out-MainStmt (stmt.Assign line targets r) ≡ MainStmt-F.Assign line targets r
assign_out line targets r = ap out-MainStmt (sym (stmt.rolls-Assign line targets r)) ∙ out-roll-MainStmt (MainStmt-F.Assign line targets r)

while_out : (line : ℕ) (cond : TypedCond) (body : List MainStmt) → out-MainStmt (stmt.While line cond body) ≡ MainStmt-F.While line cond body
while_out line cond body = ap out-MainStmt (sym (stmt.rolls-While line cond body)) ∙ out-roll-MainStmt (MainStmt-F.While line cond body)

for_out : (line local : ℕ) (from to : TypedExpr) (body : List MainStmt) → out-MainStmt (stmt.For line local from to body) ≡ MainStmt-F.For line local from to body
for_out line local from to body = ap out-MainStmt (sym (stmt.rolls-For line local from to body)) ∙ out-roll-MainStmt (MainStmt-F.For line local from to body)

if_out : (line : ℕ) (cond : TypedCond) (body otherwise : List MainStmt) → out-MainStmt (stmt.If line cond body otherwise) ≡ MainStmt-F.If line cond body otherwise
if_out line cond body otherwise = ap out-MainStmt (sym (stmt.rolls-If line cond body otherwise)) ∙ out-roll-MainStmt (MainStmt-F.If line cond body otherwise)

assert_out : (line : ℕ) (cond : TypedCond) → out-MainStmt (stmt.Assert line cond) ≡ MainStmt-F.Assert line cond
assert_out line cond = ap out-MainStmt (sym (stmt.rolls-Assert line cond)) ∙ out-roll-MainStmt (MainStmt-F.Assert line cond)

ends : (program : LinkedProgram) (s : MainStmt) (before : State) (outcome : Result State Stop) → RunsTo program s before outcome → Ends program (out-MainStmt s) before outcome
ends program s before outcome (RunsTo.variables line numbers r values state after yields changed) =
    subst (λ f. Ran program f state after) (sym (var_out line numbers r)) (record { values = values; yields = yields; changed = changed })
ends program s before outcome (RunsTo.variables_stop line numbers r stop state yields) = tt
ends program s before outcome (RunsTo.assignment line targets r values state after yields changed) =
    subst (λ f. Ran program f state after) (sym (assign_out line targets r)) (record { values = values; yields = yields; changed = changed })
ends program s before outcome (RunsTo.assignment_stops line targets r stop state yields) = tt
ends program s before outcome (RunsTo.repetition line cond body state end runs) =
    subst (λ f. Ends program f state end) (sym (while_out line cond body)) (repeated line cond body state end runs)
  where
    repeated : (line : ℕ) (cond : TypedCond) (body : List MainStmt) (state : State) (end : Result State Stop) → Repeats program line cond body state end
        → Ends program (MainStmt-F.While line cond body) state end
    repeated line cond body state (Ok after) runs = runs
    repeated line cond body state (Err stop) runs = tt
ends program s before outcome (RunsTo.loop line local from to body a b state end first second runs) =
    subst (λ f. Ends program f state end) (sym (for_out line local from to body)) (counted end runs)
  where
    counted : (end : Result State Stop) → Counts program local (word_of b) body (word_of a) state end → Ends program (MainStmt-F.For line local from to body) state end
    counted (Ok after) runs = record { from = word_of a; to = word_of b; counts = runs }
    counted (Err stop) runs = tt
ends program s before outcome (RunsTo.from_traps line local from to body kind state first) = tt
ends program s before outcome (RunsTo.to_traps line local from to body a kind state first second) = tt
ends program s before outcome (RunsTo.choice_holds line cond body otherwise state end held runs) =
    subst (λ f. Ends program f state end) (sym (if_out line cond body otherwise)) (chosen end runs)
  where
    chosen : (end : Result State Stop) → AllRunTo program body state end → Ends program (MainStmt-F.If line cond body otherwise) state end
    chosen (Ok after) runs = inl runs
    chosen (Err stop) runs = tt
ends program s before outcome (RunsTo.choice_fails line cond body otherwise state end held runs) =
    subst (λ f. Ends program f state end) (sym (if_out line cond body otherwise)) (chosen end runs)
  where
    chosen : (end : Result State Stop) → AllRunTo program otherwise state end → Ends program (MainStmt-F.If line cond body otherwise) state end
    chosen (Ok after) runs = inr runs
    chosen (Err stop) runs = tt
ends program s before outcome (RunsTo.choice_traps line cond body otherwise kind state held) = tt
ends program s before outcome (RunsTo.assertion_holds line cond state held) = subst (λ f. Ran program f state state) (sym (assert_out line cond)) refl
ends program s before outcome (RunsTo.assertion_fails line cond state held) = tt
ends program s before outcome (RunsTo.assertion_traps line cond kind state held) = tt

module _ (program : LinkedProgram) (before after : State) where
  pub var_ran : (line : ℕ) (numbers : List ℕ) (r : TypedRight) → RunsTo program (stmt.Var line numbers r) before (Ok after)
      → Assigned program line (map target.Variable numbers) r before after
  var_ran line numbers r runs = subst (λ f. Ran program f before after) (var_out line numbers r) (ends program (stmt.Var line numbers r) before (Ok after) runs)

  pub assign_ran : (line : ℕ) (targets : List TypedTarget) (r : TypedRight) → RunsTo program (stmt.Assign line targets r) before (Ok after)
      → Assigned program line targets r before after
  assign_ran line targets r runs = subst (λ f. Ran program f before after) (assign_out line targets r) (ends program (stmt.Assign line targets r) before (Ok after) runs)

  pub while_ran : (line : ℕ) (cond : TypedCond) (body : List MainStmt) → RunsTo program (stmt.While line cond body) before (Ok after)
      → Repeats program line cond body before (Ok after)
  while_ran line cond body runs = subst (λ f. Ran program f before after) (while_out line cond body) (ends program (stmt.While line cond body) before (Ok after) runs)

  pub for_ran : (line local : ℕ) (from to : TypedExpr) (body : List MainStmt) → RunsTo program (stmt.For line local from to body) before (Ok after)
      → Counted program local body before after
  for_ran line local from to body runs =
      subst (λ f. Ran program f before after) (for_out line local from to body) (ends program (stmt.For line local from to body) before (Ok after) runs)

  pub if_ran : (line : ℕ) (cond : TypedCond) (body otherwise : List MainStmt) → RunsTo program (stmt.If line cond body otherwise) before (Ok after)
      → AllRunTo program body before (Ok after) ⊎ AllRunTo program otherwise before (Ok after)
  if_ran line cond body otherwise runs =
      subst (λ f. Ran program f before after) (if_out line cond body otherwise) (ends program (stmt.If line cond body otherwise) before (Ok after) runs)

  pub assert_ran : (line : ℕ) (cond : TypedCond) → RunsTo program (stmt.Assert line cond) before (Ok after) → before ≡ after
  assert_ran line cond runs = subst (λ f. Ran program f before after) (assert_out line cond) (ends program (stmt.Assert line cond) before (Ok after) runs)
