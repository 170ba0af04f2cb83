-- A run never gains turns.
use Rattle.std.proofs.Common.{◌≡◌, ℕ, suc, ◌≤◌, List, Result, Ok, Err, refl, ◌∙◌}
use native.Mathlib.Omega.{arith}
use Rattle.typed_tree.specs.declared.condition.TypedCond.{TypedCond}
use Rattle.typed_tree.specs.declared.main_procedure.MainStmt.{MainStmt}
use Rattle.typed_tree.specs.declared.main_procedure.TypedTarget.{TypedTarget}
use Rattle.algebra_meaning.specs.Linked.{LinkedProgram}
use Rattle.value_algebra.specs.declared.value.Value.{Value}
use Rattle.algebra_meaning.specs.declared.state.State.{State}
use Rattle.algebra_meaning.specs.declared.stopped.Stop.{Stop}
use Rattle.run_laws.specs.Runs.{IsChanged, AreChanged, RunsTo, Repeats, Counts, AllRunTo}

-- an outcome after which no more than so many turns are left
abbrev pub NoMoreTurns : ℕ → Result State Stop → Type 0
NoMoreTurns turns (Ok after) = after.turns ≤ turns
NoMoreTurns turns (Err stop) = Unit {0}

same : (a b : ℕ) → a ≡ b → a ≤ b
same a b is = omega arith

in_turn : (a b c : ℕ) → a ≤ b → b ≤ c → a ≤ c
in_turn a b c first second = omega arith

one_spent : (a left turns : ℕ) → a ≤ left → turns ≡ suc left → a ≤ turns
one_spent a left turns first second = omega arith

turns_on : (few turns : ℕ) (outcome : Result State Stop) → few ≤ turns → NoMoreTurns few outcome → NoMoreTurns turns outcome
turns_on few turns (Ok after) fewer left = in_turn after.turns few turns left fewer
turns_on few turns (Err stop) fewer left = left

changed_turns : (program : LinkedProgram) (before : State) (t : TypedTarget) (value : Value) (after : State)
    → IsChanged program before t value after → after.turns ≡ before.turns
changed_turns program before t value after (IsChanged.variable number v) = refl
changed_turns program before t value after (IsChanged.field set field v) = refl

all_changed_turns : (program : LinkedProgram) (ts : List TypedTarget) (values : List Value) (before after : State)
    → AreChanged program ts values before after → after.turns ≡ before.turns
all_changed_turns program ts values before after (AreChanged.no_target vs here) = refl
all_changed_turns program ts values before after (AreChanged.no_value_left u us here) = refl
all_changed_turns program ts values before after (AreChanged.one_more u us v vs first between last one others) =
    all_changed_turns program us vs between last others ∙ changed_turns program first u v between one

mutual
  pub statement_turns : (program : LinkedProgram) (s : MainStmt) (before : State) (outcome : Result State Stop)
      → RunsTo program s before outcome → NoMoreTurns before.turns outcome
  statement_turns program s before outcome (RunsTo.variables line numbers r values state after yields changed) =
      same after.turns state.turns (all_changed_turns program _ values state after changed)
  statement_turns program s before outcome (RunsTo.variables_stop line numbers r stop state yields) = tt
  statement_turns program s before outcome (RunsTo.assignment line targets r values state after yields changed) =
      same after.turns state.turns (all_changed_turns program targets values state after changed)
  statement_turns program s before outcome (RunsTo.assignment_stops line targets r stop state yields) = tt
  statement_turns program s before outcome (RunsTo.repetition line cond body state end runs) = repeated_turns program line cond body state end runs
  statement_turns program s before outcome (RunsTo.loop line local from to body a b state end first second runs) =
      counted_turns program local _ body _ state end runs
  statement_turns program s before outcome (RunsTo.from_traps line local from to body kind state first) = tt
  statement_turns program s before outcome (RunsTo.to_traps line local from to body a kind state first second) = tt
  statement_turns program s before outcome (RunsTo.choice_holds line cond body otherwise state end held runs) = list_turns program body state end runs
  statement_turns program s before outcome (RunsTo.choice_fails line cond body otherwise state end held runs) = list_turns program otherwise state end runs
  statement_turns program s before outcome (RunsTo.choice_traps line cond body otherwise kind state held) = tt
  statement_turns program s before outcome (RunsTo.assertion_holds line cond state held) = same state.turns state.turns refl
  statement_turns program s before outcome (RunsTo.assertion_fails line cond state held) = tt
  statement_turns program s before outcome (RunsTo.assertion_traps line cond kind state held) = tt

  repeated_turns : (program : LinkedProgram) (line : ℕ) (cond : TypedCond) (body : List MainStmt) (before : State) (outcome : Result State Stop)
      → Repeats program line cond body before outcome → NoMoreTurns before.turns outcome
  repeated_turns program line cond body before outcome (Repeats.while_traps l c b kind state held) = tt
  repeated_turns program line cond body before outcome (Repeats.while_ends l c b state held) = same state.turns state.turns refl
  repeated_turns program line cond body before outcome (Repeats.while_spent l c b state held none) = tt
  repeated_turns program line cond body before outcome (Repeats.while_stops l c b left stop state held one runs) = tt
  repeated_turns program line cond body before outcome (Repeats.while_goes_on l c b left state between end held one runs others) =
      turns_on between.turns state.turns end (one_spent between.turns left state.turns (list_turns program b _ (Ok between) runs) one)
      (repeated_turns program l c b between end others)

  counted_turns : (program : LinkedProgram) (local to : ℕ) (body : List MainStmt) (from : ℕ) (before : State) (outcome : Result State Stop)
      → Counts program local to body from before outcome → NoMoreTurns before.turns outcome
  counted_turns program local to body from before outcome (Counts.for_ends i n b here state less) = same state.turns state.turns refl
  counted_turns program local to body from before outcome (Counts.for_spent i n b here state less none) = tt
  counted_turns program local to body from before outcome (Counts.for_stops i n b here left stop state less one runs) = tt
  counted_turns program local to body from before outcome (Counts.for_goes_on i n b here left state between end less one runs others) =
      turns_on between.turns state.turns end (one_spent between.turns left state.turns (list_turns program b _ (Ok between) runs) one)
      (counted_turns program i n b _ between end others)

  pub list_turns : (program : LinkedProgram) (body : List MainStmt) (before : State) (outcome : Result State Stop)
      → AllRunTo program body before outcome → NoMoreTurns before.turns outcome
  list_turns program body before outcome (AllRunTo.none here) = same here.turns here.turns refl
  list_turns program body before outcome (AllRunTo.first_stops s rest stop here first) = tt
  list_turns program body before outcome (AllRunTo.one_more s rest here between end first others) =
      turns_on between.turns here.turns end (statement_turns program s here (Ok between) first) (list_turns program rest between end others)
