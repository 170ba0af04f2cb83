-- Each outcome that the relation has is the definition's.
use Rattle.std.proofs.Common.{◌≡◌, ℕ, zero, suc, ◌≤◌, Bool, if◌then◌else◌, List, [], ◌∷◌, map, slice_get, Result, Ok, Err, refl, ap, ◌∙◌}
use Rattle.std.specs.List.{zip}
use native.Mathlib.Omega.{arith}
use Rattle.vocabulary.specs.Answers.{◌>>=◌}
use Rattle.ring_words.specs.Word.{add}
use Rattle.ring_words.specs.declared.trap.TrapKind.{TrapKind}
use Rattle.ring_words.specs.declared.trap.TrapKind.TheVariants.{Assertion}
use Rattle.typed_tree.specs.declared.condition.TypedCond.{TypedCond}
use Rattle.typed_tree.specs.declared.main_procedure.MainStmt.{MainStmt}
use Rattle.typed_tree.specs.declared.main_procedure.TypedRight.{TypedRight}
use Rattle.typed_tree.specs.declared.main_procedure.TypedTarget.{TypedTarget}
use Rattle.typed_tree.specs.declared.main_procedure.TypedTarget.TheVariants as target
use Rattle.algebra_meaning.specs.Linked.{LinkedProgram}
use Rattle.value_algebra.specs.declared.value.Value.{Value}
use Rattle.value_algebra.specs.Value.{number, word_of}
use Rattle.algebra_meaning.specs.Element.{with_local}
use Rattle.algebra_meaning.specs.Run as spec
use Rattle.algebra_meaning.specs.Run.{Runs, runs_of, in_order, at, at_element, right_values, assigned, assignment, while_held, counted, chosen, asserted, run}
use Rattle.algebra_meaning.specs.declared.state.State.{State}
use Rattle.algebra_meaning.specs.declared.stopped.Stop.{Stop}
use Rattle.run_laws.specs.Laws.{AnswersOnly, StatementAnswersOnly}
use Rattle.run_laws.specs.Runs.{at_first, Yields, IsChanged, AreChanged, RunsTo, Repeats, Counts, AllRunTo, RunsProgram}
use Rattle.run_laws.proofs.Turns.{list_turns}
use Rattle.run_laws.proofs.Maps.{map_only}
use Rattle.run_laws.proofs.Forms.{var_is, assign_is, while_is, for_is, choice_is, assertion_is, turn_spent, turn_begun}

-- ---- right sides

only_right : (program : LinkedProgram) (line : ℕ) (state : State) (r : TypedRight) (o : Result (List Value) Stop)
    → Yields program line state r o → right_values program state line r ≡ o
unfolding right_values
only_right program line state r o (Yields.value e v is) = ap (λ m. at line m >>= λ value. Ok (value ∷ [])) is
only_right program line state r o (Yields.value_traps e kind is) = ap (λ m. at line m >>= λ value. Ok (value ∷ [])) is
only_right program line state r o (Yields.results f set args values function results given found is) =
    ap (λ m. at line m >>= λ values. spec.map_values program state line (slice_get program.typed.functions f) set values) given
    ∙ ap (λ function. spec.map_values program state line function set values) found
    ∙ ap (at_element line) (map_only program state.sets set function values (Ok results) is)
only_right program line state r o (Yields.argument_traps f set args kind given) =
    ap (λ m. at line m >>= λ values. spec.map_values program state line (slice_get program.typed.functions f) set values) given
only_right program line state r o (Yields.element_traps f set args values function trapped given found is) =
    ap (λ m. at line m >>= λ values. spec.map_values program state line (slice_get program.typed.functions f) set values) given
    ∙ ap (λ function. spec.map_values program state line function set values) found
    ∙ ap (at_element line) (map_only program state.sets set function values (Err trapped) is)
only_right program line state r o (Yields.no_function f set args values given found) =
    ap (λ m. at line m >>= λ values. spec.map_values program state line (slice_get program.typed.functions f) set values) given
    ∙ ap (λ function. spec.map_values program state line function set values) found

-- ---- targets

only_changed : (program : LinkedProgram) (state : State) (t : TypedTarget) (value : Value) (after : State)
    → IsChanged program state t value after → assigned program state (t, value) ≡ after
unfolding assigned
only_changed program state t value after (IsChanged.variable number v) = refl
only_changed program state t value after (IsChanged.field set field v) = refl

all_only_changed : (program : LinkedProgram) (ts : List TypedTarget) (values : List Value) (before after : State)
    → AreChanged program ts values before after → spec.all_assigned program before (zip ts values) ≡ after
all_only_changed program ts values before after (AreChanged.no_target vs here) = refl
all_only_changed program ts values before after (AreChanged.no_value_left u us here) = refl
all_only_changed program ts values before after (AreChanged.one_more u us v vs first between last one others) =
    ap (λ s. spec.all_assigned program s (zip us vs)) (only_changed program first u v between one) ∙ all_only_changed program us vs between last others

-- ---- loops, by what their bodies do

few_left : (turns bound left few : ℕ) → turns ≤ suc bound → turns ≡ suc left → few ≤ left → few ≤ bound
few_left turns bound left few enough one fewer = omega arith

too_few : (turns left : ℕ) → turns ≤ 0 → turns ≡ suc left → ⊥
too_few turns left below one = omega arith

itself : (turns : ℕ) → turns ≤ turns
itself turns = omega arith

by_form : (program : LinkedProgram) (s : MainStmt) (f : Runs) (state : State) (outcome : Result State Stop)
    → runs_of program s ≡ f → f state ≡ outcome → runs_of program s state ≡ outcome
by_form program s f state outcome form is = ap (λ g. g state) form ∙ is

-- a turn is begun, and what follows its body is this
turn_and : (body : List Runs) (state : State) (left : ℕ) (next : Runs) (after outcome : Result State Stop)
    → state.turns ≡ suc left → in_order body (spec.with_turns state left) ≡ after → (after >>= next) ≡ outcome
    → (spec.turn body state >>= next) ≡ outcome
turn_and body state left next after outcome one runs is = ap (λ o. o >>= next) (turn_begun body state left one ∙ runs) ∙ is

abbrev tested : ℕ → ℕ → (State → Result Bool Stop) → List Runs → State → Result Bool TrapKind → Result State Stop
tested line bound test body state m = at line m >>= λ held. if held then spec.turn body state >>= spec.while_up_to bound test body else Ok state

abbrev going_on : ℕ → ℕ → ℕ → ℕ → List Runs → State → Bool → Result State Stop
going_on bound local from to body state less =
    if less then spec.turn body (spec.with_locals state (with_local state.locals local (number from))) >>= spec.count_up_to bound local (add from 1) to body else Ok state

-- ---- statements

mutual
  unfolding assignment while_held counted chosen asserted

  only_statement : (program : LinkedProgram) (s : MainStmt) (before : State) (outcome : Result State Stop)
      → RunsTo program s before outcome → runs_of program s before ≡ outcome
  only_statement program s before outcome (RunsTo.variables line numbers r values state after yields changed) =
      by_form program _ _ state _ (var_is program line numbers r)
      (ap (λ o. o >>= λ values. Ok (spec.all_assigned program state (zip (map target.Variable numbers) values))) (only_right program line state r (Ok values) yields)
      ∙ ap (λ s. Ok s) (all_only_changed program (map target.Variable numbers) values state after changed))
  only_statement program s before outcome (RunsTo.variables_stop line numbers r stop state yields) =
      by_form program _ _ state _ (var_is program line numbers r)
      (ap (λ o. o >>= λ values. Ok (spec.all_assigned program state (zip (map target.Variable numbers) values))) (only_right program line state r (Err stop) yields))
  only_statement program s before outcome (RunsTo.assignment line targets r values state after yields changed) =
      by_form program _ _ state _ (assign_is program line targets r)
      (ap (λ o. o >>= λ values. Ok (spec.all_assigned program state (zip targets values))) (only_right program line state r (Ok values) yields)
      ∙ ap (λ s. Ok s) (all_only_changed program targets values state after changed))
  only_statement program s before outcome (RunsTo.assignment_stops line targets r stop state yields) =
      by_form program _ _ state _ (assign_is program line targets r)
      (ap (λ o. o >>= λ values. Ok (spec.all_assigned program state (zip targets values))) (only_right program line state r (Err stop) yields))
  only_statement program s before outcome (RunsTo.repetition line cond body state end runs) =
      by_form program _ _ state _ (while_is program line cond body) (only_repeated program line cond body state end runs state.turns (itself state.turns))
  only_statement program s before outcome (RunsTo.loop line local from to body a b state end first second runs) =
      by_form program _ _ state _ (for_is program line local from to body)
      (ap (λ m. at line m >>= λ a. spec.value_in program state line to
      >>= λ b. spec.count_up_to (suc state.turns) local (word_of a) (word_of b) (map (runs_of program) body) state) first
      ∙ ap (λ m. at line m >>= λ b. spec.count_up_to (suc state.turns) local (word_of a) (word_of b) (map (runs_of program) body) state) second
      ∙ only_counted program local (word_of b) body (word_of a) state end runs state.turns (itself state.turns))
  only_statement program s before outcome (RunsTo.from_traps line local from to body kind state first) =
      by_form program _ _ state _ (for_is program line local from to body)
      (ap (λ m. at line m >>= λ a. spec.value_in program state line to
      >>= λ b. spec.count_up_to (suc state.turns) local (word_of a) (word_of b) (map (runs_of program) body) state) first)
  only_statement program s before outcome (RunsTo.to_traps line local from to body a kind state first second) =
      by_form program _ _ state _ (for_is program line local from to body)
      (ap (λ m. at line m >>= λ a. spec.value_in program state line to
      >>= λ b. spec.count_up_to (suc state.turns) local (word_of a) (word_of b) (map (runs_of program) body) state) first
      ∙ ap (λ m. at line m >>= λ b. spec.count_up_to (suc state.turns) local (word_of a) (word_of b) (map (runs_of program) body) state) second)
  only_statement program s before outcome (RunsTo.choice_holds line cond body otherwise state end held runs) =
      by_form program _ _ state _ (choice_is program line cond body otherwise)
      (ap (λ m. at line m >>= λ held. in_order (if held then map (runs_of program) body else map (runs_of program) otherwise) state) held
      ∙ only_list program body state end runs)
  only_statement program s before outcome (RunsTo.choice_fails line cond body otherwise state end held runs) =
      by_form program _ _ state _ (choice_is program line cond body otherwise)
      (ap (λ m. at line m >>= λ held. in_order (if held then map (runs_of program) body else map (runs_of program) otherwise) state) held
      ∙ only_list program otherwise state end runs)
  only_statement program s before outcome (RunsTo.choice_traps line cond body otherwise kind state held) =
      by_form program _ _ state _ (choice_is program line cond body otherwise)
      (ap (λ m. at line m >>= λ held. in_order (if held then map (runs_of program) body else map (runs_of program) otherwise) state) held)
  only_statement program s before outcome (RunsTo.assertion_holds line cond state held) =
      by_form program _ _ state _ (assertion_is program line cond) (ap (λ m. at line m >>= λ held. if held then Ok state else at line (Err Assertion)) held)
  only_statement program s before outcome (RunsTo.assertion_fails line cond state held) =
      by_form program _ _ state _ (assertion_is program line cond) (ap (λ m. at line m >>= λ held. if held then Ok state else at line (Err Assertion)) held)
  only_statement program s before outcome (RunsTo.assertion_traps line cond kind state held) =
      by_form program _ _ state _ (assertion_is program line cond) (ap (λ m. at line m >>= λ held. if held then Ok state else at line (Err Assertion)) held)

  -- one more than the turns that are left, or more than that
  only_repeated : (program : LinkedProgram) (line : ℕ) (cond : TypedCond) (body : List MainStmt) (before : State) (outcome : Result State Stop)
      → Repeats program line cond body before outcome → (bound : ℕ) → before.turns ≤ bound
      → spec.while_up_to (suc bound) (spec.test program line cond) (map (runs_of program) body) before ≡ outcome
  only_repeated program line cond body before outcome (Repeats.while_traps l c b kind state held) bound enough =
      ap (tested l bound (spec.test program l c) (map (runs_of program) b) state) held
  only_repeated program line cond body before outcome (Repeats.while_ends l c b state held) bound enough =
      ap (tested l bound (spec.test program l c) (map (runs_of program) b) state) held
  only_repeated program line cond body before outcome (Repeats.while_spent l c b state held none) bound enough =
      ap (tested l bound (spec.test program l c) (map (runs_of program) b) state) held
      ∙ ap (λ o. o >>= spec.while_up_to bound (spec.test program l c) (map (runs_of program) b)) (turn_spent (map (runs_of program) b) state none)
  only_repeated program line cond body before outcome (Repeats.while_stops l c b left stop state held one runs) bound enough =
      ap (tested l bound (spec.test program l c) (map (runs_of program) b) state) held
      ∙ turn_and (map (runs_of program) b) state left (spec.while_up_to bound (spec.test program l c) (map (runs_of program) b)) (Err stop) (Err stop) one
      (only_list program b (spec.with_turns state left) (Err stop) runs) refl
  only_repeated program line cond body before outcome (Repeats.while_goes_on l c b left state between end held one runs others) zero enough =
      absurd (too_few state.turns left enough one)
  only_repeated program line cond body before outcome (Repeats.while_goes_on l c b left state between end held one runs others) (suc bound) enough =
      ap (tested l (suc bound) (spec.test program l c) (map (runs_of program) b) state) held
      ∙ turn_and (map (runs_of program) b) state left (spec.while_up_to (suc bound) (spec.test program l c) (map (runs_of program) b)) (Ok between) end one
      (only_list program b (spec.with_turns state left) (Ok between) runs)
      (only_repeated program l c b between end others bound
      (few_left state.turns bound left between.turns enough one (list_turns program b (spec.with_turns state left) (Ok between) runs)))

  only_counted : (program : LinkedProgram) (local to : ℕ) (body : List MainStmt) (from : ℕ) (before : State) (outcome : Result State Stop)
      → Counts program local to body from before outcome → (bound : ℕ) → before.turns ≤ bound
      → spec.count_up_to (suc bound) local from to (map (runs_of program) body) before ≡ outcome
  only_counted program local to body from before outcome (Counts.for_ends i n b here state less) bound enough =
      ap (going_on bound i here n (map (runs_of program) b) state) less
  only_counted program local to body from before outcome (Counts.for_spent i n b here state less none) bound enough =
      ap (going_on bound i here n (map (runs_of program) b) state) less
      ∙ ap (λ o. o >>= spec.count_up_to bound i (add here 1) n (map (runs_of program) b))
      (turn_spent (map (runs_of program) b) (spec.with_locals state (with_local state.locals i (number here))) none)
  only_counted program local to body from before outcome (Counts.for_stops i n b here left stop state less one runs) bound enough =
      ap (going_on bound i here n (map (runs_of program) b) state) less
      ∙ turn_and (map (runs_of program) b) (spec.with_locals state (with_local state.locals i (number here))) left
      (spec.count_up_to bound i (add here 1) n (map (runs_of program) b)) (Err stop) (Err stop) one (only_list program b _ (Err stop) runs) refl
  only_counted program local to body from before outcome (Counts.for_goes_on i n b here left state between end less one runs others) zero enough =
      absurd (too_few state.turns left enough one)
  only_counted program local to body from before outcome (Counts.for_goes_on i n b here left state between end less one runs others) (suc bound) enough =
      ap (going_on (suc bound) i here n (map (runs_of program) b) state) less
      ∙ turn_and (map (runs_of program) b) (spec.with_locals state (with_local state.locals i (number here))) left
      (spec.count_up_to (suc bound) i (add here 1) n (map (runs_of program) b)) (Ok between) end one (only_list program b _ (Ok between) runs)
      (only_counted program i n b (add here 1) between end others bound
      (few_left state.turns bound left between.turns enough one (list_turns program b _ (Ok between) runs)))

  only_list : (program : LinkedProgram) (body : List MainStmt) (before : State) (outcome : Result State Stop)
      → AllRunTo program body before outcome → in_order (map (runs_of program) body) before ≡ outcome
  only_list program body before outcome (AllRunTo.none here) = refl
  only_list program body before outcome (AllRunTo.first_stops s rest stop here first) =
      ap (λ o. o >>= in_order (map (runs_of program) rest)) (only_statement program s here (Err stop) first)
  only_list program body before outcome (AllRunTo.one_more s rest here between end first others) =
      ap (λ o. o >>= in_order (map (runs_of program) rest)) (only_statement program s here (Ok between) first) ∙ only_list program rest between end others

pub statement_only : StatementAnswersOnly
statement_only = only_statement

-- ---- programs

pub program_only : AnswersOnly
unfolding run
program_only program sets turns outcome (RunsProgram.ended after runs) =
    ap (λ o. o >>= λ state. Ok state.sets) (only_list program program.typed.body (at_first program sets turns) (Ok after) runs)
program_only program sets turns outcome (RunsProgram.stopped stop runs) =
    ap (λ o. o >>= λ state. Ok state.sets) (only_list program program.typed.body (at_first program sets turns) (Err stop) runs)
