-- The definition's outcome is one that the relation has.
use Rattle.std.proofs.Common.{◌≡◌, ℕ, zero, suc, ◌≤◌, Bool, true, false, if◌then◌else◌, List, [], ◌∷◌, map, slice_get, Option, Some, None, Result, Ok, Err, refl, sym, subst}
use Rattle.std.specs.List.{zip}
use native.Mathlib.Omega.{arith}
use Rattle.vocabulary.specs.Answers.{◌>>=◌}
use Rattle.ring_words.specs.Word.{add, is_less}
use Rattle.ring_words.specs.declared.trap.TrapKind.{TrapKind}
use Rattle.ring_words.specs.declared.trap.TrapKind.TheVariants.{Assertion}
use Rattle.typed_tree.specs.declared.condition.TypedCond.{TypedCond}
use Rattle.typed_tree.specs.declared.expression.TypedExpr.{TypedExpr}
use Rattle.typed_tree.specs.declared.function.TypedFunction.{TypedFunction}
use Rattle.typed_tree.specs.declared.main_procedure.MainStmt as tree
use Rattle.typed_tree.specs.declared.main_procedure.MainStmt.{MainStmt}
use Rattle.typed_tree.specs.declared.main_procedure.MainStmt.TheVariants as stmt
use Rattle.typed_tree.specs.declared.main_procedure.MainStmt.TheOpen.{MainStmt-F}
use Rattle.typed_tree.specs.declared.main_procedure.MainStmt.TheFolds.{ind-MainStmt}
use Rattle.typed_tree.specs.declared.main_procedure.TypedRight.{TypedRight}
use Rattle.typed_tree.specs.declared.main_procedure.TypedRight.TheVariants as right
use Rattle.typed_tree.specs.declared.main_procedure.TypedTarget.{TypedTarget}
use Rattle.typed_tree.specs.declared.main_procedure.TypedTarget.TheVariants as target
use Rattle.algebra_meaning.specs.Linked.{LinkedProgram}
use Rattle.value_algebra.specs.declared.value.Value.{Value}
use Rattle.value_algebra.specs.Value.{number, word_of}
use Rattle.algebra_meaning.specs.Expression.{meaning, meanings, holds}
use Rattle.algebra_meaning.specs.Element.{with_local}
use Rattle.algebra_meaning.specs.Assembled.{mapped}
use Rattle.algebra_meaning.specs.Run as spec
use Rattle.algebra_meaning.specs.Run.{Runs, runs_of, in_order, at, at_element, right_values, assigned, assignment, while_held, counted, chosen, asserted, run}
use Rattle.algebra_meaning.specs.declared.state.State.{State}
use Rattle.algebra_meaning.specs.declared.stopped.Stop.{Stop}
use Rattle.algebra_meaning.specs.declared.stopped.Trapped.{Trapped}
use Rattle.run_laws.specs.Laws.{IsAnswered, IsStatementAnswered}
use Rattle.run_laws.specs.Maps.{MapsTo}
use Rattle.run_laws.specs.Runs.{names_in, at_first, Yields, IsChanged, AreChanged, RunsTo, Repeats, Counts, AllRunTo, RunsProgram}
use Rattle.run_laws.proofs.Turns.{list_turns}
use Rattle.run_laws.proofs.Maps.{map_answered}
use Rattle.run_laws.proofs.Forms.{var_is, assign_is, while_is, for_is, choice_is, assertion_is, turn_spent, turn_begun}

-- ---- right sides

right_answered : (program : LinkedProgram) (line : ℕ) (state : State) (r : TypedRight) → Yields program line state r (right_values program state line r)
unfolding right_values
right_answered program line state (right.Value e) = by_value (meaning (names_in program state) e) refl
  where
    by_value : (m : Result Value TrapKind) → meaning (names_in program state) e ≡ m
        → Yields program line state (right.Value e) (at line m >>= λ value. Ok (value ∷ []))
    by_value (Ok v) is = Yields.value e v is
    by_value (Err kind) is = Yields.value_traps e kind is
right_answered program line state (right.Map f set args) = by_arguments (meanings (names_in program state) args) refl
  where
    by_map : (values : List Value) (function : TypedFunction) (m : Result (List Value) Trapped)
        → meanings (names_in program state) args ≡ Ok values → slice_get program.typed.functions f ≡ Some function
        → MapsTo program state.sets set function values m → Yields program line state (right.Map f set args) (at_element line m)
    by_map values function (Ok results) given found is = Yields.results f set args values function results given found is
    by_map values function (Err trapped) given found is = Yields.element_traps f set args values function trapped given found is

    by_function : (values : List Value) (function : Option TypedFunction) → meanings (names_in program state) args ≡ Ok values
        → slice_get program.typed.functions f ≡ function → Yields program line state (right.Map f set args) (spec.map_values program state line function set values)
    by_function values None given found = Yields.no_function f set args values given found
    by_function values (Some function) given found = by_map values function (mapped program state.sets set function values) given found
        (map_answered program state.sets set function values)

    by_arguments : (m : Result (List Value) TrapKind) → meanings (names_in program state) args ≡ m
        → Yields program line state (right.Map f set args)
        (at line m >>= λ values. spec.map_values program state line (slice_get program.typed.functions f) set values)
    by_arguments (Ok values) given = by_function values (slice_get program.typed.functions f) given refl
    by_arguments (Err kind) given = Yields.argument_traps f set args kind given

-- ---- targets

changed : (program : LinkedProgram) (state : State) (t : TypedTarget) (value : Value) → IsChanged program state t value (assigned program state (t, value))
unfolding assigned
changed program state (target.Variable variable) value = IsChanged.variable variable value
changed program state (target.Field set field) value = IsChanged.field set field value

all_changed : (program : LinkedProgram) (ts : List TypedTarget) (values : List Value) (state : State)
    → AreChanged program ts values state (spec.all_assigned program state (zip ts values))
all_changed program [] values state = AreChanged.no_target values state
all_changed program (t ∷ ts) [] state = AreChanged.no_value_left t ts state
all_changed program (t ∷ ts) (value ∷ values) state =
    AreChanged.one_more t ts value values state (assigned program state (t, value)) _ (changed program state t value)
    (all_changed program ts values (assigned program state (t, value)))

-- ---- statements

abbrev Sound : LinkedProgram → MainStmt → Type 0
Sound program s = (state : State) → RunsTo program s state (runs_of program s state)

by_form : (program : LinkedProgram) (s : MainStmt) (f : Runs) → runs_of program s ≡ f → ((state : State) → RunsTo program s state (f state)) → Sound program s
by_form program s f form here state = subst (λ g. RunsTo program s state (g state)) (sym form) (here state)

var_answered : (program : LinkedProgram) (line : ℕ) (numbers : List ℕ) (r : TypedRight) → Sound program (stmt.Var line numbers r)
unfolding assignment
var_answered program line numbers r =
    by_form program (stmt.Var line numbers r) (assignment program line (map target.Variable numbers) r) (var_is program line numbers r)
    (λ state. by_values state (right_values program state line r) (right_answered program line state r))
  where
    by_values : (state : State) (o : Result (List Value) Stop) → Yields program line state r o
        → RunsTo program (stmt.Var line numbers r) state (o >>= λ values. Ok (spec.all_assigned program state (zip (map target.Variable numbers) values)))
    by_values state (Ok values) yields =
        RunsTo.variables line numbers r values state _ yields (all_changed program (map target.Variable numbers) values state)
    by_values state (Err stop) yields = RunsTo.variables_stop line numbers r stop state yields

assign_answered : (program : LinkedProgram) (line : ℕ) (targets : List TypedTarget) (r : TypedRight) → Sound program (stmt.Assign line targets r)
unfolding assignment
assign_answered program line targets r =
    by_form program (stmt.Assign line targets r) (assignment program line targets r) (assign_is program line targets r)
    (λ state. by_values state (right_values program state line r) (right_answered program line state r))
  where
    by_values : (state : State) (o : Result (List Value) Stop) → Yields program line state r o
        → RunsTo program (stmt.Assign line targets r) state (o >>= λ values. Ok (spec.all_assigned program state (zip targets values)))
    by_values state (Ok values) yields = RunsTo.assignment line targets r values state _ yields (all_changed program targets values state)
    by_values state (Err stop) yields = RunsTo.assignment_stops line targets r stop state yields

-- ---- lists

abbrev AreSound : LinkedProgram → List MainStmt → Type 0
AreSound program body = (state : State) → AllRunTo program body state (in_order (map (runs_of program) body) state)

first_and_others : (program : LinkedProgram) (s : MainStmt) (body : List MainStmt) (state : State) (outcome : Result State Stop)
    → RunsTo program s state outcome → AreSound program body → AllRunTo program (s ∷ body) state (outcome >>= in_order (map (runs_of program) body))
first_and_others program s body state (Ok between) first others = AllRunTo.one_more s body state between _ first (others between)
first_and_others program s body state (Err stop) first others = AllRunTo.first_stops s body stop state first

are_answered : (program : LinkedProgram) (body : List ((s : MainStmt) × Sound program s)) → AreSound program (map (λ s. s.0) body)
are_answered program [] state = AllRunTo.none state
are_answered program (s ∷ body) state =
    first_and_others program s.0 (map (λ s. s.0) body) state (runs_of program s.0 state) (s.1 state) (are_answered program body)

-- ---- loops

few_left : (turns bound left few : ℕ) → suc turns ≤ suc bound → turns ≡ suc left → few ≤ left → suc few ≤ bound
few_left turns bound left few enough one fewer = omega arith

turn_repeats : (program : LinkedProgram) (line : ℕ) (cond : TypedCond) (body : List MainStmt) (bound left : ℕ) (state : State) (next : Runs) (outcome : Result State Stop)
    → holds (names_in program state) cond ≡ Ok true → state.turns ≡ suc left → suc state.turns ≤ suc bound
    → AllRunTo program body (spec.with_turns state left) outcome
    → ((between : State) → suc between.turns ≤ bound → Repeats program line cond body between (next between))
    → Repeats program line cond body state (outcome >>= next)
turn_repeats program line cond body bound left state next (Ok between) held one enough runs goes_on =
    Repeats.while_goes_on line cond body left state between (next between) held one runs
    (goes_on between (few_left state.turns bound left between.turns enough one (list_turns program body (spec.with_turns state left) (Ok between) runs)))
turn_repeats program line cond body bound left state next (Err stop) held one enough runs goes_on =
    Repeats.while_stops line cond body left stop state held one runs

due_repeats : (program : LinkedProgram) (line : ℕ) (cond : TypedCond) (body : List MainStmt) (bound : ℕ) (state : State) (next : Runs) (turns : ℕ)
    → state.turns ≡ turns → holds (names_in program state) cond ≡ Ok true → suc state.turns ≤ suc bound → AreSound program body
    → ((between : State) → suc between.turns ≤ bound → Repeats program line cond body between (next between))
    → Repeats program line cond body state (spec.turn (map (runs_of program) body) state >>= next)
due_repeats program line cond body bound state next zero none held enough sound goes_on =
    subst (λ o. Repeats program line cond body state (o >>= next)) (sym (turn_spent (map (runs_of program) body) state none))
    (Repeats.while_spent line cond body state held none)
due_repeats program line cond body bound state next (suc left) one held enough sound goes_on =
    subst (λ o. Repeats program line cond body state (o >>= next)) (sym (turn_begun (map (runs_of program) body) state left one))
    (turn_repeats program line cond body bound left state next _ held one enough (sound (spec.with_turns state left)) goes_on)

tested_repeats : (program : LinkedProgram) (line : ℕ) (cond : TypedCond) (body : List MainStmt) (bound : ℕ) (state : State) (next : Runs) (m : Result Bool TrapKind)
    → holds (names_in program state) cond ≡ m → suc state.turns ≤ suc bound → AreSound program body
    → ((between : State) → suc between.turns ≤ bound → Repeats program line cond body between (next between))
    → Repeats program line cond body state
    (at line m >>= λ held. if held then spec.turn (map (runs_of program) body) state >>= next else Ok state)
tested_repeats program line cond body bound state next (Ok true) is enough sound goes_on =
    due_repeats program line cond body bound state next state.turns refl is enough sound goes_on
tested_repeats program line cond body bound state next (Ok false) is enough sound goes_on = Repeats.while_ends line cond body state is
tested_repeats program line cond body bound state next (Err kind) is enough sound goes_on = Repeats.while_traps line cond body kind state is

itself : (turns : ℕ) → turns ≤ turns
itself turns = omega arith

too_few : (turns : ℕ) → suc turns ≤ 0 → ⊥
too_few turns below = omega arith

-- one more than the turns that are left is enough
repeats_answered : (program : LinkedProgram) (line : ℕ) (cond : TypedCond) (body : List MainStmt) → AreSound program body
    → (bound : ℕ) (state : State) → suc state.turns ≤ bound
    → Repeats program line cond body state (spec.while_up_to bound (spec.test program line cond) (map (runs_of program) body) state)
repeats_answered program line cond body sound zero state enough = absurd (too_few state.turns enough)
repeats_answered program line cond body sound (suc bound) state enough =
    tested_repeats program line cond body bound state (spec.while_up_to bound (spec.test program line cond) (map (runs_of program) body))
    (holds (names_in program state) cond) refl enough sound
    (λ between fewer. repeats_answered program line cond body sound bound between fewer)

while_answered : (program : LinkedProgram) (line : ℕ) (cond : TypedCond) (body : List MainStmt) → AreSound program body → Sound program (stmt.While line cond body)
unfolding while_held
while_answered program line cond body sound =
    by_form program (stmt.While line cond body) (while_held program line cond (map (runs_of program) body)) (while_is program line cond body)
    (λ state. RunsTo.repetition line cond body state _ (repeats_answered program line cond body sound (suc state.turns) state (itself (suc state.turns))))

-- ---- counting

abbrev counting : ℕ → ℕ → State → ℕ → State
counting local from state left = spec.with_turns (spec.with_locals state (with_local state.locals local (number from))) left

turn_counts : (program : LinkedProgram) (local to : ℕ) (body : List MainStmt) (from bound left : ℕ) (state : State) (next : Runs) (outcome : Result State Stop)
    → is_less from to ≡ true → state.turns ≡ suc left → suc state.turns ≤ suc bound
    → AllRunTo program body (counting local from state left) outcome
    → ((between : State) → suc between.turns ≤ bound → Counts program local to body (add from 1) between (next between))
    → Counts program local to body from state (outcome >>= next)
turn_counts program local to body from bound left state next (Ok between) less one enough runs goes_on =
    Counts.for_goes_on local to body from left state between (next between) less one runs
    (goes_on between (few_left state.turns bound left between.turns enough one (list_turns program body (counting local from state left) (Ok between) runs)))
turn_counts program local to body from bound left state next (Err stop) less one enough runs goes_on =
    Counts.for_stops local to body from left stop state less one runs

due_counts : (program : LinkedProgram) (local to : ℕ) (body : List MainStmt) (from bound : ℕ) (state : State) (next : Runs) (turns : ℕ)
    → state.turns ≡ turns → is_less from to ≡ true → suc state.turns ≤ suc bound → AreSound program body
    → ((between : State) → suc between.turns ≤ bound → Counts program local to body (add from 1) between (next between))
    → Counts program local to body from state
    (spec.turn (map (runs_of program) body) (spec.with_locals state (with_local state.locals local (number from))) >>= next)
due_counts program local to body from bound state next zero none less enough sound goes_on =
    subst (λ o. Counts program local to body from state (o >>= next))
    (sym (turn_spent (map (runs_of program) body) (spec.with_locals state (with_local state.locals local (number from))) none))
    (Counts.for_spent local to body from state less none)
due_counts program local to body from bound state next (suc left) one less enough sound goes_on =
    subst (λ o. Counts program local to body from state (o >>= next))
    (sym (turn_begun (map (runs_of program) body) (spec.with_locals state (with_local state.locals local (number from))) left one))
    (turn_counts program local to body from bound left state next _ less one enough (sound (counting local from state left)) goes_on)

tested_counts : (program : LinkedProgram) (local to : ℕ) (body : List MainStmt) (from bound : ℕ) (state : State) (next : Runs) (test : Bool)
    → is_less from to ≡ test → suc state.turns ≤ suc bound → AreSound program body
    → ((between : State) → suc between.turns ≤ bound → Counts program local to body (add from 1) between (next between))
    → Counts program local to body from state
    (if test then spec.turn (map (runs_of program) body) (spec.with_locals state (with_local state.locals local (number from))) >>= next else Ok state)
tested_counts program local to body from bound state next true less enough sound goes_on =
    due_counts program local to body from bound state next state.turns refl less enough sound goes_on
tested_counts program local to body from bound state next false less enough sound goes_on = Counts.for_ends local to body from state less

counts_answered : (program : LinkedProgram) (local to : ℕ) (body : List MainStmt) → AreSound program body
    → (bound from : ℕ) (state : State) → suc state.turns ≤ bound
    → Counts program local to body from state (spec.count_up_to bound local from to (map (runs_of program) body) state)
counts_answered program local to body sound zero from state enough = absurd (too_few state.turns enough)
counts_answered program local to body sound (suc bound) from state enough =
    tested_counts program local to body from bound state (spec.count_up_to bound local (add from 1) to (map (runs_of program) body))
    (is_less from to) refl enough sound (λ between fewer. counts_answered program local to body sound bound (add from 1) between fewer)

for_answered : (program : LinkedProgram) (line local : ℕ) (from to : TypedExpr) (body : List MainStmt) → AreSound program body
    → Sound program (stmt.For line local from to body)
unfolding counted
for_answered program line local from to body sound =
    by_form program (stmt.For line local from to body) (counted program line local from to (map (runs_of program) body)) (for_is program line local from to body)
    (λ state. by_first state (meaning (names_in program state) from) refl)
  where
    by_second : (state : State) (a : Value) (m : Result Value TrapKind) → meaning (names_in program state) from ≡ Ok a → meaning (names_in program state) to ≡ m
        → RunsTo program (stmt.For line local from to body) state
        (at line m >>= λ b. spec.count_up_to (suc state.turns) local (word_of a) (word_of b) (map (runs_of program) body) state)
    by_second state a (Ok b) first second = RunsTo.loop line local from to body a b state _ first second
        (counts_answered program local (word_of b) body sound (suc state.turns) (word_of a) state (itself (suc state.turns)))
    by_second state a (Err kind) first second = RunsTo.to_traps line local from to body a kind state first second

    by_first : (state : State) (m : Result Value TrapKind) → meaning (names_in program state) from ≡ m
        → RunsTo program (stmt.For line local from to body) state
        (at line m >>= λ a. spec.value_in program state line to
        >>= λ b. spec.count_up_to (suc state.turns) local (word_of a) (word_of b) (map (runs_of program) body) state)
    by_first state (Ok a) first = by_second state a (meaning (names_in program state) to) first refl
    by_first state (Err kind) first = RunsTo.from_traps line local from to body kind state first

-- ---- choices and assertions

choice_answered : (program : LinkedProgram) (line : ℕ) (cond : TypedCond) (body otherwise : List MainStmt) → AreSound program body → AreSound program otherwise
    → Sound program (stmt.If line cond body otherwise)
unfolding chosen
choice_answered program line cond body otherwise one two =
    by_form program (stmt.If line cond body otherwise) (chosen program line cond (map (runs_of program) body) (map (runs_of program) otherwise))
    (choice_is program line cond body otherwise) (λ state. by_test state (holds (names_in program state) cond) refl)
  where
    by_test : (state : State) (m : Result Bool TrapKind) → holds (names_in program state) cond ≡ m
        → RunsTo program (stmt.If line cond body otherwise) state
        (at line m >>= λ held. in_order (if held then map (runs_of program) body else map (runs_of program) otherwise) state)
    by_test state (Ok true) is = RunsTo.choice_holds line cond body otherwise state _ is (one state)
    by_test state (Ok false) is = RunsTo.choice_fails line cond body otherwise state _ is (two state)
    by_test state (Err kind) is = RunsTo.choice_traps line cond body otherwise kind state is

assertion_answered : (program : LinkedProgram) (line : ℕ) (cond : TypedCond) → Sound program (stmt.Assert line cond)
unfolding asserted
assertion_answered program line cond =
    by_form program (stmt.Assert line cond) (asserted program line cond) (assertion_is program line cond)
    (λ state. by_test state (holds (names_in program state) cond) refl)
  where
    by_test : (state : State) (m : Result Bool TrapKind) → holds (names_in program state) cond ≡ m
        → RunsTo program (stmt.Assert line cond) state (at line m >>= λ held. if held then Ok state else at line (Err Assertion))
    by_test state (Ok true) is = RunsTo.assertion_holds line cond state is
    by_test state (Ok false) is = RunsTo.assertion_fails line cond state is
    by_test state (Err kind) is = RunsTo.assertion_traps line cond kind state is

-- ---- all statements

abbrev S : LinkedProgram → Type 0
S program = (s : MainStmt) × Sound program s

abbrev plain : (program : LinkedProgram) → MainStmt-F (S program) → MainStmt-F MainStmt
plain program y = tree.map-MainStmt (S program) MainStmt (λ s. s.0) y

node_answered : (program : LinkedProgram) (y : MainStmt-F (S program)) → Sound program (tree.roll-MainStmt (plain program y))
node_answered program (MainStmt-F.Var line numbers r) =
    subst (Sound program) (sym (stmt.rolls-Var line numbers r)) (var_answered program line numbers r)
node_answered program (MainStmt-F.Assign line targets r) =
    subst (Sound program) (sym (stmt.rolls-Assign line targets r)) (assign_answered program line targets r)
node_answered program (MainStmt-F.While line cond body) =
    subst (Sound program) (sym (stmt.rolls-While line cond (map (λ s. s.0) body)))
    (while_answered program line cond (map (λ s. s.0) body) (are_answered program body))
node_answered program (MainStmt-F.For line local from to body) =
    subst (Sound program) (sym (stmt.rolls-For line local from to (map (λ s. s.0) body)))
    (for_answered program line local from to (map (λ s. s.0) body) (are_answered program body))
node_answered program (MainStmt-F.If line cond body otherwise) =
    subst (Sound program) (sym (stmt.rolls-If line cond (map (λ s. s.0) body) (map (λ s. s.0) otherwise)))
    (choice_answered program line cond (map (λ s. s.0) body) (map (λ s. s.0) otherwise) (are_answered program body) (are_answered program otherwise))
node_answered program (MainStmt-F.Assert line cond) =
    subst (Sound program) (sym (stmt.rolls-Assert line cond)) (assertion_answered program line cond)

pub statement_answered : IsStatementAnswered
statement_answered program = ind-MainStmt (Sound program) (λ x y is. subst (λ z. Sound program (tree.roll-MainStmt z)) is (node_answered program y))

list_answered : (program : LinkedProgram) (body : List MainStmt) → AreSound program body
list_answered program [] state = AllRunTo.none state
list_answered program (s ∷ body) state =
    first_and_others program s body state (runs_of program s state) (statement_answered program s state) (list_answered program body)

-- ---- programs

pub program_answered : IsAnswered
unfolding run
program_answered program sets turns = by_outcome _ (list_answered program program.typed.body (at_first program sets turns))
  where
    by_outcome : (outcome : Result State Stop) → AllRunTo program program.typed.body (at_first program sets turns) outcome
        → RunsProgram program sets turns (outcome >>= λ state. Ok state.sets)
    by_outcome (Ok after) runs = RunsProgram.ended after runs
    by_outcome (Err stop) runs = RunsProgram.stopped stop runs
