-- A run leaves the shapes of all sets.
use Rattle.std.proofs.Common.{◌≡◌, ℕ, ◌+◌, List, [], ◌∷◌, length, map, get_or, Result, Ok, Err, refl, sym, ap, subst, ◌∙◌}
use Rattle.std.specs.List.{range_with_len}
use Rattle.std.proofs.Math.ListN as lists
use Rattle.std.proofs.Math.Seq.{map-set_same}
use Rattle.std.proofs.lemmas.List.{length-map, length-set}
use Rattle.hypergraph.specs.SetValue.{SetValue, with_column}
use Rattle.hypergraph.specs.Sets.{set_at, empty_set}
use Rattle.typed_tree.specs.Cost.{entries_in}
use Rattle.typed_tree.specs.declared.condition.TypedCond.{TypedCond}
use Rattle.typed_tree.specs.declared.main_procedure.MainStmt.{MainStmt}
use Rattle.typed_tree.specs.declared.main_procedure.TypedTarget.{TypedTarget}
use Rattle.typed_tree.specs.declared.program.TypedField.{TypedField}
use Rattle.algebra_meaning.specs.Linked.{LinkedProgram}
use Rattle.value_algebra.specs.declared.value.Value.{Value}
use Rattle.value_algebra.specs.Fields.{block_of, column_words, first_column, with_columns, with_field}
use Rattle.algebra_meaning.specs.Expression.{set_fields}
use Rattle.algebra_meaning.specs.declared.state.State.{State}
use Rattle.algebra_meaning.specs.declared.stopped.Stop.{Stop}
use Rattle.run_laws.specs.Runs.{IsChanged, AreChanged, RunsTo, Repeats, Counts, AllRunTo, RunsProgram}
use Rattle.run_laws.specs.Shapes.{Shape, shape_of, DiffersInWords, DifferInWords, LeavesShapes, ChangesWords, StatementsChangeWords}
use Rattle.run_laws.proofs.Answered.{program_answered}

-- ---- fields

abbrev with_count : SetValue → ℕ → Shape
with_count set columns = record { count = set.count; over = set.over; arity = set.arity; endpoints = set.endpoints; columns = columns }

columns_shape : (set : SetValue) (first : ℕ) (columns : List (List ℕ)) → shape_of (with_columns set first columns) ≡ shape_of set
columns_shape set first [] = refl
columns_shape set first (words ∷ columns) =
    columns_shape (with_column set first words) (first + 1) columns ∙ ap (with_count set) (length-set set.columns first words)

field_shape : (fields : List TypedField) (set : SetValue) (field : ℕ) (words : List ℕ) → shape_of (with_field fields set field words) ≡ shape_of set
unfolding with_field
field_shape fields set field words =
    columns_shape set (first_column fields field)
    (map (column_words set.count (entries_in (block_of fields field)) words) (range_with_len 0 (entries_in (block_of fields field))))

-- ---- states

abbrev shapes_in : State → List Shape
shapes_in state = map shape_of state.sets

-- an outcome with the shapes of a state
abbrev Leaves : State → Result State Stop → Type 0
Leaves before (Ok after) = shapes_in after ≡ shapes_in before
Leaves before (Err stop) = Unit {0}

leaves_on : (before between : State) (outcome : Result State Stop) → shapes_in between ≡ shapes_in before → Leaves between outcome → Leaves before outcome
leaves_on before between (Ok after) first others = others ∙ first
leaves_on before between (Err stop) first others = others

changed_leaves : (program : LinkedProgram) (before : State) (t : TypedTarget) (value : Value) (after : State)
    → IsChanged program before t value after → shapes_in after ≡ shapes_in before
changed_leaves program before t value after (IsChanged.variable number v) = refl
changed_leaves program before t value after (IsChanged.field set field v) =
    map-set_same shape_of before.sets set (with_field (set_fields program.typed set) (set_at before.sets set) field v.words) empty_set
    (field_shape (set_fields program.typed set) (set_at before.sets set) field v.words)

all_changed_leaves : (program : LinkedProgram) (ts : List TypedTarget) (values : List Value) (before after : State)
    → AreChanged program ts values before after → shapes_in after ≡ shapes_in before
all_changed_leaves program ts values before after (AreChanged.no_target vs here) = refl
all_changed_leaves program ts values before after (AreChanged.no_value_left u us here) = refl
all_changed_leaves program ts values before after (AreChanged.one_more u us v vs first between last one others) =
    all_changed_leaves program us vs between last others ∙ changed_leaves program first u v between one

-- ---- statements

mutual
  statement_leaves : (program : LinkedProgram) (s : MainStmt) (before : State) (outcome : Result State Stop)
      → RunsTo program s before outcome → Leaves before outcome
  statement_leaves program s before outcome (RunsTo.variables line numbers r values state after yields changed) =
      all_changed_leaves program _ values state after changed
  statement_leaves program s before outcome (RunsTo.variables_stop line numbers r stop state yields) = tt
  statement_leaves program s before outcome (RunsTo.assignment line targets r values state after yields changed) =
      all_changed_leaves program targets values state after changed
  statement_leaves program s before outcome (RunsTo.assignment_stops line targets r stop state yields) = tt
  statement_leaves program s before outcome (RunsTo.repetition line cond body state end runs) = repeated_leaves program line cond body state end runs
  statement_leaves program s before outcome (RunsTo.loop line local from to body a b state end first second runs) =
      counted_leaves program local _ body _ state end runs
  statement_leaves program s before outcome (RunsTo.from_traps line local from to body kind state first) = tt
  statement_leaves program s before outcome (RunsTo.to_traps line local from to body a kind state first second) = tt
  statement_leaves program s before outcome (RunsTo.choice_holds line cond body otherwise state end held runs) = list_leaves program body state end runs
  statement_leaves program s before outcome (RunsTo.choice_fails line cond body otherwise state end held runs) = list_leaves program otherwise state end runs
  statement_leaves program s before outcome (RunsTo.choice_traps line cond body otherwise kind state held) = tt
  statement_leaves program s before outcome (RunsTo.assertion_holds line cond state held) = refl
  statement_leaves program s before outcome (RunsTo.assertion_fails line cond state held) = tt
  statement_leaves program s before outcome (RunsTo.assertion_traps line cond kind state held) = tt

  repeated_leaves : (program : LinkedProgram) (line : ℕ) (cond : TypedCond) (body : List MainStmt) (before : State) (outcome : Result State Stop)
      → Repeats program line cond body before outcome → Leaves before outcome
  repeated_leaves program line cond body before outcome (Repeats.while_traps l c b kind state held) = tt
  repeated_leaves program line cond body before outcome (Repeats.while_ends l c b state held) = refl
  repeated_leaves program line cond body before outcome (Repeats.while_spent l c b state held none) = tt
  repeated_leaves program line cond body before outcome (Repeats.while_stops l c b left stop state held one runs) = tt
  repeated_leaves program line cond body before outcome (Repeats.while_goes_on l c b left state between end held one runs others) =
      leaves_on state between end (list_leaves program b _ (Ok between) runs) (repeated_leaves program l c b between end others)

  counted_leaves : (program : LinkedProgram) (local to : ℕ) (body : List MainStmt) (from : ℕ) (before : State) (outcome : Result State Stop)
      → Counts program local to body from before outcome → Leaves before outcome
  counted_leaves program local to body from before outcome (Counts.for_ends i n b here state less) = refl
  counted_leaves program local to body from before outcome (Counts.for_spent i n b here state less none) = tt
  counted_leaves program local to body from before outcome (Counts.for_stops i n b here left stop state less one runs) = tt
  counted_leaves program local to body from before outcome (Counts.for_goes_on i n b here left state between end less one runs others) =
      leaves_on state between end (list_leaves program b _ (Ok between) runs) (counted_leaves program i n b _ between end others)

  list_leaves : (program : LinkedProgram) (body : List MainStmt) (before : State) (outcome : Result State Stop)
      → AllRunTo program body before outcome → Leaves before outcome
  list_leaves program body before outcome (AllRunTo.none here) = refl
  list_leaves program body before outcome (AllRunTo.first_stops s rest stop here first) = tt
  list_leaves program body before outcome (AllRunTo.one_more s rest here between end first others) =
      leaves_on here between end (statement_leaves program s here (Ok between) first) (list_leaves program rest between end others)

-- ---- programs

abbrev LeavesAll : List SetValue → Result (List SetValue) Stop → Type 0
LeavesAll sets (Ok after) = map shape_of after ≡ map shape_of sets
LeavesAll sets (Err stop) = Unit {0}

program_leaves : (program : LinkedProgram) (sets : List SetValue) (turns : ℕ) (outcome : Result (List SetValue) Stop)
    → RunsProgram program sets turns outcome → LeavesAll sets outcome
program_leaves program sets turns outcome (RunsProgram.ended after runs) = list_leaves program program.typed.body _ (Ok after) runs
program_leaves program sets turns outcome (RunsProgram.stopped stop runs) = tt

pub leaves_shapes : LeavesShapes
leaves_shapes program sets after turns is = program_leaves program sets turns (Ok after)
    (subst (RunsProgram program sets turns) is (program_answered program sets turns))

-- ---- each set

same_count : (before after : List SetValue) → map shape_of after ≡ map shape_of before → length after ≡ length before
same_count before after same = sym (length-map after shape_of) ∙ ap length same ∙ length-map before shape_of

same_shape : (before after : List SetValue) (number : ℕ) → map shape_of after ≡ map shape_of before
    → shape_of (set_at after number) ≡ shape_of (set_at before number)
same_shape before after number same =
    sym (lists.get_or-map shape_of after number empty_set) ∙ ap (λ shapes. get_or shapes number (shape_of empty_set)) same
    ∙ lists.get_or-map shape_of before number empty_set

by_shape : (before after : SetValue) → shape_of after ≡ shape_of before → DiffersInWords before after
by_shape before after same = record {
  count = ap (λ s. s.count) same;
  over = ap (λ s. s.over) same;
  arity = ap (λ s. s.arity) same;
  endpoints = ap (λ s. s.endpoints) same;
  columns = ap (λ s. s.columns) same;
}

by_shapes : (before after : List SetValue) → map shape_of after ≡ map shape_of before → DifferInWords before after
by_shapes before after same =
    record { count = same_count before after same; each = λ number. by_shape (set_at before number) (set_at after number) (same_shape before after number same) }

pub changes_words : ChangesWords
changes_words program sets after turns is = by_shapes sets after (leaves_shapes program sets after turns is)

pub statements_change_words : StatementsChangeWords
statements_change_words program s before after runs = by_shapes before.sets after.sets (statement_leaves program s before (Ok after) runs)
