-- What names mean after another was declared, and what statements leave of what is known.
use Rattle.std.proofs.Common.{◌≡◌, ◌⊎◌, ℕ, suc, ◌≤◌, Bool, true, false, if◌then◌else◌, List, [], ◌∷◌, ◌++◌, length, Some, None, refl, sym, ap, ◌∙◌, arith, inl, inr}
use Rattle.std.specs.Prelude.{Option, slice_get}
use Rattle.std.specs.Option.{option_map}
use Rattle.std.specs.Str.{bytes_eq}
use Rattle.sim_syntax.specs.declared.statement.Stmt.{Stmt}
use Rattle.type_rules.specs.declared.types.NodeType.{NodeType}
use Rattle.typed_tree.specs.declared.environment.Environment.{Environment}
use Rattle.typed_tree.specs.declared.environment.Walk.{Walk}
use Rattle.typed_tree.specs.declared.main_procedure.MainStmt.{MainStmt}
use Rattle.typed_tree.specs.declared.names.Meaning.{Meaning}
use Rattle.typed_tree.specs.declared.names.Meaning.TheVariants as meaning
use Rattle.typed_tree.specs.declared.program.Variable.{Variable}
use Rattle.typed_tree.specs.MainProcedure.{with_variable}
use Rattle.typed_tree.specs.Names.{Known, Name, meaning_of, with_meaning}
use Rattle.typed_tree.specs.Walking.{with_declarations, with_names, with_nodes}
use Rattle.typing_laws.specs.MainStatements.{AreDeclared, IsMainTyping, AreMainTypings}
use Rattle.typing_laws.specs.Scopes.{IsNew, past, leaving}
use Rattle.run_sizes.proofs.Lists.{same_Some, get_append, length_grown}

-- a name that is known after another was declared is that one's, or was known before
pub found_after : (known : Known) (name : Name) (m : Meaning) (other : Name) (what : Meaning) → meaning_of (with_meaning known name m) other ≡ Some what
    → (what ≡ m) ⊎ (meaning_of known other ≡ Some what)
found_after [] name m other what is = alone (bytes_eq name other) is
  where
    alone : (b : Bool) → (if b then Some m else None) ≡ Some what → (what ≡ m) ⊎ (meaning_of [] other ≡ Some what)
    alone true answers = inl (sym (same_Some m what answers))
    alone false answers = absurd (cc)
found_after (entry ∷ known) name m other what is = by_first (bytes_eq entry.0 name) is (found_after known name m other what)
  where
    in_place : (b : Bool) → (if b then Some m else meaning_of known other) ≡ Some what → (what ≡ m) ⊎ ((if b then Some entry.1 else meaning_of known other) ≡ Some what)
    in_place true answers = inl (sym (same_Some m what answers))
    in_place false answers = inr answers

    later : (b : Bool) → (if b then Some entry.1 else meaning_of (with_meaning known name m) other) ≡ Some what
        → (meaning_of (with_meaning known name m) other ≡ Some what → (what ≡ m) ⊎ (meaning_of known other ≡ Some what))
        → (what ≡ m) ⊎ ((if b then Some entry.1 else meaning_of known other) ≡ Some what)
    later true answers rest = inr answers
    later false answers rest = rest answers

    by_first : (b : Bool) → meaning_of (if b then (entry.0, m) ∷ known else entry ∷ with_meaning known name m) other ≡ Some what
        → (meaning_of (with_meaning known name m) other ≡ Some what → (what ≡ m) ⊎ (meaning_of known other ≡ Some what))
        → (what ≡ m) ⊎ (meaning_of (entry ∷ known) other ≡ Some what)
    by_first true answers rest = in_place (bytes_eq entry.0 other) answers
    by_first false answers rest = later (bytes_eq entry.0 other) answers rest

-- a name keeps its meaning where a new one is declared
pub still_known : (known : Known) (name : Name) (m : Meaning) (other : Name) (what : Meaning) → meaning_of known name ≡ None → meaning_of known other ≡ Some what
    → meaning_of (with_meaning known name m) other ≡ Some what
still_known [] name m other what new is = absurd (cc)
still_known (entry ∷ known) name m other what new is = by_first (bytes_eq entry.0 name) new (still_known known name m other what)
  where
    later : (b : Bool) → (if b then Some entry.1 else meaning_of known other) ≡ Some what
        → (meaning_of known other ≡ Some what → meaning_of (with_meaning known name m) other ≡ Some what)
        → (if b then Some entry.1 else meaning_of (with_meaning known name m) other) ≡ Some what
    later true answers rest = answers
    later false answers rest = rest answers

    by_first : (b : Bool) → (if b then Some entry.1 else meaning_of known name) ≡ None
        → (meaning_of known name ≡ None → meaning_of known other ≡ Some what → meaning_of (with_meaning known name m) other ≡ Some what)
        → meaning_of (if b then (entry.0, m) ∷ known else entry ∷ with_meaning known name m) other ≡ Some what
    by_first true none rest = absurd (cc)
    by_first false none rest = later (bytes_eq entry.0 other) is (rest none)

-- the type of a variable by its number
abbrev pub type_at : Environment → ℕ → Option NodeType
type_at env n = option_map (λ v. v.value_type) (slice_get env.declarations.variables n)

-- what is known at a point, and how many locals there are, goes on
pub record Grows (before after : Environment) (depth deeper : ℕ) : Type 0 where
  pub level : after.level ≡ before.level
  pub elements : after.declarations.elements ≡ before.declarations.elements
  pub sets : after.declarations.sets ≡ before.declarations.sets
  pub functions : after.declarations.functions ≡ before.declarations.functions
  pub count : length before.declarations.variables ≤ length after.declarations.variables
  pub types : (n : ℕ) (t : NodeType) → type_at before n ≡ Some t → type_at after n ≡ Some t
  pub names : (name : Name) (what : Meaning) → meaning_of before.names name ≡ Some what → meaning_of after.names name ≡ Some what
  pub locals : depth ≤ deeper

abbrev pub GoesOn : Walk → Walk → Type 0
GoesOn before after = Grows before.environment after.environment before.locals after.locals

pub itself : (n : ℕ) → n ≤ n
itself n = omega arith

one_less : (n m : ℕ) → suc n ≤ m → n ≤ m
one_less n m below = omega (arith, below)

pub in_turn : (a b c : ℕ) → a ≤ b → b ≤ c → a ≤ c
in_turn a b c first second = omega (arith, first, second)

grown_by_one : (n m : ℕ) → m ≡ suc n → n ≤ m
grown_by_one n m is = omega (arith, is)

pub stays : (env : Environment) (depth : ℕ) → Grows env env depth depth
stays env depth = record {
  level = refl;
  elements = refl;
  sets = refl;
  functions = refl;
  count = itself (length env.declarations.variables);
  types = λ n t is. is;
  names = λ name what is. is;
  locals = itself depth;
}

pub goes_on : (first second third : Environment) (a b c : ℕ) → Grows first second a b → Grows second third b c → Grows first third a c
goes_on first second third a b c one other = record {
  level = other.level ∙ one.level;
  elements = other.elements ∙ one.elements;
  sets = other.sets ∙ one.sets;
  functions = other.functions ∙ one.functions;
  count = in_turn (length first.declarations.variables) (length second.declarations.variables) (length third.declarations.variables) one.count other.count;
  types = λ n t is. other.types n t (one.types n t is);
  names = λ name what is. other.names name what (one.names name what is);
  locals = in_turn a b c one.locals other.locals;
}

-- a list of statements leaves the names and the locals
pub left : (before inner : Environment) (depth deeper : ℕ) → Grows before inner depth deeper → Grows before (with_declarations before inner.declarations) depth depth
left before inner depth deeper grows = record {
  level = refl;
  elements = grows.elements;
  sets = grows.sets;
  functions = grows.functions;
  count = grows.count;
  types = grows.types;
  names = λ name what is. is;
  locals = itself depth;
}

-- a loop's variable is declared
pub counter_grows : (walk : Walk) (name : Name) → IsNew walk name
    → Grows walk.environment (with_names walk.environment (with_meaning walk.environment.names name (meaning.Counter walk.locals))) walk.locals (suc walk.locals)
counter_grows walk name new = record {
  level = refl;
  elements = refl;
  sets = refl;
  functions = refl;
  count = itself (length walk.environment.declarations.variables);
  types = λ n t is. is;
  names = λ other what is. still_known walk.environment.names name (meaning.Counter walk.locals) other what new is;
  locals = one_less walk.locals (suc walk.locals) (itself (suc walk.locals));
}

pub type_appended : (vars : List Variable) (v : Variable) (n : ℕ) (t : NodeType) → option_map (λ v. v.value_type) (slice_get vars n) ≡ Some t
    → option_map (λ v. v.value_type) (slice_get (vars ++ v ∷ []) n) ≡ Some t
type_appended vars v n t is = by_found (slice_get vars n) refl is
  where
    by_found : (o : Option Variable) → slice_get vars n ≡ o → option_map (λ v. v.value_type) o ≡ Some t → option_map (λ v. v.value_type) (slice_get (vars ++ v ∷ []) n) ≡ Some t
    by_found None at answers = absurd (cc)
    by_found (Some w) at answers = ap (option_map (λ v. v.value_type)) (get_append vars (v ∷ []) n w at) ∙ answers

pub variable_grows : (walk : Walk) (name : Name) (type : NodeType) → IsNew walk name → GoesOn walk (with_variable walk name type)
unfolding with_variable
variable_grows walk name type new = record {
  level = refl;
  elements = refl;
  sets = refl;
  functions = refl;
  count = grown_by_one (length walk.environment.declarations.variables) _ (length_grown walk.environment.declarations.variables (record { name = name; value_type = type }));
  types = type_appended walk.environment.declarations.variables (record { name = name; value_type = type });
  names = λ other what is.
      still_known walk.environment.names name (meaning.Variable (length walk.environment.declarations.variables) type) other what new is;
  locals = itself walk.locals;
}

pub declared_grows : (names : List Name) (types : List NodeType) (numbers : List ℕ) (walk after : Walk) → AreDeclared names types numbers walk after → GoesOn walk after
declared_grows names types numbers walk after (AreDeclared.none here) = stays here.environment here.locals
declared_grows names types numbers walk after (AreDeclared.one_more name rest type others more here end new declared) =
    let between = with_variable here name type in
    goes_on here.environment between.environment end.environment here.locals between.locals end.locals
    (variable_grows here name type new) (declared_grows rest others more between end declared)

mutual
  pub statement_grows : (s : Stmt) (t : MainStmt) (walk after : Walk) → IsMainTyping s t walk after → GoesOn walk after
  statement_grows s t walk after (IsMainTyping.variables line names r side types numbers here to end typed room declared) =
      declared_grows names types numbers (past (with_nodes here to)) end declared
  statement_grows s t walk after (IsMainTyping.assignment line targets r side types us here to typed are room) = stays here.environment here.locals
  statement_grows s t walk after (IsMainTyping.repetition line cond body tested done here to inner typed one room) =
      left here.environment inner.environment here.locals inner.locals (list_grows body done (with_nodes here to) inner one)
  statement_grows s t walk after (IsMainTyping.loop line name from to body f u done here middle end inner first second f_is u_is new typed room) =
      left here.environment inner.environment here.locals inner.locals
      (goes_on here.environment _ inner.environment here.locals (suc here.locals) inner.locals (counter_grows here name new) (list_grows body done _ inner typed))
  statement_grows s t walk after (IsMainTyping.choice line cond body otherwise tested done other here to first second typed one two room) =
      let begun = left here.environment first.environment here.locals first.locals (list_grows body done (with_nodes here to) first one) in
      left here.environment second.environment here.locals second.locals
      (goes_on here.environment (leaving here first).environment second.environment here.locals here.locals second.locals begun
      (list_grows otherwise other (leaving here first) second two))
  statement_grows s t walk after (IsMainTyping.assertion line cond tested here to typed room) = stays here.environment here.locals

  pub list_grows : (body : List Stmt) (done : List MainStmt) (walk after : Walk) → AreMainTypings body done walk after → GoesOn walk after
  list_grows body done walk after (AreMainTypings.none here) = stays here.environment here.locals
  list_grows body done walk after (AreMainTypings.one_more s rest t more here between end one others) =
      goes_on here.environment between.environment end.environment here.locals between.locals end.locals
      (statement_grows s t here between one) (list_grows rest more between end others)
