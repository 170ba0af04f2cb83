-- What is known at a statement and the values in a state go together: each name stands for a value of the size of its type.
use Rattle.std.proofs.Common.{◌≡◌, ◌⊎◌, ℕ, suc, ◌<◌, ◌≤◌, Bool, true, false, List, [], ◌∷◌, ◌++◌, length, Option, Some, None, Result, Ok, refl, sym, ap, ◌∙◌, subst, arith, inl, inr}
use Rattle.std.specs.Prelude.{◌==◌, slice_get, slice_set}
use Rattle.std.specs.Option.{option_map}
use Rattle.std.proofs.lemmas.Bool.{true≢false}
use Rattle.std.proofs.lemmas.Bool.Decides.{Decides-eqb}
use Rattle.std.proofs.lemmas.List.{length-set}
use Rattle.hypergraph.specs.SetValue.{SetValue}
use Rattle.type_rules.specs.declared.types.BlockShape.TheVariants.{Number}
use Rattle.type_rules.specs.declared.types.NodeType.{NodeType}
use Rattle.type_rules.specs.declared.types.NodeType.TheVariants.{Local}
use Rattle.typed_tree.specs.declared.environment.Environment.{Environment}
use Rattle.typed_tree.specs.declared.environment.Level.{Level}
use Rattle.typed_tree.specs.declared.environment.Level.TheVariants.{Function, Main}
use Rattle.typed_tree.specs.declared.environment.Walk.{Walk}
use Rattle.typed_tree.specs.declared.expression.Referent.{Referent}
use Rattle.typed_tree.specs.declared.expression.Referent.TheVariants as referent
use Rattle.typed_tree.specs.declared.names.Meaning.{Meaning}
use Rattle.typed_tree.specs.declared.names.Meaning.TheVariants as meaning
use Rattle.algebra_meaning.specs.Linked.{LinkedProgram}
use Rattle.typed_tree.specs.declared.program.Variable.{Variable}
use Rattle.typed_tree.specs.Expressions.{member_rule, name_rule, set_member, value_rule}
use Rattle.typed_tree.specs.Lookups as lookups
use Rattle.typed_tree.specs.Lookups.{find_field, over_set}
use Rattle.typed_tree.specs.MainProcedure.{with_variable}
use Rattle.typed_tree.specs.Names.{Name, meaning_of, with_meaning}
use Rattle.typed_tree.specs.Walking.{with_declarations, with_names}
use Rattle.value_algebra.specs.declared.value.Value.{Value}
use Rattle.value_algebra.specs.Fields as fields
use Rattle.value_algebra.specs.Fields.{field_over}
use Rattle.value_algebra.specs.Value.{number}
use Rattle.algebra_meaning.specs.Element.{with_local}
use Rattle.algebra_meaning.specs.Expression.{found, referred, set_fields, value_at}
use Rattle.algebra_meaning.specs.declared.state.State.{State}
use Rattle.index_laws.specs.Fits.{Fits, NamesFit}
use Rattle.index_laws.specs.Sizes.{IsMain, IsOfMain}
use Rattle.run_laws.specs.Shapes.{DifferInWords}
use Rattle.run_sizes.proofs.Lists.{same_Some, get_last, get_past, get_set_other, get_set_same, get_taken, get_taken_last, length_grown, length_taken}
use Rattle.run_sizes.proofs.Names.{Grows, found_after, in_turn, type_appended, type_at}
use Rattle.run_sizes.proofs.Sizes.{field_fits, still_fits}

abbrev answer : {A : Type 0} (E : Type 0) → A → Result A E
answer E x = Ok x

pub same_answer : {A E : Type 0} (x y : A) → answer E x ≡ answer E y → x ≡ y
same_answer x y same = cc

pub record Known (program : LinkedProgram) (sets : List SetValue) (env : Environment) (depth : ℕ) (variables locals : List Value) : Type 0 where
  pub level : env.level ≡ Main
  pub elements : env.declarations.elements ≡ program.typed.elements
  pub sets_same : env.declarations.sets ≡ program.typed.sets
  pub functions : env.declarations.functions ≡ program.typed.functions
  pub of_main : (name : Name) (what : Meaning) → meaning_of env.names name ≡ Some what → IsOfMain what
  pub of_variables : (name : Name) (n : ℕ) (t : NodeType) → meaning_of env.names name ≡ Some (meaning.Variable n t)
      → (type_at env n ≡ Some t) × Fits sets t (value_at variables n)
  pub of_counters : (name : Name) (l : ℕ) → meaning_of env.names name ≡ Some (meaning.Counter l)
      → (l < depth) × Fits sets (Local Number 0) (value_at locals l)
  pub deep : depth ≤ length locals
  pub count : length variables ≡ length program.typed.variables

abbrev pub KnownIn : LinkedProgram → Walk → State → Type 0
KnownIn program walk state = Known program state.sets walk.environment walk.locals state.variables state.locals

pub is_main : (program : LinkedProgram) (sets : List SetValue) (env : Environment) (depth : ℕ) (variables locals : List Value)
    → Known program sets env depth variables locals → IsMain env
is_main program sets env depth variables locals known = record { level = known.level; names = known.of_main }

-- ---- names

module _ (program : LinkedProgram) (sets : List SetValue) (env : Environment) (depth : ℕ) (variables locals : List Value) (known : Known program sets env depth variables locals) where
  same_fields : (set : ℕ) → lookups.fields_of env.declarations (lookups.element_in env.declarations set) ≡ set_fields program.typed set
  same_fields set =
      ap (λ es. fields.fields_of es (fields.element_in env.declarations.sets set)) known.elements ∙ ap (λ s. fields.fields_of program.typed.elements (fields.element_in s set)) known.sets_same

  value_fits : (name : Name) (what : Referent) (type : NodeType) (m : Option Meaning) → meaning_of env.names name ≡ m → value_rule m [] ≡ Ok (what, type)
      → Fits sets type (referred (record { program = program; sets = sets; variables = variables; locals = locals; place = None }) what [] [])
  unfolding value_rule
  value_fits name what type None at is = absurd (cc)
  value_fits name what type (Some (meaning.Element n)) at is = absurd (cc)
  value_fits name what type (Some (meaning.Set n)) at is = absurd (cc)
  value_fits name what type (Some (meaning.Function n)) at is = absurd (cc)
  value_fits name what type (Some (meaning.Host host)) at is = absurd (cc)
  value_fits name what type (Some (meaning.Parameter local scale)) at is = absurd (known.of_main name (meaning.Parameter local scale) at)
  value_fits name what type (Some (meaning.Own element)) at is = absurd (cc)
  value_fits name what type (Some (meaning.Ends element count)) at is = absurd (cc)
  value_fits name what type (Some (meaning.Result result t)) at is = absurd (cc)
  value_fits name what type (Some (meaning.Local local t)) at is = absurd (known.of_main name (meaning.Local local t) at)
  value_fits name what type (Some (meaning.Turn local range)) at is = absurd (known.of_main name (meaning.Turn local range) at)
  value_fits name what type (Some (meaning.Variable n t)) at is =
      subst (λ p. Fits sets p.1 (referred (record { program = program; sets = sets; variables = variables; locals = locals; place = None }) p.0 [] []))
      (same_answer (referent.Variable n, t) (what, type) is) (known.of_variables name n t at).1
  value_fits name what type (Some (meaning.Counter l)) at is =
      subst (λ p. Fits sets p.1 (referred (record { program = program; sets = sets; variables = variables; locals = locals; place = None }) p.0 [] []))
      (same_answer (referent.Local l, Local Number 0) (what, type) is) (known.of_counters name l at).1
  value_fits name what type (Some meaning.Taken) at is = absurd (cc)

  field_of_set : (set : ℕ) (field : Name) (what : Referent) (type : NodeType) (level : Level) (o : Option (ℕ × NodeType))
      → find_field (lookups.fields_of env.declarations (lookups.element_in env.declarations set)) field ≡ o → set_member level set o [] ≡ Ok (what, type)
      → Fits sets type (referred (record { program = program; sets = sets; variables = variables; locals = locals; place = None }) what [] [])
  unfolding set_member
  field_of_set set field what type Function o at is = absurd (cc)
  field_of_set set field what type Main None at is = absurd (cc)
  field_of_set set field what type Main (Some (k, f)) at is =
      subst (λ p. Fits sets p.1 (referred (record { program = program; sets = sets; variables = variables; locals = locals; place = None }) p.0 [] []))
      (same_answer (referent.Field set k, over_set set f) (what, type) is)
      (field_fits (set_fields program.typed set) sets set k field f (ap (λ fs. find_field fs field) (sym (same_fields set)) ∙ at))

  member_fits : (name field : Name) (what : Referent) (type : NodeType) (m : Option Meaning) → meaning_of env.names name ≡ m → member_rule env m field [] [] ≡ Ok (what, type)
      → Fits sets type (referred (record { program = program; sets = sets; variables = variables; locals = locals; place = None }) what [] [])
  unfolding member_rule
  member_fits name field what type None at is = absurd (cc)
  member_fits name field what type (Some (meaning.Element n)) at is = absurd (cc)
  member_fits name field what type (Some (meaning.Set n)) at is =
      field_of_set n field what type env.level (find_field (lookups.fields_of env.declarations (lookups.element_in env.declarations n)) field) refl is
  member_fits name field what type (Some (meaning.Function n)) at is = absurd (cc)
  member_fits name field what type (Some (meaning.Host host)) at is = absurd (cc)
  member_fits name field what type (Some (meaning.Parameter local scale)) at is = absurd (cc)
  member_fits name field what type (Some (meaning.Own element)) at is = absurd (known.of_main name (meaning.Own element) at)
  member_fits name field what type (Some (meaning.Ends element count)) at is = absurd (known.of_main name (meaning.Ends element count) at)
  member_fits name field what type (Some (meaning.Result result t)) at is = absurd (cc)
  member_fits name field what type (Some (meaning.Local local t)) at is = absurd (cc)
  member_fits name field what type (Some (meaning.Turn local range)) at is = absurd (cc)
  member_fits name field what type (Some (meaning.Variable n t)) at is = absurd (cc)
  member_fits name field what type (Some (meaning.Counter l)) at is = absurd (cc)
  member_fits name field what type (Some meaning.Taken) at is = absurd (cc)

  pub names_fit : NamesFit env (record { program = program; sets = sets; variables = variables; locals = locals; place = None })
  unfolding name_rule
  names_fit name None what type is = value_fits name what type (meaning_of env.names name) refl is
  names_fit name (Some field) what type is = member_fits name field what type (meaning_of env.names name) refl is

-- ---- what goes on

-- after a list of statements: what was known before it, over the values after it
pub known_again : (program : LinkedProgram) (sets later : List SetValue) (before inner : Environment) (depth deeper : ℕ) (variables locals vs ls : List Value)
    → Grows before inner depth deeper → Known program sets before depth variables locals → Known program later inner deeper vs ls
    → Known program later before depth vs ls
known_again program sets later before inner depth deeper variables locals vs ls grows here there = record {
  level = here.level;
  elements = here.elements;
  sets_same = here.sets_same;
  functions = here.functions;
  of_main = here.of_main;
  of_variables = λ name n t at. ((here.of_variables name n t at).0, (there.of_variables name n t (grows.names name (meaning.Variable n t) at)).1);
  of_counters = λ name l at. ((here.of_counters name l at).0, (there.of_counters name l (grows.names name (meaning.Counter l) at)).1);
  deep = in_turn depth deeper (length ls) grows.locals there.deep;
  count = there.count;
}

-- with more declared, but no name
pub known_later : (program : LinkedProgram) (sets : List SetValue) (before inner : Environment) (depth deeper : ℕ) (variables locals : List Value)
    → Grows before inner depth deeper → Known program sets before depth variables locals → Known program sets (with_declarations before inner.declarations) depth variables locals
known_later program sets before inner depth deeper variables locals grows here = record {
  level = here.level;
  elements = grows.elements ∙ here.elements;
  sets_same = grows.sets ∙ here.sets_same;
  functions = grows.functions ∙ here.functions;
  of_main = here.of_main;
  of_variables = λ name n t at. let v = here.of_variables name n t at in (grows.types n t v.0, v.1);
  of_counters = here.of_counters;
  deep = here.deep;
  count = here.count;
}

pub known_over : (program : LinkedProgram) (before after : List SetValue) (env : Environment) (depth : ℕ) (variables locals : List Value) → DifferInWords before after
    → Known program before env depth variables locals → Known program after env depth variables locals
known_over program before after env depth variables locals same here = record {
  level = here.level;
  elements = here.elements;
  sets_same = here.sets_same;
  functions = here.functions;
  of_main = here.of_main;
  of_variables = λ name n t at. let v = here.of_variables name n t at in (v.0, still_fits before after t (value_at variables n) same v.1);
  of_counters = λ name l at. let v = here.of_counters name l at in (v.0, still_fits before after (Local Number 0) (value_at locals l) same v.1);
  deep = here.deep;
  count = here.count;
}

-- ---- values that are assigned

value_set : (values : List Value) (n : ℕ) (value : Value) → n < length values → value_at (slice_set values n value) n ≡ value
value_set values n value below = ap found (get_set_same values n value below)

value_kept : (values : List Value) (n k : ℕ) (value : Value) → (n ≡ k → ⊥) → value_at (slice_set values n value) k ≡ value_at values k
value_kept values n k value differ = ap found (get_set_other values n k value differ)

pub known_set : (program : LinkedProgram) (sets : List SetValue) (env : Environment) (depth : ℕ) (variables locals : List Value) (n : ℕ) (t : NodeType) (value : Value)
    → Known program sets env depth variables locals → type_at env n ≡ Some t → n < length variables → Fits sets t value
    → Known program sets env depth (slice_set variables n value) locals
known_set program sets env depth variables locals n t value here typed below fits = record {
  level = here.level;
  elements = here.elements;
  sets_same = here.sets_same;
  functions = here.functions;
  of_main = here.of_main;
  of_variables = λ name k u at. by_number k u (n == k) refl (here.of_variables name k u at);
  of_counters = here.of_counters;
  deep = here.deep;
  count = length-set variables n value ∙ here.count;
}
  where
    by_number : (k : ℕ) (u : NodeType) (b : Bool) → (n == k) ≡ b → (type_at env k ≡ Some u) × Fits sets u (value_at variables k)
        → (type_at env k ≡ Some u) × Fits sets u (value_at (slice_set variables n value) k)
    by_number k u true test v =
        let same = (Decides-eqb n k).0 test in
        let types : t ≡ u = same_Some t u (sym typed ∙ ap (type_at env) same ∙ v.0) in (
          v.0,
          subst (λ m. Fits sets u (value_at (slice_set variables n value) m)) same
              (subst (Fits sets u) (sym (value_set variables n value below)) (subst (λ s. Fits sets s value) types fits)),
        )
    by_number k u false test v =
        (v.0, subst (Fits sets u) (sym (value_kept variables n k value (λ same. true≢false (sym ((Decides-eqb n k).1 same) ∙ test)))) v.1)

-- ---- variables that are declared

same_variable : (k n : ℕ) (u t : NodeType) → meaning.Variable k u ≡ meaning.Variable n t → (k ≡ n) × (u ≡ t)
same_variable k n u t same = (cc, cc)

not_past : (vars : List Variable) (k : ℕ) (u : NodeType) → option_map (λ v. v.value_type) (slice_get vars k) ≡ Some u → length vars ≡ k → ⊥
not_past vars k u typed same =
    let none : option_map (λ v. v.value_type) (slice_get vars k) ≡ None = ap (option_map (λ v. v.value_type)) (ap (slice_get vars) (sym same) ∙ get_past vars) in
    no_type u (sym none ∙ typed)
  where
    no_type : (u : NodeType) → None ≡ Some u → ⊥
    no_type u is = cc

in_room : (vars : List Variable) (v : Variable) (most count : ℕ) → length (vars ++ v ∷ []) ≤ most → count ≡ most → length vars < count
in_room vars v most count room all = let grown : length (vars ++ v ∷ []) ≡ suc (length vars) = length_grown vars v in omega (arith, grown, room, all)

-- what a variable of a number has, where another is declared and gets a value
variable_kept : (sets : List SetValue) (vars : List Variable) (v : Variable) (variables : List Value) (value : Value) (k : ℕ) (u : NodeType)
    → length vars < length variables → Fits sets v.value_type value
    → (meaning.Variable k u ≡ meaning.Variable (length vars) v.value_type) ⊎ ((option_map (λ v. v.value_type) (slice_get vars k) ≡ Some u) × Fits sets u (value_at variables k))
    → (option_map (λ v. v.value_type) (slice_get (vars ++ v ∷ []) k) ≡ Some u) × Fits sets u (value_at (slice_set variables (length vars) value) k)
variable_kept sets vars v variables value k u below fits (inl is) =
    let same = same_variable k (length vars) u v.value_type is in (
      ap (λ j. option_map (λ v. v.value_type) (slice_get (vars ++ v ∷ []) j)) same.0 ∙ ap (option_map (λ v. v.value_type)) (get_last vars v) ∙ ap (λ t. Some t) (sym same.1),
      subst (λ t. Fits sets t (value_at (slice_set variables (length vars) value) k)) (sym same.1)
          (subst (λ j. Fits sets v.value_type (value_at (slice_set variables (length vars) value) j)) (sym same.0)
          (subst (Fits sets v.value_type) (sym (value_set variables (length vars) value below)) fits)),
    )
variable_kept sets vars v variables value k u below fits (inr old) = (
  type_appended vars v k u old.0,
  subst (Fits sets u) (sym (value_kept variables (length vars) k value (not_past vars k u old.0))) old.1,
)

pub known_declared : (program : LinkedProgram) (sets : List SetValue) (walk : Walk) (name : Name) (type : NodeType) (variables locals : List Value) (value : Value)
    → Known program sets walk.environment walk.locals variables locals
    → length (with_variable walk name type).environment.declarations.variables ≤ length program.typed.variables → Fits sets type value
    → Known program sets (with_variable walk name type).environment (with_variable walk name type).locals
    (slice_set variables (length walk.environment.declarations.variables) value) locals
unfolding with_variable
known_declared program sets walk name type variables locals value here few fits = record {
  level = here.level;
  elements = here.elements;
  sets_same = here.sets_same;
  functions = here.functions;
  of_main = λ other what at.
      main_of other what (found_after walk.environment.names name (meaning.Variable (length walk.environment.declarations.variables) type) other what at);
  of_variables = λ other k u at.
      variable_of other k u (found_after walk.environment.names name (meaning.Variable (length walk.environment.declarations.variables) type) other (meaning.Variable k u) at);
  of_counters = λ other l at.
      counter_of other l (found_after walk.environment.names name (meaning.Variable (length walk.environment.declarations.variables) type) other (meaning.Counter l) at);
  deep = here.deep;
  count = length-set variables (length walk.environment.declarations.variables) value ∙ here.count;
}
  where
    main_of : (other : Name) (what : Meaning)
        → (what ≡ meaning.Variable (length walk.environment.declarations.variables) type) ⊎ (meaning_of walk.environment.names other ≡ Some what) → IsOfMain what
    main_of other what (inl is) = subst IsOfMain (sym is) tt
    main_of other what (inr at) = here.of_main other what at

    variable_of : (other : Name) (k : ℕ) (u : NodeType)
        → (meaning.Variable k u ≡ meaning.Variable (length walk.environment.declarations.variables) type) ⊎ (meaning_of walk.environment.names other ≡ Some (meaning.Variable k u))
        → (option_map (λ v. v.value_type) (slice_get (walk.environment.declarations.variables ++ record { name = name; value_type = type } ∷ []) k) ≡ Some u)
        × Fits sets u (value_at (slice_set variables (length walk.environment.declarations.variables) value) k)
    variable_of other k u (inl is) =
        variable_kept sets walk.environment.declarations.variables (record { name = name; value_type = type }) variables value k u
        (in_room walk.environment.declarations.variables (record { name = name; value_type = type }) (length program.typed.variables) (length variables) few here.count) fits (inl is)
    variable_of other k u (inr at) =
        variable_kept sets walk.environment.declarations.variables (record { name = name; value_type = type }) variables value k u
        (in_room walk.environment.declarations.variables (record { name = name; value_type = type }) (length program.typed.variables) (length variables) few here.count) fits
        (inr (here.of_variables other k u at))

    counter_of : (other : Name) (l : ℕ)
        → (meaning.Counter l ≡ meaning.Variable (length walk.environment.declarations.variables) type) ⊎ (meaning_of walk.environment.names other ≡ Some (meaning.Counter l))
        → (l < walk.locals) × Fits sets (Local Number 0) (value_at locals l)
    counter_of other l (inl is) = absurd (cc)
    counter_of other l (inr at) = here.of_counters other l at

-- ---- the variable of a loop

same_counter : (k n : ℕ) → meaning.Counter k ≡ meaning.Counter n → k ≡ n
same_counter k n same = cc

one_less : (l depth : ℕ) → l < depth → l < suc depth
one_less l depth below = omega (arith, below)

itself_less : (depth : ℕ) → depth < suc depth
itself_less depth = omega arith

pub known_counting : (program : LinkedProgram) (sets : List SetValue) (env : Environment) (depth : ℕ) (variables locals : List Value) (name : Name) (word : ℕ)
    → Known program sets env depth variables locals
    → Known program sets (with_names env (with_meaning env.names name (meaning.Counter depth))) (suc depth) variables (with_local locals depth (number word))
known_counting program sets env depth variables locals name word here = record {
  level = here.level;
  elements = here.elements;
  sets_same = here.sets_same;
  functions = here.functions;
  of_main = λ other what at. main_of other what (found_after env.names name (meaning.Counter depth) other what at);
  of_variables = λ other k u at. variable_of other k u (found_after env.names name (meaning.Counter depth) other (meaning.Variable k u) at);
  of_counters = λ other l at. counter_of other l (found_after env.names name (meaning.Counter depth) other (meaning.Counter l) at);
  deep = length_taken locals depth (number word) here.deep;
  count = here.count;
}
  where
    main_of : (other : Name) (what : Meaning) → (what ≡ meaning.Counter depth) ⊎ (meaning_of env.names other ≡ Some what) → IsOfMain what
    main_of other what (inl is) = subst IsOfMain (sym is) tt
    main_of other what (inr at) = here.of_main other what at

    variable_of : (other : Name) (k : ℕ) (u : NodeType) → (meaning.Variable k u ≡ meaning.Counter depth) ⊎ (meaning_of env.names other ≡ Some (meaning.Variable k u))
        → (type_at env k ≡ Some u) × Fits sets u (value_at variables k)
    variable_of other k u (inl is) = absurd (cc)
    variable_of other k u (inr at) = here.of_variables other k u at

    counter_of : (other : Name) (l : ℕ) → (meaning.Counter l ≡ meaning.Counter depth) ⊎ (meaning_of env.names other ≡ Some (meaning.Counter l))
        → (l < suc depth) × Fits sets (Local Number 0) (value_at (with_local locals depth (number word)) l)
    counter_of other l (inl is) =
        let same = same_counter l depth is in (
          subst (λ n. n < suc depth) (sym same) (itself_less depth),
          subst (λ n. Fits sets (Local Number 0) (value_at (with_local locals depth (number word)) n)) (sym same)
              (subst (λ o. Fits sets (Local Number 0) (found o)) (sym (get_taken_last locals depth (number word) here.deep))
              (record { whole = refl; rows = refl; columns = refl; blocks = tt })),
        )
    counter_of other l (inr at) =
        let v = here.of_counters other l at in (
          one_less l depth v.0,
          subst (λ o. Fits sets (Local Number 0) (found o)) (sym (get_taken locals depth l (number word) v.0 here.deep)) v.1,
        )
