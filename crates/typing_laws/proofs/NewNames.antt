-- Names that are new, each also after those before it, and the variables that they become.
use Rattle.std.proofs.Common.{◌≡◌, ℕ, suc, ◌+◌, Bool, true, false, not, ◌||◌, if◌then◌else◌, List, [], ◌∷◌, length, Option, Some, None, refl, sym, ap, subst, ◌∙◌, arith}
use Rattle.std.specs.List.{range_with_len}
use Rattle.std.specs.Option.{is_some}
use Rattle.std.specs.Str.{bytes_eq}
use Rattle.std.proofs.lemmas.Bool.{not-true, not_from_false}
use Rattle.std.proofs.lemmas.List.{length-append}
use Rattle.std.proofs.lemmas.Slice.Eq.{bytes_eq-Decides}
use Rattle.type_rules.specs.declared.types.NodeType.{NodeType}
use Rattle.typed_tree.specs.declared.environment.Walk.{Walk}
use Rattle.typed_tree.specs.declared.names.Meaning.{Meaning}
use Rattle.typed_tree.specs.declared.names.Meaning.TheVariants as meaning
use Rattle.typed_tree.specs.Names.{Known, Name, meaning_of, is_known, with_meaning}
use Rattle.typed_tree.specs.MainProcedure.{are_new, with_variable, with_variables}
use Rattle.typing_laws.specs.Scopes.{IsNew}
use Rattle.typing_laws.specs.MainStatements.{AreDeclared}
use Rattle.typing_laws.proofs.MapFacts.{both_true, true_both}
use Rattle.typing_laws.proofs.ScopeFacts.{Extends, stays, extends_on, new_goes_last, not_known, known_not}

-- which names are known once another is

first_known : (b : Bool) (m other : Meaning) (rest : Option Meaning) → is_some (if b then Some m else rest) ≡ (b || is_some (if b then Some other else rest))
first_known true m other rest = refl
first_known false m other rest = refl

later_known : (b x : Bool) (m : Meaning) (with without : Option Meaning) → is_some with ≡ (x || is_some without)
    → is_some (if b then Some m else with) ≡ (x || is_some (if b then Some m else without))
later_known true true m with without is = refl
later_known true false m with without is = refl
later_known false x m with without is = is

known_with : (known : Known) (name : Name) (m : Meaning) (other : Name) → is_known (with_meaning known name m) other ≡ (bytes_eq name other || is_known known other)
known_with [] name m other = by_test (bytes_eq name other)
  where
    by_test : (b : Bool) → is_some (if b then Some m else None) ≡ (b || false)
    by_test true = refl
    by_test false = refl
known_with (entry ∷ known) name m other = by_test (bytes_eq entry.0 name) refl (known_with known name m other)
  where
    by_test : (b : Bool) → bytes_eq entry.0 name ≡ b → is_known (with_meaning known name m) other ≡ (bytes_eq name other || is_known known other)
        → is_known (if b then (entry.0, m) ∷ known else entry ∷ with_meaning known name m) other ≡ (bytes_eq name other || is_known (entry ∷ known) other)
    by_test true test rest =
        let same : entry.0 ≡ name = (bytes_eq-Decides entry.0 name).0 test in
        subst (λ n. is_some (if bytes_eq entry.0 other then Some m else meaning_of known other) ≡ (bytes_eq n other || is_known (entry ∷ known) other)) same
        (first_known (bytes_eq entry.0 other) m entry.1 (meaning_of known other))
    by_test false test rest =
        later_known (bytes_eq entry.0 other) (bytes_eq name other) entry.1 (meaning_of (with_meaning known name m) other) (meaning_of known other) rest

-- just these names are known, here or there, whatever they mean
abbrev pub SameNames : Known → Known → Known → Type 0
SameNames known before others = (name : Name) → (is_known known name || is_known before name) ≡ is_known others name

either : (a b c : Bool) → (a || (b || c)) ≡ (b || (a || c))
either true true c = refl
either true false c = refl
either false b c = refl

same_with : (known before others : Known) (name : Name) (m n : Meaning) → SameNames known before others
    → SameNames known (with_meaning before name m) (with_meaning others name n)
same_with known before others name m n same other =
    ap (λ b. is_known known other || b) (known_with before name m other)
    ∙ either (is_known known other) (bytes_eq name other) (is_known before other)
    ∙ ap (λ b. bytes_eq name other || b) (same other) ∙ sym (known_with others name n other)

-- at first none stand before
pub same_first : (known : Known) → SameNames known [] known
same_first known name = by_test (is_known known name)
  where
    by_test : (b : Bool) → (b || false) ≡ b
    by_test true = refl
    by_test false = refl

another_variable : (walk : Walk) (name : Name) (type : NodeType)
    → length (with_variable walk name type).environment.declarations.variables ≡ length walk.environment.declarations.variables + 1
unfolding with_variable
another_variable walk name type = length-append walk.environment.declarations.variables (record { name = name; value_type = type } ∷ [])

variable_names : (walk : Walk) (name : Name) (type : NodeType)
    → (with_variable walk name type).environment.names ≡ with_meaning walk.environment.names name (meaning.Variable (length walk.environment.declarations.variables) type)
unfolding with_variable
variable_names walk name type = refl

same_names : (known before : Known) (walk : Walk) (name : Name) (type : NodeType) → SameNames known before walk.environment.names
    → SameNames known (with_meaning before name meaning.Taken) (with_variable walk name type).environment.names
same_names known before walk name type same =
    subst (SameNames known (with_meaning before name meaning.Taken)) (sym (variable_names walk name type))
    (same_with known before walk.environment.names name meaning.Taken (meaning.Variable (length walk.environment.declarations.variables) type) same)

pub declared_typed : (names : List Name) (types : List NodeType) (known before : Known) (walk : Walk) → SameNames known before walk.environment.names → are_new known before names ≡ true
    → length names ≡ length types
    → AreDeclared names types (range_with_len (length walk.environment.declarations.variables) (length names)) walk (with_variables walk names types)
declared_typed [] [] known before walk same new count = AreDeclared.none walk
declared_typed [] (type ∷ types) known before walk same new count = absurd (omega arith)
declared_typed (name ∷ names) [] known before walk same new count = absurd (omega arith)
declared_typed (name ∷ names) (type ∷ types) known before walk same new count =
    let b = both_true (not (is_known known name || is_known before name)) (are_new known (with_meaning before name meaning.Taken) names) new in
    let next = with_variable walk name type in
    let fresh : is_known walk.environment.names name ≡ false = sym (same name) ∙ not-true (is_known known name || is_known before name) b.0 in
    let rest = declared_typed names types known (with_meaning before name meaning.Taken) next (same_names known before walk name type same) b.1 (omega arith) in
    AreDeclared.one_more name names type types (range_with_len (length walk.environment.declarations.variables + 1) (length names)) walk (with_variables next names types)
    (not_known (meaning_of walk.environment.names name) fresh)
    (subst (λ n. AreDeclared names types (range_with_len n (length names)) next (with_variables next names types)) (another_variable walk name type) rest)

pub record Declares (names : List Name) (types : List NodeType) (numbers : List ℕ) (known before : Known) (walk after : Walk) : Type 0 where
  pub new : are_new known before names ≡ true
  pub count : length names ≡ length types
  pub numbered : range_with_len (length walk.environment.declarations.variables) (length names) ≡ numbers
  pub after_is : with_variables walk names types ≡ after

pub only_declared : (names : List Name) (types : List NodeType) (numbers : List ℕ) (walk after : Walk) → AreDeclared names types numbers walk after
    → (known before : Known) → SameNames known before walk.environment.names → Declares names types numbers known before walk after
only_declared names types numbers walk after (AreDeclared.none w) known before same = record { new = refl; count = refl; numbered = refl; after_is = refl }
only_declared names types numbers walk after (AreDeclared.one_more name rest type others more w end new typed) known before same =
    let d = only_declared rest others more (with_variable w name type) end typed known (with_meaning before name meaning.Taken) (same_names known before w name type same) in
    let fresh : (is_known known name || is_known before name) ≡ false = same name ∙ known_not (meaning_of w.environment.names name) new in
    record {
      new = true_both (not (is_known known name || is_known before name)) (are_new known (with_meaning before name meaning.Taken) rest)
          (not_from_false (is_known known name || is_known before name) fresh) d.new;
      count = ap suc d.count;
      numbered =
          ap (λ n. length w.environment.declarations.variables ∷ range_with_len n (length rest)) (sym (another_variable w name type))
          ∙ ap (λ l. length w.environment.declarations.variables ∷ l) d.numbered;
      after_is = d.after_is;
    }

variable_extends : (walk : Walk) (name : Name) (type : NodeType) → IsNew walk name → Extends walk (with_variable walk name type)
unfolding with_variable
variable_extends walk name type new =
    let m = meaning.Variable (length walk.environment.declarations.variables) type in
    record { more = (name, m) ∷ []; names = new_goes_last walk.environment.names name m new; level = refl }

pub declared_extends : (names : List Name) (types : List NodeType) (numbers : List ℕ) (walk after : Walk) → AreDeclared names types numbers walk after → Extends walk after
declared_extends names types numbers walk after (AreDeclared.none w) = stays w
declared_extends names types numbers walk after (AreDeclared.one_more name rest type others more w end new typed) =
    extends_on w (with_variable w name type) end (variable_extends w name type new) (declared_extends rest others more (with_variable w name type) end typed)
