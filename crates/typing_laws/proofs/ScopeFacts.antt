-- What lists of statements leave of the names.
use Rattle.std.proofs.Common.{◌≡◌, ℕ, Bool, true, false, nat_lt, if◌then◌else◌, List, [], ◌∷◌, ◌++◌, length, take, Option, Some, None, Result, Ok, Err, refl, sym, ap, ◌∙◌, append_assoc}
use Rattle.std.proofs.lemmas.List.{append-nil}
use Rattle.std.proofs.lemmas.Bool.{lt-ltb, ltb-true}
use Rattle.std.proofs.Math.Seq.{take-append_seam}
use Rattle.std.specs.Option.{is_some}
use Rattle.std.specs.Str.{bytes_eq}
use Rattle.vocabulary.specs.Answers.{◌>>=◌}
use Rattle.vocabulary.specs.declared.limits.TheConstants.{MOST_STATEMENTS}
use Rattle.type_rules.specs.declared.types.TypeKind.{TypeKind}
use Rattle.type_rules.specs.declared.types.TypeKind.TheVariants as kind
use Rattle.typed_tree.specs.declared.fault.CheckFault.{CheckFault}
use Rattle.typed_tree.specs.declared.fault.CheckFault.TheVariants.{IllTyped}
use Rattle.typed_tree.specs.declared.environment.Walk.{Walk}
use Rattle.typed_tree.specs.declared.names.Meaning.{Meaning}
use Rattle.typed_tree.specs.Names.{Known, Name, meaning_of, with_meaning}
use Rattle.typed_tree.specs.declared.expression.TypedExpr.{TypedExpr}
use Rattle.typed_tree.specs.declared.condition.TypedCond.{TypedCond}
use Rattle.sim_syntax.specs.declared.expression.Expr as tree
use Rattle.sim_syntax.specs.declared.condition.Cond.{Cond}
use Rattle.typed_tree.specs.Steps.{Step, at_line, several}
use Rattle.typed_tree.specs.Expressions.{expression, condition}
use Rattle.typed_tree.specs.Walking.{value, cond, counted, ended, inside, with_nodes}
use Rattle.typing_laws.specs.Expressions.{IsTyping}
use Rattle.typing_laws.specs.Conditions.{IsConditionTyping}
use Rattle.typing_laws.specs.Scopes.{HasRoom, past, leaving}
use Rattle.typing_laws.proofs.Steps.{same_Ok, and_then, then_is, at_line_Ok}
use Rattle.typing_laws.proofs.OnlyExpressions.{only_expression}
use Rattle.typing_laws.proofs.TypedExpressions.{expression_typed}
use Rattle.typing_laws.proofs.ConditionFacts.{only_condition, condition_typed}

-- ---- names

-- a new name goes last
pub new_goes_last : (known : Known) (name : Name) (what : Meaning) → meaning_of known name ≡ None → with_meaning known name what ≡ known ++ (name, what) ∷ []
new_goes_last [] name what new = refl
new_goes_last (entry ∷ known) name what new = by_test (bytes_eq entry.0 name) new (new_goes_last known name what)
  where
    by_test : (b : Bool) → (if b then Some entry.1 else meaning_of known name) ≡ None
        → (meaning_of known name ≡ None → with_meaning known name what ≡ known ++ (name, what) ∷ [])
        → (if b then (entry.0, what) ∷ known else entry ∷ with_meaning known name what) ≡ entry ∷ (known ++ (name, what) ∷ [])
    by_test true is rest = absurd (cc)
    by_test false is rest = ap (λ l. entry ∷ l) (rest is)

pub not_known : (o : Option Meaning) → is_some o ≡ false → o ≡ None
not_known None is = refl
not_known (Some m) is = absurd (cc)

pub known_not : (o : Option Meaning) → o ≡ None → is_some o ≡ false
known_not o is = ap is_some is

-- ---- names that stay

-- what is known after, begins with what was known before
pub record Extends (before after : Walk) : Type 0 where
  pub more : Known
  pub names : after.environment.names ≡ before.environment.names ++ more
  pub level : after.environment.level ≡ before.environment.level

pub stays : (walk : Walk) → Extends walk walk
stays walk = record { more = []; names = sym (append-nil walk.environment.names); level = refl }

pub extends_on : (before between after : Walk) → Extends before between → Extends between after → Extends before after
extends_on before between after first second = record {
  more = first.more ++ second.more;
  names = second.names ∙ ap (λ l. l ++ second.more) first.names ∙ append_assoc before.environment.names first.more second.more;
  level = second.level ∙ first.level;
}

-- then the names before a list are those that are visible again after it
pub ended_is : (before after : Walk) → Extends before after → ended before after ≡ leaving before after
ended_is before after extends =
    let names : take (length before.environment.names) after.environment.names ≡ before.environment.names =
    ap (take (length before.environment.names)) extends.names ∙ take-append_seam before.environment.names extends.more in
    λ i. record {
      environment = record { level = extends.level i; declarations = after.environment.declarations; names = names i };
      nodes = after.nodes;
      statements = after.statements;
      locals = before.locals;
    }

-- ---- lists

pub inside_more : {A : Type 0} (begin : Walk → Walk) (steps : List (Step Walk A)) (walk : Walk) (done : List A × Walk)
    → several steps (begin walk) ≡ Ok done → Extends walk done.1 → inside begin steps walk ≡ Ok (done.0, leaving walk done.1)
unfolding inside
inside_more begin steps walk done is extends =
    then_is (several steps (begin walk)) (λ d. Ok (d.0, ended walk d.1)) done _ is (ap (λ w. Ok (done.0, w)) (ended_is walk done.1 extends))

pub inside_split : {A : Type 0} (begin : Walk → Walk) (steps : List (Step Walk A)) (walk : Walk) (done : List A × Walk)
    → inside begin steps walk ≡ Ok done → (inner : List A × Walk) × (several steps (begin walk) ≡ Ok inner) × ((inner.0, ended walk inner.1) ≡ done)
unfolding inside
inside_split begin steps walk done is =
    let s = and_then (several steps (begin walk)) (λ d. Ok (d.0, ended walk d.1)) done is in
    (s.0, s.1, same_Ok (s.0.0, ended walk s.0.1) done s.2)

-- ---- the end of a statement

pub counted_more : (line : ℕ) (fault : Option TypeKind) (walk : Walk) → fault ≡ None → HasRoom walk → counted line fault walk ≡ Ok (past walk)
unfolding counted
counted_more line fault walk none few =
    ap (λ f. counted line f walk) none
    ∙ ap (λ b. if b then Ok (past walk) else Err (IllTyped line kind.TooLarge)) (lt-ltb walk.statements MOST_STATEMENTS few)

pub counted_split : (line : ℕ) (fault : Option TypeKind) (walk after : Walk) → counted line fault walk ≡ Ok after
    → (fault ≡ None) × HasRoom walk × (past walk ≡ after)
unfolding counted
counted_split line (Some fault) walk after is = absurd (cc)
counted_split line None walk after is =
    let last = by_test (nat_lt walk.statements MOST_STATEMENTS) refl is in
    (refl, last.0, last.1)
  where
    by_test : (b : Bool) → nat_lt walk.statements MOST_STATEMENTS ≡ b → (if b then Ok (past walk) else Err (IllTyped line kind.TooLarge)) ≡ Ok after
        → HasRoom walk × (past walk ≡ after)
    by_test true test answers = (ltb-true walk.statements MOST_STATEMENTS test, same_Ok (past walk) after answers)
    by_test false test answers = absurd (cc)

-- ---- what comes after a step that answered

pub counted_and : {B : Type 0} (line : ℕ) (fault : Option TypeKind) (walk : Walk) (f : Walk → Result B CheckFault) (r : Result B CheckFault)
    → fault ≡ None → HasRoom walk → f (past walk) ≡ r → (counted line fault walk >>= f) ≡ r
counted_and line fault walk f r none few next = then_is (counted line fault walk) f (past walk) r (counted_more line fault walk none few) next

pub counted_then : {B : Type 0} (line : ℕ) (fault : Option TypeKind) (walk : Walk) (f : Walk → Result B CheckFault) (b : B)
    → (counted line fault walk >>= f) ≡ Ok b → (fault ≡ None) × HasRoom walk × (f (past walk) ≡ Ok b)
counted_then line fault walk f b is =
    let a = and_then (counted line fault walk) f b is in
    let c = counted_split line fault walk a.0 a.1 in
    (c.0, c.1, ap f c.2 ∙ a.2)

pub at_line_then : {A B : Type 0} (line : ℕ) (rule : Result A TypeKind) (f : A → Result B CheckFault) (b : B)
    → (at_line line rule >>= f) ≡ Ok b → (a : A) × (rule ≡ Ok a) × (f a ≡ Ok b)
at_line_then line rule f b is =
    let a = and_then (at_line line rule) f b is in
    (a.0, at_line_Ok line rule a.0 a.1, a.2)

pub at_line_and : {A B : Type 0} (line : ℕ) (rule : Result A TypeKind) (f : A → Result B CheckFault) (a : A) (r : Result B CheckFault)
    → rule ≡ Ok a → f a ≡ r → (at_line line rule >>= f) ≡ r
at_line_and line rule f a r is next = ap (λ o. at_line line o >>= f) is ∙ next

pub value_then : {B : Type 0} (e : tree.Expr) (walk : Walk) (f : TypedExpr × Walk → Result B CheckFault) (b : B)
    → (value e walk >>= f) ≡ Ok b → (v : TypedExpr × ℕ) × IsTyping walk.environment e v.0 walk.nodes v.1 × (f (v.0, with_nodes walk v.1) ≡ Ok b)
unfolding value
value_then e walk f b is =
    let w = and_then (expression walk.environment e walk.nodes >>= λ v. Ok (v.0, with_nodes walk v.1)) f b is in
    let v = and_then (expression walk.environment e walk.nodes) (λ v. Ok (v.0, with_nodes walk v.1)) w.0 w.1 in
    (v.0, expression_typed walk.environment e walk.nodes v.0 v.1, ap f (same_Ok (v.0.0, with_nodes walk v.0.1) w.0 v.2) ∙ w.2)

pub value_and : {B : Type 0} (e : tree.Expr) (walk : Walk) (f : TypedExpr × Walk → Result B CheckFault) (v : TypedExpr) (to : ℕ) (r : Result B CheckFault)
    → IsTyping walk.environment e v walk.nodes to → f (v, with_nodes walk to) ≡ r → (value e walk >>= f) ≡ r
unfolding value
value_and e walk f v to r typed next =
    ap (λ o. (o >>= λ w. Ok (w.0, with_nodes walk w.1)) >>= f) (only_expression walk.environment e v walk.nodes to typed) ∙ next

pub cond_then : {B : Type 0} (c : Cond) (walk : Walk) (f : TypedCond × Walk → Result B CheckFault) (b : B)
    → (cond c walk >>= f) ≡ Ok b → (t : TypedCond × ℕ) × IsConditionTyping walk.environment c t.0 walk.nodes t.1 × (f (t.0, with_nodes walk t.1) ≡ Ok b)
unfolding cond
cond_then c walk f b is =
    let w = and_then (condition walk.environment c walk.nodes >>= λ t. Ok (t.0, with_nodes walk t.1)) f b is in
    let t = and_then (condition walk.environment c walk.nodes) (λ t. Ok (t.0, with_nodes walk t.1)) w.0 w.1 in
    (t.0, condition_typed walk.environment c walk.nodes t.0 t.1, ap f (same_Ok (t.0.0, with_nodes walk t.0.1) w.0 t.2) ∙ w.2)

pub cond_and : {B : Type 0} (c : Cond) (walk : Walk) (f : TypedCond × Walk → Result B CheckFault) (t : TypedCond) (to : ℕ) (r : Result B CheckFault)
    → IsConditionTyping walk.environment c t walk.nodes to → f (t, with_nodes walk to) ≡ r → (cond c walk >>= f) ≡ r
unfolding cond
cond_and c walk f t to r typed next =
    ap (λ o. (o >>= λ w. Ok (w.0, with_nodes walk w.1)) >>= f) (only_condition walk.environment c t walk.nodes to typed) ∙ next

pub inside_and : {A B : Type 0} (begin : Walk → Walk) (steps : List (Step Walk A)) (walk : Walk) (f : List A × Walk → Result B CheckFault) (done : List A × Walk) (r : Result B CheckFault)
    → several steps (begin walk) ≡ Ok done → Extends walk done.1 → f (done.0, leaving walk done.1) ≡ r → (inside begin steps walk >>= f) ≡ r
inside_and begin steps walk f done r is extends next =
    then_is (inside begin steps walk) f (done.0, leaving walk done.1) r (inside_more begin steps walk done is extends) next

pub inside_then : {A B : Type 0} (begin : Walk → Walk) (steps : List (Step Walk A)) (walk : Walk) (f : List A × Walk → Result B CheckFault) (b : B)
    → (inside begin steps walk >>= f) ≡ Ok b → (inner : List A × Walk) × (several steps (begin walk) ≡ Ok inner) × (f (inner.0, ended walk inner.1) ≡ Ok b)
inside_then begin steps walk f b is =
    let a = and_then (inside begin steps walk) f b is in
    let s = inside_split begin steps walk a.0 a.1 in
    (s.0, s.1, ap f s.2 ∙ a.2)
