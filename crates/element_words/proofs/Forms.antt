-- Forms, by the words of their parts.
use Rattle.std.proofs.Common.{◌≡◌, ℕ, List, [], ◌∷◌, map, Option, None, Some, Result, Ok, Err, sym, ap, ◌∙◌, refl}
use Rattle.vocabulary.specs.Answers.{◌>>=◌}
use Rattle.ring_words.specs.declared.trap.TrapKind.{TrapKind}
use Rattle.ring_words.specs.declared.trap.TrapKind.TheVariants.{DivisionByZero, NegativeRoot}
use Rattle.type_rules.specs.Types.{scale_of}
use Rattle.type_rules.specs.declared.types.NodeType.{NodeType}
use Rattle.typed_tree.specs.declared.expression.TypedExpr.{TypedExpr}
use Rattle.typed_tree.specs.declared.expression.TypedForm.TheFolds.{fold_out-TypedExpr, fold-roll-TypedForm}
use Rattle.typed_tree.specs.declared.expression.TypedForm.TheOpen.{TypedForm-F}
use Rattle.typed_tree.specs.declared.expression.TypedForm.TheVariants as form
use Rattle.typed_tree.specs.declared.expression.TypedForm.{TypedForm}
use Rattle.value_algebra.specs.declared.value.Value.{Value}
use Rattle.value_algebra.specs.Scales as scales
use Rattle.value_algebra.specs.Value.{dot, number, word_of}
use Rattle.algebra_meaning.specs.Expression.{Meant, Operand, Part, Scope, expression_part, factor_operand, first_word, form_meaning, form_of, meaning, meanings, or_trap, own_field, end_field, part, part_of, quotient, reference, referred, root, row_values, scalar_product, second_word, term_operand, value_at}
use Rattle.typed_tree.specs.declared.expression.Referent.{Referent}
use Rattle.typed_tree.specs.declared.expression.Referent.TheVariants as referent
use Rattle.word_stacks.specs.declared.indices.Indices.{Indices}
use Rattle.word_stacks.specs.References.{first_index, first_meant, indices_of, part_at, referred_at, second_index}
use Rattle.word_stacks.specs.Steps.{divided, dot_with, indices_meant, rooted, word_or}

-- the type of a part is its node's
pub type_is : (scope : Scope) (e : TypedExpr) → (part_of scope e).type ≡ e.node.value_type
type_is scope e = ap (λ (p : Part). p.type) (fold_out-TypedExpr (NodeType → Meant) Part Operand (Result (List Value) TrapKind) Operand (form_meaning scope) expression_part factor_operand row_values term_operand e)

-- what goes on with the word of a value
one : (m : Meant) (f : ℕ → Meant) (a : ℕ) → first_meant m ≡ Ok a → (m >>= λ v. f (word_of v)) ≡ f a
one (Ok v) f a is = let same : word_of v ≡ a = cc in ap f same
one (Err kind) f a is = absurd (cc)

one_stopped : (m : Meant) (f : ℕ → Meant) (kind : TrapKind) → first_meant m ≡ Err kind → (m >>= λ v. f (word_of v)) ≡ Err kind
one_stopped (Ok v) f kind is = absurd (cc)
one_stopped (Err trap) f kind is = let same : trap ≡ kind = cc in ap (λ t. Err t) same

two : (m n : Meant) (f : ℕ → ℕ → Meant) (a b : ℕ) → first_meant m ≡ Ok a → first_meant n ≡ Ok b → (m >>= λ v. n >>= λ w. f (word_of v) (word_of w)) ≡ f a b
two m n f a b first second = one m (λ x. n >>= λ w. f x (word_of w)) a first ∙ one n (f a) b second

or_trap_ok : (trap : TrapKind) (o : Option ℕ) (w : ℕ) → word_or trap o ≡ Ok w → or_trap trap o ≡ Ok (number w)
or_trap_ok trap None w is = absurd (cc)
or_trap_ok trap (Some v) w is = let same : v ≡ w = cc in ap (λ x. Ok (number x)) same

or_trap_err : (trap : TrapKind) (o : Option ℕ) (kind : TrapKind) → word_or trap o ≡ Err kind → or_trap trap o ≡ Err kind
or_trap_err trap None kind is = let same : trap ≡ kind = cc in ap (λ t. Err t) same
or_trap_err trap (Some v) kind is = absurd (cc)

quotient_words : (scope : Scope) (to : ℕ) (d e : TypedExpr) (a b : ℕ) → first_meant (meaning scope d) ≡ Ok a → first_meant (meaning scope e) ≡ Ok b
    → quotient to (part_of scope d) (part_of scope e) ≡ or_trap DivisionByZero (scales.quotient a (scale_of d.node.value_type) b (scale_of e.node.value_type) to)
unfolding quotient
quotient_words scope to d e a b first second =
    two (meaning scope d) (meaning scope e) (λ x y. or_trap DivisionByZero (scales.quotient x (scale_of (part_of scope d).type) y (scale_of (part_of scope e).type) to)) a b first second
    ∙ ap (λ t. or_trap DivisionByZero (scales.quotient a (scale_of t) b (scale_of (part_of scope e).type) to)) (type_is scope d)
    ∙ ap (λ t. or_trap DivisionByZero (scales.quotient a (scale_of d.node.value_type) b (scale_of t) to)) (type_is scope e)

pub quotient_first : (scope : Scope) (to : ℕ) (d e : TypedExpr) (kind : TrapKind) → first_meant (meaning scope d) ≡ Err kind
    → quotient to (part_of scope d) (part_of scope e) ≡ Err kind
unfolding quotient
quotient_first scope to d e kind first =
    one_stopped (meaning scope d) (λ x. meaning scope e >>= λ w. or_trap DivisionByZero (scales.quotient x (scale_of (part_of scope d).type) (word_of w) (scale_of (part_of scope e).type) to)) kind first

pub quotient_second : (scope : Scope) (to : ℕ) (d e : TypedExpr) (a : ℕ) (kind : TrapKind) → first_meant (meaning scope d) ≡ Ok a → first_meant (meaning scope e) ≡ Err kind
    → quotient to (part_of scope d) (part_of scope e) ≡ Err kind
unfolding quotient
quotient_second scope to d e a kind first second =
    one (meaning scope d) (λ x. meaning scope e >>= λ w. or_trap DivisionByZero (scales.quotient x (scale_of (part_of scope d).type) (word_of w) (scale_of (part_of scope e).type) to)) a first
    ∙ one_stopped (meaning scope e) (λ y. or_trap DivisionByZero (scales.quotient a (scale_of (part_of scope d).type) y (scale_of (part_of scope e).type) to)) kind second

root_words : (scope : Scope) (to : ℕ) (e : TypedExpr) (a : ℕ) → first_meant (meaning scope e) ≡ Ok a
    → root to (part_of scope e) ≡ or_trap NegativeRoot (scales.square_root a (scale_of e.node.value_type) to)
unfolding root
root_words scope to e a first =
    one (meaning scope e) (λ x. or_trap NegativeRoot (scales.square_root x (scale_of (part_of scope e).type) to)) a first
    ∙ ap (λ t. or_trap NegativeRoot (scales.square_root a (scale_of t) to)) (type_is scope e)

pub root_stopped : (scope : Scope) (to : ℕ) (e : TypedExpr) (kind : TrapKind) → first_meant (meaning scope e) ≡ Err kind → root to (part_of scope e) ≡ Err kind
unfolding root
root_stopped scope to e kind first = one_stopped (meaning scope e) (λ x. or_trap NegativeRoot (scales.square_root x (scale_of (part_of scope e).type) to)) kind first

pub quotient_is : (scope : Scope) (to : ℕ) (d e : TypedExpr) (a b w : ℕ) → first_meant (meaning scope d) ≡ Ok a → first_meant (meaning scope e) ≡ Ok b
    → divided a (scale_of d.node.value_type) b (scale_of e.node.value_type) to ≡ Ok w → quotient to (part_of scope d) (part_of scope e) ≡ Ok (number w)
unfolding divided
quotient_is scope to d e a b w first second is =
    quotient_words scope to d e a b first second ∙ or_trap_ok DivisionByZero (scales.quotient a (scale_of d.node.value_type) b (scale_of e.node.value_type) to) w is

pub quotient_stopped : (scope : Scope) (to : ℕ) (d e : TypedExpr) (a b : ℕ) (kind : TrapKind) → first_meant (meaning scope d) ≡ Ok a → first_meant (meaning scope e) ≡ Ok b
    → divided a (scale_of d.node.value_type) b (scale_of e.node.value_type) to ≡ Err kind → quotient to (part_of scope d) (part_of scope e) ≡ Err kind
unfolding divided
quotient_stopped scope to d e a b kind first second is =
    quotient_words scope to d e a b first second ∙ or_trap_err DivisionByZero (scales.quotient a (scale_of d.node.value_type) b (scale_of e.node.value_type) to) kind is

pub root_is : (scope : Scope) (to : ℕ) (e : TypedExpr) (a w : ℕ) → first_meant (meaning scope e) ≡ Ok a → rooted a (scale_of e.node.value_type) to ≡ Ok w
    → root to (part_of scope e) ≡ Ok (number w)
unfolding rooted
root_is scope to e a w first is = root_words scope to e a first ∙ or_trap_ok NegativeRoot (scales.square_root a (scale_of e.node.value_type) to) w is

pub root_none : (scope : Scope) (to : ℕ) (e : TypedExpr) (a : ℕ) (kind : TrapKind) → first_meant (meaning scope e) ≡ Ok a → rooted a (scale_of e.node.value_type) to ≡ Err kind
    → root to (part_of scope e) ≡ Err kind
unfolding rooted
root_none scope to e a kind first is = root_words scope to e a first ∙ or_trap_err NegativeRoot (scales.square_root a (scale_of e.node.value_type) to) kind is

-- ---- scalar products

pub dot_from : (scope : Scope) (l r : TypedExpr) (x y : Value) → meaning scope l ≡ Ok x → dot_with x (meaning scope r) ≡ Ok y → scalar_product (part_of scope l) (part_of scope r) ≡ Ok y
unfolding scalar_product dot_with
dot_from scope l r x y first second = ap (λ (m : Meant). m >>= λ a. meaning scope r >>= λ b. Ok (dot a b)) first ∙ second

pub dot_first : (scope : Scope) (l r : TypedExpr) (kind : TrapKind) → meaning scope l ≡ Err kind → scalar_product (part_of scope l) (part_of scope r) ≡ Err kind
unfolding scalar_product
dot_first scope l r kind first = ap (λ (m : Meant). m >>= λ a. meaning scope r >>= λ b. Ok (dot a b)) first

pub dot_second : (scope : Scope) (l r : TypedExpr) (x : Value) (kind : TrapKind) → meaning scope l ≡ Ok x → dot_with x (meaning scope r) ≡ Err kind → scalar_product (part_of scope l) (part_of scope r) ≡ Err kind
unfolding scalar_product dot_with
dot_second scope l r x kind first second = ap (λ (m : Meant). m >>= λ a. meaning scope r >>= λ b. Ok (dot a b)) first ∙ second

-- ---- references

part_is : (value : Value) (is : List Value) → part value is ≡ part_at value (indices_of is)
part_is value [] = refl
part_is value (i ∷ []) = refl
part_is value (i ∷ j ∷ is) = refl

first_is : (is : List Value) → first_word is ≡ first_index (indices_of is)
first_is [] = refl
first_is (i ∷ []) = refl
first_is (i ∷ j ∷ is) = refl

second_is : (is : List Value) → second_word is ≡ second_index (indices_of is)
second_is [] = refl
second_is (i ∷ []) = refl
second_is (i ∷ j ∷ is) = refl

referred_is : (scope : Scope) (what : Referent) (args indices : List Value) → referred scope what args indices ≡ referred_at scope what (indices_of args) (indices_of indices)
referred_is scope (referent.Variable variable) args indices = refl
referred_is scope (referent.Local local) args indices = part_is (value_at scope.locals local) args
referred_is scope (referent.Turn local range) args indices = refl
referred_is scope (referent.Field set field) args indices = refl
referred_is scope (referent.Own field) args indices = part_is (own_field scope scope.place field) indices
referred_is scope (referent.End field) args indices =
    part_is (end_field scope scope.place (first_word args) field) indices
    ∙ ap (λ n. part_at (end_field scope scope.place n field) (indices_of indices)) (first_is args)
referred_is scope (referent.Host host) args indices =
    ap (λ n. number (scope.program.answer host n (second_word args))) (first_is args)
    ∙ ap (λ n. number (scope.program.answer host (first_index (indices_of args)) n)) (second_is args)

refers : (scope : Scope) (what : Referent) (m n : Result (List Value) TrapKind) (a i : Indices) → indices_meant m ≡ Ok a → indices_meant n ≡ Ok i
    → (m >>= λ args. n >>= λ indices. Ok (referred scope what args indices)) ≡ Ok (referred_at scope what a i)
unfolding indices_meant
refers scope what (Ok args) (Ok indices) a i first second =
    let fst : indices_of args ≡ a = cc in let snd : indices_of indices ≡ i = cc in
    ap (λ v. Ok v) (referred_is scope what args indices ∙ ap (λ x. referred_at scope what x (indices_of indices)) fst ∙ ap (referred_at scope what a) snd)
refers scope what (Ok args) (Err kind) a i first second = absurd (cc)
refers scope what (Err kind) n a i first second = absurd (cc)

stops_first : (scope : Scope) (what : Referent) (m n : Result (List Value) TrapKind) (kind : TrapKind) → indices_meant m ≡ Err kind
    → (m >>= λ args. n >>= λ indices. Ok (referred scope what args indices)) ≡ Err kind
unfolding indices_meant
stops_first scope what (Ok args) n kind first = absurd (cc)
stops_first scope what (Err trap) n kind first = let same : trap ≡ kind = cc in ap (λ t. Err t) same

stops_second : (scope : Scope) (what : Referent) (m n : Result (List Value) TrapKind) (a : Indices) (kind : TrapKind) → indices_meant m ≡ Ok a → indices_meant n ≡ Err kind
    → (m >>= λ args. n >>= λ indices. Ok (referred scope what args indices)) ≡ Err kind
unfolding indices_meant
stops_second scope what (Ok args) (Ok indices) a kind first second = absurd (cc)
stops_second scope what (Ok args) (Err trap) a kind first second = let same : trap ≡ kind = cc in ap (λ t. Err t) same
stops_second scope what (Err trap) n a kind first second = absurd (cc)

pub reference_is : (scope : Scope) (what : Referent) (args fields : List TypedExpr) (a i : Indices) → indices_meant (meanings scope args) ≡ Ok a → indices_meant (meanings scope fields) ≡ Ok i
    → reference scope what (map (part_of scope) args) (map (part_of scope) fields) ≡ Ok (referred_at scope what a i)
unfolding reference
reference_is scope what args fields a i first second = refers scope what (meanings scope args) (meanings scope fields) a i first second

pub reference_args : (scope : Scope) (what : Referent) (args fields : List TypedExpr) (kind : TrapKind) → indices_meant (meanings scope args) ≡ Err kind
    → reference scope what (map (part_of scope) args) (map (part_of scope) fields) ≡ Err kind
unfolding reference
reference_args scope what args fields kind first = stops_first scope what (meanings scope args) (meanings scope fields) kind first

pub reference_indices : (scope : Scope) (what : Referent) (args fields : List TypedExpr) (a : Indices) (kind : TrapKind) → indices_meant (meanings scope args) ≡ Ok a → indices_meant (meanings scope fields) ≡ Err kind
    → reference scope what (map (part_of scope) args) (map (part_of scope) fields) ≡ Err kind
unfolding reference
reference_indices scope what args fields a kind first second = stops_second scope what (meanings scope args) (meanings scope fields) a kind first second

-- ---- what forms mean, by their parts

pub form_ref : (scope : Scope) (what : Referent) (args fields : List TypedExpr) (type : NodeType)
    → form_of scope (form.Ref what args fields) type ≡ reference scope what (map (part_of scope) args) (map (part_of scope) fields)
unfolding form_meaning
form_ref scope what args fields type = ap (λ (f : TypedForm). form_of scope f type) (sym (form.rolls-Ref what args fields)) ∙ ap (λ (f : NodeType → Meant). f type) (fold-roll-TypedForm (NodeType → Meant) Part Operand (Result (List Value) TrapKind) Operand (form_meaning scope) expression_part factor_operand row_values term_operand (TypedForm-F.Ref what args fields))

pub form_quot : (scope : Scope) (d e : TypedExpr) (type : NodeType) → form_of scope (form.Quot d e) type ≡ quotient (scale_of type) (part_of scope d) (part_of scope e)
unfolding form_meaning
form_quot scope d e type = ap (λ (f : TypedForm). form_of scope f type) (sym (form.rolls-Quot d e)) ∙ ap (λ (f : NodeType → Meant). f type) (fold-roll-TypedForm (NodeType → Meant) Part Operand (Result (List Value) TrapKind) Operand (form_meaning scope) expression_part factor_operand row_values term_operand (TypedForm-F.Quot d e))

pub form_dot : (scope : Scope) (l r : TypedExpr) (type : NodeType) → form_of scope (form.Dot l r) type ≡ scalar_product (part_of scope l) (part_of scope r)
unfolding form_meaning
form_dot scope l r type = ap (λ (f : TypedForm). form_of scope f type) (sym (form.rolls-Dot l r)) ∙ ap (λ (f : NodeType → Meant). f type) (fold-roll-TypedForm (NodeType → Meant) Part Operand (Result (List Value) TrapKind) Operand (form_meaning scope) expression_part factor_operand row_values term_operand (TypedForm-F.Dot l r))
