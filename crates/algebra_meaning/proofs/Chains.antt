-- Rows, terms and factors, one after the other.
use Rattle.std.proofs.Common.{◌≡◌, ℕ, ◌+◌, ◌<◌, ◌≤◌, List, [], ◌∷◌, ◌++◌, map, Option, Some, Result, Ok, Err, length, drop, get_or, refl, sym, ap, ◌∙◌}
use Rattle.vocabulary.specs.Answers.{◌>>=◌, fold_result}
use Rattle.ring_words.specs.declared.trap.TrapKind.{TrapKind}
use Rattle.type_rules.specs.declared.types.NodeType.{NodeType}
use Rattle.typed_tree.specs.declared.expression.TypedForm.TheFolds.{fold_out-TypedExpr, fold_out-TypedFactor, fold_out-TypedRow, fold_out-TypedTerm}
use Rattle.typed_tree.specs.declared.expression.TypedExpr.{TypedExpr}
use Rattle.typed_tree.specs.declared.expression.TypedFactor.{TypedFactor}
use Rattle.typed_tree.specs.declared.expression.TypedRow.{TypedRow, out-TypedRow}
use Rattle.typed_tree.specs.declared.expression.TypedTerm.{TypedTerm}
use Rattle.value_algebra.specs.declared.value.Value.{Value}
use Rattle.value_algebra.specs.Value.{word_of}
use Rattle.algebra_meaning.specs.declared.stopped.Stopped.{Stopped}
use Rattle.algebra_meaning.specs.declared.stopped.Stopped.TheVariants.{By}
use Rattle.algebra_meaning.specs.Expression.{Meant, Operand, Part, Scope, added, expression_part, factor_of, factor_operand, form_meaning, meaning, meanings, multiplied, part_of, row_of, row_values, term_of, term_operand, with_factor, with_row, with_term, with_value}
use Rattle.loop_laws.specs.Loops.{ItemLaws}

term_is : (scope : Scope) (t : TypedTerm) → term_of scope t ≡ record { type = t.node.value_type; sign = t.minus; part = part_of scope t.value }
term_is scope t = fold_out-TypedTerm (NodeType → Meant) Part Operand (Result (List Value) TrapKind) Operand (form_meaning scope) expression_part factor_operand row_values term_operand t

factor_is : (scope : Scope) (f : TypedFactor) → factor_of scope f ≡ record { type = f.node.value_type; sign = f.entrywise; part = part_of scope f.value }
factor_is scope f = fold_out-TypedFactor (NodeType → Meant) Part Operand (Result (List Value) TrapKind) Operand (form_meaning scope) expression_part factor_operand row_values term_operand f

row_is : (scope : Scope) (r : TypedRow) → row_of scope r ≡ meanings scope (out-TypedRow r).entries
row_is scope r = fold_out-TypedRow (NodeType → Meant) Part Operand (Result (List Value) TrapKind) Operand (form_meaning scope) expression_part factor_operand row_values term_operand r

-- the type of a part is its node's
type_is : (scope : Scope) (e : TypedExpr) → (part_of scope e).type ≡ e.node.value_type
type_is scope e = ap (λ (p : Part). p.type) (fold_out-TypedExpr (NodeType → Meant) Part Operand (Result (List Value) TrapKind) Operand (form_meaning scope) expression_part factor_operand row_values term_operand e)

-- ---- terms

with_term_is : (scope : Scope) (total : Option Value) (t : TypedTerm) (value : Meant) → meaning scope t.value ≡ value
    → with_term total (term_of scope t) ≡ (value >>= λ v. Ok (Some (added total t.minus v)))
with_term_is scope total t value is = ap (with_term total) (term_is scope t) ∙ ap (λ (r : Meant). r >>= λ v. Ok (Some (added total t.minus v))) is

pub term_taken : ItemLaws (Option Value) TypedTerm TrapKind → (scope : Scope) (total : Option Value) (next value : Value) (known : Result (Option Value) TrapKind) (ts : List TypedTerm) (i : ℕ) (t : TypedTerm)
    → i < length ts → t ≡ get_or ts i t → meaning scope t.value ≡ Ok value → next ≡ added total t.minus value
    → fold_result with_term total (map (term_of scope) (drop i ts)) ≡ known → fold_result with_term (Some next) (map (term_of scope) (drop (i + 1) ts)) ≡ known
term_taken laws scope total next value known ts i t below here is sums so_far =
    laws.taken (λ so_far ts. fold_result with_term so_far (map (term_of scope) ts)) (λ so_far t. with_term so_far (term_of scope t)) (record { ends = λ so_far. refl; goes_on = λ so_far t ts. refl }) total (Some next) known ts i t below here
    (with_term_is scope total t (Ok value) is ∙ ap (λ (v : Value). Ok (Some v)) (sym sums)) so_far

pub term_stopped : ItemLaws (Option Value) TypedTerm TrapKind → (scope : Scope) (total : Option Value) (known : Result (Option Value) TrapKind) (ts : List TypedTerm) (i : ℕ) (t : TypedTerm) (stopped : Stopped TrapKind)
    → i < length ts → t ≡ get_or ts i t → ((kind : TrapKind) → stopped ≡ By kind → meaning scope t.value ≡ Err kind)
    → fold_result with_term total (map (term_of scope) (drop i ts)) ≡ known → (kind : TrapKind) → stopped ≡ By kind → known ≡ Err kind
term_stopped laws scope total known ts i t stopped below here stops so_far kind is =
    laws.refused (λ so_far ts. fold_result with_term so_far (map (term_of scope) ts)) (λ so_far t. with_term so_far (term_of scope t)) (record { ends = λ so_far. refl; goes_on = λ so_far t ts. refl }) total known ts i t kind below here (with_term_is scope total t (Err kind) (stops kind is)) so_far

pub terms_ended : ItemLaws (Option Value) TypedTerm TrapKind → (scope : Scope) (total : Option Value) (known : Result (Option Value) TrapKind) (ts : List TypedTerm) (i : ℕ)
    → length ts ≤ i → fold_result with_term total (map (term_of scope) (drop i ts)) ≡ known → known ≡ Ok total
terms_ended laws scope total known ts i past so_far = laws.ended (λ so_far ts. fold_result with_term so_far (map (term_of scope) ts)) (λ so_far t. with_term so_far (term_of scope t)) (record { ends = λ so_far. refl; goes_on = λ so_far t ts. refl }) total known ts i past so_far

-- ---- factors

with_factor_is : (scope : Scope) (so_far : Option (NodeType × Value)) (f : TypedFactor) (value : Meant) → meaning scope f.value ≡ value
    → with_factor so_far (factor_of scope f) ≡ (value >>= λ v. Ok (Some (f.node.value_type, multiplied so_far f.entrywise (part_of scope f.value).type v)))
with_factor_is scope so_far f value is =
    ap (with_factor so_far) (factor_is scope f)
    ∙ ap (λ (r : Meant). r >>= λ v. Ok (Some (f.node.value_type, multiplied so_far f.entrywise (part_of scope f.value).type v))) is

pub factor_taken : ItemLaws (Option (NodeType × Value)) TypedFactor TrapKind → (scope : Scope) (product : Option (NodeType × Value)) (next value : Value) (known : Result (Option (NodeType × Value)) TrapKind) (fs : List TypedFactor) (i : ℕ) (f : TypedFactor)
    → i < length fs → f ≡ get_or fs i f → meaning scope f.value ≡ Ok value → next ≡ multiplied product f.entrywise f.value.node.value_type value
    → fold_result with_factor product (map (factor_of scope) (drop i fs)) ≡ known
    → fold_result with_factor (Some (f.node.value_type, next)) (map (factor_of scope) (drop (i + 1) fs)) ≡ known
factor_taken laws scope product next value known fs i f below here is gives so_far =
    laws.taken (λ so_far fs. fold_result with_factor so_far (map (factor_of scope) fs)) (λ so_far f. with_factor so_far (factor_of scope f)) (record { ends = λ so_far. refl; goes_on = λ so_far f fs. refl }) product (Some (f.node.value_type, next)) known fs i f below here
    (with_factor_is scope product f (Ok value) is
    ∙ ap (λ (v : Value). Ok (Some (f.node.value_type, v))) (ap (λ (type : NodeType). multiplied product f.entrywise type value) (type_is scope f.value) ∙ sym gives)) so_far

pub factor_stopped : ItemLaws (Option (NodeType × Value)) TypedFactor TrapKind → (scope : Scope) (product : Option (NodeType × Value)) (known : Result (Option (NodeType × Value)) TrapKind) (fs : List TypedFactor) (i : ℕ) (f : TypedFactor) (stopped : Stopped TrapKind)
    → i < length fs → f ≡ get_or fs i f → ((kind : TrapKind) → stopped ≡ By kind → meaning scope f.value ≡ Err kind)
    → fold_result with_factor product (map (factor_of scope) (drop i fs)) ≡ known → (kind : TrapKind) → stopped ≡ By kind → known ≡ Err kind
factor_stopped laws scope product known fs i f stopped below here stops so_far kind is =
    laws.refused (λ so_far fs. fold_result with_factor so_far (map (factor_of scope) fs)) (λ so_far f. with_factor so_far (factor_of scope f)) (record { ends = λ so_far. refl; goes_on = λ so_far f fs. refl }) product known fs i f kind below here (with_factor_is scope product f (Err kind) (stops kind is)) so_far

pub factors_ended : ItemLaws (Option (NodeType × Value)) TypedFactor TrapKind → (scope : Scope) (product : Option (NodeType × Value)) (known : Result (Option (NodeType × Value)) TrapKind) (fs : List TypedFactor) (i : ℕ)
    → length fs ≤ i → fold_result with_factor product (map (factor_of scope) (drop i fs)) ≡ known → known ≡ Ok product
factors_ended laws scope product known fs i past so_far = laws.ended (λ so_far fs. fold_result with_factor so_far (map (factor_of scope) fs)) (λ so_far f. with_factor so_far (factor_of scope f)) (record { ends = λ so_far. refl; goes_on = λ so_far f fs. refl }) product known fs i past so_far

-- ---- rows

with_row_is : (scope : Scope) (words : List ℕ) (r : TypedRow) (values : Result (List Value) TrapKind) → meanings scope (out-TypedRow r).entries ≡ values
    → with_row words (row_of scope r) ≡ (values >>= λ vs. Ok (words ++ map word_of vs))
with_row_is scope words r values is =
    ap (with_row words) (row_is scope r) ∙ ap (λ (v : Result (List Value) TrapKind). v >>= λ vs. Ok (words ++ map word_of vs)) is

pub row_taken : ItemLaws (List ℕ) TypedRow TrapKind → (scope : Scope) (words grown : List ℕ) (values : List Value) (known : Result (List ℕ) TrapKind) (rs : List TypedRow) (i : ℕ) (r : TypedRow)
    → i < length rs → r ≡ get_or rs i r → meanings scope (out-TypedRow r).entries ≡ Ok values → grown ≡ words ++ map word_of values
    → fold_result with_row words (map (row_of scope) (drop i rs)) ≡ known → fold_result with_row grown (map (row_of scope) (drop (i + 1) rs)) ≡ known
row_taken laws scope words grown values known rs i r below here is more so_far =
    laws.taken (λ so_far rs. fold_result with_row so_far (map (row_of scope) rs)) (λ so_far r. with_row so_far (row_of scope r)) (record { ends = λ so_far. refl; goes_on = λ so_far r rs. refl }) words grown known rs i r below here (with_row_is scope words r (Ok values) is ∙ ap Ok (sym more)) so_far

pub row_stopped : ItemLaws (List ℕ) TypedRow TrapKind → (scope : Scope) (words : List ℕ) (known : Result (List ℕ) TrapKind) (rs : List TypedRow) (i : ℕ) (r : TypedRow) (stopped : Stopped TrapKind)
    → i < length rs → r ≡ get_or rs i r → ((kind : TrapKind) → stopped ≡ By kind → meanings scope (out-TypedRow r).entries ≡ Err kind)
    → fold_result with_row words (map (row_of scope) (drop i rs)) ≡ known → (kind : TrapKind) → stopped ≡ By kind → known ≡ Err kind
row_stopped laws scope words known rs i r stopped below here stops so_far kind is =
    laws.refused (λ so_far rs. fold_result with_row so_far (map (row_of scope) rs)) (λ so_far r. with_row so_far (row_of scope r)) (record { ends = λ so_far. refl; goes_on = λ so_far r rs. refl }) words known rs i r kind below here (with_row_is scope words r (Err kind) (stops kind is)) so_far

pub rows_ended : ItemLaws (List ℕ) TypedRow TrapKind → (scope : Scope) (words : List ℕ) (known : Result (List ℕ) TrapKind) (rs : List TypedRow) (i : ℕ)
    → length rs ≤ i → fold_result with_row words (map (row_of scope) (drop i rs)) ≡ known → known ≡ Ok words
rows_ended laws scope words known rs i past so_far = laws.ended (λ so_far rs. fold_result with_row so_far (map (row_of scope) rs)) (λ so_far r. with_row so_far (row_of scope r)) (record { ends = λ so_far. refl; goes_on = λ so_far r rs. refl }) words known rs i past so_far

-- ---- several expressions

with_value_is : (scope : Scope) (values : List Value) (e : TypedExpr) (value : Meant) → meaning scope e ≡ value
    → with_value values (part_of scope e) ≡ (value >>= λ v. Ok (values ++ v ∷ []))
with_value_is scope values e value is = ap (λ (r : Meant). r >>= λ v. Ok (values ++ v ∷ [])) is

pub value_taken : ItemLaws (List Value) TypedExpr TrapKind → (scope : Scope) (values grown : List Value) (value : Value) (known : Result (List Value) TrapKind) (es : List TypedExpr) (i : ℕ) (e : TypedExpr)
    → i < length es → e ≡ get_or es i e → meaning scope e ≡ Ok value → grown ≡ values ++ value ∷ []
    → fold_result with_value values (map (part_of scope) (drop i es)) ≡ known → fold_result with_value grown (map (part_of scope) (drop (i + 1) es)) ≡ known
value_taken laws scope values grown value known es i e below here is more so_far =
    laws.taken (λ so_far es. fold_result with_value so_far (map (part_of scope) es)) (λ so_far e. with_value so_far (part_of scope e)) (record { ends = λ so_far. refl; goes_on = λ so_far e es. refl }) values grown known es i e below here (with_value_is scope values e (Ok value) is ∙ ap Ok (sym more)) so_far

pub value_stopped : ItemLaws (List Value) TypedExpr TrapKind → (scope : Scope) (values : List Value) (known : Result (List Value) TrapKind) (es : List TypedExpr) (i : ℕ) (e : TypedExpr) (stopped : Stopped TrapKind)
    → i < length es → e ≡ get_or es i e → ((kind : TrapKind) → stopped ≡ By kind → meaning scope e ≡ Err kind)
    → fold_result with_value values (map (part_of scope) (drop i es)) ≡ known → (kind : TrapKind) → stopped ≡ By kind → known ≡ Err kind
value_stopped laws scope values known es i e stopped below here stops so_far kind is =
    laws.refused (λ so_far es. fold_result with_value so_far (map (part_of scope) es)) (λ so_far e. with_value so_far (part_of scope e)) (record { ends = λ so_far. refl; goes_on = λ so_far e es. refl }) values known es i e kind below here (with_value_is scope values e (Err kind) (stops kind is)) so_far

pub values_ended : ItemLaws (List Value) TypedExpr TrapKind → (scope : Scope) (values : List Value) (known : Result (List Value) TrapKind) (es : List TypedExpr) (i : ℕ)
    → length es ≤ i → fold_result with_value values (map (part_of scope) (drop i es)) ≡ known → known ≡ Ok values
values_ended laws scope values known es i past so_far = laws.ended (λ so_far es. fold_result with_value so_far (map (part_of scope) es)) (λ so_far e. with_value so_far (part_of scope e)) (record { ends = λ so_far. refl; goes_on = λ so_far e es. refl }) values known es i past so_far
