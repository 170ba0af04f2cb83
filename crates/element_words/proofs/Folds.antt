-- Folds over expressions, terms, factors and rows, as far as a stack holds their values.
use Rattle.std.proofs.Common.{◌≡◌, ℕ, ◌+◌, ◌<◌, ◌≤◌, List, [], ◌∷◌, ◌++◌, map, Option, Some, Result, Ok, Err, length, drop, get_or, sym, ap, ◌∙◌, refl}
use Rattle.std.proofs.lemmas.List.{map-append}
use Rattle.vocabulary.specs.Answers.{◌>>=◌, fold_result}
use Rattle.ring_words.specs.declared.trap.TrapKind.{TrapKind}
use Rattle.type_rules.specs.declared.types.NodeType.{NodeType}
use Rattle.typed_tree.specs.declared.expression.TypedExpr.{TypedExpr}
use Rattle.typed_tree.specs.declared.expression.TypedFactor.{TypedFactor}
use Rattle.typed_tree.specs.declared.expression.TypedRow.{TypedRow, out-TypedRow}
use Rattle.typed_tree.specs.declared.expression.TypedTerm.{TypedTerm}
use Rattle.value_algebra.specs.declared.value.Value.{Value}
use Rattle.value_algebra.specs.Value.{word_of}
use Rattle.algebra_meaning.specs.declared.stopped.Stopped.{Stopped}
use Rattle.algebra_meaning.specs.declared.stopped.Stopped.TheVariants.{By}
use Rattle.algebra_meaning.specs.Expression.{Meant, Scope, added, factor_of, meaning, meanings, multiplied, part_of, row_of, term_of, with_factor, with_row, with_term, with_value}
use Rattle.algebra_meaning.specs.Loops.{ExpressionLaws}
use Rattle.loop_laws.specs.Loops.{ItemLaws}
use Rattle.word_stacks.specs.declared.indices.Indices.{Indices}
use Rattle.word_stacks.specs.declared.indices.Indices.TheVariants.{Whole}
use Rattle.word_stacks.specs.References.{first_meant, indices_of, with_index}
use Rattle.word_stacks.specs.Steps.{added_meant, indices_meant, multiplied_meant, words_meant}

-- ---- a value that something is made of

meant_of : {A B : Type 0} (m : Result A TrapKind) (g : A → B) (next : B) → (m >>= λ v. Ok (g v)) ≡ Ok next → (v : A) × (m ≡ Ok v) × (next ≡ g v)
meant_of (Ok v) g next is = (v, refl, cc)
meant_of (Err kind) g next is = absurd (cc)

stopped_of : {A B : Type 0} (m : Result A TrapKind) (g : A → B) (kind : TrapKind) → (m >>= λ v. Ok (g v)) ≡ Err kind → m ≡ Err kind
stopped_of (Ok v) g kind is = absurd (cc)
stopped_of (Err trap) g kind is = let same : trap ≡ kind = cc in ap (λ t. Err t) same

-- ---- terms and factors

pub term_added : ExpressionLaws → (scope : Scope) (total : Option Value) (next : Value) (known : Result (Option Value) TrapKind) (ts : List TypedTerm) (i : ℕ) (t : TypedTerm)
    → i < length ts → t ≡ get_or ts i t → added_meant total t.minus (meaning scope t.value) ≡ Ok next
    → fold_result with_term total (map (term_of scope) (drop i ts)) ≡ known → fold_result with_term (Some next) (map (term_of scope) (drop (i + 1) ts)) ≡ known
unfolding added_meant
term_added laws scope total next known ts i t below here is so_far =
    let found : (v : Value) × (meaning scope t.value ≡ Ok v) × (next ≡ added total t.minus v) = meant_of (meaning scope t.value) (added total t.minus) next is in
    laws.term_taken scope total next found.0 known ts i t below here found.1 found.2 so_far

pub term_refused : ExpressionLaws → (scope : Scope) (total : Option Value) (known : Result (Option Value) TrapKind) (ts : List TypedTerm) (i : ℕ) (t : TypedTerm) (stopped : Stopped TrapKind)
    → i < length ts → t ≡ get_or ts i t → ((kind : TrapKind) → stopped ≡ By kind → added_meant total t.minus (meaning scope t.value) ≡ Err kind)
    → fold_result with_term total (map (term_of scope) (drop i ts)) ≡ known → (kind : TrapKind) → stopped ≡ By kind → known ≡ Err kind
unfolding added_meant
term_refused laws scope total known ts i t stopped below here stops so_far =
    laws.term_stopped scope total known ts i t stopped below here (λ kind is. stopped_of (meaning scope t.value) (added total t.minus) kind (stops kind is)) so_far

pub factor_multiplied : ExpressionLaws → (scope : Scope) (product : Option (NodeType × Value)) (next : Value) (known : Result (Option (NodeType × Value)) TrapKind) (fs : List TypedFactor) (i : ℕ) (f : TypedFactor)
    → i < length fs → f ≡ get_or fs i f → multiplied_meant product f.entrywise f.value.node.value_type (meaning scope f.value) ≡ Ok next
    → fold_result with_factor product (map (factor_of scope) (drop i fs)) ≡ known
    → fold_result with_factor (Some (f.node.value_type, next)) (map (factor_of scope) (drop (i + 1) fs)) ≡ known
unfolding multiplied_meant
factor_multiplied laws scope product next known fs i f below here is so_far =
    let g : Value → Value = multiplied product f.entrywise f.value.node.value_type in
    let found : (v : Value) × (meaning scope f.value ≡ Ok v) × (next ≡ g v) = meant_of (meaning scope f.value) g next is in
    laws.factor_taken scope product next found.0 known fs i f below here found.1 found.2 so_far

pub factor_refused : ExpressionLaws → (scope : Scope) (product : Option (NodeType × Value)) (known : Result (Option (NodeType × Value)) TrapKind) (fs : List TypedFactor) (i : ℕ) (f : TypedFactor) (stopped : Stopped TrapKind)
    → i < length fs → f ≡ get_or fs i f → ((kind : TrapKind) → stopped ≡ By kind → multiplied_meant product f.entrywise f.value.node.value_type (meaning scope f.value) ≡ Err kind)
    → fold_result with_factor product (map (factor_of scope) (drop i fs)) ≡ known → (kind : TrapKind) → stopped ≡ By kind → known ≡ Err kind
unfolding multiplied_meant
factor_refused laws scope product known fs i f stopped below here stops so_far =
    laws.factor_stopped scope product known fs i f stopped below here (λ kind is. stopped_of (meaning scope f.value) (multiplied product f.entrywise f.value.node.value_type) kind (stops kind is)) so_far

-- ---- rows

pub words_taken : ExpressionLaws → (scope : Scope) (words grown row : List ℕ) (known : Result (List ℕ) TrapKind) (rs : List TypedRow) (i : ℕ) (r : TypedRow)
    → i < length rs → r ≡ get_or rs i r → words_meant (meanings scope (out-TypedRow r).entries) ≡ Ok row → grown ≡ words ++ row
    → fold_result with_row words (map (row_of scope) (drop i rs)) ≡ known → fold_result with_row grown (map (row_of scope) (drop (i + 1) rs)) ≡ known
unfolding words_meant
words_taken laws scope words grown row known rs i r below here is more so_far =
    let found : (vs : List Value) × (meanings scope (out-TypedRow r).entries ≡ Ok vs) × (row ≡ map word_of vs) = meant_of (meanings scope (out-TypedRow r).entries) (map word_of) row is in
    laws.row_taken scope words grown found.0 known rs i r below here found.1 (more ∙ ap (λ l. words ++ l) found.2) so_far

pub words_stopped : ExpressionLaws → (scope : Scope) (words : List ℕ) (known : Result (List ℕ) TrapKind) (rs : List TypedRow) (i : ℕ) (r : TypedRow) (stopped : Stopped TrapKind)
    → i < length rs → r ≡ get_or rs i r → ((kind : TrapKind) → stopped ≡ By kind → words_meant (meanings scope (out-TypedRow r).entries) ≡ Err kind)
    → fold_result with_row words (map (row_of scope) (drop i rs)) ≡ known → (kind : TrapKind) → stopped ≡ By kind → known ≡ Err kind
unfolding words_meant
words_stopped laws scope words known rs i r stopped below here stops so_far =
    laws.row_stopped scope words known rs i r stopped below here (λ kind is. stopped_of (meanings scope (out-TypedRow r).entries) (map word_of) kind (stops kind is)) so_far

-- ---- the words of several expressions

abbrev pub first_of : Scope → TypedExpr → Result ℕ TrapKind
first_of scope e = first_meant (meaning scope e)

-- a step with the word of a value
abbrev pub stepped : {S : Type 0} → (S → ℕ → S) → S → Result ℕ TrapKind → Result S TrapKind
stepped step so_far first = first >>= λ w. Ok (step so_far w)

-- what is made of all values is made of their words one after the other
by_words : {S : Type 0} (scope : Scope) (made : List Value → S) (step : S → ℕ → S) → ((vs : List Value) (v : Value) → made (vs ++ v ∷ []) ≡ step (made vs) (word_of v))
    → (vs : List Value) (es : List TypedExpr)
    → fold_result (stepped step) (made vs) (map (first_of scope) es) ≡ (fold_result with_value vs (map (part_of scope) es) >>= λ all. Ok (made all))
by_words scope made step law vs [] = refl
by_words scope made step law vs (e ∷ es) =
    elim (meaning scope e) as (λ (m : Meant). (stepped step (made vs) (first_meant m) >>= λ s. fold_result (stepped step) s (map (first_of scope) es))
    ≡ (((m >>= λ v. Ok (vs ++ v ∷ [])) >>= λ more. fold_result with_value more (map (part_of scope) es)) >>= λ all. Ok (made all))) [
      | Ok v ↦ ap (λ s. fold_result (stepped step) s (map (first_of scope) es)) (sym (law vs v)) ∙ by_words scope made step law (vs ++ v ∷ []) es
      | Err kind ↦ refl
    ]

-- indices
index_more : (vs : List Value) (v : Value) → indices_of (vs ++ v ∷ []) ≡ with_index (indices_of vs) (word_of v)
index_more [] v = refl
index_more (i ∷ []) v = refl
index_more (i ∷ j ∷ vs) v = refl

pub indices_begun : (scope : Scope) (es : List TypedExpr)
    → fold_result (stepped with_index) Whole (map (first_of scope) es) ≡ indices_meant (meanings scope es)
unfolding indices_meant
indices_begun scope es = by_words scope indices_of with_index index_more [] es

pub index_taken : ItemLaws Indices TypedExpr TrapKind → (scope : Scope) (so_far next : Indices) (w : ℕ) (known : Result Indices TrapKind) (es : List TypedExpr) (i : ℕ) (e : TypedExpr)
    → i < length es → e ≡ get_or es i e → first_meant (meaning scope e) ≡ Ok w → next ≡ with_index so_far w
    → fold_result (stepped with_index) so_far (map (first_of scope) (drop i es)) ≡ known → fold_result (stepped with_index) next (map (first_of scope) (drop (i + 1) es)) ≡ known
index_taken laws scope so_far next w known es i e below here is gives =
    laws.taken (λ start es. fold_result (stepped with_index) start (map (first_of scope) es)) (λ start e. stepped with_index start (first_of scope e)) (record { ends = λ start. refl; goes_on = λ start e es. refl }) so_far next known es i e below here (ap (stepped with_index so_far) is ∙ ap Ok (sym gives))

pub index_stopped : ItemLaws Indices TypedExpr TrapKind → (scope : Scope) (so_far : Indices) (known : Result Indices TrapKind) (es : List TypedExpr) (i : ℕ) (e : TypedExpr) (stopped : Stopped TrapKind)
    → i < length es → e ≡ get_or es i e → ((kind : TrapKind) → stopped ≡ By kind → first_meant (meaning scope e) ≡ Err kind)
    → fold_result (stepped with_index) so_far (map (first_of scope) (drop i es)) ≡ known → (kind : TrapKind) → stopped ≡ By kind → known ≡ Err kind
index_stopped laws scope so_far known es i e stopped below here stops folded kind is =
    laws.refused (λ start es. fold_result (stepped with_index) start (map (first_of scope) es)) (λ start e. stepped with_index start (first_of scope e)) (record { ends = λ start. refl; goes_on = λ start e es. refl }) so_far known es i e kind below here (ap (stepped with_index so_far) (stops kind is)) folded

pub indices_ended : ItemLaws Indices TypedExpr TrapKind → (scope : Scope) (so_far : Indices) (known : Result Indices TrapKind) (es : List TypedExpr) (i : ℕ)
    → length es ≤ i → fold_result (stepped with_index) so_far (map (first_of scope) (drop i es)) ≡ known → known ≡ Ok so_far
indices_ended laws scope so_far known es i past folded = laws.ended (λ start es. fold_result (stepped with_index) start (map (first_of scope) es)) (λ start e. stepped with_index start (first_of scope e)) (record { ends = λ start. refl; goes_on = λ start e es. refl }) so_far known es i past folded

-- entries
abbrev pub with_word : List ℕ → ℕ → List ℕ
with_word words w = words ++ w ∷ []

entry_more : (vs : List Value) (v : Value) → map word_of (vs ++ v ∷ []) ≡ with_word (map word_of vs) (word_of v)
entry_more vs v = map-append word_of vs (v ∷ [])

pub entries_begun : (scope : Scope) (es : List TypedExpr)
    → fold_result (stepped with_word) [] (map (first_of scope) es) ≡ words_meant (meanings scope es)
unfolding words_meant
entries_begun scope es = by_words scope (map word_of) with_word entry_more [] es

pub entry_taken : ItemLaws (List ℕ) TypedExpr TrapKind → (scope : Scope) (so_far next : List ℕ) (w : ℕ) (known : Result (List ℕ) TrapKind) (es : List TypedExpr) (i : ℕ) (e : TypedExpr)
    → i < length es → e ≡ get_or es i e → first_meant (meaning scope e) ≡ Ok w → next ≡ so_far ++ w ∷ []
    → fold_result (stepped with_word) so_far (map (first_of scope) (drop i es)) ≡ known → fold_result (stepped with_word) next (map (first_of scope) (drop (i + 1) es)) ≡ known
entry_taken laws scope so_far next w known es i e below here is gives =
    laws.taken (λ start es. fold_result (stepped with_word) start (map (first_of scope) es)) (λ start e. stepped with_word start (first_of scope e)) (record { ends = λ start. refl; goes_on = λ start e es. refl }) so_far next known es i e below here (ap (stepped with_word so_far) is ∙ ap Ok (sym gives))

pub entry_stopped : ItemLaws (List ℕ) TypedExpr TrapKind → (scope : Scope) (so_far : List ℕ) (known : Result (List ℕ) TrapKind) (es : List TypedExpr) (i : ℕ) (e : TypedExpr) (stopped : Stopped TrapKind)
    → i < length es → e ≡ get_or es i e → ((kind : TrapKind) → stopped ≡ By kind → first_meant (meaning scope e) ≡ Err kind)
    → fold_result (stepped with_word) so_far (map (first_of scope) (drop i es)) ≡ known → (kind : TrapKind) → stopped ≡ By kind → known ≡ Err kind
entry_stopped laws scope so_far known es i e stopped below here stops folded kind is =
    laws.refused (λ start es. fold_result (stepped with_word) start (map (first_of scope) es)) (λ start e. stepped with_word start (first_of scope e)) (record { ends = λ start. refl; goes_on = λ start e es. refl }) so_far known es i e kind below here (ap (stepped with_word so_far) (stops kind is)) folded

pub entries_ended : ItemLaws (List ℕ) TypedExpr TrapKind → (scope : Scope) (so_far : List ℕ) (known : Result (List ℕ) TrapKind) (es : List TypedExpr) (i : ℕ)
    → length es ≤ i → fold_result (stepped with_word) so_far (map (first_of scope) (drop i es)) ≡ known → known ≡ Ok so_far
entries_ended laws scope so_far known es i past folded = laws.ended (λ start es. fold_result (stepped with_word) start (map (first_of scope) es)) (λ start e. stepped with_word start (first_of scope e)) (record { ends = λ start. refl; goes_on = λ start e es. refl }) so_far known es i past folded
