-- What loops over the parts of an expression have computed so far: those that are left give what all give.
use Rattle.std.specs.Prelude.{◌≡◌, ℕ, ◌+◌, ◌<◌, ◌≤◌, Bool, ◌&&◌, ◌||◌, List, [], ◌∷◌, ◌++◌, map, Option, Some, Result, Ok, Err, length, drop, get_or}
use Rattle.vocabulary.specs.Answers.{fold_result}
use Rattle.ring_words.specs.declared.trap.TrapKind.{TrapKind}
use Rattle.type_rules.specs.declared.types.NodeType.{NodeType}
use Rattle.typed_tree.specs.declared.expression.TypedExpr.{TypedExpr}
use Rattle.typed_tree.specs.declared.expression.TypedFactor.{TypedFactor}
use Rattle.typed_tree.specs.declared.expression.TypedRow.{TypedRow, out-TypedRow}
use Rattle.typed_tree.specs.declared.expression.TypedTerm.{TypedTerm}
use Rattle.value_algebra.specs.declared.value.Value.{Value}
use Rattle.value_algebra.specs.Value.{word_of}
use Rattle.algebra_meaning.specs.declared.stopped.Stopped.{Stopped}
use Rattle.algebra_meaning.specs.declared.stopped.Stopped.TheVariants.{By}
use Rattle.algebra_meaning.specs.Expression.{Scope, added, and_also, factor_of, meaning, meanings, multiplied, or_else, part_of, row_of, term_of, with_factor, with_row, with_term, with_value}

pub record ExpressionLaws : Type 0 where
  -- ---- terms of a sum
  pub term_taken : (scope : Scope) (total : Option Value) (next value : Value) (known : Result (Option Value) TrapKind) (ts : List TypedTerm) (i : ℕ) (t : TypedTerm)
      → i < length ts → t ≡ get_or ts i t → meaning scope t.value ≡ Ok value → next ≡ added total t.minus value
      → fold_result with_term total (map (term_of scope) (drop i ts)) ≡ known → fold_result with_term (Some next) (map (term_of scope) (drop (i + 1) ts)) ≡ known
  pub term_stopped : (scope : Scope) (total : Option Value) (known : Result (Option Value) TrapKind) (ts : List TypedTerm) (i : ℕ) (t : TypedTerm) (stopped : Stopped TrapKind)
      → i < length ts → t ≡ get_or ts i t → ((kind : TrapKind) → stopped ≡ By kind → meaning scope t.value ≡ Err kind)
      → fold_result with_term total (map (term_of scope) (drop i ts)) ≡ known → (kind : TrapKind) → stopped ≡ By kind → known ≡ Err kind
  pub terms_ended : (scope : Scope) (total : Option Value) (known : Result (Option Value) TrapKind) (ts : List TypedTerm) (i : ℕ)
      → length ts ≤ i → fold_result with_term total (map (term_of scope) (drop i ts)) ≡ known → known ≡ Ok total
  -- ---- factors of a product
  pub factor_taken : (scope : Scope) (product : Option (NodeType × Value)) (next value : Value) (known : Result (Option (NodeType × Value)) TrapKind) (fs : List TypedFactor) (i : ℕ) (f : TypedFactor)
      → i < length fs → f ≡ get_or fs i f → meaning scope f.value ≡ Ok value → next ≡ multiplied product f.entrywise f.value.node.value_type value
      → fold_result with_factor product (map (factor_of scope) (drop i fs)) ≡ known
      → fold_result with_factor (Some (f.node.value_type, next)) (map (factor_of scope) (drop (i + 1) fs)) ≡ known
  pub factor_stopped : (scope : Scope) (product : Option (NodeType × Value)) (known : Result (Option (NodeType × Value)) TrapKind) (fs : List TypedFactor) (i : ℕ) (f : TypedFactor) (stopped : Stopped TrapKind)
      → i < length fs → f ≡ get_or fs i f → ((kind : TrapKind) → stopped ≡ By kind → meaning scope f.value ≡ Err kind)
      → fold_result with_factor product (map (factor_of scope) (drop i fs)) ≡ known → (kind : TrapKind) → stopped ≡ By kind → known ≡ Err kind
  pub factors_ended : (scope : Scope) (product : Option (NodeType × Value)) (known : Result (Option (NodeType × Value)) TrapKind) (fs : List TypedFactor) (i : ℕ)
      → length fs ≤ i → fold_result with_factor product (map (factor_of scope) (drop i fs)) ≡ known → known ≡ Ok product
  -- ---- rows of a block
  pub row_taken : (scope : Scope) (words grown : List ℕ) (values : List Value) (known : Result (List ℕ) TrapKind) (rs : List TypedRow) (i : ℕ) (r : TypedRow)
      → i < length rs → r ≡ get_or rs i r → meanings scope (out-TypedRow r).entries ≡ Ok values → grown ≡ words ++ map word_of values
      → fold_result with_row words (map (row_of scope) (drop i rs)) ≡ known → fold_result with_row grown (map (row_of scope) (drop (i + 1) rs)) ≡ known
  pub row_stopped : (scope : Scope) (words : List ℕ) (known : Result (List ℕ) TrapKind) (rs : List TypedRow) (i : ℕ) (r : TypedRow) (stopped : Stopped TrapKind)
      → i < length rs → r ≡ get_or rs i r → ((kind : TrapKind) → stopped ≡ By kind → meanings scope (out-TypedRow r).entries ≡ Err kind)
      → fold_result with_row words (map (row_of scope) (drop i rs)) ≡ known → (kind : TrapKind) → stopped ≡ By kind → known ≡ Err kind
  pub rows_ended : (scope : Scope) (words : List ℕ) (known : Result (List ℕ) TrapKind) (rs : List TypedRow) (i : ℕ)
      → length rs ≤ i → fold_result with_row words (map (row_of scope) (drop i rs)) ≡ known → known ≡ Ok words
  -- ---- expressions that are evaluated one after the other
  pub value_taken : (scope : Scope) (values grown : List Value) (value : Value) (known : Result (List Value) TrapKind) (es : List TypedExpr) (i : ℕ) (e : TypedExpr)
      → i < length es → e ≡ get_or es i e → meaning scope e ≡ Ok value → grown ≡ values ++ value ∷ []
      → fold_result with_value values (map (part_of scope) (drop i es)) ≡ known → fold_result with_value grown (map (part_of scope) (drop (i + 1) es)) ≡ known
  pub value_stopped : (scope : Scope) (values : List Value) (known : Result (List Value) TrapKind) (es : List TypedExpr) (i : ℕ) (e : TypedExpr) (stopped : Stopped TrapKind)
      → i < length es → e ≡ get_or es i e → ((kind : TrapKind) → stopped ≡ By kind → meaning scope e ≡ Err kind)
      → fold_result with_value values (map (part_of scope) (drop i es)) ≡ known → (kind : TrapKind) → stopped ≡ By kind → known ≡ Err kind
  pub values_ended : (scope : Scope) (values : List Value) (known : Result (List Value) TrapKind) (es : List TypedExpr) (i : ℕ)
      → length es ≤ i → fold_result with_value values (map (part_of scope) (drop i es)) ≡ known → known ≡ Ok values

-- the comparisons of a conjunction, and the parts of a condition
pub record ConditionLaws (X : Type 0) : Type 0 where
  pub and_taken : (f : X → Result Bool TrapKind) (all next one : Bool) (known : Result Bool TrapKind) (xs : List X) (i : ℕ) (x : X)
      → i < length xs → x ≡ get_or xs i x → f x ≡ Ok one → next ≡ (all && one)
      → fold_result and_also all (map f (drop i xs)) ≡ known → fold_result and_also next (map f (drop (i + 1) xs)) ≡ known
  pub and_stopped : (f : X → Result Bool TrapKind) (all : Bool) (known : Result Bool TrapKind) (xs : List X) (i : ℕ) (x : X) (stopped : Stopped TrapKind)
      → i < length xs → x ≡ get_or xs i x → ((kind : TrapKind) → stopped ≡ By kind → f x ≡ Err kind)
      → fold_result and_also all (map f (drop i xs)) ≡ known → (kind : TrapKind) → stopped ≡ By kind → known ≡ Err kind
  pub and_ended : (f : X → Result Bool TrapKind) (all : Bool) (known : Result Bool TrapKind) (xs : List X) (i : ℕ)
      → length xs ≤ i → fold_result and_also all (map f (drop i xs)) ≡ known → known ≡ Ok all
  pub or_taken : (f : X → Result Bool TrapKind) (any next one : Bool) (known : Result Bool TrapKind) (xs : List X) (i : ℕ) (x : X)
      → i < length xs → x ≡ get_or xs i x → f x ≡ Ok one → next ≡ (any || one)
      → fold_result or_else any (map f (drop i xs)) ≡ known → fold_result or_else next (map f (drop (i + 1) xs)) ≡ known
  pub or_stopped : (f : X → Result Bool TrapKind) (any : Bool) (known : Result Bool TrapKind) (xs : List X) (i : ℕ) (x : X) (stopped : Stopped TrapKind)
      → i < length xs → x ≡ get_or xs i x → ((kind : TrapKind) → stopped ≡ By kind → f x ≡ Err kind)
      → fold_result or_else any (map f (drop i xs)) ≡ known → (kind : TrapKind) → stopped ≡ By kind → known ≡ Err kind
  pub or_ended : (f : X → Result Bool TrapKind) (any : Bool) (known : Result Bool TrapKind) (xs : List X) (i : ℕ)
      → length xs ≤ i → fold_result or_else any (map f (drop i xs)) ≡ known → known ≡ Ok any
