-- Indices with decimals, and no indices.
use Rattle.std.proofs.Common.{◌≡◌, ◌≢◌, ℕ, zero, suc, ◌&&◌, List, [], ◌∷◌, ◌++◌, refl}
use Rattle.type_rules.specs.Rules.{is_empty}
use Rattle.type_rules.specs.declared.types.IndexRange.{IndexRange}
use Rattle.typed_tree.specs.declared.expression.TypedExpr.{TypedExpr}
use Rattle.typed_tree.specs.declared.expression.TypedFactor.{TypedFactor}
use Rattle.typed_tree.specs.declared.expression.TypedForm.{TypedForm}
use Rattle.typed_tree.specs.declared.expression.TypedForm.TheOpen.{TypedForm-F}
use Rattle.typed_tree.specs.declared.expression.TypedRow.{TypedRow}
use Rattle.typed_tree.specs.declared.expression.TypedTerm.{TypedTerm}
use Rattle.typed_tree.specs.Expressions.{range_in}

-- with decimals, how many doesn't matter
pub other_scale : (scale : ℕ) (form : TypedForm-F TypedForm TypedExpr TypedFactor TypedRow TypedTerm) → scale ≢ 0 → range_in scale form ≡ range_in 1 form
other_scale zero form some = absurd (some refl)
other_scale (suc n) form some = refl

-- two lists together have no index where neither has one
pub no_index : (places indices : List IndexRange) → is_empty (places ++ indices) ≡ (is_empty places && is_empty indices)
no_index [] indices = refl
no_index (i ∷ places) indices = refl
