-- Products over lists.
use Rattle.std.proofs.Common.{◌≡◌, ℕ, ◌*◌, List, [], ◌∷◌, ◌++◌, refl, sym, ap, ◌∙◌, arith}
use Rattle.index_sums.specs.IndexSums.{product_by, IsReordered}
use Rattle.index_sums.specs.IndexSums.IsReordered.{nothing, moved}

regrouped : (a b c : ℕ) → a * (b * c) ≡ a * b * c
regrouped a b c = grind (arith)

exchanged : (a b c : ℕ) → a * (b * c) ≡ b * (a * c)
exchanged a b c = grind (arith)

module _ {A : Type 0} where
  pub appended : (factor : A → ℕ) (xs ys : List A) → product_by factor (xs ++ ys) ≡ product_by factor xs * product_by factor ys
  appended factor [] ys = sym (one (product_by factor ys))
    where
      one : (n : ℕ) → 1 * n ≡ n
      one n = omega arith
  appended factor (x ∷ xs) ys = ap (λ n. factor x * n) (appended factor xs ys) ∙ regrouped (factor x) (product_by factor xs) (product_by factor ys)

  -- a factor taken out of the middle
  from_middle : (factor : A → ℕ) (x : A) (before after : List A) → product_by factor (before ++ x ∷ after) ≡ factor x * product_by factor (before ++ after)
  from_middle factor x [] after = refl
  from_middle factor x (y ∷ before) after =
      ap (λ n. factor y * n) (from_middle factor x before after) ∙ exchanged (factor y) (factor x) (product_by factor (before ++ after))

  pub any_order : (factor : A → ℕ) (xs ys : List A) → IsReordered xs ys → product_by factor xs ≡ product_by factor ys
  any_order factor xs ys nothing = refl
  any_order factor xs ys (moved x rest before after same) =
      ap (λ n. factor x * n) (any_order factor rest (before ++ after) same) ∙ sym (from_middle factor x before after)
