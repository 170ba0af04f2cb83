-- The laws of sums over all values of indices.
use Rattle.std.specs.Prelude.{◌≡◌, ℕ, ◌*◌, ◌%◌, Bool, false, List, [], ◌∷◌, ◌++◌, sum_by}
use Rattle.std.specs.Bool.{Decides}
use Rattle.std.specs.Str.{bytes_eq}
use Rattle.index_sums.specs.IndexSums.{Name, Values, with_index, over_all, product_by, times, IsReordered}

-- a term in which an index doesn't stand
abbrev pub Lacks : Name → (Values → ℕ) → Type 0
Lacks name term = (at : Values) (value : ℕ) → term (with_index at name value) ≡ term at

-- a term in which none of some indices stands
abbrev pub LacksAll : List Name → (Values → ℕ) → Type 0
LacksAll [] term = Unit {0}
LacksAll (name ∷ names) term = Lacks name term × LacksAll names term

pub record IndexSumLaws : Type 0 where
  -- values of two different indices, in either order
  pub either_order : (at : Values) (a b : Name) (v w : ℕ) → bytes_eq a b ≡ false → with_index (with_index at a v) b w ≡ with_index (with_index at b w) a v
  pub appended : (size : Name → ℕ) (names others : List Name) (term : Values → ℕ) (at : Values)
      → over_all size (names ++ others) term at ≡ over_all size names (over_all size others term) at
  -- a factor in which none of the indices stands
  pub scaled : (size : Name → ℕ) (names : List Name) (factor term : Values → ℕ) (at : Values) → LacksAll names factor
      → over_all size names (λ v. factor v * term v) at ≡ factor at * over_all size names term at
  -- an index that doesn't stand in a term doesn't stand in its sums
  pub lacking : (size : Name → ℕ) (names : List Name) (name : Name) (term : Values → ℕ) → Lacks name term → Lacks name (over_all size names term)
  -- the sum of a product of two terms that share no summed index
  pub separated : (size : Name → ℕ) (names others : List Name) (left right : Values → ℕ) (at : Values) → LacksAll others left → LacksAll names right
      → over_all size (names ++ others) (λ v. left v * right v) at ≡ over_all size names left at * over_all size others right at
  -- the order of the indices doesn't matter, nor that of factors
  pub any_order : (size : Name → ℕ) (names others : List Name) (term : Values → ℕ) (at : Values) → IsReordered names others
      → over_all size names term at ≡ over_all size others term at
  -- modulo m, terms may be taken modulo m
  pub congruent : (m : ℕ) (size : Name → ℕ) (names : List Name) (term other : Values → ℕ) (at : Values) → ((v : Values) → term v % m ≡ other v % m)
      → over_all size names term at % m ≡ over_all size names other at % m

-- of products over lists
pub record ProductLaws (A : Type 0) : Type 0 where
  pub appended : (factor : A → ℕ) (xs ys : List A) → product_by factor (xs ++ ys) ≡ product_by factor xs * product_by factor ys
  pub any_order : (factor : A → ℕ) (xs ys : List A) → IsReordered xs ys → product_by factor xs ≡ product_by factor ys

-- lists that have each element as often are reordered, and have the same sums
pub record ReorderLaws (A : Type 0) : Type 0 where
  pub by_times : (same : A → A → Bool) → ((x y : A) → Decides (same x y) (x ≡ y)) → (xs ys : List A) → ((x : A) → times same x xs ≡ times same x ys)
      → IsReordered xs ys
  pub sums : (f : A → ℕ) (xs ys : List A) → IsReordered xs ys → sum_by f xs ≡ sum_by f ys
