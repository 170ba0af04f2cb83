-- The laws of finite sums over lists.
use Rattle.std.specs.Prelude.{◌≡◌, ℕ, ◌+◌, ◌*◌, ◌%◌, ◌<◌, List, map, sum_by, if◌then◌else◌, ◌==◌, IsPermutation}
use Rattle.std.specs.List.{flat_map, range_with_len}

-- of sums over one list
pub record SumLaws (A : Type 0) : Type 0 where
  pub same_terms : (f g : A → ℕ) (xs : List A) → ((x : A) → f x ≡ g x) → sum_by f xs ≡ sum_by g xs
  pub no_terms : (xs : List A) → sum_by (λ x. 0) xs ≡ 0
  pub both : (f g : A → ℕ) (xs : List A) → sum_by (λ x. f x + g x) xs ≡ sum_by f xs + sum_by g xs
  pub scaled : (c : ℕ) (f : A → ℕ) (xs : List A) → sum_by (λ x. c * f x) xs ≡ c * sum_by f xs
  pub any_order : (f : A → ℕ) (xs ys : List A) → IsPermutation xs ys → sum_by f ys ≡ sum_by f xs
  -- modulo m, terms may be taken modulo m
  pub congruent : (m : ℕ) (f g : A → ℕ) (xs : List A) → ((x : A) → f x % m ≡ g x % m) → sum_by f xs % m ≡ sum_by g xs % m
  pub reduced : (m : ℕ) (f : A → ℕ) (xs : List A) → sum_by (λ x. f x % m) xs % m ≡ sum_by f xs % m

-- of sums over two lists
pub record DoubleSumLaws (A B : Type 0) : Type 0 where
  pub exchanged : (f : A → B → ℕ) (xs : List A) (ys : List B)
      → sum_by (λ x. sum_by (λ y. f x y) ys) xs ≡ sum_by (λ y. sum_by (λ x. f x y) xs) ys
  pub product : (f : A → ℕ) (g : B → ℕ) (xs : List A) (ys : List B)
      → sum_by f xs * sum_by g ys ≡ sum_by (λ x. sum_by (λ y. f x * g y) ys) xs
  pub mapped : (f : B → ℕ) (g : A → B) (xs : List A) → sum_by f (map g xs) ≡ sum_by (λ x. f (g x)) xs
  pub flattened : (f : B → ℕ) (g : A → List B) (xs : List A) → sum_by f (flat_map g xs) ≡ sum_by (λ x. sum_by f (g x)) xs

-- of sums over the numbers below a bound
pub record RangeSumLaws : Type 0 where
  pub same_below : (n : ℕ) (f g : ℕ → ℕ) → ((i : ℕ) → i < n → f i ≡ g i)
      → sum_by f (range_with_len 0 n) ≡ sum_by g (range_with_len 0 n)
  -- only one of the terms may differ from 0
  pub one_index : (n k : ℕ) (f : ℕ → ℕ) → k < n
      → sum_by (λ i. if i == k then f i else 0) (range_with_len 0 n) ≡ f k
  -- the numbers below n * h are n blocks of h numbers
  pub blocks : (n h : ℕ) (f : ℕ → ℕ)
      → sum_by f (range_with_len 0 (n * h)) ≡ sum_by (λ i. sum_by (λ r. f (i * h + r)) (range_with_len 0 h)) (range_with_len 0 n)
