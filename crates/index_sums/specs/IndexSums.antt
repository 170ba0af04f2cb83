-- Sums over all values of named indices, and products over lists.
use Rattle.std.specs.Prelude.{ℕ, ◌+◌, ◌*◌, Bool, List, [], ◌∷◌, ◌++◌, sum_by, if◌then◌else◌}
use Rattle.std.specs.List.{range_with_len}
use Rattle.std.specs.Str.{bytes_eq}

abbrev pub Name : Type 0
Name = List ℕ

-- a value of each index
abbrev pub Values : Type 0
Values = Name → ℕ

-- the same values, but for one index
abbrev pub with_index : Values → Name → ℕ → Values
with_index at name value other = if bytes_eq name other then value else at other

-- the sum over all values of some indices, each below its size; what the other indices are stays
abbrev pub over_all : (Name → ℕ) → List Name → (Values → ℕ) → Values → ℕ
over_all size [] term at = term at
over_all size (name ∷ names) term at = sum_by (λ value. over_all size names term (with_index at name value)) (range_with_len 0 (size name))

abbrev pub product_by : {A : Type 0} → (A → ℕ) → List A → ℕ
product_by factor [] = 1
product_by factor (x ∷ xs) = factor x * product_by factor xs

-- the second list has what the first has, each as often, in any order
pub data IsReordered {A : Type 0} : List A → List A → Type 0 where
  nothing : IsReordered [] []
  moved : (x : A) (rest before after : List A) → IsReordered rest (before ++ after) → IsReordered (x ∷ rest) (before ++ x ∷ after)

-- how often x stands in a list
abbrev pub times : {A : Type 0} → (A → A → Bool) → A → List A → ℕ
times same x [] = 0
times same x (y ∷ ys) = (if same x y then 1 else 0) + times same x ys
