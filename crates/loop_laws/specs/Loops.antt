-- Loops that take one item after the other, up to the first fault: what is left gives what all give.
use Rattle.std.specs.Prelude.{◌≡◌, ℕ, ◌+◌, ◌-◌, ◌<◌, ◌≤◌, List, [], ◌∷◌, Result, Ok, Err, length, drop, get_or}
use Rattle.std.specs.List.{range_with_len}
use Rattle.vocabulary.specs.Answers.{◌>>=◌, fold_result}

-- what all items of a list give from a start is what a step gives with one after the other, as in a fold over a list that is
-- made of the items
pub record TakesItems {A X E : Type 0} (all : A → List X → Result A E) (step : A → X → Result A E) : Type 0 where
  pub ends : (start : A) → all start [] ≡ Ok start
  pub goes_on : (start : A) (x : X) (xs : List X) → all start (x ∷ xs) ≡ (step start x >>= λ next. all next xs)

-- over the items of a list
pub record ItemLaws (A X E : Type 0) : Type 0 where
  -- an item is taken
  pub taken : (all : A → List X → Result A E) (step : A → X → Result A E) → TakesItems all step
      → (before after : A) (known : Result A E) (xs : List X) (i : ℕ) (x : X)
      → i < length xs → x ≡ get_or xs i x → step before x ≡ Ok after → all before (drop i xs) ≡ known → all after (drop (i + 1) xs) ≡ known
  -- an item has a fault
  pub refused : (all : A → List X → Result A E) (step : A → X → Result A E) → TakesItems all step
      → (before : A) (known : Result A E) (xs : List X) (i : ℕ) (x : X) (fault : E)
      → i < length xs → x ≡ get_or xs i x → step before x ≡ Err fault → all before (drop i xs) ≡ known → known ≡ Err fault
  -- no item is left
  pub ended : (all : A → List X → Result A E) (step : A → X → Result A E) → TakesItems all step
      → (before : A) (known : Result A E) (xs : List X) (i : ℕ)
      → length xs ≤ i → all before (drop i xs) ≡ known → known ≡ Ok before

-- over the numbers from one up to below another
pub record NumberLaws (A E : Type 0) : Type 0 where
  -- a number is taken
  pub taken : (step : A → ℕ → Result A E) (before after : A) (known : Result A E) (n to : ℕ)
      → n < to → step before n ≡ Ok after
      → fold_result step before (range_with_len n (to - n)) ≡ known → fold_result step after (range_with_len (n + 1) (to - (n + 1))) ≡ known
  -- a number has a fault
  pub refused : (step : A → ℕ → Result A E) (before : A) (known : Result A E) (n to : ℕ) (fault : E)
      → n < to → step before n ≡ Err fault
      → fold_result step before (range_with_len n (to - n)) ≡ known → known ≡ Err fault
  -- no number is left
  pub ended : (step : A → ℕ → Result A E) (before : A) (known : Result A E) (n to : ℕ)
      → to ≤ n → fold_result step before (range_with_len n (to - n)) ≡ known → known ≡ Ok before
