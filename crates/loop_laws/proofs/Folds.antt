-- Loops that take one item after the other, up to the first fault.
use Rattle.std.proofs.Common.{◌≡◌, ℕ, suc, ◌+◌, ◌-◌, ◌<◌, ◌≤◌, List, ◌∷◌, Result, Ok, Err, length, drop, get_or, sym, ap, ◌∙◌, arith}
use Rattle.std.specs.List.{range_with_len}
use Rattle.std.proofs.lemmas.List.{drop_more, drop_all}
use Rattle.vocabulary.specs.Answers.{◌>>=◌, fold_result}
use Rattle.loop_laws.specs.Loops.{TakesItems}

-- ---- items of a list

-- the items from one on
from_item : {A X E : Type 0} (all : A → List X → Result A E) (step : A → X → Result A E) → TakesItems all step
    → (before : A) (xs : List X) (i : ℕ) (x : X) → i < length xs → x ≡ get_or xs i x
    → all before (drop i xs) ≡ (step before x >>= λ next. all next (drop (i + 1) xs))
from_item all step takes before xs i x below here =
    ap (all before) (drop_more xs i x below ∙ ap (λ y. y ∷ drop (i + 1) xs) (sym here)) ∙ takes.goes_on before x (drop (i + 1) xs)

pub item_taken : {A X E : Type 0} (all : A → List X → Result A E) (step : A → X → Result A E) → TakesItems all step
    → (before after : A) (known : Result A E) (xs : List X) (i : ℕ) (x : X)
    → i < length xs → x ≡ get_or xs i x → step before x ≡ Ok after → all before (drop i xs) ≡ known → all after (drop (i + 1) xs) ≡ known
item_taken all step takes before after known xs i x below here gives so_far =
    sym (from_item all step takes before xs i x below here ∙ ap (λ r. r >>= λ next. all next (drop (i + 1) xs)) gives) ∙ so_far

pub item_refused : {A X E : Type 0} (all : A → List X → Result A E) (step : A → X → Result A E) → TakesItems all step
    → (before : A) (known : Result A E) (xs : List X) (i : ℕ) (x : X) (fault : E)
    → i < length xs → x ≡ get_or xs i x → step before x ≡ Err fault → all before (drop i xs) ≡ known → known ≡ Err fault
item_refused all step takes before known xs i x fault below here gives so_far =
    sym so_far ∙ from_item all step takes before xs i x below here ∙ ap (λ r. r >>= λ next. all next (drop (i + 1) xs)) gives

pub items_ended : {A X E : Type 0} (all : A → List X → Result A E) (step : A → X → Result A E) → TakesItems all step
    → (before : A) (known : Result A E) (xs : List X) (i : ℕ)
    → length xs ≤ i → all before (drop i xs) ≡ known → known ≡ Ok before
items_ended all step takes before known xs i past so_far = sym so_far ∙ ap (all before) (drop_all i xs past) ∙ takes.ends before

-- ---- numbers that are counted up

-- the numbers from one on, up to below another
from_number : (n to : ℕ) → n < to → range_with_len n (to - n) ≡ n ∷ range_with_len (n + 1) (to - (n + 1))
from_number n to below = ap (range_with_len n) (let left : to - n ≡ suc (to - (n + 1)) = omega arith in left)

pub number_taken : {A E : Type 0} (step : A → ℕ → Result A E) (before after : A) (known : Result A E) (n to : ℕ)
    → n < to → step before n ≡ Ok after
    → fold_result step before (range_with_len n (to - n)) ≡ known → fold_result step after (range_with_len (n + 1) (to - (n + 1))) ≡ known
number_taken step before after known n to below gives so_far =
    sym (ap (fold_result step before) (from_number n to below) ∙ ap (λ r. r >>= λ next. fold_result step next (range_with_len (n + 1) (to - (n + 1)))) gives) ∙ so_far

pub number_refused : {A E : Type 0} (step : A → ℕ → Result A E) (before : A) (known : Result A E) (n to : ℕ) (fault : E)
    → n < to → step before n ≡ Err fault
    → fold_result step before (range_with_len n (to - n)) ≡ known → known ≡ Err fault
number_refused step before known n to fault below gives so_far =
    sym so_far ∙ ap (fold_result step before) (from_number n to below) ∙ ap (λ r. r >>= λ next. fold_result step next (range_with_len (n + 1) (to - (n + 1)))) gives

pub numbers_ended : {A E : Type 0} (step : A → ℕ → Result A E) (before : A) (known : Result A E) (n to : ℕ)
    → to ≤ n → fold_result step before (range_with_len n (to - n)) ≡ known → known ≡ Ok before
numbers_ended step before known n to past so_far =
    sym so_far ∙ ap (λ left. fold_result step before (range_with_len n left)) (let none : to - n ≡ 0 = omega arith in none)
