-- Loops that take one step after the other.
use Rattle.std.proofs.Common.{◌≡◌, ◌⊎◌, ℕ, ◌+◌, ◌<◌, ◌≤◌, List, [], ◌∷◌, ◌++◌, map, Result, Ok, Err, length, drop, get_or, sym, ap, ◌∙◌, inl, inr}
use Rattle.std.proofs.lemmas.List.{drop_more, drop_all}
use Rattle.vocabulary.specs.Answers.{◌>>=◌, fold_result}
use Rattle.typed_tree.specs.declared.fault.CheckFault.{CheckFault}
use Rattle.typed_tree.specs.declared.fault.CheckFault.TheVariants.{Memory}
use Rattle.typed_tree.specs.Steps.{Step, with_step}

-- a fault that is known, or out of memory, is one also along an equation
pub fault_along : {A B : Type 0} (known : Result A CheckFault) (whole : Result B CheckFault) (fault : CheckFault)
    → (known ≡ Err fault → whole ≡ Err fault) → (fault ≡ Memory) ⊎ (known ≡ Err fault) → (fault ≡ Memory) ⊎ (whole ≡ Err fault)
fault_along known whole fault along (inl memory) = inl memory
fault_along known whole fault along (inr is) = inr (along is)

-- the fold at an item
pub at_item : {A B X E : Type 0} (step : A → B → Result A E) (f : X → B) (before : A) (xs : List X) (i : ℕ) (x : X)
    → i < length xs → x ≡ get_or xs i x
    → fold_result step before (map f (drop i xs)) ≡ (step before (f x) >>= λ next. fold_result step next (map f (drop (i + 1) xs)))
at_item step f before xs i x below here =
    ap (λ l. fold_result step before (map f l)) (drop_more xs i x below ∙ ap (λ y. y ∷ drop (i + 1) xs) (sym here))

-- an item is taken
pub item_taken : {A B X E : Type 0} (step : A → B → Result A E) (f : X → B) (before after : A) (known : Result A E) (xs : List X) (i : ℕ) (x : X)
    → i < length xs → x ≡ get_or xs i x → step before (f x) ≡ Ok after
    → fold_result step before (map f (drop i xs)) ≡ known → fold_result step after (map f (drop (i + 1) xs)) ≡ known
item_taken step f before after known xs i x below here gives so_far =
    sym (at_item step f before xs i x below here ∙ ap (λ r. r >>= λ n. fold_result step n (map f (drop (i + 1) xs))) gives) ∙ so_far

-- an item is refused
pub item_refused : {A B X E : Type 0} (step : A → B → Result A E) (f : X → B) (before : A) (known : Result A E) (xs : List X) (i : ℕ) (x : X) (fault : E)
    → i < length xs → x ≡ get_or xs i x → step before (f x) ≡ Err fault
    → fold_result step before (map f (drop i xs)) ≡ known → known ≡ Err fault
item_refused step f before known xs i x fault below here gives so_far =
    sym so_far ∙ at_item step f before xs i x below here ∙ ap (λ r. r >>= λ n. fold_result step n (map f (drop (i + 1) xs))) gives

-- no item is left
pub items_ended : {A B X E : Type 0} (step : A → B → Result A E) (f : X → B) (before : A) (known : Result A E) (xs : List X) (i : ℕ)
    → length xs ≤ i → fold_result step before (map f (drop i xs)) ≡ known → known ≡ Ok before
items_ended step f before known xs i past so_far = sym so_far ∙ ap (λ l. fold_result step before (map f l)) (drop_all i xs past)

-- ---- several steps

-- a step answers
pub step_taken : {A S X : Type 0} (f : X → Step S A) (values grown : List A) (state after : S) (known : Result (List A × S) CheckFault) (xs : List X) (i : ℕ) (x : X) (value : A)
    → i < length xs → x ≡ get_or xs i x → f x state ≡ Ok (value, after) → grown ≡ values ++ value ∷ []
    → fold_result with_step (values, state) (map f (drop i xs)) ≡ known → fold_result with_step (grown, after) (map f (drop (i + 1) xs)) ≡ known
step_taken f values grown state after known xs i x value below here gives more so_far =
    ap (λ vs. fold_result with_step (vs, after) (map f (drop (i + 1) xs))) more
    ∙ item_taken with_step f (values, state) (values ++ value ∷ [], after) known xs i x below here
    (ap (λ r. r >>= λ next. Ok (values ++ next.0 ∷ [], next.1)) gives) so_far

-- a step answers a fault
pub step_refused : {A S X : Type 0} (f : X → Step S A) (values : List A) (state : S) (known : Result (List A × S) CheckFault) (xs : List X) (i : ℕ) (x : X) (fault : CheckFault)
    → i < length xs → x ≡ get_or xs i x → (fault ≡ Memory) ⊎ (f x state ≡ Err fault)
    → fold_result with_step (values, state) (map f (drop i xs)) ≡ known → (fault ≡ Memory) ⊎ (known ≡ Err fault)
step_refused f values state known xs i x fault below here gives so_far =
    fault_along (f x state) known fault (λ is.
    item_refused with_step f (values, state) known xs i x fault below here
    (ap (λ r. r >>= λ next. Ok (values ++ next.0 ∷ [], next.1)) is) so_far) gives

-- no step is left
pub steps_ended : {A S X : Type 0} (f : X → Step S A) (values : List A) (state : S) (known : Result (List A × S) CheckFault) (xs : List X) (i : ℕ)
    → length xs ≤ i → fold_result with_step (values, state) (map f (drop i xs)) ≡ known → known ≡ Ok (values, state)
steps_ended f values state known xs i past so_far = items_ended with_step f (values, state) known xs i past so_far
