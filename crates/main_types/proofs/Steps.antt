-- How a loop goes through a list, step by step.
use Rattle.std.proofs.Common.{◌≡◌, ℕ, ◌+◌, ◌<◌, ◌≤◌, List, [], ◌∷◌, ◌++◌, map, length, drop, get_or, Ok, Err, sym, ap, ◌∙◌}
use Rattle.std.proofs.lemmas.List.{drop_more, drop_all}
use Rattle.vocabulary.specs.Answers.{◌>>=◌, fold_result}
use Rattle.typed_tree.specs.declared.fault.CheckFault.{CheckFault}
use Rattle.typed_tree.specs.Steps.{Step, with_step}

-- the item at an index comes first of those from there on
pub from_here : {A : Type 0} (xs : List A) (i : ℕ) (x : A) → i < length xs → x ≡ get_or xs i x → drop i xs ≡ x ∷ drop (i + 1) xs
from_here xs i x below here = drop_more xs i x below ∙ ap (λ y. y ∷ drop (i + 1) xs) (sym here)

-- another step
pub step_more : {S A B : Type 0} (f : A → Step S B) (values : List B) (state next : S) (xs : List A) (i : ℕ) (x : A) (y : B)
    → i < length xs → x ≡ get_or xs i x → f x state ≡ Ok (y, next)
    → fold_result with_step (values ++ y ∷ [], next) (map f (drop (i + 1) xs)) ≡ fold_result with_step (values, state) (map f (drop i xs))
step_more f values state next xs i x y below here gives =
    let rest = map f (drop (i + 1) xs) in
    sym (ap (λ l. fold_result with_step (values, state) (map f l)) (from_here xs i x below here)
    ∙ ap (λ r. (r >>= λ n. Ok (values ++ n.0 ∷ [], n.1)) >>= λ n. fold_result with_step n rest) gives)

-- a step that is refused
pub step_refused : {S A B : Type 0} (f : A → Step S B) (values : List B) (state : S) (fault : CheckFault) (xs : List A) (i : ℕ) (x : A)
    → i < length xs → x ≡ get_or xs i x → f x state ≡ Err fault
    → fold_result with_step (values, state) (map f (drop i xs)) ≡ Err fault
step_refused f values state fault xs i x below here gives =
    let rest = map f (drop (i + 1) xs) in
    ap (λ l. fold_result with_step (values, state) (map f l)) (from_here xs i x below here)
    ∙ ap (λ r. (r >>= λ n. Ok (values ++ n.0 ∷ [], n.1)) >>= λ n. fold_result with_step n rest) gives

-- no step is left
pub steps_done : {S A B : Type 0} (f : A → Step S B) (values : List B) (state : S) (xs : List A) (i : ℕ) → length xs ≤ i
    → fold_result with_step (values, state) (map f (drop i xs)) ≡ Ok (values, state)
steps_done f values state xs i past = ap (λ l. fold_result with_step (values, state) (map f l)) (drop_all i xs past)
