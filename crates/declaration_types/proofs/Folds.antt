-- How loops go through a list, up to the first fault.
use Rattle.std.proofs.Common.{◌≡◌, ℕ, ◌+◌, ◌<◌, ◌≤◌, List, [], ◌∷◌, ◌++◌, map, length, drop, get_or, Result, Ok, Err, sym, ap, ◌∙◌}
use Rattle.std.proofs.lemmas.List.{drop_more, drop_all}
use Rattle.vocabulary.specs.Answers.{◌>>=◌, fold_result}
use Rattle.typed_tree.specs.declared.fault.CheckFault.{CheckFault}
use Rattle.typed_tree.specs.Steps.{Step, with_step}

from_here : {A : Type 0} (xs : List A) (i : ℕ) (x : A) → i < length xs → x ≡ get_or xs i x → drop i xs ≡ x ∷ drop (i + 1) xs
from_here xs i x below here = drop_more xs i x below ∙ ap (λ y. y ∷ drop (i + 1) xs) (sym here)

-- another item
pub one_more : {A B : Type 0} (one : A → B → Result A CheckFault) (known next : A) (xs : List B) (i : ℕ) (x : B)
    → i < length xs → x ≡ get_or xs i x → one known x ≡ Ok next
    → fold_result one next (drop (i + 1) xs) ≡ fold_result one known (drop i xs)
one_more one known next xs i x below here gives =
    let rest = drop (i + 1) xs in
    sym (ap (fold_result one known) (from_here xs i x below here) ∙ ap (λ r. r >>= λ n. fold_result one n rest) gives)

-- an item that is refused
pub one_refused : {A B : Type 0} (one : A → B → Result A CheckFault) (known : A) (fault : CheckFault) (xs : List B) (i : ℕ) (x : B)
    → i < length xs → x ≡ get_or xs i x → one known x ≡ Err fault
    → fold_result one known (drop i xs) ≡ Err fault
one_refused one known fault xs i x below here gives =
    let rest = drop (i + 1) xs in
    ap (fold_result one known) (from_here xs i x below here) ∙ ap (λ r. r >>= λ n. fold_result one n rest) gives

-- no item is left
pub none_left : {A B : Type 0} (one : A → B → Result A CheckFault) (known : A) (xs : List B) (i : ℕ) → length xs ≤ i
    → fold_result one known (drop i xs) ≡ Ok known
none_left one known xs i past = ap (fold_result one known) (drop_all i xs past)

-- another step
pub step_more : {S A B : Type 0} (f : A → Step S B) (values : List B) (state next : S) (xs : List A) (i : ℕ) (x : A) (y : B)
    → i < length xs → x ≡ get_or xs i x → f x state ≡ Ok (y, next)
    → fold_result with_step (values ++ y ∷ [], next) (map f (drop (i + 1) xs)) ≡ fold_result with_step (values, state) (map f (drop i xs))
step_more f values state next xs i x y below here gives =
    let rest = map f (drop (i + 1) xs) in
    sym (ap (λ l. fold_result with_step (values, state) (map f l)) (from_here xs i x below here)
    ∙ ap (λ r. (r >>= λ n. Ok (values ++ n.0 ∷ [], n.1)) >>= λ n. fold_result with_step n rest) gives)

-- a step that is refused
pub step_refused : {S A B : Type 0} (f : A → Step S B) (values : List B) (state : S) (fault : CheckFault) (xs : List A) (i : ℕ) (x : A)
    → i < length xs → x ≡ get_or xs i x → f x state ≡ Err fault
    → fold_result with_step (values, state) (map f (drop i xs)) ≡ Err fault
step_refused f values state fault xs i x below here gives =
    let rest = map f (drop (i + 1) xs) in
    ap (λ l. fold_result with_step (values, state) (map f l)) (from_here xs i x below here)
    ∙ ap (λ r. (r >>= λ n. Ok (values ++ n.0 ∷ [], n.1)) >>= λ n. fold_result with_step n rest) gives

-- no step is left
pub steps_done : {S A B : Type 0} (f : A → Step S B) (values : List B) (state : S) (xs : List A) (i : ℕ) → length xs ≤ i
    → fold_result with_step (values, state) (map f (drop i xs)) ≡ Ok (values, state)
steps_done f values state xs i past = ap (λ l. fold_result with_step (values, state) (map f l)) (drop_all i xs past)
