-- How a loop asks each item of a list.
use Rattle.std.proofs.Common.{◌≡◌, ℕ, ◌+◌, ◌<◌, ◌≤◌, Bool, true, false, ◌||◌, List, ◌∷◌, map, length, drop, get_or, sym, ap, ◌∙◌}
use Rattle.std.proofs.lemmas.List.{drop_more, drop_all}
use Rattle.typed_tree.specs.Declarations.{any_true}

from_here : {A : Type 0} (test : A → Bool) (xs : List A) (i : ℕ) (x : A) → i < length xs → x ≡ get_or xs i x
    → any_true (map test (drop i xs)) ≡ (test x || any_true (map test (drop (i + 1) xs)))
from_here test xs i x below here =
    ap (λ rest. any_true (map test rest)) (drop_more xs i x below ∙ ap (λ y. y ∷ drop (i + 1) xs) (sym here))

-- an item that passes the test
pub test_passed : {A : Type 0} (test : A → Bool) (xs : List A) (i : ℕ) (x : A) → i < length xs → x ≡ get_or xs i x → test x ≡ true
    → any_true (map test (drop i xs)) ≡ true
test_passed test xs i x below here passes = from_here test xs i x below here ∙ ap (λ b. b || any_true (map test (drop (i + 1) xs))) passes

-- an item that doesn't
pub test_failed : {A : Type 0} (test : A → Bool) (xs : List A) (i : ℕ) (x : A) → i < length xs → x ≡ get_or xs i x → test x ≡ false
    → any_true (map test (drop i xs)) ≡ any_true (map test (drop (i + 1) xs))
test_failed test xs i x below here fails = from_here test xs i x below here ∙ ap (λ b. b || any_true (map test (drop (i + 1) xs))) fails

-- no item is left
pub none_to_test : {A : Type 0} (test : A → Bool) (xs : List A) (i : ℕ) → length xs ≤ i → any_true (map test (drop i xs)) ≡ false
none_to_test test xs i past = ap (λ rest. any_true (map test rest)) (drop_all i xs past)
