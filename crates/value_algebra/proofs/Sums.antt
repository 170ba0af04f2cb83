-- Sums of products, in words.
use Rattle.std.proofs.Common.{◌≡◌, ℕ, ◌+◌, ◌*◌, ◌%◌, ◌^◌, List, [], ◌∷◌, ap, ◌∙◌, arith}
use Rattle.std.specs.Prelude.{fold, pos}
use Rattle.std.specs.List.{sum_by}
use Rattle.std.proofs.Math.Nat.{mod-add-mod, add-mod-mod}
use Rattle.std.proofs.lemmas.List.Sums.{sum_by-cons}
use Rattle.ring_words.specs.Word.{add, mul, word}

add_product : (s a b : ℕ) → add (word (pos s)) (mul a b) ≡ word (pos (s + a * b))
unfolding add mul
add_product s a b = add-mod-mod (s % 2 ^ 64) (a * b) (2 ^ 64) ∙ mod-add-mod s (2 ^ 64) (a * b)

-- a sum of products that is folded from a word on
folded_from : {X : Type 0} (f g : X → ℕ) (s : ℕ) (xs : List X)
    → fold (λ sum x. add sum (mul (f x) (g x))) (word (pos s)) xs ≡ word (pos (s + sum_by (λ x. f x * g x) xs))
folded_from f g s [] = ap (λ n. word (pos n)) (omega arith)
folded_from f g s (x ∷ xs) =
    ap (λ sum. fold (λ s y. add s (mul (f y) (g y))) sum xs) (add_product s (f x) (g x)) ∙ folded_from f g (s + f x * g x) xs
    ∙ ap (λ n. word (pos n)) (omega (arith, sum_by-cons (λ y. f y * g y) x xs))

pub folded_products : {X : Type 0} (f g : X → ℕ) (xs : List X)
    → fold (λ sum x. add sum (mul (f x) (g x))) 0 xs ≡ word (pos (sum_by (λ x. f x * g x) xs))
folded_products f g xs = folded_from f g 0 xs ∙ ap (λ n. word (pos n)) (omega arith)

pub folded_pairs : (xs : List (ℕ × ℕ)) → fold (λ sum pair. add sum (mul pair.0 pair.1)) 0 xs ≡ word (pos (sum_by (λ pair. pair.0 * pair.1) xs))
folded_pairs xs = folded_products (λ pair. pair.0) (λ pair. pair.1) xs
