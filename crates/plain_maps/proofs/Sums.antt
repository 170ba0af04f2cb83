-- Sums in words.
use Rattle.std.proofs.Common.{◌≡◌, ℕ, ◌+◌, ◌^◌, List, [], ◌∷◌, ap, ◌∙◌, arith}
use Rattle.std.specs.Prelude.{fold, pos}
use Rattle.std.specs.List.{sum_by}
use Rattle.std.proofs.Math.Nat.{mod-add-mod}
use Rattle.std.proofs.lemmas.List.Sums.{sum_by-cons}
use Rattle.ring_words.specs.Word.{add, word}
use Rattle.algebra_meaning.specs.declared.contribution.Contribution.{Contribution}
use Rattle.algebra_meaning.specs.Assembled.{amount_at}

add_word : (s a : ℕ) → add (word (pos s)) a ≡ word (pos (s + a))
unfolding add
add_word s a = mod-add-mod s (2 ^ 64) a

-- a sum that is folded from a word on
folded_from : {X : Type 0} (f : X → ℕ) (s : ℕ) (xs : List X) → fold (λ sum x. add sum (f x)) (word (pos s)) xs ≡ word (pos (s + sum_by f xs))
folded_from f s [] = ap (λ n. word (pos n)) (omega arith)
folded_from f s (x ∷ xs) =
    ap (λ sum. fold (λ s y. add s (f y)) sum xs) (add_word s (f x)) ∙ folded_from f (s + f x) xs
    ∙ ap (λ n. word (pos n)) (omega (arith, sum_by-cons f x xs))

pub folded_sum : {X : Type 0} (f : X → ℕ) (xs : List X) → fold (λ sum x. add sum (f x)) 0 xs ≡ word (pos (sum_by f xs))
folded_sum f xs = folded_from f 0 xs ∙ ap (λ n. word (pos n)) (omega arith)

pub folded_amounts : (result row column r c : ℕ) (contributed : List Contribution)
    → fold (λ sum one. add sum (amount_at result row column r c one)) 0 contributed ≡ word (pos (sum_by (amount_at result row column r c) contributed))
folded_amounts result row column r c contributed = folded_sum (amount_at result row column r c) contributed
