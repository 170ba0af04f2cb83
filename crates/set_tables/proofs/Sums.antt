-- Sums over lists.
use Rattle.std.proofs.Common.{◌≡◌, ◌<◌, ◌+◌, ◌*◌, ℕ, List, [], ◌∷◌, length, map, refl, sym, ap, ◌∙◌, arith, zero-add}
use Rattle.std.specs.Prelude.{sum_by, slice_index}
use Rattle.std.specs.List.{range_with_len}
use Rattle.std.proofs.lemmas.List.{get_or_default, map-id, same_lists}
use Rattle.std.proofs.lemmas.List.Sums.{sum_by-cons}
use Rattle.std.proofs.lemmas.List.FromFn.{get_or-map-range_with_len, length-map-range_with_len, sum_by-map-range_with_len_more}

-- equal terms
pub sum-same : {A : Type 0} (f g : A → ℕ) (xs : List A) → ((x : A) → f x ≡ g x) → sum_by f xs ≡ sum_by g xs
sum-same f g [] h = refl
sum-same f g (x ∷ xs) h = omega (arith, h x, sum-same f g xs h, sum_by-cons f x xs, sum_by-cons g x xs)

-- terms of two parts, and one that stands in each term
pub sum-both : {A : Type 0} (f g : A → ℕ) (xs : List A) → sum_by (λ x. f x + g x) xs ≡ sum_by f xs + sum_by g xs
sum-both f g [] = refl
sum-both f g (x ∷ xs) = omega (arith, sum-both f g xs, sum_by-cons (λ y. f y + g y) x xs, sum_by-cons f x xs, sum_by-cons g x xs)

pub sum-each : {A : Type 0} (n : ℕ) (xs : List A) → sum_by (λ x. n) xs ≡ length xs * n
sum-each n [] = omega arith
sum-each {A} n (x ∷ xs) = omega (arith, sum-each n xs, sum_by-cons (λ (y : A). n) x xs)

-- the order of two sums
pub sum-exchange : {A B : Type 0} (h : A → B → ℕ) (xs : List A) (ys : List B) → sum_by (λ x. sum_by (h x) ys) xs ≡ sum_by (λ y. sum_by (λ x. h x y) xs) ys
sum-exchange h [] ys = sym (sum-each 0 ys ∙ omega arith)
sum-exchange {A} {B} h (x ∷ xs) ys =
    sum_by-cons (λ z. sum_by (h z) ys) x xs ∙ ap (λ n. sum_by (h x) ys + n) (sum-exchange h xs ys) ∙ sym (sum-both (h x) (λ y. sum_by (λ z. h z y) xs) ys)
    ∙ sum-same (λ y. h x y + sum_by (λ z. h z y) xs) (λ y. sum_by (λ z. h z y) (x ∷ xs)) ys (λ y. sym (sum_by-cons (λ z. h z y) x xs))

-- over what a list is made of
pub sum-map : {A B : Type 0} (f : B → ℕ) (g : A → B) (xs : List A) → sum_by f (map g xs) ≡ sum_by (λ x. f (g x)) xs
sum-map f g [] = refl
sum-map f g (x ∷ xs) = omega (arith, sum-map f g xs, sum_by-cons f (g x) (map g xs), sum_by-cons (λ y. f (g y)) x xs)

-- another number
pub sum-more : (f : ℕ → ℕ) (n : ℕ) → sum_by f (range_with_len 0 (n + 1)) ≡ sum_by f (range_with_len 0 n) + f n
sum-more f n = simp map-id at (sum_by-map-range_with_len_more f (λ k. k) 0 n n (zero-add n))

-- over a list by index
pub sum-index : (f : ℕ → ℕ) (xs : List ℕ) (n : ℕ) → length xs ≡ n → sum_by (λ k. f (slice_index xs k)) (range_with_len 0 n) ≡ sum_by f xs
sum-index f xs n e =
    let all : map (λ k. slice_index xs k) (range_with_len 0 n) ≡ xs =
    same_lists _ _ (length-map-range_with_len (λ k. slice_index xs k) 0 n ∙ sym e) (λ k d l.
    let in' : k < n = omega (arith, length-map-range_with_len (λ k. slice_index xs k) 0 n) in
    let zero-on : 0 + k ≡ k = omega arith in
    get_or-map-range_with_len (λ k. slice_index xs k) 0 n k k d in' zero-on ∙ sym (get_or_default xs k d 0 (omega arith))) in
    sym (sum-map f (λ k. slice_index xs k) (range_with_len 0 n)) ∙ ap (sum_by f) all
