-- Lists whose items are taken from the end, each lowered and appended to others.
use Rattle.std.proofs.Common.{◌≡◌, ℕ, ◌+◌, ◌<◌, ◌≤◌, drop, get_or, List, [], ◌∷◌, ◌++◌, map, length, reverse, Result, Ok, Err, refl, sym, ap, ◌∙◌}
use Rattle.std.proofs.lemmas.List.{reverse-append, reverse-reverse, append_assoc, nil_from_length, drop_more, drop_all}
use Rattle.vocabulary.specs.Answers.{◌>>=◌, all_ok}

-- what others answer, after items that are done
abbrev pub after : {B : Type 0} → List B → Result (List B) ℕ → Result (List B) ℕ
after done others = others >>= λ rest. Ok (done ++ rest)

after_none : {B : Type 0} (others : Result (List B) ℕ) → others ≡ after [] others
after_none (Ok rest) = refl
after_none (Err line) = refl

after_one : {B : Type 0} (done : List B) (y : B) (others : Result (List B) ℕ)
    → after done (others >>= λ rest. Ok (y ∷ rest)) ≡ after (done ++ y ∷ []) others
after_one done y (Ok rest) = ap Ok (sym (append_assoc done (y ∷ []) rest))
after_one done y (Err line) = refl

after_nothing : {B : Type 0} (done : List B) → after done (Ok []) ≡ Ok done
after_nothing [] = refl
after_nothing (y ∷ done) = ap (λ r. r >>= λ rest. Ok (y ∷ rest)) (after_nothing done)

turned : {A : Type 0} (left new : List A) (x : A) → left ≡ new ++ x ∷ [] → reverse left ≡ x ∷ reverse new
turned left new x is = ap reverse is ∙ reverse-append new (x ∷ [])

-- no item is taken yet
pub begun : {A B : Type 0} (f : A → Result B ℕ) (xs left : List A) → left ≡ reverse xs
    → all_ok (map f xs) ≡ after [] (all_ok (map f (reverse left)))
begun f xs left is =
    ap (λ l. all_ok (map f l)) (sym (reverse-reverse xs) ∙ ap reverse (sym is)) ∙ after_none (all_ok (map f (reverse left)))

-- an item is taken
pub taken : {A B : Type 0} (f : A → Result B ℕ) (known : Result (List B) ℕ) (done : List B) (left new : List A) (x : A) (y : B)
    → left ≡ new ++ x ∷ [] → f x ≡ Ok y → known ≡ after done (all_ok (map f (reverse left)))
    → known ≡ after (done ++ y ∷ []) (all_ok (map f (reverse new)))
taken f known done left new x y is gives so_far =
    so_far ∙ ap (λ l. after done (all_ok (map f l))) (turned left new x is)
    ∙ ap (λ r. after done (r >>= λ value. all_ok (map f (reverse new)) >>= λ values. Ok (value ∷ values))) gives
    ∙ after_one done y (all_ok (map f (reverse new)))

-- an item has a fault
pub refused : {A B : Type 0} (f : A → Result B ℕ) (known : Result (List B) ℕ) (done : List B) (left new : List A) (x : A) (line : ℕ)
    → left ≡ new ++ x ∷ [] → f x ≡ Err line → known ≡ after done (all_ok (map f (reverse left))) → known ≡ Err line
refused f known done left new x line is gives so_far =
    so_far ∙ ap (λ l. after done (all_ok (map f l))) (turned left new x is)
    ∙ ap (λ r. after done (r >>= λ value. all_ok (map f (reverse new)) >>= λ values. Ok (value ∷ values))) gives

-- none is left
pub ended : {A B : Type 0} (f : A → Result B ℕ) (known : Result (List B) ℕ) (done : List B) (left : List A)
    → length left ≡ 0 → known ≡ after done (all_ok (map f (reverse left))) → known ≡ Ok done
ended f known done left none so_far =
    so_far ∙ ap (λ l. after done (all_ok (map f (reverse l)))) (nil_from_length left none) ∙ after_nothing done

-- ---- items that are read from the first to the last

from_item : {A B : Type 0} (f : A → Result B ℕ) (xs : List A) (k : ℕ) (x : A) → k < length xs → x ≡ get_or xs k x
    → all_ok (map f (drop k xs)) ≡ (f x >>= λ value. all_ok (map f (drop (k + 1) xs)) >>= λ values. Ok (value ∷ values))
from_item f xs k x below here = ap (λ l. all_ok (map f l)) (drop_more xs k x below ∙ ap (λ y. y ∷ drop (k + 1) xs) (sym here))

pub read_begun : {A B : Type 0} (f : A → Result B ℕ) (xs : List A) → all_ok (map f xs) ≡ after [] (all_ok (map f xs))
read_begun f xs = after_none (all_ok (map f xs))

pub read : {A B : Type 0} (f : A → Result B ℕ) (known : Result (List B) ℕ) (done next : List B) (xs : List A) (k : ℕ) (x : A) (y : B)
    → k < length xs → x ≡ get_or xs k x → f x ≡ Ok y → next ≡ done ++ y ∷ []
    → known ≡ after done (all_ok (map f (drop k xs))) → known ≡ after next (all_ok (map f (drop (k + 1) xs)))
read f known done next xs k x y below here gives has so_far =
    so_far ∙ ap (after done) (from_item f xs k x below here
    ∙ ap (λ r. r >>= λ value. all_ok (map f (drop (k + 1) xs)) >>= λ values. Ok (value ∷ values)) gives)
    ∙ after_one done y (all_ok (map f (drop (k + 1) xs)))
    ∙ ap (λ d. after d (all_ok (map f (drop (k + 1) xs)))) (sym has)

pub read_refused : {A B : Type 0} (f : A → Result B ℕ) (known : Result (List B) ℕ) (done : List B) (xs : List A) (k : ℕ) (x : A) (line : ℕ)
    → k < length xs → x ≡ get_or xs k x → f x ≡ Err line
    → known ≡ after done (all_ok (map f (drop k xs))) → known ≡ Err line
read_refused f known done xs k x line below here gives so_far =
    so_far ∙ ap (after done) (from_item f xs k x below here
    ∙ ap (λ r. r >>= λ value. all_ok (map f (drop (k + 1) xs)) >>= λ values. Ok (value ∷ values)) gives)

pub read_ended : {A B : Type 0} (f : A → Result B ℕ) (known : Result (List B) ℕ) (done : List B) (xs : List A) (k : ℕ)
    → length xs ≤ k → known ≡ after done (all_ok (map f (drop k xs))) → known ≡ Ok done
read_ended f known done xs k past so_far =
    so_far ∙ ap (λ l. after done (all_ok (map f l))) (drop_all k xs past) ∙ after_nothing done
