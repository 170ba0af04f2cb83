-- Answers that hang on others, and the values of a list of answers.
use Rattle.std.proofs.Common.{◌≡◌, ◌≤◌, ◌<◌, ◌+◌, ℕ, zero, suc, List, [], ◌∷◌, ◌++◌, length, map, drop, get_or, Ok, Err, refl, sym, ap, ◌∙◌, arith, append_assoc, append-nil, add-one, drop-cons}
use Rattle.std.specs.Prelude.{Result}
use Rattle.std.specs.List.{All}
use Rattle.std.proofs.lemmas.List.{drop_all}
use Rattle.vocabulary.specs.Answers.{◌>>=◌, all_ok}

-- a value as an answer
abbrev pub ok : {A : Type 0} (E : Type 0) → A → Result A E
ok E x = Ok x

-- where an answer is a value, so was the one that it hangs on
pub bound-ok : {A B E : Type 0} (r : Result A E) (f : A → Result B E) (y : B) → (r >>= f) ≡ Ok y → (x : A) × (r ≡ Ok x) × (f x ≡ Ok y)
bound-ok (Ok x) f y e = (x, refl, e)
bound-ok (Err fault) f y e = cc e

-- an answer is the values so far and those that are left, or the first fault of those
pub record Continues {A E : Type 0} (known left : Result (List A) E) (so_far : List A) : Type 0 where
  pub is : known ≡ (left >>= λ more. Ok (so_far ++ more))

pub starts : {A E : Type 0} (known : Result (List A) E) → Continues known known []
starts (Ok xs) = record { is = refl }
starts (Err fault) = record { is = refl }

pub another : {A E : Type 0} (known : Result (List A) E) (x : A) (left : List (Result A E)) (so_far : List A)
    → Continues known (all_ok (Ok x ∷ left)) so_far → Continues known (all_ok left) (so_far ++ x ∷ [])
another {A} {E} known x left so_far h = record { is = h.is ∙ by (all_ok left) }
  where
    by : (r : Result (List A) E) → ((r >>= λ values. Ok (x ∷ values)) >>= λ more. Ok (so_far ++ more)) ≡ (r >>= λ more. Ok ((so_far ++ x ∷ []) ++ more))
    by (Ok values) = ap (λ (all : List A). ok E all) (sym (append_assoc so_far (x ∷ []) values))
    by (Err fault) = refl

pub fails : {A E : Type 0} (known : Result (List A) E) (fault : E) (left : List (Result A E)) (so_far : List A)
    → Continues known (all_ok (Err fault ∷ left)) so_far → known ≡ Err fault
fails known fault left so_far h = h.is

pub ends : {A E : Type 0} (known : Result (List A) E) (so_far : List A) → Continues known (all_ok []) so_far → known ≡ Ok so_far
ends {A} {E} known so_far h = h.is ∙ ap (λ (all : List A). ok E all) (append-nil so_far)

-- the same by index
pub another-at : {A E : Type 0} (known : Result (List A) E) (xs : List (Result A E)) (k : ℕ) (x : A) (so_far : List A) → k < length xs → get_or xs k (Ok x) ≡ Ok x
    → Continues known (all_ok (drop k xs)) so_far → Continues known (all_ok (drop (k + 1) xs)) (so_far ++ x ∷ [])
another-at {A} {E} known xs k x so_far l at h =
    rw (add-one k) (another known x (drop (suc k) xs) so_far (rw (drop-cons xs k (Ok x), at) at h))

pub fails-at : {A E : Type 0} (known : Result (List A) E) (xs : List (Result A E)) (k : ℕ) (fault : E) (so_far : List A) → k < length xs → get_or xs k (Err fault) ≡ Err fault
    → Continues known (all_ok (drop k xs)) so_far → known ≡ Err fault
fails-at {A} {E} known xs k fault so_far l at h = fails known fault (drop (suc k) xs) so_far (rw (drop-cons xs k (Err fault), at) at h)

pub ends-at : {A E : Type 0} (known : Result (List A) E) (xs : List (Result A E)) (k : ℕ) (so_far : List A) → length xs ≤ k
    → Continues known (all_ok (drop k xs)) so_far → known ≡ Ok so_far
ends-at known xs k so_far l h = ends known so_far (rw (drop_all k xs l) at h)

-- as many values as answers
pub length-all_ok : {A E : Type 0} (xs : List (Result A E)) (ys : List A) → all_ok xs ≡ Ok ys → length ys ≡ length xs
length-all_ok {A} [] ys e = let q : ys ≡ [] = cc e in rw q refl
length-all_ok (Err fault ∷ xs) ys e = cc e
length-all_ok {A} {E} (Ok x ∷ xs) ys e =
    let (zs, is, same) = bound-ok (all_ok xs) (λ (values : List A). ok E (x ∷ values)) ys e in
    let q : ys ≡ x ∷ zs = cc same in
    rw q (ap suc (length-all_ok xs zs is))

-- what each value is, where each answer's is so
pub each-value : {A B E : Type 0} (P : B → Type 0) (f : A → Result B E) → ((a : A) (b : B) → f a ≡ Ok b → P b) → (xs : List A) (ys : List B) → all_ok (map f xs) ≡ Ok ys → All P ys
each-value P f each [] ys e k d l = let q : ys ≡ [] = cc e in absurd (let n : length ys ≡ 0 = ap length q in omega arith)
each-value {A} {B} {E} P f each (x ∷ xs) ys e k d l =
    let (y, first, more) = bound-ok (f x) (λ (value : B). all_ok (map f xs) >>= λ values. ok E (value ∷ values)) ys e in
    let (zs, others, same) = bound-ok (all_ok (map f xs)) (λ (values : List B). ok E (y ∷ values)) ys more in
    let q : ys ≡ y ∷ zs = cc same in
    rw q (at k zs (each x y first) (λ j m. each-value P f each xs zs others j d m) (let n : length ys ≡ suc (length zs) = ap length q in omega arith))
  where
    at : {y : B} (k : ℕ) (zs : List B) → P y → ((j : ℕ) → j < length zs → P (get_or zs j d)) → k < suc (length zs) → P (get_or (y ∷ zs) k d)
    at zero zs here others l = here
    at (suc k) zs here others l = others k (omega arith)
