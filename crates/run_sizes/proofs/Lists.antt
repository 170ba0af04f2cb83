-- Places in lists that are set, grow at their end, or are cut back.
use Rattle.std.proofs.Common.{◌≡◌, ◌⊎◌, ℕ, zero, suc, ◌+◌, ◌*◌, ◌<◌, ◌≤◌, List, [], ◌∷◌, ◌++◌, length, take, Some, None, refl, ap, ◌∙◌, arith, inl, inr, length-append}
use Rattle.std.specs.Prelude.{slice_get, slice_set}
use Rattle.std.specs.List.{flat_map, range_with_len}
use Rattle.std.proofs.lemmas.List.{length-take-le}
use Rattle.std.proofs.lemmas.List.Concat.{flat_map-cons}

pub same_Some : {A : Type 0} (x y : A) → Some x ≡ Some y → x ≡ y
same_Some x y same = cc

pub get_set_same : {A : Type 0} (xs : List A) (n : ℕ) (x : A) → n < length xs → slice_get (slice_set xs n x) n ≡ Some x
get_set_same [] n x below = absurd (omega (arith, below))
get_set_same (y ∷ ys) zero x below = refl
get_set_same (y ∷ ys) (suc n) x below = get_set_same ys n x (omega (arith, below))

pub get_set_other : {A : Type 0} (xs : List A) (n k : ℕ) (x : A) → (n ≡ k → ⊥) → slice_get (slice_set xs n x) k ≡ slice_get xs k
get_set_other [] n k x differ = refl
get_set_other (y ∷ ys) zero zero x differ = absurd (differ refl)
get_set_other (y ∷ ys) zero (suc k) x differ = refl
get_set_other (y ∷ ys) (suc n) zero x differ = refl
get_set_other (y ∷ ys) (suc n) (suc k) x differ = get_set_other ys n k x (λ same. differ (ap (λ m. suc m) same))

pub get_append : {A : Type 0} (xs ys : List A) (n : ℕ) (x : A) → slice_get xs n ≡ Some x → slice_get (xs ++ ys) n ≡ Some x
get_append [] ys n x is = absurd (cc)
get_append (y ∷ more) ys zero x is = is
get_append (y ∷ more) ys (suc n) x is = get_append more ys n x is

pub get_last : {A : Type 0} (xs : List A) (x : A) → slice_get (xs ++ x ∷ []) (length xs) ≡ Some x
get_last [] x = refl
get_last (y ∷ ys) x = get_last ys x

pub get_past : {A : Type 0} (xs : List A) → slice_get xs (length xs) ≡ None
get_past [] = refl
get_past (y ∷ ys) = get_past ys

-- what stands in a list that grew by one is that one, or stood there before
pub get_grown : {A : Type 0} (xs : List A) (x y : A) (n : ℕ) → slice_get (xs ++ x ∷ []) n ≡ Some y → (x ≡ y) ⊎ (slice_get xs n ≡ Some y)
get_grown [] x y zero is = inl (same_Some x y is)
get_grown [] x y (suc n) is = absurd (cc)
get_grown (z ∷ zs) x y zero is = inr is
get_grown (z ∷ zs) x y (suc n) is = get_grown zs x y n is

pub get_taken : {A : Type 0} (xs : List A) (k n : ℕ) (x : A) → n < k → k ≤ length xs → slice_get (take k xs ++ x ∷ []) n ≡ slice_get xs n
get_taken [] zero n x below within = absurd (omega (arith, below))
get_taken [] (suc k) n x below within = absurd (omega (arith, within))
get_taken (y ∷ ys) zero n x below within = absurd (omega (arith, below))
get_taken (y ∷ ys) (suc k) zero x below within = refl
get_taken (y ∷ ys) (suc k) (suc n) x below within = get_taken ys k n x (omega (arith, below)) (omega (arith, within))

pub get_taken_last : {A : Type 0} (xs : List A) (k : ℕ) (x : A) → k ≤ length xs → slice_get (take k xs ++ x ∷ []) k ≡ Some x
get_taken_last [] zero x within = refl
get_taken_last [] (suc k) x within = absurd (omega (arith, within))
get_taken_last (y ∷ ys) zero x within = refl
get_taken_last (y ∷ ys) (suc k) x within = get_taken_last ys k x (omega (arith, within))

pub length_grown : {A : Type 0} (xs : List A) (x : A) → length (xs ++ x ∷ []) ≡ suc (length xs)
length_grown xs x = let grown : length (xs ++ x ∷ []) ≡ length xs + 1 = length-append xs (x ∷ []) in omega (arith, grown)

pub length_taken : {A : Type 0} (xs : List A) (k : ℕ) (x : A) → k ≤ length xs → suc k ≤ length (take k xs ++ x ∷ [])
length_taken xs k x within =
    let grown : length (take k xs ++ x ∷ []) ≡ suc (length (take k xs)) = length_grown (take k xs) x in
    let cut : length (take k xs) ≡ k = length-take-le k xs within in
    omega (arith, grown, cut)

-- pieces of one length, one after the other
pub pieces_length : (piece : ℕ → List ℕ) (size n a : ℕ) → ((i : ℕ) → length (piece i) ≡ size) → length (flat_map piece (range_with_len a n)) ≡ n * size
pieces_length piece size zero a each = omega arith
pieces_length piece size (suc n) a each =
    let rest : length (flat_map piece (range_with_len (a + 1) n)) ≡ n * size = pieces_length piece size n (a + 1) each in
    let first : length (piece a) ≡ size = each a in
    ap length (flat_map-cons piece a (range_with_len (a + 1) n)) ∙ length-append (piece a) (flat_map piece (range_with_len (a + 1) n)) ∙ omega (arith, rest, first)
