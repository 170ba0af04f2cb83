-- Finite sums over lists.
use Rattle.std.proofs.Common.{◌≡◌, ℕ, zero, suc, ◌+◌, ◌*◌, ◌%◌, ◌<◌, List, [], ◌∷◌, map, refl, sym, ap, ◌∙◌, zero-add, arith, inl, inr}
use Rattle.std.specs.Prelude.{sum_by, if◌then◌else◌, ◌==◌, IsPermutation}
use Rattle.std.specs.List.{flat_map, range_with_len}
use mathlib.Core.Path.{fun_ext}
use Rattle.std.proofs.Math.Nat.{add-mod, mod-mod, mul-zero, zero-mul, mul-add, add-mul, suc-mul}
use Rattle.std.proofs.lemmas.Bool.{cases_eq, eq-eqb, ne_eqb}
use Rattle.std.proofs.lemmas.List.Concat.{flat_map-cons}
use Rattle.std.proofs.lemmas.List.Sorted.{sum_by-IsPermutation}
use Rattle.std.proofs.lemmas.List.Sums.{sum_by-cons, sum_by-append}

four : (a b c d : ℕ) → (a + b) + (c + d) ≡ (a + c) + (b + d)
four a b c d = omega arith

-- two sums of congruent parts
congruent_sum : (a b c d m : ℕ) → a % m ≡ b % m → c % m ≡ d % m → (a + c) % m ≡ (b + d) % m
congruent_sum a b c d m first second =
    add-mod a c m ∙ ap (λ n. (n + c % m) % m) first ∙ ap (λ n. (b % m + n) % m) second ∙ sym (add-mod b d m)

nothing_added : (x : ℕ) → x ≡ x + 0
nothing_added x = omega arith

nothing_before : (x : ℕ) → x + 0 ≡ 0 + x
nothing_before x = omega arith

module _ {A : Type 0} where
  pub same_terms : (f g : A → ℕ) (xs : List A) → ((x : A) → f x ≡ g x) → sum_by f xs ≡ sum_by g xs
  same_terms f g xs same = ap (λ h. sum_by h xs) (fun_ext same)

  pub no_terms : (xs : List A) → sum_by (λ x. 0) xs ≡ 0
  no_terms [] = refl
  no_terms (x ∷ xs) = sum_by-cons (λ x. 0) x xs ∙ ap (λ s. 0 + s) (no_terms xs)

  pub both : (f g : A → ℕ) (xs : List A) → sum_by (λ x. f x + g x) xs ≡ sum_by f xs + sum_by g xs
  both f g [] = refl
  both f g (x ∷ xs) =
      sum_by-cons (λ x. f x + g x) x xs ∙ ap (λ s. f x + g x + s) (both f g xs) ∙ four (f x) (g x) (sum_by f xs) (sum_by g xs)
      ∙ sym (ap (λ s. s + sum_by g (x ∷ xs)) (sum_by-cons f x xs) ∙ ap (λ s. f x + sum_by f xs + s) (sum_by-cons g x xs))

  pub scaled : (c : ℕ) (f : A → ℕ) (xs : List A) → sum_by (λ x. c * f x) xs ≡ c * sum_by f xs
  scaled c f [] = sym (mul-zero c)
  scaled c f (x ∷ xs) =
      sum_by-cons (λ x. c * f x) x xs ∙ ap (λ s. c * f x + s) (scaled c f xs)
      ∙ sym (ap (λ s. c * s) (sum_by-cons f x xs) ∙ mul-add c (f x) (sum_by f xs))

  pub congruent : (m : ℕ) (f g : A → ℕ) (xs : List A) → ((x : A) → f x % m ≡ g x % m) → sum_by f xs % m ≡ sum_by g xs % m
  congruent m f g [] same = refl
  congruent m f g (x ∷ xs) same =
      ap (λ n. n % m) (sum_by-cons f x xs) ∙ congruent_sum (f x) (g x) (sum_by f xs) (sum_by g xs) m (same x) (congruent m f g xs same)
      ∙ sym (ap (λ n. n % m) (sum_by-cons g x xs))

  pub any_order : (f : A → ℕ) (xs ys : List A) → IsPermutation xs ys → sum_by f ys ≡ sum_by f xs
  any_order f xs ys same = sum_by-IsPermutation f xs ys same

  pub reduced : (m : ℕ) (f : A → ℕ) (xs : List A) → sum_by (λ x. f x % m) xs % m ≡ sum_by f xs % m
  reduced m f xs = congruent m (λ x. f x % m) f xs (λ x. mod-mod (f x) m)

module _ {A B : Type 0} where
  pub exchanged : (f : A → B → ℕ) (xs : List A) (ys : List B) → sum_by (λ x. sum_by (λ y. f x y) ys) xs ≡ sum_by (λ y. sum_by (λ x. f x y) xs) ys
  exchanged f [] ys = sym (no_terms ys)
  exchanged f (x ∷ xs) ys =
      sum_by-cons (λ x. sum_by (λ y. f x y) ys) x xs ∙ ap (λ s. sum_by (λ y. f x y) ys + s) (exchanged f xs ys)
      ∙ sym (both (λ y. f x y) (λ y. sum_by (λ x. f x y) xs) ys)
      ∙ same_terms (λ y. f x y + sum_by (λ x. f x y) xs) (λ y. sum_by (λ x. f x y) (x ∷ xs)) ys (λ y. sym (sum_by-cons (λ x. f x y) x xs))

  pub product : (f : A → ℕ) (g : B → ℕ) (xs : List A) (ys : List B) → sum_by f xs * sum_by g ys ≡ sum_by (λ x. sum_by (λ y. f x * g y) ys) xs
  product f g [] ys = zero-mul (sum_by g ys)
  product f g (x ∷ xs) ys =
      ap (λ s. s * sum_by g ys) (sum_by-cons f x xs) ∙ add-mul (f x) (sum_by f xs) (sum_by g ys)
      ∙ ap (λ s. s + sum_by f xs * sum_by g ys) (sym (scaled (f x) g ys)) ∙ ap (λ s. sum_by (λ y. f x * g y) ys + s) (product f g xs ys)
      ∙ sym (sum_by-cons (λ x. sum_by (λ y. f x * g y) ys) x xs)

  pub mapped : (f : B → ℕ) (g : A → B) (xs : List A) → sum_by f (map g xs) ≡ sum_by (λ x. f (g x)) xs
  mapped f g [] = refl
  mapped f g (x ∷ xs) = sum_by-cons f (g x) (map g xs) ∙ ap (λ s. f (g x) + s) (mapped f g xs) ∙ sym (sum_by-cons (λ x. f (g x)) x xs)

  pub flattened : (f : B → ℕ) (g : A → List B) (xs : List A) → sum_by f (flat_map g xs) ≡ sum_by (λ x. sum_by f (g x)) xs
  flattened f g [] = refl
  flattened f g (x ∷ xs) =
      ap (sum_by f) (flat_map-cons g x xs) ∙ sum_by-append f (g x) (flat_map g xs) ∙ ap (λ s. sum_by f (g x) + s) (flattened f g xs)
      ∙ sym (sum_by-cons (λ x. sum_by f (g x)) x xs)

-- ---- over ranges

-- terms that are equal on the numbers from a on, n of them
same_from : (n a : ℕ) (f g : ℕ → ℕ) → ((i : ℕ) → i < a + n → f i ≡ g i) → sum_by f (range_with_len a n) ≡ sum_by g (range_with_len a n)
same_from zero a f g same = refl
same_from (suc n) a f g same =
    sum_by-cons f a (range_with_len (a + 1) n) ∙ ap (λ s. s + sum_by f (range_with_len (a + 1) n)) (same a (omega arith))
    ∙ ap (λ s. g a + s) (same_from n (a + 1) f g (λ i below. same i (omega arith)))
    ∙ sym (sum_by-cons g a (range_with_len (a + 1) n))

pub same_below : (n : ℕ) (f g : ℕ → ℕ) → ((i : ℕ) → i < n → f i ≡ g i) → sum_by f (range_with_len 0 n) ≡ sum_by g (range_with_len 0 n)
same_below n f g same = same_from n 0 f g (λ i below. same i (omega arith))

-- the first term, and the last
first_term : (n a : ℕ) (f : ℕ → ℕ) → sum_by f (range_with_len a (suc n)) ≡ f a + sum_by f (range_with_len (a + 1) n)
first_term n a f = sum_by-cons f a (range_with_len (a + 1) n)

last_term : (n a : ℕ) (f : ℕ → ℕ) → sum_by f (range_with_len a (suc n)) ≡ sum_by f (range_with_len a n) + f (a + n)
last_term zero a f = let same : a ≡ a + zero = omega arith in first_term 0 a f ∙ ap (λ k. f k + 0) same ∙ nothing_before (f (a + zero))
last_term (suc n) a f =
    let end : a + 1 + n ≡ a + suc n = omega arith in
    first_term (suc n) a f ∙ ap (λ s. f a + s) (last_term n (a + 1) f ∙ ap (λ k. sum_by f (range_with_len (a + 1) n) + f k) end)
    ∙ regroup (f a) (sum_by f (range_with_len (a + 1) n)) (f (a + suc n)) ∙ ap (λ s. s + f (a + suc n)) (sym (first_term n a f))
  where
    regroup : (x y z : ℕ) → x + (y + z) ≡ x + y + z
    regroup x y z = omega arith

-- the number k, where it is one of those below n
abbrev at_index : ℕ → (ℕ → ℕ) → ℕ → ℕ
at_index k f i = if i == k then f i else 0

other_index : (k i : ℕ) (f : ℕ → ℕ) → ((i ≡ k) → ⊥) → at_index k f i ≡ 0
other_index k i f differs = ap (λ b. if b then f i else 0) (ne_eqb i k differs)

this_index : (k : ℕ) (f : ℕ → ℕ) → at_index k f k ≡ f k
this_index k f = ap (λ b. if b then f k else 0) (eq-eqb k k refl)

none_below : (n k : ℕ) (f : ℕ → ℕ) → n < suc k → sum_by (at_index k f) (range_with_len 0 n) ≡ 0
none_below n k f below =
    same_below n (at_index k f) (λ i. 0) (λ i in'. other_index k i f (λ (e : i ≡ k). absurd (omega arith))) ∙ no_terms (range_with_len 0 n)

pub one_index : (n k : ℕ) (f : ℕ → ℕ) → k < n → sum_by (λ i. if i == k then f i else 0) (range_with_len 0 n) ≡ f k
one_index zero k f below = absurd (omega arith)
one_index (suc n) k f below = last_term n 0 (at_index k f) ∙ elim (cases_eq n k) [
  | inl e ↦
      let here : 0 + n ≡ k = omega (arith, e) in
      ap (λ s. s + at_index k f (0 + n)) (none_below n k f (omega (arith, e))) ∙ ap (λ i. 0 + at_index k f i) here ∙ ap (λ s. 0 + s) (this_index k f) ∙ zero-add (f k)
  | inr ne ↦
      let other : ((0 + n ≡ k) → ⊥) = λ (e : 0 + n ≡ k). ne (omega (arith, e)) in
      let before : k < n = omega (arith, ne) in
      ap (λ s. sum_by (at_index k f) (range_with_len 0 n) + s) (other_index k (0 + n) f other) ∙ ap (λ s. s + 0) (one_index n k f before) ∙ sym (nothing_added (f k))
]

-- the numbers from a on, n of them, are those from 0 on with a added
shifted : (n a b : ℕ) (f : ℕ → ℕ) → sum_by f (range_with_len (a + b) n) ≡ sum_by (λ r. f (a + r)) (range_with_len b n)
shifted zero a b f = refl
shifted (suc n) a b f =
    let next : a + b + 1 ≡ a + (b + 1) = omega arith in
    first_term n (a + b) f ∙ ap (λ k. f (a + b) + sum_by f (range_with_len k n)) next ∙ ap (λ s. f (a + b) + s) (shifted n a (b + 1) f)
    ∙ sym (first_term n b (λ r. f (a + r)))

-- n numbers and then h more
more_terms : (n h : ℕ) (f : ℕ → ℕ) → sum_by f (range_with_len 0 (n + h)) ≡ sum_by f (range_with_len 0 n) + sum_by (λ r. f (n + r)) (range_with_len 0 h)
more_terms n zero f = let same : n + zero ≡ n = omega arith in ap (λ k. sum_by f (range_with_len 0 k)) same ∙ nothing_added (sum_by f (range_with_len 0 n))
more_terms n (suc h) f =
    let longer : n + suc h ≡ suc (n + h) = omega arith in
    let end : 0 + (n + h) ≡ n + (0 + h) = omega arith in
    ap (λ k. sum_by f (range_with_len 0 k)) longer ∙ last_term (n + h) 0 f ∙ ap (λ s. s + f (0 + (n + h))) (more_terms n h f) ∙ ap (λ k. sum_by f (range_with_len 0 n) + sum_by (λ r. f (n + r)) (range_with_len 0 h) + f k) end
    ∙ regroup (sum_by f (range_with_len 0 n)) (sum_by (λ r. f (n + r)) (range_with_len 0 h)) (f (n + (0 + h)))
    ∙ ap (λ s. sum_by f (range_with_len 0 n) + s) (sym (last_term h 0 (λ r. f (n + r))))
  where
    regroup : (x y z : ℕ) → x + y + z ≡ x + (y + z)
    regroup x y z = omega arith

pub blocks : (n h : ℕ) (f : ℕ → ℕ) → sum_by f (range_with_len 0 (n * h)) ≡ sum_by (λ i. sum_by (λ r. f (i * h + r)) (range_with_len 0 h)) (range_with_len 0 n)
blocks zero h f = ap (λ k. sum_by f (range_with_len 0 k)) (zero-mul h)
blocks (suc n) h f =
    let longer : suc n * h ≡ n * h + h = suc-mul n h in
    ap (λ k. sum_by f (range_with_len 0 k)) longer ∙ more_terms (n * h) h f
    ∙ ap (λ s. s + sum_by (λ r. f (n * h + r)) (range_with_len 0 h)) (blocks n h f)
    ∙ ap (λ k. sum_by (λ i. sum_by (λ r. f (i * h + r)) (range_with_len 0 h)) (range_with_len 0 n) + sum_by (λ r. f (k * h + r)) (range_with_len 0 h)) (sym (zero-add n))
    ∙ sym (last_term n 0 (λ i. sum_by (λ r. f (i * h + r)) (range_with_len 0 h)))
