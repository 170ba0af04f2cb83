-- Lists with the same elements, each as often.
use Rattle.std.proofs.Common.{◌≡◌, ℕ, ◌+◌, ◌<◌, Bool, true, false, List, [], ◌∷◌, ◌++◌, refl, sym, ap, ◌∙◌, inl, inr, subst, arith}
use Rattle.std.specs.Prelude.{◌⊎◌, sum_by, if◌then◌else◌}
use Rattle.std.specs.Bool.{Decides}
use Rattle.std.proofs.lemmas.Bool.{cases_Bool}
use Rattle.std.proofs.lemmas.List.Sums.{sum_by-cons}
use Rattle.index_sums.specs.IndexSums.{IsReordered, times}
use Rattle.index_sums.specs.IndexSums.IsReordered.{nothing, moved}

abbrev one_if : Bool → ℕ
one_if b = if b then 1 else 0

module _ {A : Type 0} (same : A → A → Bool) (decides : (x y : A) → Decides (same x y) (x ≡ y)) where
  -- an element in the middle
  times_middle : (z x : A) (before after : List A) → times same z (before ++ x ∷ after) ≡ one_if (same z x) + times same z (before ++ after)
  times_middle z x [] after = refl
  times_middle z x (y ∷ before) after =
      let rest : times same z (before ++ x ∷ after) ≡ one_if (same z x) + times same z (before ++ after) = times_middle z x before after in
      ap (λ n. one_if (same z y) + n) rest ∙ exchanged (one_if (same z y)) (one_if (same z x)) (times same z (before ++ after))
    where
      exchanged : (a b c : ℕ) → a + (b + c) ≡ b + (a + c)
      exchanged a b c = omega arith

  -- an element that stands in a list parts it
  record Parted (x : A) (ys : List A) : Type 0 where
    before : List A
    after : List A
    is : ys ≡ before ++ x ∷ after

  parted : (x : A) (ys : List A) → 0 < times same x ys → Parted x ys
  parted x [] stands = absurd (omega (arith, stands))
  parted x (y ∷ ys) stands = by_case (cases_Bool (same x y)) (λ here. parted x ys here)
    where
      by_case : (same x y ≡ true) ⊎ (same x y ≡ false) → (0 < times same x ys → Parted x ys) → Parted x (y ∷ ys)
      by_case (inl is) later = record { before = []; after = ys; is = ap (λ z. z ∷ ys) (sym ((decides x y).0 is)) }
      by_case (inr is) later =
          let none : one_if (same x y) ≡ 0 = ap one_if is in
          let rest : Parted x ys = later (omega (arith, stands, none)) in
          record { before = y ∷ rest.before; after = rest.after; is = ap (λ l. y ∷ l) rest.is }

  itself : (x : A) → one_if (same x x) ≡ 1
  itself x = ap one_if ((decides x x).1 refl)

  pub by_times : (xs ys : List A) → ((x : A) → times same x xs ≡ times same x ys) → IsReordered xs ys
  by_times [] [] counts = nothing
  by_times [] (y ∷ ys) counts = absurd (omega (arith, counts y, itself y))
  by_times (x ∷ xs) ys counts =
      let part : Parted x ys = parted x ys (omega (arith, counts x, itself x)) in
      subst (λ l. IsReordered (x ∷ xs) l) (sym part.is) (moved x xs part.before part.after (by_times xs (part.before ++ part.after) (rest part)))
    where
      cancelled : (a b c : ℕ) → a + b ≡ a + c → b ≡ c
      cancelled a b c both = omega (arith, both)

      rest : (part : Parted x ys) (z : A) → times same z xs ≡ times same z (part.before ++ part.after)
      rest part z =
          cancelled (one_if (same z x)) (times same z xs) (times same z (part.before ++ part.after))
          (counts z ∙ ap (times same z) part.is ∙ times_middle z x part.before part.after)

-- ---- sums of reordered lists

module _ {A : Type 0} where
  sum_middle : (f : A → ℕ) (x : A) (before after : List A) → sum_by f (before ++ x ∷ after) ≡ f x + sum_by f (before ++ after)
  sum_middle f x [] after = sum_by-cons f x after
  sum_middle f x (y ∷ before) after =
      sum_by-cons f y (before ++ x ∷ after) ∙ ap (λ s. f y + s) (sum_middle f x before after) ∙ exchanged (f y) (f x) (sum_by f (before ++ after))
      ∙ ap (λ s. f x + s) (sym (sum_by-cons f y (before ++ after)))
    where
      exchanged : (a b c : ℕ) → a + (b + c) ≡ b + (a + c)
      exchanged a b c = omega arith

  pub sums : (f : A → ℕ) (xs ys : List A) → IsReordered xs ys → sum_by f xs ≡ sum_by f ys
  sums f xs ys nothing = refl
  sums f xs ys (moved x rest before after same) =
      sum_by-cons f x rest ∙ ap (λ s. f x + s) (sums f rest (before ++ after) same) ∙ sym (sum_middle f x before after)
