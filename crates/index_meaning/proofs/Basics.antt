-- Sums and products modulo a number, entries that lack an index, and how often names stand in lists.
use Rattle.std.proofs.Common.{◌≡◌, ℕ, ◌+◌, ◌*◌, ◌%◌, ◌<◌, Bool, true, false, List, [], ◌∷◌, ◌++◌, refl, sym, ap, ◌∙◌, inl, inr, arith}
use Rattle.std.specs.Prelude.{◌⊎◌, ◌||◌, sum_by, if◌then◌else◌}
use Rattle.std.specs.List.{range_with_len}
use Rattle.std.specs.Str.{bytes_eq}
use Rattle.std.proofs.lemmas.Bool.{cases_Bool, or_parts, true≢false}
use Rattle.std.proofs.lemmas.Nat.{mul-mod}
use Rattle.std.proofs.lemmas.Slice.Eq.{bytes_eq-Decides}
use Rattle.vocabulary.specs.Sums.{SumLaws, RangeSumLaws}
use Rattle.index_sums.specs.IndexSums.{Name, Values, with_index, times}
use Rattle.index_sums.specs.Laws.{Lacks, LacksAll}
use Rattle.chain_forms.specs.Atoms.{is_among, one_if}
use Rattle.value_algebra.specs.declared.value.Value.{Value}
use Rattle.value_algebra.specs.Value.{word_at}
use Rattle.index_meaning.specs.TermSums.{entry_of}

-- ---- modulo

pub times_congruent : (m a b c d : ℕ) → a % m ≡ b % m → c % m ≡ d % m → (a * c) % m ≡ (b * d) % m
times_congruent m a b c d first second =
    mul-mod a c m ∙ ap (λ n. (n * (c % m)) % m) first ∙ ap (λ n. (b % m * n) % m) second ∙ sym (mul-mod b d m)

module _ (sums : SumLaws ℕ) (ranges : RangeSumLaws) where
  -- terms that are congruent on the numbers below n
  pub congruent_below : (m n : ℕ) (f g : ℕ → ℕ) → ((i : ℕ) → i < n → f i % m ≡ g i % m) → sum_by f (range_with_len 0 n) % m ≡ sum_by g (range_with_len 0 n) % m
  congruent_below m n f g same =
      sym (sums.reduced m f (range_with_len 0 n)) ∙ ap (λ s. s % m) (ranges.same_below n (λ i. f i % m) (λ i. g i % m) same)
      ∙ sums.reduced m g (range_with_len 0 n)

-- ---- one index

if_true : {A : Type 0} (b : Bool) (x y : A) → b ≡ true → (if b then x else y) ≡ x
if_true b x y holds = ap (λ c. if c then x else y) holds

if_false : {A : Type 0} (b : Bool) (x y : A) → b ≡ false → (if b then x else y) ≡ y
if_false b x y fails = ap (λ c. if c then x else y) fails

pub same_name : (i : Name) → bytes_eq i i ≡ true
same_name i = (bytes_eq-Decides i i).1 refl

pub other_order : (i j : Name) → bytes_eq i j ≡ false → bytes_eq j i ≡ false
other_order i j differ = by_case (cases_Bool (bytes_eq j i))
  where
    by_case : (bytes_eq j i ≡ true) ⊎ (bytes_eq j i ≡ false) → bytes_eq j i ≡ false
    by_case (inl same) = absurd (true≢false (sym ((bytes_eq-Decides i j).1 (sym ((bytes_eq-Decides j i).0 same))) ∙ differ))
    by_case (inr differs) = differs

pub at_index : (at : Values) (i : Name) (k : ℕ) → with_index at i k i ≡ k
at_index at i k = if_true (bytes_eq i i) k (at i) (same_name i)

pub at_other : (at : Values) (j : Name) (k : ℕ) (i : Name) → bytes_eq j i ≡ false → with_index at j k i ≡ at i
at_other at j k i differ = if_false (bytes_eq j i) k (at i) differ

-- ---- entries

pub entry_lacks : (value : Value) (names : List Name) (z : Name) → is_among z names ≡ false → Lacks z (entry_of value names)
entry_lacks value [] z lacks at k = refl
entry_lacks value (i ∷ []) z lacks at k = ap (λ n. word_at value n 0) (at_other at z k i (or_parts (bytes_eq z i) false lacks).0)
entry_lacks value (i ∷ j ∷ more) z lacks at k =
    let parts : (bytes_eq z i ≡ false) × ((bytes_eq z j || is_among z more) ≡ false) = or_parts (bytes_eq z i) (bytes_eq z j || is_among z more) lacks in
    ap (λ n. word_at value n (with_index at z k j)) (at_other at z k i parts.0)
    ∙ ap (λ n. word_at value (at i) n) (at_other at z k j (or_parts (bytes_eq z j) (is_among z more) parts.1).0)

-- ---- how often

pub one_if-true : (b : Bool) → 0 < one_if b → b ≡ true
one_if-true true positive = refl
one_if-true false positive = absurd (omega (arith, positive))

pub one_if-false : (b : Bool) → one_if b ≡ 0 → b ≡ false
one_if-false true zero_is = absurd (omega (arith, zero_is))
one_if-false false zero_is = refl

-- what a name adds to how often it stands
abbrev pub counted : Bool → ℕ
counted b = if b then 1 else 0

pub counted_is : (b : Bool) → counted b ≡ one_if b
counted_is true = refl
counted_is false = refl

pub times-append : {A : Type 0} (same : A → A → Bool) (x : A) (xs ys : List A) → times same x (xs ++ ys) ≡ times same x xs + times same x ys
times-append same x [] ys = omega arith
times-append same x (y ∷ xs) ys =
    let rest : times same x (xs ++ ys) ≡ times same x xs + times same x ys = times-append same x xs ys in omega (arith, rest)

-- a term lacks all of some names if it lacks each
pub lacks_each : (names : List Name) (f : Values → ℕ) → ((z : Name) → 0 < times bytes_eq z names → Lacks z f) → LacksAll names f
lacks_each [] f each = tt
lacks_each (n ∷ names) f each =
    (each n (omega (arith, itself)), lacks_each names f (λ z stands. each z (omega (arith, stands))))
  where
    itself : counted (bytes_eq n n) ≡ 1
    itself = ap counted (same_name n)
