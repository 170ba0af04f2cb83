-- The scalars of a term, and values that are multiplied by them.
use Rattle.std.proofs.Common.{◌≡◌, ℕ, ◌+◌, ◌*◌, ◌%◌, ◌^◌, ◌<◌, List, [], ◌∷◌, ◌++◌, refl, sym, ap, ◌∙◌, subst, arith}
use Rattle.std.specs.Prelude.{not, map, slice_index, if◌then◌else◌}
use Rattle.std.specs.List.{filter}
use Rattle.std.proofs.Math.Nat.{mod-mod}
use Rattle.ring_words.specs.Word.{mul}
use Rattle.sim_syntax.specs.declared.statement.IxAtom.{IxAtom}
use Rattle.index_sums.specs.IndexSums.{Name, Values, product_by}
use Rattle.chain_forms.specs.Atoms.{indices_of, is_factor}
use Rattle.value_algebra.specs.declared.value.Value.{Value}
use Rattle.value_algebra.specs.Value.{word_at, word_of, each, number}
use Rattle.value_laws.specs.Laws.{IsWhole, EntryLaws}
use Rattle.index_meaning.specs.Laws.{HasSizes, HaveSizes, AreWithin}
use Rattle.index_meaning.specs.LoweredValues.{scaled_from, product_of_all, scalar_values}
use Rattle.index_meaning.specs.TermSums.{entry_of}
use Rattle.index_meaning.proofs.Basics.{times_congruent}
use Rattle.index_meaning.proofs.Paths.{mul_is}

-- each of some values is a scalar
pub data AreScalars (size : Name → ℕ) : List Value → Type 0 where
  none : AreScalars size []
  one_more : (v : Value) (values : List Value) → HasSizes size [] v → AreScalars size values → AreScalars size (v ∷ values)

module _ (size : Name → ℕ) (value : IxAtom → Value) where
  pub scalars_are : (atoms : List IxAtom) → HaveSizes size value atoms → AreScalars size (scalar_values value atoms)
  scalars_are none_left (HaveSizes.none) = AreScalars.none
  scalars_are all (HaveSizes.one_more a atoms has more) = by_case a atoms (indices_of a) has (scalars_are atoms more)
    where
      by_case : (a : IxAtom) (atoms : List IxAtom) (names : List Name) → HasSizes size names (value a) → AreScalars size (scalar_values value atoms)
          → AreScalars size (map value (if not (is_factor names) then a ∷ filter (λ a. not (is_factor (indices_of a))) atoms else filter (λ a. not (is_factor (indices_of a))) atoms))
      by_case a atoms [] has rest = AreScalars.one_more (value a) (scalar_values value atoms) has rest
      by_case a atoms (i ∷ names) has rest = rest

  -- the product of scalars' words is that of their entries, at whatever values of indices
  pub scalars_product : (at : Values) (atoms : List IxAtom)
      → product_by (λ a. entry_of (value a) (indices_of a) at) (filter (λ a. not (is_factor (indices_of a))) atoms) ≡ product_by word_of (scalar_values value atoms)
  scalars_product at [] = refl
  scalars_product at (a ∷ atoms) = by_case (indices_of a) refl (scalars_product at atoms)
    where
      by_case : (names : List Name) → indices_of a ≡ names
          → product_by (λ a. entry_of (value a) (indices_of a) at) (filter (λ a. not (is_factor (indices_of a))) atoms) ≡ product_by word_of (scalar_values value atoms)
          → product_by (λ a. entry_of (value a) (indices_of a) at)
          (if not (is_factor names) then a ∷ filter (λ a. not (is_factor (indices_of a))) atoms else filter (λ a. not (is_factor (indices_of a))) atoms)
          ≡ product_by word_of
          (map value (if not (is_factor names) then a ∷ filter (λ a. not (is_factor (indices_of a))) atoms else filter (λ a. not (is_factor (indices_of a))) atoms))
      by_case [] is rest =
          ap (λ names. entry_of (value a) names at * product_by (λ a. entry_of (value a) (indices_of a) at) (filter (λ a. not (is_factor (indices_of a))) atoms)) is
          ∙ ap (λ n. word_of (value a) * n) rest
      by_case (i ∷ names) is rest = rest

-- ---- a value multiplied by a number

index_zero : (columns : ℕ) → 0 ≡ 0 * columns + 0
index_zero columns = omega arith

first_word : (v : Value) → word_of v ≡ word_at v 0 0
first_word v = ap (λ i. slice_index v.words i) (index_zero v.columns)

module _ (entries : EntryLaws) (size : Name → ℕ) where
  pub each_sizes : (k : ℕ) (free : List Name) (c : Value) → HasSizes size free c → HasSizes size free (each (mul k) c)
  each_sizes k free c (HasSizes.scalar v whole rows columns) = HasSizes.scalar (each (mul k) v) (entries.each_whole (mul k) v whole) rows columns
  each_sizes k free c (HasSizes.vector i v whole rows columns) = HasSizes.vector i (each (mul k) v) (entries.each_whole (mul k) v whole) rows columns
  each_sizes k free c (HasSizes.matrix i j v whole rows columns) = HasSizes.matrix i j (each (mul k) v) (entries.each_whole (mul k) v whole) rows columns

  first_within : (at : Values) (i : Name) (names : List Name) → AreWithin size at (i ∷ names) → (at i < size i) × AreWithin size at names
  first_within at n names (AreWithin.one_more i rest below more) = (below, more)

  scalar_times : (k : ℕ) (v : Value) → IsWhole v → v.rows ≡ 1 → v.columns ≡ 1 → word_of (each (mul k) v) ≡ mul k (word_of v)
  scalar_times k v whole rows columns =
      first_word (each (mul k) v)
      ∙ entries.each_entry (mul k) v 0 0 whole (subst (λ n. 0 < n) (sym rows) (omega arith)) (subst (λ n. 0 < n) (sym columns) (omega arith))
      ∙ ap (mul k) (sym (first_word v))

  pub entry_times : (k : ℕ) (free : List Name) (c : Value) (at : Values) → HasSizes size free c → AreWithin size at free
      → entry_of (each (mul k) c) free at ≡ mul k (entry_of c free at)
  entry_times k free c at (HasSizes.scalar v whole rows columns) within = scalar_times k v whole rows columns
  entry_times k free c at (HasSizes.vector i v whole rows columns) within =
      entries.each_entry (mul k) v (at i) 0 whole (subst (λ n. at i < n) (sym rows) (first_within at i [] within).0) (subst (λ n. 0 < n) (sym columns) (omega arith))
  entry_times k free c at (HasSizes.matrix i j v whole rows columns) within =
      entries.each_entry (mul k) v (at i) (at j) whole (subst (λ n. at i < n) (sym rows) (first_within at i (j ∷ []) within).0)
      (subst (λ n. at j < n) (sym columns) (first_within at j [] (first_within at i (j ∷ []) within).1).0)

  -- ---- scalars, and what comes last

  pub scaled_sizes : (free : List Name) (c : Value) → HasSizes size free c → (values : List Value) → AreScalars size values → (v : Value) → HasSizes size [] v
      → HasSizes size free (scaled_from v (values ++ c ∷ []))
  scaled_sizes free c has none_left (AreScalars.none) v one = each_sizes (word_of v) free c has
  scaled_sizes free c has all (AreScalars.one_more w values first more) v one =
      scaled_sizes free c has values more (each (mul (word_of v)) w) (each_sizes (word_of v) [] w first)

  word_times : (k : ℕ) (w : Value) → HasSizes size [] w → word_of (each (mul k) w) ≡ k * word_of w % 2 ^ 64
  word_times k w (HasSizes.scalar v whole rows columns) = scalar_times k v whole rows columns ∙ mul_is k (word_of v)

  pub scaled_entry : (free : List Name) (c : Value) (at : Values) → HasSizes size free c → AreWithin size at free → (values : List Value) → AreScalars size values → (v : Value)
      → HasSizes size [] v → entry_of (scaled_from v (values ++ c ∷ [])) free at % 2 ^ 64 ≡ (word_of v * (product_by word_of values * entry_of c free at)) % 2 ^ 64
  scaled_entry free c at has within none_left (AreScalars.none) v one =
      ap (λ n. n % 2 ^ 64) (entry_times (word_of v) free c at has within ∙ mul_is (word_of v) (entry_of c free at)) ∙ mod-mod (word_of v * entry_of c free at) (2 ^ 64)
      ∙ ap (λ n. (word_of v * n) % 2 ^ 64) (times_one (entry_of c free at))
    where
      times_one : (n : ℕ) → n ≡ 1 * n
      times_one n = omega arith
  scaled_entry free c at has within all (AreScalars.one_more w values first more) v one =
      scaled_entry free c at has within values more (each (mul (word_of v)) w) (each_sizes (word_of v) [] w first)
      ∙ times_congruent (2 ^ 64) (word_of (each (mul (word_of v)) w)) (word_of v * word_of w) (product_by word_of values * entry_of c free at)
      (product_by word_of values * entry_of c free at)
      (ap (λ n. n % 2 ^ 64) (word_times (word_of v) w first) ∙ mod-mod (word_of v * word_of w) (2 ^ 64)) refl
      ∙ ap (λ n. n % 2 ^ 64) (regrouped (word_of v) (word_of w) (product_by word_of values) (entry_of c free at))
    where
      regrouped : (a b p e : ℕ) → a * b * (p * e) ≡ a * (b * p * e)
      regrouped a b p e = grind (arith)

  -- scalars alone
  pub words_sizes : (values : List Value) → AreScalars size values → (v : Value) → HasSizes size [] v → HasSizes size [] (scaled_from v values)
  words_sizes none_left (AreScalars.none) v one = one
  words_sizes all (AreScalars.one_more w values first more) v one = words_sizes values more (each (mul (word_of v)) w) (each_sizes (word_of v) [] w first)

  pub words_product : (values : List Value) → AreScalars size values → (v : Value) → HasSizes size [] v
      → word_of (scaled_from v values) % 2 ^ 64 ≡ (word_of v * product_by word_of values) % 2 ^ 64
  words_product none_left (AreScalars.none) v one = ap (λ n. n % 2 ^ 64) (times_one (word_of v))
    where
      times_one : (n : ℕ) → n ≡ n * 1
      times_one n = omega arith
  words_product all (AreScalars.one_more w values first more) v one =
      words_product values more (each (mul (word_of v)) w) (each_sizes (word_of v) [] w first)
      ∙ times_congruent (2 ^ 64) (word_of (each (mul (word_of v)) w)) (word_of v * word_of w) (product_by word_of values) (product_by word_of values)
      (ap (λ n. n % 2 ^ 64) (word_times (word_of v) w first) ∙ mod-mod (word_of v * word_of w) (2 ^ 64)) refl
      ∙ ap (λ n. n % 2 ^ 64) (regrouped (word_of v) (word_of w) (product_by word_of values))
    where
      regrouped : (a b p : ℕ) → a * b * p ≡ a * (b * p)
      regrouped a b p = grind (arith)

  -- ---- the product of all

  pub all_sizes : (free : List Name) (c : Value) → HasSizes size free c → (values : List Value) → AreScalars size values → HasSizes size free (product_of_all (values ++ c ∷ []))
  all_sizes free c has none_left (AreScalars.none) = has
  all_sizes free c has all (AreScalars.one_more v values first more) = scaled_sizes free c has values more v first

  pub all_entry : (free : List Name) (c : Value) (at : Values) → HasSizes size free c → AreWithin size at free → (values : List Value) → AreScalars size values
      → entry_of (product_of_all (values ++ c ∷ [])) free at % 2 ^ 64 ≡ (product_by word_of values * entry_of c free at) % 2 ^ 64
  all_entry free c at has within none_left (AreScalars.none) = ap (λ n. n % 2 ^ 64) (times_one (entry_of c free at))
    where
      times_one : (n : ℕ) → n ≡ 1 * n
      times_one n = omega arith
  all_entry free c at has within all (AreScalars.one_more v values first more) =
      scaled_entry free c at has within values more v first ∙ ap (λ n. n % 2 ^ 64) (regrouped (word_of v) (product_by word_of values) (entry_of c free at))
    where
      regrouped : (a p e : ℕ) → a * (p * e) ≡ a * p * e
      regrouped a p e = grind (arith)

  pub scalars_sizes : (values : List Value) → AreScalars size values → HasSizes size [] (product_of_all values)
  scalars_sizes none_left (AreScalars.none) = HasSizes.scalar (number 1) refl refl refl
  scalars_sizes all (AreScalars.one_more v values first more) = words_sizes values more v first

  pub scalars_word : (values : List Value) → AreScalars size values → word_of (product_of_all values) % 2 ^ 64 ≡ product_by word_of values % 2 ^ 64
  scalars_word none_left (AreScalars.none) = refl
  scalars_word all (AreScalars.one_more v values first more) = words_product values more v first
