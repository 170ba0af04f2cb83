-- Sums of values: their sizes and their entries, and what the rule of sums says of sizes.
use Rattle.std.proofs.Common.{◌≡◌, ℕ, ◌+◌, ◌*◌, ◌<◌, Bool, true, false, List, [], ◌∷◌, Some, None, Ok, ℤ, pos, ◌+ℤ◌, neg_ℤ, refl, sym, ap, ◌∙◌, subst, arith}
use Rattle.std.specs.Prelude.{◌==◌, ◌&&◌, not, slice_index}
use Rattle.std.proofs.lemmas.Bool.{true≢false}
use Rattle.std.proofs.lemmas.Bool.Decides.{Decides-eqb}
use Rattle.ring_words.specs.Word.{word, add, sub, neg}
use Rattle.hypergraph.specs.SetValue.{SetValue}
use Rattle.hypergraph.specs.Sets.{set_at}
use Rattle.type_rules.specs.Rules.{judged, same_rule}
use Rattle.type_rules.specs.Types.{is_over_the_same, is_same_block, is_same_form, scale_of}
use Rattle.type_rules.specs.declared.types.BlockShape.{BlockShape}
use Rattle.type_rules.specs.declared.types.BlockShape.TheVariants as block
use Rattle.type_rules.specs.declared.types.NodeType.{NodeType}
use Rattle.type_rules.specs.declared.types.NodeType.TheVariants as type
use Rattle.type_rules.specs.declared.types.TypeKind.TheVariants as kind
use Rattle.typed_tree.specs.Cost.{entries_in}
use Rattle.value_algebra.specs.declared.value.Value.{Value}
use Rattle.value_algebra.specs.Value.{word_at, word_of, each, both}
use Rattle.value_laws.specs.Laws.{EntryLaws, IsWhole}
use Rattle.algebra_meaning.specs.Assembled.{height, width}
use Rattle.algebra_meaning.specs.Expression.{added}
use Rattle.index_sums.specs.IndexSums.{Name, Values}
use Rattle.index_meaning.specs.Laws.{HasSizes, AreWithin}
use Rattle.index_meaning.specs.TermSums.{entry_of}
use Rattle.index_laws.specs.Fits.{Fits, rows_of, columns_of}
use Rattle.index_laws.specs.Sizes.{SumsAreSized}
use Rattle.index_laws.specs.SignedSums.{AreAlike, with_sign}
use Rattle.index_laws.proofs.Answers.{same_Ok}
use Rattle.index_laws.proofs.Words.{word_sum, word_neg, word_word}

-- ---- sizes by the number of indices

number_sizes : (size : Name → ℕ) (v : Value) → HasSizes size [] v → IsWhole v × (v.rows ≡ 1) × (v.columns ≡ 1)
number_sizes size v (HasSizes.scalar u whole rows columns) = (whole, rows, columns)

vector_sizes : (size : Name → ℕ) (i : Name) (v : Value) → HasSizes size (i ∷ []) v → IsWhole v × (v.rows ≡ size i) × (v.columns ≡ 1)
vector_sizes size i v (HasSizes.vector j u whole rows columns) = (whole, rows, columns)

matrix_sizes : (size : Name → ℕ) (i j : Name) (v : Value) → HasSizes size (i ∷ j ∷ []) v → IsWhole v × (v.rows ≡ size i) × (v.columns ≡ size j)
matrix_sizes size i j v (HasSizes.matrix k l u whole rows columns) = (whole, rows, columns)

first_within : (size : Name → ℕ) (at : Values) (i : Name) (names : List Name) → AreWithin size at (i ∷ names) → (at i < size i) × AreWithin size at names
first_within size at i names (AreWithin.one_more j others less more) = (less, more)

-- ---- sizes by one and by another

pub alike_itself : (size : Name → ℕ) (names : List Name) → AreAlike size size names
alike_itself size [] = tt
alike_itself size (i ∷ names) = (refl, alike_itself size names)

pub are_alike : (size own : Name → ℕ) (free : List Name) (v w : Value) → HasSizes size free v → HasSizes own free w → v.rows ≡ w.rows → v.columns ≡ w.columns
    → AreAlike size own free
are_alike size own free v w (HasSizes.scalar u whole rows columns) other same_rows same_columns = tt
are_alike size own free v w (HasSizes.vector i u whole rows columns) other same_rows same_columns =
    (sym rows ∙ same_rows ∙ (vector_sizes own i w other).1, tt)
are_alike size own free v w (HasSizes.matrix i j u whole rows columns) other same_rows same_columns =
    let there = matrix_sizes own i j w other in (sym rows ∙ same_rows ∙ there.1, (sym columns ∙ same_columns ∙ there.2, tt))

pub has_alike : (size own : Name → ℕ) (free : List Name) (w : Value) → AreAlike size own free → HasSizes own free w → HasSizes size free w
has_alike size own free w alike (HasSizes.scalar u whole rows columns) = HasSizes.scalar w whole rows columns
has_alike size own free w alike (HasSizes.vector i u whole rows columns) = HasSizes.vector i w whole (rows ∙ sym alike.0) columns
has_alike size own free w alike (HasSizes.matrix i j u whole rows columns) =
    HasSizes.matrix i j w whole (rows ∙ sym alike.0) (columns ∙ sym alike.1.0)

pub within_alike : (size own : Name → ℕ) (at : Values) (names : List Name) → AreAlike size own names → AreWithin size at names → AreWithin own at names
within_alike size own at names alike AreWithin.none = AreWithin.none
within_alike size own at names alike (AreWithin.one_more i others less more) =
    AreWithin.one_more i others (subst (λ n. at i < n) alike.0 less) (within_alike size own at others alike.1 more)

-- ---- entries

first_word : (v : Value) → word_of v ≡ word_at v 0 0
first_word v = let zero_is : 0 ≡ 0 * v.columns + 0 = omega arith in ap (λ n. slice_index v.words n) zero_is

one_below : (n : ℕ) → n ≡ 1 → 0 < n
one_below n is = omega (arith, is)

module _ (entries : EntryLaws) where
  pub both_sizes : (join : ℕ → ℕ → ℕ) (size : Name → ℕ) (free : List Name) (v w : Value) → HasSizes size free v → HasSizes size free w → HasSizes size free (both join v w)
  both_sizes join size free v w (HasSizes.scalar u whole rows columns) second =
      let other = number_sizes size w second in
      HasSizes.scalar (both join v w) (entries.both_whole join v w whole other.0 (rows ∙ sym other.1) (columns ∙ sym other.2)) rows columns
  both_sizes join size free v w (HasSizes.vector i u whole rows columns) second =
      let other = vector_sizes size i w second in
      HasSizes.vector i (both join v w) (entries.both_whole join v w whole other.0 (rows ∙ sym other.1) (columns ∙ sym other.2)) rows columns
  both_sizes join size free v w (HasSizes.matrix i j u whole rows columns) second =
      let other = matrix_sizes size i j w second in
      HasSizes.matrix i j (both join v w) (entries.both_whole join v w whole other.0 (rows ∙ sym other.1) (columns ∙ sym other.2)) rows columns

  pub both_at : (join : ℕ → ℕ → ℕ) (size : Name → ℕ) (free : List Name) (v w : Value) (at : Values) → HasSizes size free v → HasSizes size free w → AreWithin size at free
      → entry_of (both join v w) free at ≡ join (entry_of v free at) (entry_of w free at)
  both_at join size free v w at (HasSizes.scalar u whole rows columns) second within =
      let other = number_sizes size w second in
      first_word (both join v w)
      ∙ entries.both_entry join v w 0 0 whole other.0 (rows ∙ sym other.1) (columns ∙ sym other.2) (one_below v.rows rows) (one_below v.columns columns)
      ∙ ap (λ n. join n (word_at w 0 0)) (sym (first_word v)) ∙ ap (λ n. join (word_of v) n) (sym (first_word w))
  both_at join size free v w at (HasSizes.vector i u whole rows columns) second within =
      let other = vector_sizes size i w second in
      entries.both_entry join v w (at i) 0 whole other.0 (rows ∙ sym other.1) (columns ∙ sym other.2)
      (subst (λ n. at i < n) (sym rows) (first_within size at i [] within).0) (one_below v.columns columns)
  both_at join size free v w at (HasSizes.matrix i j u whole rows columns) second within =
      let other = matrix_sizes size i j w second in
      let first = first_within size at i (j ∷ []) within in
      entries.both_entry join v w (at i) (at j) whole other.0 (rows ∙ sym other.1) (columns ∙ sym other.2)
      (subst (λ n. at i < n) (sym rows) first.0) (subst (λ n. at j < n) (sym columns) (first_within size at j [] first.1).0)

  pub each_sizes : (change : ℕ → ℕ) (size : Name → ℕ) (free : List Name) (v : Value) → HasSizes size free v → HasSizes size free (each change v)
  each_sizes change size free v (HasSizes.scalar u whole rows columns) = HasSizes.scalar (each change v) (entries.each_whole change v whole) rows columns
  each_sizes change size free v (HasSizes.vector i u whole rows columns) = HasSizes.vector i (each change v) (entries.each_whole change v whole) rows columns
  each_sizes change size free v (HasSizes.matrix i j u whole rows columns) = HasSizes.matrix i j (each change v) (entries.each_whole change v whole) rows columns

  pub each_at : (change : ℕ → ℕ) (size : Name → ℕ) (free : List Name) (v : Value) (at : Values) → HasSizes size free v → AreWithin size at free
      → entry_of (each change v) free at ≡ change (entry_of v free at)
  each_at change size free v at (HasSizes.scalar u whole rows columns) within =
      first_word (each change v) ∙ entries.each_entry change v 0 0 whole (one_below v.rows rows) (one_below v.columns columns) ∙ ap change (sym (first_word v))
  each_at change size free v at (HasSizes.vector i u whole rows columns) within =
      entries.each_entry change v (at i) 0 whole (subst (λ n. at i < n) (sym rows) (first_within size at i [] within).0) (one_below v.columns columns)
  each_at change size free v at (HasSizes.matrix i j u whole rows columns) within =
      let first = first_within size at i (j ∷ []) within in
      entries.each_entry change v (at i) (at j) whole (subst (λ n. at i < n) (sym rows) first.0) (subst (λ n. at j < n) (sym columns) (first_within size at j [] first.1).0)

-- ---- the rule of sums

same_block : (a b : BlockShape) → is_same_block a b ≡ true → a ≡ b
same_block block.Number block.Number same = refl
same_block block.Number (block.Vector n) same = absurd (true≢false (sym same))
same_block block.Number (block.Matrix m n) same = absurd (true≢false (sym same))
same_block (block.Vector m) block.Number same = absurd (true≢false (sym same))
same_block (block.Vector m) (block.Vector n) same = ap block.Vector ((Decides-eqb m n).0 same)
same_block (block.Vector m) (block.Matrix k n) same = absurd (true≢false (sym same))
same_block (block.Matrix m n) block.Number same = absurd (true≢false (sym same))
same_block (block.Matrix m n) (block.Vector k) same = absurd (true≢false (sym same))
same_block (block.Matrix m n) (block.Matrix k l) same =
    let parts = both_hold (m == k) (n == l) same in
    ap (λ x. block.Matrix x n) ((Decides-eqb m k).0 parts.0) ∙ ap (λ x. block.Matrix k x) ((Decides-eqb n l).0 parts.1)
  where
    both_hold : (x y : Bool) → (x && y) ≡ true → (x ≡ true) × (y ≡ true)
    both_hold true y holds = (refl, holds)
    both_hold false y holds = absurd (true≢false (sym holds))

-- the rows and columns over sets of two types that differ in their scales alone
pub same_sized : (sets : List SetValue) (t u : NodeType) → is_same_form t u ≡ true → is_over_the_same t u ≡ true
    → (rows_of sets t ≡ rows_of sets u) × (columns_of sets t ≡ columns_of sets u)
same_sized sets (type.Local a s) (type.Local b x) form over = let same = same_block a b form in (ap height same, ap width same)
same_sized sets (type.Local a s) (type.SystemVector n b x) form over = absurd (true≢false (sym form))
same_sized sets (type.Local a s) (type.SystemMatrix n l b x) form over = absurd (true≢false (sym form))
same_sized sets (type.SystemVector m a s) (type.Local b x) form over = absurd (true≢false (sym form))
same_sized sets (type.SystemVector m a s) (type.SystemVector n b x) form over =
    (ap (λ set. (set_at sets set).count * entries_in a) ((Decides-eqb m n).0 over) ∙ ap (λ c. (set_at sets n).count * entries_in c) (same_block a b form), refl)
same_sized sets (type.SystemVector m a s) (type.SystemMatrix n l b x) form over = absurd (true≢false (sym form))
same_sized sets (type.SystemMatrix m k a s) (type.Local b x) form over = absurd (true≢false (sym form))
same_sized sets (type.SystemMatrix m k a s) (type.SystemVector n b x) form over = absurd (true≢false (sym form))
same_sized sets (type.SystemMatrix m k a s) (type.SystemMatrix n l b x) form over =
    let parts = both_hold (m == n) (k == l) over in (
      ap (λ set. (set_at sets set).count * height a) ((Decides-eqb m n).0 parts.0) ∙ ap (λ c. (set_at sets n).count * height c) (same_block a b form),
      ap (λ set. (set_at sets set).count * width a) ((Decides-eqb k l).0 parts.1) ∙ ap (λ c. (set_at sets l).count * width c) (same_block a b form),
    )
  where
    both_hold : (x y : Bool) → (x && y) ≡ true → (x ≡ true) × (y ≡ true)
    both_hold true y holds = (refl, holds)
    both_hold false y holds = absurd (true≢false (sym holds))

pub tests_passed : (a b c : Bool) (left rho : NodeType)
    → judged ((kind.Shape, not a) ∷ (kind.Set, not b) ∷ (kind.Scale, c) ∷ []) left ≡ Ok rho → (a ≡ true) × (b ≡ true) × (left ≡ rho)
tests_passed false b c left rho is = absurd (cc)
tests_passed true false c left rho is = absurd (cc)
tests_passed true true true left rho is = absurd (cc)
tests_passed true true false left rho is = (refl, refl, same_Ok left rho is)

pub sums_are_sized : SumsAreSized
unfolding same_rule
sums_are_sized sets t u rho is =
    let tests = tests_passed (is_same_form t u) (is_over_the_same t u) (not (scale_of t == scale_of u)) t rho is in same_sized sets t u tests.0 tests.1

-- two values that have a sum are of one size
pub summed_sizes : (sets : List SetValue) (t u rho : NodeType) (v w : Value) → same_rule t u ≡ Ok rho → Fits sets t v → Fits sets u w
    → (t ≡ rho) × (v.rows ≡ w.rows) × (v.columns ≡ w.columns)
unfolding same_rule
summed_sizes sets t u rho v w is first second =
    let tests = tests_passed (is_same_form t u) (is_over_the_same t u) (not (scale_of t == scale_of u)) t rho is in
    let sizes = same_sized sets t u tests.0 tests.1 in
    (tests.2, first.rows ∙ sizes.0 ∙ sym second.rows, first.columns ∙ sizes.1 ∙ sym second.columns)

-- ---- a term more

-- what is done with a term after the first, by its sign
abbrev pub join_of : Bool → ℕ → ℕ → ℕ
join_of false = add
join_of true = sub

pub added_is : (minus : Bool) (v w : Value) → added (Some v) minus w ≡ both (join_of minus) v w
added_is false v w = refl
added_is true v w = refl

pub join_word : (minus : Bool) (a b n : ℕ) (x : ℤ) → word (pos a) ≡ word x → word (pos b) ≡ word (pos n) → word (pos (join_of minus a b)) ≡ word (x +ℤ with_sign minus n)
unfolding add sub
join_word false a b n x first second = word_word (pos a +ℤ pos b) ∙ word_sum (pos a) (pos b) x (pos n) first second
join_word true a b n x first second =
    word_word (pos a +ℤ neg_ℤ (pos b)) ∙ word_sum (pos a) (neg_ℤ (pos b)) x (neg_ℤ (pos n)) first (word_neg (pos b) (pos n) second)

module _ (entries : EntryLaws) where
  pub sum_fits : (minus : Bool) (sets : List SetValue) (t u rho : NodeType) (v w : Value) → same_rule t u ≡ Ok rho → Fits sets t v → Fits sets u w
      → Fits sets rho (both (join_of minus) v w)
  sum_fits minus sets t u rho v w is first second =
      let sizes = summed_sizes sets t u rho v w is first second in
      subst (λ o. Fits sets o (both (join_of minus) v w)) sizes.0
      (record {
        whole = entries.both_whole (join_of minus) v w first.whole second.whole sizes.1 sizes.2;
        rows = first.rows;
        columns = first.columns;
        blocks = first.blocks;
      })

  -- ---- the first term

  pub first_fits : (minus : Bool) (sets : List SetValue) (t : NodeType) (w : Value) → Fits sets t w → Fits sets t (added None minus w)
  first_fits false sets t w fits = fits
  first_fits true sets t w fits = record { whole = entries.each_whole neg w fits.whole; rows = fits.rows; columns = fits.columns; blocks = fits.blocks }

  pub first_sizes : (minus : Bool) (size : Name → ℕ) (free : List Name) (w : Value) → HasSizes size free w → HasSizes size free (added None minus w)
  first_sizes false size free w sizes = sizes
  first_sizes true size free w sizes = each_sizes entries neg size free w sizes

  pub first_entry : (minus : Bool) (size : Name → ℕ) (free : List Name) (w : Value) (at : Values) (n : ℕ) → HasSizes size free w → AreWithin size at free
      → word (pos (entry_of w free at)) ≡ word (pos n) → word (pos (entry_of (added None minus w) free at)) ≡ word (with_sign minus n)
  unfolding neg
  first_entry false size free w at n sizes within same = same
  first_entry true size free w at n sizes within same =
      ap (λ e. word (pos e)) (each_at entries neg size free w at sizes within)
      ∙ word_word (neg_ℤ (pos (entry_of w free at))) ∙ word_neg (pos (entry_of w free at)) (pos n) same
