-- The entries of values.
use Rattle.std.proofs.Common.{◌≡◌, ℕ, zero, suc, ◌+◌, ◌*◌, ◌<◌, List, [], ◌∷◌, length, get_or, map, refl, sym, ap, ◌∙◌, subst, arith}
use Rattle.std.specs.Prelude.{pos, sum_by}
use Rattle.std.specs.List.{range_with_len, zip}
use Rattle.std.proofs.lemmas.List.{get_or-map}
use Rattle.std.proofs.lemmas.List.Sums.{sum_by-cons}
use Rattle.ring_words.specs.Word.{word}
use Rattle.value_algebra.specs.declared.value.Value.{Value}
use Rattle.value_algebra.specs.Value.{word_at, word_of, each, both, row_times_column, product, transposed, dot}
use Rattle.value_laws.specs.Laws.{IsWhole}
use Rattle.value_laws.proofs.Pieces.{rows_length, rows_entry, row_before}

length_map : {A B : Type 0} (f : A → B) (xs : List A) → length (map f xs) ≡ length xs
length_map f [] = refl
length_map f (x ∷ xs) = ap suc (length_map f xs)

pub each_whole : (change : ℕ → ℕ) (value : Value) → IsWhole value → IsWhole (each change value)
each_whole change value whole = length_map change value.words ∙ whole

within : (value : Value) (row column : ℕ) → IsWhole value → row < value.rows → column < value.columns → row * value.columns + column < length value.words
within value row column whole row_in column_in = subst (λ n. row * value.columns + column < n) (sym whole) (row_before row value.rows value.columns column row_in column_in)

pub each_entry : (change : ℕ → ℕ) (value : Value) (row column : ℕ) → IsWhole value → row < value.rows → column < value.columns
    → word_at (each change value) row column ≡ change (word_at value row column)
each_entry change value row column whole row_in column_in =
    get_or-map change value.words (row * value.columns + column) 0 0 (within value row column whole row_in column_in)

-- ---- two values, entry by entry

abbrev joined : (ℕ → ℕ → ℕ) → List ℕ → List ℕ → List ℕ
joined join xs ys = map (λ pair. join pair.0 pair.1) (zip xs ys)

joined_length : (join : ℕ → ℕ → ℕ) (xs ys : List ℕ) → length xs ≡ length ys → length (joined join xs ys) ≡ length xs
joined_length join [] [] same = refl
joined_length join [] (y ∷ ys) same = refl
joined_length join (x ∷ xs) [] same = absurd (omega (arith, same))
joined_length join (x ∷ xs) (y ∷ ys) same = ap suc (joined_length join xs ys (omega (arith, same)))

joined_entry : (join : ℕ → ℕ → ℕ) (xs ys : List ℕ) (i : ℕ) → length xs ≡ length ys → i < length xs → get_or (joined join xs ys) i 0 ≡ join (get_or xs i 0) (get_or ys i 0)
joined_entry join [] ys i same below = absurd (omega arith)
joined_entry join (x ∷ xs) [] i same below = absurd (omega (arith, same))
joined_entry join (x ∷ xs) (y ∷ ys) zero same below = refl
joined_entry join (x ∷ xs) (y ∷ ys) (suc i) same below = joined_entry join xs ys i (omega (arith, same)) (omega arith)

same_length : (left right : Value) → IsWhole left → IsWhole right → left.rows ≡ right.rows → left.columns ≡ right.columns → length left.words ≡ length right.words
same_length left right whole right_whole rows columns =
    whole ∙ ap (λ n. n * left.columns) rows ∙ ap (λ n. right.rows * n) columns ∙ sym right_whole

pub both_whole : (join : ℕ → ℕ → ℕ) (left right : Value) → IsWhole left → IsWhole right → left.rows ≡ right.rows → left.columns ≡ right.columns
    → IsWhole (both join left right)
both_whole join left right whole right_whole rows columns =
    joined_length join left.words right.words (same_length left right whole right_whole rows columns) ∙ whole

pub both_entry : (join : ℕ → ℕ → ℕ) (left right : Value) (row column : ℕ) → IsWhole left → IsWhole right → left.rows ≡ right.rows → left.columns ≡ right.columns
    → row < left.rows → column < left.columns
    → word_at (both join left right) row column ≡ join (word_at left row column) (word_at right row column)
both_entry join left right row column whole right_whole rows columns row_in column_in =
    joined_entry join left.words right.words (row * left.columns + column) (same_length left right whole right_whole rows columns) (within left row column whole row_in column_in)
    ∙ ap (λ n. join (word_at left row column) (get_or right.words (row * n + column) 0)) columns

-- ---- products and transposes

pub product_whole : (left right : Value) → IsWhole (product left right)
unfolding product
product_whole left right = rows_length left.rows right.columns (λ row column. word (pos (row_times_column left right row column)))

pub product_entry : (left right : Value) (row column : ℕ) → row < left.rows → column < right.columns
    → word_at (product left right) row column ≡ word (pos (row_times_column left right row column))
unfolding product
product_entry left right row column row_in column_in =
    rows_entry left.rows right.columns (λ row column. word (pos (row_times_column left right row column))) row column row_in column_in

pub transposed_whole : (value : Value) → IsWhole (transposed value)
unfolding transposed
transposed_whole value = rows_length value.columns value.rows (λ column row. word_at value row column)

pub transposed_entry : (value : Value) (row column : ℕ) → row < value.rows → column < value.columns
    → word_at (transposed value) column row ≡ word_at value row column
unfolding transposed
transposed_entry value row column row_in column_in = rows_entry value.columns value.rows (λ column row. word_at value row column) column row column_in row_in

-- ---- scalar products

-- the sum over pairs is the sum over the indices of both
pairs_summed : (xs ys : List ℕ) (a : ℕ) (f g : ℕ → ℕ) → length xs ≡ length ys
    → ((i : ℕ) → get_or xs i 0 ≡ f (a + i)) → ((i : ℕ) → get_or ys i 0 ≡ g (a + i))
    → sum_by (λ pair. pair.0 * pair.1) (zip xs ys) ≡ sum_by (λ i. f i * g i) (range_with_len a (length xs))
pairs_summed [] ys a f g same first second = refl
pairs_summed (x ∷ xs) [] a f g same first second = absurd (omega (arith, same))
pairs_summed (x ∷ xs) (y ∷ ys) a f g same first second =
    let start : a + 0 ≡ a = omega arith in
    let shifted : (i : ℕ) → a + suc i ≡ a + 1 + i = λ i. omega arith in
    sum_by-cons (λ pair. pair.0 * pair.1) (x, y) (zip xs ys)
    ∙ ap (λ n. n * y + sum_by (λ pair. pair.0 * pair.1) (zip xs ys)) (first 0 ∙ ap f start)
    ∙ ap (λ n. f a * n + sum_by (λ pair. pair.0 * pair.1) (zip xs ys)) (second 0 ∙ ap g start)
    ∙ ap (λ s. f a * g a + s) (pairs_summed xs ys (a + 1) f g (omega (arith, same)) (λ i. first (suc i) ∙ ap f (shifted i)) (λ i. second (suc i) ∙ ap g (shifted i)))
    ∙ sym (sum_by-cons (λ i. f i * g i) a (range_with_len (a + 1) (length xs)))

pub dot_is : (left right : Value) → IsWhole left → IsWhole right → left.columns ≡ 1 → right.columns ≡ 1 → left.rows ≡ right.rows
    → word_of (dot left right) ≡ word (pos (sum_by (λ row. word_at left row 0 * word_at right row 0) (range_with_len 0 left.rows)))
unfolding dot
dot_is left right whole right_whole left_column right_column rows =
    let size : length left.words ≡ left.rows = whole ∙ ap (λ n. left.rows * n) left_column ∙ omega arith in
    ap (λ n. word (pos n))
    (pairs_summed left.words right.words 0 (λ row. word_at left row 0) (λ row. word_at right row 0) (same_length left right whole right_whole rows (left_column ∙ sym right_column))
    (λ i. ap (λ k. get_or left.words k 0) (column_index left.columns i left_column)) (λ i. ap (λ k. get_or right.words k 0) (column_index right.columns i right_column))
    ∙ ap (λ n. sum_by (λ row. word_at left row 0 * word_at right row 0) (range_with_len 0 n)) size)
  where
    column_index : (columns i : ℕ) → columns ≡ 1 → i ≡ (0 + i) * columns + 0
    column_index columns i one = omega arith ∙ ap (λ n. (0 + i) * n + 0) (sym one)
