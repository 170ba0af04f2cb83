-- Products and transposes, pushed above the values that they are made of.
use Rattle.std.proofs.Common.{◌≡◌, ℕ, ◌+◌, ◌≤◌, List, [], ◌∷◌, ◌++◌, length, map, ap, ◌∙◌, arith, length-append}
use Rattle.std.specs.Prelude.{pos, slice_range}
use Rattle.std.specs.List.{flat_map, range_with_len}
use Rattle.ring_words.specs.Word.{word}
use Rattle.value_algebra.specs.Value.{column_of, product_row, row_times_column, word_at}
use Rattle.loop_laws.specs.Rows.{RowLaws}
use Rattle.word_stacks.specs.declared.operand.Pair.{Pair}
use Rattle.word_stacks.specs.declared.operand.Size.{Size}
use Rattle.word_stacks.specs.Stack.{IsIn, left_in, right_in, sized}
use Rattle.word_stacks.proofs.Parts.{range_kept}

-- what stands on the stack is there still
longer : (before more old : List ℕ) → old ≡ before ++ more → length before ≤ length old
longer before more old is = let n : length old ≡ length (before ++ more) = ap length is in let m : length (before ++ more) ≡ length before + length more = length-append before more in omega arith

between_kept : (before more old : List ℕ) (base top : ℕ) → base ≤ top → top ≤ length before → old ≡ before ++ more → slice_range old base top ≡ slice_range before base top
between_kept before more old base top order within is = ap (λ l. slice_range l base top) is ∙ range_kept before more base top order within

-- another word of a column
pub column_grown : RowLaws ℕ → (size : Size) (before old new : List ℕ) (base top column row word : ℕ) → base ≤ top → top ≤ length before
    → old ≡ before ++ map (λ r. word_at (sized size (slice_range before base top)) r column) (range_with_len 0 row)
    → word ≡ word_at (sized size (slice_range old base top)) row column → new ≡ old ++ word ∷ []
    → new ≡ before ++ map (λ r. word_at (sized size (slice_range before base top)) r column) (range_with_len 0 (row + 1))
column_grown laws size before old new base top column row word order within so_far is more =
    let f : ℕ → ℕ = λ r. word_at (sized size (slice_range before base top)) r column in
    let same : slice_range old base top ≡ slice_range before base top = between_kept before (map f (range_with_len 0 row)) old base top order within so_far in
    laws.row_grown f before old new row so_far (more ∙ ap (λ w. old ++ w ∷ []) (is ∙ ap (λ l. word_at (sized size l) row column) same))

-- another column
pub columns_grown : RowLaws ℕ → (size : Size) (before old new : List ℕ) (base top column : ℕ) → base ≤ top → top ≤ length before
    → old ≡ before ++ flat_map (column_of (sized size (slice_range before base top))) (range_with_len 0 column)
    → new ≡ old ++ column_of (sized size (slice_range old base top)) column
    → new ≡ before ++ flat_map (column_of (sized size (slice_range before base top))) (range_with_len 0 (column + 1))
columns_grown laws size before old new base top column order within so_far more =
    let f : ℕ → List ℕ = column_of (sized size (slice_range before base top)) in
    let same : slice_range old base top ≡ slice_range before base top = between_kept before (flat_map f (range_with_len 0 column)) old base top order within so_far in
    laws.rows_grown f before old new column so_far (more ∙ ap (λ l. old ++ column_of (sized size l) column) same)

pub columns_within : (f : ℕ → List ℕ) (before old : List ℕ) (top column : ℕ) → top ≤ length before → old ≡ before ++ flat_map f (range_with_len 0 column) → top ≤ length old
columns_within f before old top column within so_far = let more : length before ≤ length old = longer before (flat_map f (range_with_len 0 column)) old so_far in omega arith

-- two values are there still
pub still_in : (pair : Pair) (before more old : List ℕ) → IsIn pair before → old ≡ before ++ more → IsIn pair old
still_in pair before more old there is = record {
  left = there.left;
  right = there.right;
  within = let longer : length before ≤ length old = longer before more old is in omega arith;
}

left_kept : (pair : Pair) (before more old : List ℕ) → IsIn pair before → old ≡ before ++ more → left_in pair old ≡ left_in pair before
left_kept pair before more old there is =
    let within : pair.middle ≤ length before = let a = there.right in let b = there.within in omega arith in
    ap (sized pair.left) (between_kept before more old pair.base pair.middle there.left within is)

right_kept : (pair : Pair) (before more old : List ℕ) → IsIn pair before → old ≡ before ++ more → right_in pair old ≡ right_in pair before
right_kept pair before more old there is = ap (sized pair.right) (between_kept before more old pair.middle pair.top there.right there.within is)

-- another word of a row of their product
pub product_grown : RowLaws ℕ → (pair : Pair) (before old new : List ℕ) (row column w : ℕ) → IsIn pair before
    → old ≡ before ++ map (λ k. word (pos (row_times_column (left_in pair before) (right_in pair before) row k))) (range_with_len 0 column)
    → w ≡ word (pos (row_times_column (left_in pair old) (right_in pair old) row column)) → new ≡ old ++ w ∷ []
    → new ≡ before ++ map (λ k. word (pos (row_times_column (left_in pair before) (right_in pair before) row k))) (range_with_len 0 (column + 1))
product_grown laws pair before old new row column w there so_far is more =
    let f : ℕ → ℕ = λ k. word (pos (row_times_column (left_in pair before) (right_in pair before) row k)) in
    let above : List ℕ = map f (range_with_len 0 column) in
    laws.row_grown f before old new column so_far
    (more ∙ ap (λ v. old ++ v ∷ [])
    (is ∙ ap (λ l. word (pos (row_times_column l (right_in pair old) row column))) (left_kept pair before above old there so_far)
    ∙ ap (λ r. word (pos (row_times_column (left_in pair before) r row column))) (right_kept pair before above old there so_far)))

-- another row
pub products_grown : RowLaws ℕ → (pair : Pair) (before old new : List ℕ) (row : ℕ) → IsIn pair before
    → old ≡ before ++ flat_map (product_row (left_in pair before) (right_in pair before)) (range_with_len 0 row)
    → new ≡ old ++ product_row (left_in pair old) (right_in pair old) row
    → new ≡ before ++ flat_map (product_row (left_in pair before) (right_in pair before)) (range_with_len 0 (row + 1))
products_grown laws pair before old new row there so_far more =
    let f : ℕ → List ℕ = product_row (left_in pair before) (right_in pair before) in
    let above : List ℕ = flat_map f (range_with_len 0 row) in
    laws.rows_grown f before old new row so_far
    (more ∙ ap (λ l. old ++ product_row l (right_in pair old) row) (left_kept pair before above old there so_far)
    ∙ ap (λ r. old ++ product_row (left_in pair before) r row) (right_kept pair before above old there so_far))
