-- What the entries of sums, products, transposes and scalar products are.
use Rattle.std.specs.Prelude.{◌≡◌, ℕ, pos, ◌*◌, ◌<◌, length, sum_by}
use Rattle.std.specs.List.{range_with_len}
use Rattle.ring_words.specs.Word.{word}
use Rattle.value_algebra.specs.declared.value.Value.{Value}
use Rattle.value_algebra.specs.Value.{word_at, word_of, each, both, row_times_column, product, transposed, dot}

-- a value has a word for each of its rows and columns, and no other
abbrev pub IsWhole : Value → Type 0
IsWhole value = length value.words ≡ value.rows * value.columns

pub record EntryLaws : Type 0 where
  pub each_whole : (change : ℕ → ℕ) (value : Value) → IsWhole value → IsWhole (each change value)
  pub each_entry : (change : ℕ → ℕ) (value : Value) (row column : ℕ) → IsWhole value → row < value.rows → column < value.columns
      → word_at (each change value) row column ≡ change (word_at value row column)
  pub both_whole : (join : ℕ → ℕ → ℕ) (left right : Value) → IsWhole left → IsWhole right → left.rows ≡ right.rows → left.columns ≡ right.columns
      → IsWhole (both join left right)
  pub both_entry : (join : ℕ → ℕ → ℕ) (left right : Value) (row column : ℕ) → IsWhole left → IsWhole right → left.rows ≡ right.rows → left.columns ≡ right.columns
      → row < left.rows → column < left.columns
      → word_at (both join left right) row column ≡ join (word_at left row column) (word_at right row column)
  pub product_whole : (left right : Value) → IsWhole (product left right)
  pub product_entry : (left right : Value) (row column : ℕ) → row < left.rows → column < right.columns
      → word_at (product left right) row column ≡ word (pos (row_times_column left right row column))
  pub transposed_whole : (value : Value) → IsWhole (transposed value)
  pub transposed_entry : (value : Value) (row column : ℕ) → row < value.rows → column < value.columns
      → word_at (transposed value) column row ≡ word_at value row column
  -- of two columns of one length
  pub dot_is : (left right : Value) → IsWhole left → IsWhole right → left.columns ≡ 1 → right.columns ≡ 1 → left.rows ≡ right.rows
      → word_of (dot left right) ≡ word (pos (sum_by (λ row. word_at left row 0 * word_at right row 0) (range_with_len 0 left.rows)))
