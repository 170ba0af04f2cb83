-- Values: blocks, system vectors and system matrices as words that stand in rows. A vector is a column. Entries are counted over a
-- whole system value, element times side plus component, so that blocks show in no operation. All arithmetic is that of words.
use Rattle.std.specs.Prelude.{ℕ, pos, ◌+◌, ◌*◌, if◌then◌else◌, List, [], ◌∷◌, map, slice_index}
use Rattle.std.specs.List.{flat_map, range_with_len, sum_by, zip}
use Rattle.ring_words.specs.Word.{word, mul}
use Rattle.type_rules.specs.Types.{is_scalar}
use Rattle.type_rules.specs.declared.types.BlockShape.{BlockShape}
use Rattle.type_rules.specs.declared.types.BlockShape.TheVariants as block
use Rattle.type_rules.specs.declared.types.NodeType.{NodeType}
use Rattle.value_algebra.specs.declared.value.Value.{Value}

-- the word of a row and a column
abbrev pub word_at : Value → ℕ → ℕ → ℕ
word_at value row column = slice_index value.words (row * value.columns + column)

-- the words of rows, one row after the other
abbrev pub row_by_row : ℕ → ℕ → (ℕ → ℕ → ℕ) → List ℕ
row_by_row rows columns word = flat_map (λ row. map (word row) (range_with_len 0 columns)) (range_with_len 0 rows)

-- a number, and the word of one
abbrev pub number : ℕ → Value
number word = record { rows = 1; columns = 1; words = word ∷ [] }

abbrev pub word_of : Value → ℕ
word_of value = slice_index value.words 0

-- the value of a block with these words
abbrev pub block_value : BlockShape → List ℕ → Value
block_value block.Number words = record { rows = 1; columns = 1; words = words }
block_value (block.Vector side) words = record { rows = side; columns = 1; words = words }
block_value (block.Matrix rows columns) words = record { rows = rows; columns = columns; words = words }

-- ---- word by word

abbrev pub each : (ℕ → ℕ) → Value → Value
each change value = record { rows = value.rows; columns = value.columns; words = map change value.words }

abbrev pub both : (ℕ → ℕ → ℕ) → Value → Value → Value
both join left right = record {
  rows = left.rows;
  columns = left.columns;
  words = map (λ pair. join pair.0 pair.1) (zip left.words right.words);
}

-- ---- products

-- words in rows of so many columns; how many rows there are says nothing of a single word
abbrev pub in_rows : ℕ → List ℕ → Value
in_rows columns words = record { rows = 0; columns = columns; words = words }

-- the sum, in whole numbers, of the products of a row of one and a column of another
abbrev pub row_times_column : Value → Value → ℕ → ℕ → ℕ
row_times_column left right row column = sum_by (λ middle. word_at left row middle * word_at right middle column) (range_with_len 0 left.columns)

-- a row of a product
abbrev pub product_row : Value → Value → ℕ → List ℕ
product_row left right row = map (λ column. word (pos (row_times_column left right row column))) (range_with_len 0 right.columns)

unfoldable pub product : Value → Value → Value
product left right = record { rows = left.rows; columns = right.columns; words = flat_map (product_row left right) (range_with_len 0 left.rows) }

-- a number times anything, or matrices and vectors
abbrev pub times : NodeType → NodeType → Value → Value → Value
times left_type right_type left right =
    if is_scalar left_type then each (mul (word_of left)) right
    else if is_scalar right_type then each (mul (word_of right)) left
    else product left right

-- the words of a column
abbrev pub column_of : Value → ℕ → List ℕ
column_of value column = map (λ row. word_at value row column) (range_with_len 0 value.rows)

-- rows and columns exchanged: a column is a row
unfoldable pub transposed : Value → Value
transposed value = record { rows = value.columns; columns = value.rows; words = flat_map (column_of value) (range_with_len 0 value.columns) }

-- the sum of the products of all entries
unfoldable pub dot : Value → Value → Value
dot left right = number (word (pos (sum_by (λ pair. pair.0 * pair.1) (zip left.words right.words))))
