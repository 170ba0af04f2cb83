-- What is added to words, and what stays.
use Rattle.std.specs.Prelude.{◌≡◌, ◌⊎◌, ℕ, ◌+◌, ◌-◌, ◌*◌, ◌≤◌, ◌<◌, List, length, slice_index}
use Rattle.ring_words.specs.Word.{add}
use Rattle.type_rules.specs.declared.types.BlockShape.{BlockShape}
use Rattle.value_algebra.specs.declared.value.Value.{Value}
use Rattle.algebra_meaning.specs.Assembled.{height, width}
use Rattle.assembly_sums.specs.declared.block.Region.{Region}

-- words are added, in their order, to those from an index up to below another, as far as there are any; all others stay
pub record WordsAdded (start end : ℕ) (words old new : List ℕ) : Type 0 where
  pub same_length : length new ≡ length old
  pub inside : (i : ℕ) → start ≤ i → i < end → i < length old → slice_index new i ≡ add (slice_index old i) (slice_index words (i - start))
  pub outside : (i : ℕ) → (i < start) ⊎ (end ≤ i) → slice_index new i ≡ slice_index old i

-- a row and a column are in a region
pub record IsIn (region : Region) (row column : ℕ) : Type 0 where
  pub top : region.top ≤ row
  pub bottom : row < region.bottom
  pub left : region.left ≤ column
  pub right : column < region.right

-- the words of a block, of which each row has `block_columns`, are added in a region of words of which each row has `columns`; all
-- others stay
pub record BlockAdded (region : Region) (columns : ℕ) (block : List ℕ) (block_columns : ℕ) (old new : List ℕ) : Type 0 where
  pub same_length : length new ≡ length old
  pub inside : (row column : ℕ) → IsIn region row column → row * columns + column < length old
      → slice_index new (row * columns + column)
      ≡ add (slice_index old (row * columns + column)) (slice_index block ((row - region.top) * block_columns + (column - region.left)))
  pub outside : (row column : ℕ) → column < columns → ¬ IsIn region row column
      → slice_index new (row * columns + column) ≡ slice_index old (row * columns + column)

-- a block is added in a region of a value, where the region is within it; else the value stays
pub record ValueAdded (region : Region) (block : List ℕ) (block_columns : ℕ) (old new : Value) : Type 0 where
  pub same_rows : new.rows ≡ old.rows
  pub same_columns : new.columns ≡ old.columns
  pub within : region.bottom ≤ old.rows → region.right ≤ old.columns → BlockAdded region old.columns block block_columns old.words new.words
  pub away : (old.rows < region.bottom) ⊎ (old.columns < region.right) → new.words ≡ old.words

-- where the block of a row and a column of elements lies
abbrev pub region_of : BlockShape → ℕ → ℕ → Region
region_of block row column = record {
  top = row * height block;
  bottom = row * height block + height block;
  left = column * width block;
  right = column * width block + width block;
}
