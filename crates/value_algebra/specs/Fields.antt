-- Fields of sets as values.
use Rattle.std.specs.Prelude.{◌≡◌, ℕ, ◌+◌, ◌*◌, ◌<◌, List, [], ◌∷◌, length, map, take, slice_get, slice_index, slice_index_or, Option, Some, None}
use Rattle.std.specs.List.{flat_map, range_with_len, sum_by}
use Rattle.std.specs.Option.{option_map_or}
use Rattle.hypergraph.specs.SetValue.{SetValue, column_at, with_column}
use Rattle.type_rules.specs.declared.types.BlockShape.{BlockShape}
use Rattle.type_rules.specs.declared.types.BlockShape.TheVariants.{Number}
use Rattle.typed_tree.specs.Cost.{entries_in}
use Rattle.typed_tree.specs.Lookups.{fields_at}
use Rattle.typed_tree.specs.declared.program.ElementType.{ElementType}
use Rattle.typed_tree.specs.declared.program.TypedField.{TypedField}
use Rattle.typed_tree.specs.declared.program.TypedSet.{TypedSet}
use Rattle.value_algebra.specs.declared.value.Value.{Value}
use Rattle.value_algebra.specs.Value.{block_value}

-- the fields of an element type
abbrev pub fields_of : List ElementType → ℕ → List TypedField
fields_of elements element = fields_at (slice_get elements element)

-- the type of the elements of a set
abbrev pub element_in : List TypedSet → ℕ → ℕ
element_in sets set = option_map_or (λ s. s.shape.element) (slice_get sets set) 0

-- the columns that stand before a field's
abbrev pub first_column : List TypedField → ℕ → ℕ
first_column fields field = sum_by (λ f. entries_in f.block) (take field fields)

abbrev pub block_in : Option TypedField → BlockShape
block_in None = Number
block_in (Some field) = field.block

abbrev pub block_of : List TypedField → ℕ → BlockShape
block_of fields field = block_in (slice_get fields field)

-- the word of an element in a column
abbrev pub entry_of : SetValue → ℕ → ℕ → ℕ
entry_of set element column = slice_index (column_at set column) element

-- the words of a field at one element
abbrev pub element_words : List TypedField → SetValue → ℕ → ℕ → List ℕ
element_words fields set field element =
    map (λ component. entry_of set element (first_column fields field + component)) (range_with_len 0 (entries_in (block_of fields field)))

-- the value of a field at one element
unfoldable pub field_at : List TypedField → SetValue → ℕ → ℕ → Value
field_at fields set field element = block_value (block_of fields field) (element_words fields set field element)

-- the value of a field over a set: element after element, each its block row by row
unfoldable pub field_over : List TypedField → SetValue → ℕ → Value
field_over fields set field = record {
  rows = set.count * entries_in (block_of fields field);
  columns = 1;
  words = flat_map (element_words fields set field) (range_with_len 0 set.count);
}

-- the words of one of several columns in words that stand element after element
abbrev pub column_words : ℕ → ℕ → List ℕ → ℕ → List ℕ
column_words count size words component = map (λ element. slice_index words (element * size + component)) (range_with_len 0 count)

-- the set with other words in the columns from one on; a column that isn't there stays away
abbrev pub with_columns : SetValue → ℕ → List (List ℕ) → SetValue
with_columns set first [] = set
with_columns set first (words ∷ columns) = with_columns (with_column set first words) (first + 1) columns

-- the set with other words in a field: element after element, each its block row by row
unfoldable pub with_field : List TypedField → SetValue → ℕ → List ℕ → SetValue
with_field fields set field words =
    let size = entries_in (block_of fields field) in
    with_columns set (first_column fields field) (map (column_words set.count size words) (range_with_len 0 size))

-- each of several columns has so many words
pub record HaveLength (count : ℕ) (columns : List (List ℕ)) : Type 0 where
  pub at : (i : ℕ) → i < length columns → length (slice_index_or columns i []) ≡ count
