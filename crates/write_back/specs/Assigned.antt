-- What the assignment of a field leaves of a set.
use Rattle.std.specs.Prelude.{◌≡◌, ◌⊎◌, ℕ, ◌+◌, ◌<◌, ◌≤◌, List, length}
use Rattle.hypergraph.specs.SetValue.{SetValue, column_at}
use Rattle.typed_tree.specs.Cost.{entries_in}
use Rattle.typed_tree.specs.declared.program.TypedField.{TypedField}
use Rattle.value_algebra.specs.Fields.{block_of, column_words, first_column}

-- how many columns a field has
abbrev pub width : List TypedField → ℕ → ℕ
width fields field = entries_in (block_of fields field)

-- each column of the field has the words of its entry, and all else is as it was
pub record IsAssigned (fields : List TypedField) (field : ℕ) (words : List ℕ) (before after : SetValue) : Type 0 where
  pub entries : (entry : ℕ) → entry < width fields field → first_column fields field + entry < length before.columns
      → column_at after (first_column fields field + entry) ≡ column_words before.count (width fields field) words entry
  pub others : (column : ℕ) → (column < first_column fields field) ⊎ (first_column fields field + width fields field ≤ column)
      → column_at after column ≡ column_at before column
  pub as_many : length after.columns ≡ length before.columns
  pub count : after.count ≡ before.count
  pub over : after.over ≡ before.over
  pub arity : after.arity ≡ before.arity
  pub endpoints : after.endpoints ≡ before.endpoints
