-- The headings of a table by their columns, and how a record is compared with them.
use Rattle.std.proofs.Common.{◌≡◌, ◌≤◌, ◌<◌, ◌+◌, ◌-◌, ℕ, false, List, [], length, drop, get_or, Err, refl, sym, ap, ◌∙◌, arith, length-append, drop-cons}
use Rattle.std.specs.Str.{bytes_eq}
use Rattle.std.proofs.lemmas.List.{drop_all, get_or-append_right, get_or_append_left, get_or-map, length-map}
use Rattle.std.proofs.lemmas.List.FromFn.{get_or-map-range_with_len, length-map-range_with_len}
use Rattle.ring_words.specs.Cell.{without_spaces}
use Rattle.set_tables.specs.Schema.{column_headings, endpoint_heading, endpoint_headings, headings}
use Rattle.set_tables.specs.Table.{header_from}
use Rattle.set_tables.specs.declared.faults.TableFault.TheVariants.{Header}
use Rattle.set_tables.specs.declared.schema.Column.{Column}
use Rattle.set_tables.specs.declared.schema.Schema.{Schema}

-- as many headings as endpoints, as columns, and as both together
pub length-endpoint_headings : (arity : ℕ) → length (endpoint_headings arity) ≡ arity
length-endpoint_headings arity = length-map-range_with_len endpoint_heading 0 arity

pub length-column_headings : (columns : List Column) → length (column_headings columns) ≡ length columns
length-column_headings columns = length-map columns (λ (column : Column). column.heading)

pub headings_width : (schema : Schema) → length (headings schema) ≡ schema.arity + length schema.columns
headings_width schema =
    length-append (endpoint_headings schema.arity) (column_headings schema.columns)
    ∙ omega (arith, length-endpoint_headings schema.arity, length-column_headings schema.columns)

pub endpoint_heading_at : (schema : Schema) (k : ℕ) → k < schema.arity → get_or (headings schema) k [] ≡ endpoint_heading k
endpoint_heading_at schema k l =
    let zero-on : 0 + k ≡ k = omega arith in
    get_or_append_left (endpoint_headings schema.arity) (column_headings schema.columns) [] k (omega (arith, length-endpoint_headings schema.arity))
    ∙ get_or-map-range_with_len endpoint_heading 0 schema.arity k k [] l zero-on

pub column_heading_at : (schema : Schema) (k : ℕ) (column : Column) → schema.arity ≤ k → k - schema.arity < length schema.columns → column ≡ get_or schema.columns (k - schema.arity) column
    → get_or (headings schema) k [] ≡ column.heading
column_heading_at schema k column l m is =
    get_or-append_right (endpoint_headings schema.arity) (column_headings schema.columns) schema.arity k [] (length-endpoint_headings schema.arity) l
    ∙ get_or-map (λ (c : Column). c.heading) schema.columns (k - schema.arity) column [] m
    ∙ ap (λ (c : Column). c.heading) (sym is)

-- the columns before one have their headings, and the header's fault is that of the others
pub record Agrees (cells headings : List (List ℕ)) (column : ℕ) : Type 0 where
  pub within : column ≤ length cells
  pub is : header_from 0 cells headings ≡ header_from column (drop column cells) (drop column headings)

-- a column where the cell isn't its heading
pub agrees-differs : (cells headings : List (List ℕ)) (column : ℕ) → column < length cells → column < length headings
    → bytes_eq (get_or headings column []) (without_spaces (get_or cells column [])) ≡ false → Agrees cells headings column → header_from 0 cells headings ≡ Err (Header column)
agrees-differs cells headings column l m other h = h.is ∙ rw (drop-cons cells column [], drop-cons headings column [], other) refl

-- the cells have ended before the headings, and the headings before the cells
pub agrees-ended : (cells headings : List (List ℕ)) (column : ℕ) → column ≡ length cells → column < length headings → Agrees cells headings column → header_from 0 cells headings ≡ Err (Header column)
agrees-ended cells headings column e m h = h.is ∙ rw (drop_all column cells (omega arith), drop-cons headings column []) refl

pub agrees-more : (cells headings : List (List ℕ)) (column : ℕ) → column < length cells → column ≡ length headings → Agrees cells headings column → header_from 0 cells headings ≡ Err (Header column)
agrees-more cells headings column l e h = h.is ∙ rw (drop-cons cells column [], drop_all column headings (omega arith)) refl
