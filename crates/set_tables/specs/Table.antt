-- Tables: which set the bytes of a table state, or the first fault in them.
-- The first record is the header. Each further record is a row, and the rows are numbered from 1: the cells of one
-- element, its endpoints by their positions, and after them its words column by column.
use Rattle.std.specs.Prelude.{ℕ, ◌+◌, ◌==◌, nat_lt, if◌then◌else◌, List, [], ◌∷◌, length, map, Option, Result, Ok, Err, slice_index, slice_index_or}
use Rattle.std.specs.List.{enumerate_from, flat_map, range_with_len}
use Rattle.std.specs.Str.{bytes_eq}
use Rattle.vocabulary.specs.Answers.{◌>>=◌, all_ok}
use Rattle.vocabulary.specs.declared.limits.TheConstants.{MOST_ELEMENTS}
use Rattle.csv.specs.Reading.{default_config, records, strip_bom}
use Rattle.ring_words.specs.Cell.{cell, without_spaces}
use Rattle.ring_words.specs.declared.cells.CellFault.{CellFault}
use Rattle.hypergraph.specs.SetValue.{SetValue, set_of}
use Rattle.set_tables.specs.Schema.{headings}
use Rattle.set_tables.specs.declared.faults.TableFault.{TableFault}
use Rattle.set_tables.specs.declared.faults.TableFault.TheVariants.{NoHeader, Header, Width, Cell, Endpoint, TooManyRows}
use Rattle.set_tables.specs.declared.schema.Column.{Column}
use Rattle.set_tables.specs.declared.schema.Schema.{Schema}

-- the cells from a column on are the headings from there on, with spaces around a cell dropped; else the first column
-- where a cell differs from its heading, or where one of the two lists has ended
abbrev pub header_from : ℕ → List (List ℕ) → List (List ℕ) → Result (Unit {0}) TableFault
header_from column [] [] = Ok tt
header_from column [] (heading ∷ headings) = Err (Header column)
header_from column (cell ∷ cells) [] = Err (Header column)
header_from column (cell ∷ cells) (heading ∷ headings) =
    if bytes_eq heading (without_spaces cell) then header_from (column + 1) cells headings else Err (Header column)

-- a record is the header of the schema
abbrev pub header_of : Schema → List (List ℕ) → Result (Unit {0}) TableFault
header_of schema cells = header_from 0 cells (headings schema)

-- the word of a cell, or its fault at its row and column
abbrev pub in_cell : ℕ → ℕ → Result ℕ CellFault → Result ℕ TableFault
in_cell row column (Ok word) = Ok word
in_cell row column (Err fault) = Err (Cell row column fault)

-- the word that a cell states at a scale
abbrev pub word_of : ℕ → ℕ → ℕ → List ℕ → Result ℕ TableFault
word_of row column scale bytes = in_cell row column (cell scale bytes)

-- the endpoint that a cell states: a whole number from 0 on that is below the bound
abbrev pub endpoint_of : ℕ → ℕ → ℕ → List ℕ → Result ℕ TableFault
endpoint_of bound row column bytes = do
  word ← word_of row column 0 bytes
  if nat_lt word bound then Ok word else Err (Endpoint row column)

-- the endpoints that the cells of a row begin with
unfoldable pub endpoints_of : ℕ → ℕ → ℕ → List (List ℕ) → Result (List ℕ) TableFault
endpoints_of bound arity row cells =
    all_ok (map (λ position. endpoint_of bound row position (slice_index_or cells position [])) (range_with_len 0 arity))

-- the words in the cells after them, each at the scale of its column
unfoldable pub words_of : ℕ → List Column → ℕ → List (List ℕ) → Result (List ℕ) TableFault
words_of arity columns row cells =
    all_ok (map (λ p. word_of row p.0 p.1.scale (slice_index_or cells p.0 [])) (enumerate_from arity columns))

-- an element: its endpoints by their positions, and its words column by column
pub record Element : Type 0 where
  pub endpoints : List ℕ
  pub words : List ℕ

abbrev pub element : List ℕ → List ℕ → Element
element endpoints words = record { endpoints = endpoints; words = words }

-- the element that the cells of a row state
unfoldable pub element_in : Schema → ℕ → ℕ → List (List ℕ) → Result Element TableFault
element_in schema bound row cells = do
  endpoints ← endpoints_of bound schema.arity row cells
  words ← words_of schema.arity schema.columns row cells
  Ok (element endpoints words)

-- the element that a row states: there may be so many rows, and it has a cell for each heading
unfoldable pub element_of : Schema → ℕ → ℕ → List (List ℕ) → Result Element TableFault
element_of schema bound row cells =
    if nat_lt MOST_ELEMENTS row then Err TooManyRows
    else if length cells == length (headings schema) then element_in schema bound row cells
    else Err (Width row)

-- the elements of the rows from a row on
unfoldable pub elements_from : Schema → ℕ → ℕ → List (List (List ℕ)) → Result (List Element) TableFault
elements_from schema bound row rows = all_ok (map (λ p. element_of schema bound p.0 p.1) (enumerate_from row rows))

-- the elements that a list of records states
unfoldable pub elements_of : Schema → ℕ → List (List (List ℕ)) → Result (List Element) TableFault
elements_of schema bound [] = Err NoHeader
elements_of schema bound (header ∷ rows) = do
  _ ← header_of schema header
  elements_from schema bound 1 rows

-- the words of n columns: the k-th has the k-th word of each element
abbrev pub columns_of : ℕ → List Element → List (List ℕ)
columns_of n elements = map (λ k. map (λ e. slice_index e.words k) elements) (range_with_len 0 n)

-- the set of these elements
abbrev pub set_of_elements : Schema → Option ℕ → List Element → SetValue
set_of_elements schema over elements =
    set_of (length elements) over schema.arity (flat_map (λ e. e.endpoints) elements) (columns_of (length schema.columns) elements)

-- the set that a list of records states, with its endpoints in the set `over`, below the bound
abbrev pub set_stated : Schema → Option ℕ → ℕ → List (List (List ℕ)) → Result SetValue TableFault
set_stated schema over bound records = do
  elements ← elements_of schema bound records
  Ok (set_of_elements schema over elements)

-- the set that a table's bytes state; a byte order mark at their start is no part of them
unfoldable pub table_set : Schema → Option ℕ → ℕ → List ℕ → Result SetValue TableFault
table_set schema over bound bytes = set_stated schema over bound (records default_config (strip_bom bytes))
