-- What the steps of writing a table append, and the parts of its length. Only private contracts cite these words.
use Rattle.std.specs.Prelude.{◌≡◌, ℕ, zero, suc, List, [], ◌∷◌, ◌++◌, length, map, All, slice_index, sum_by}
use Rattle.std.specs.List.{enumerate_from, flat_map, range_with_len, zip}
use Rattle.std.specs.Borrow.{Bor}
use Rattle.vocabulary.specs.declared.marks.TheConstants.{COMMA}
use Rattle.ring_words.specs.Cell.{text}
use Rattle.hypergraph.specs.SetValue.{SetValue, endpoint_at}
use Rattle.set_tables.specs.Schema.{endpoint_heading}
use Rattle.set_tables.specs.declared.schema.Column.{Column}

-- what stands before the cell of a column of a line: a comma, but for the first
abbrev pub separator : ℕ → List ℕ
separator zero = []
separator (suc column) = COMMA ∷ []

-- a cell of a line after its separator
abbrev pub separated : ℕ → List ℕ → List ℕ
separated column cell = separator column ++ cell

-- the headings of endpoints in a line, and those of columns after so many endpoints
abbrev pub endpoint_headings_text : ℕ → List ℕ
endpoint_headings_text arity = flat_map (λ position. separated position (endpoint_heading position)) (range_with_len 0 arity)

abbrev pub column_headings_text : ℕ → List Column → List ℕ
column_headings_text arity columns = flat_map (λ p. separated p.0 p.1.heading) (enumerate_from arity columns)

-- an element's endpoints in a line, and its words after so many endpoints
abbrev pub endpoints_text : ℕ → SetValue → ℕ → List ℕ
endpoints_text arity set element = flat_map (λ position. separated position (text 0 (endpoint_at set element position))) (range_with_len 0 arity)

abbrev pub words_text : ℕ → List Column → List (List ℕ) → ℕ → List ℕ
words_text arity columns words element =
    flat_map (λ p. separated p.0 (text p.1.0.scale (slice_index p.1.1 element))) (enumerate_from arity (zip columns words))

-- these are the words of the set's columns, one for each element
pub record AreWordsOf (set : SetValue) (words : List (Bor (List ℕ))) : Type 0 where
  pub same : map (λ column. column.now) words ≡ set.columns
  pub one_each : All (λ column. length column.now ≡ set.count) words

-- how many commas and line feeds a line of so many cells has
abbrev pub marks : ℕ → ℕ
marks zero = 1
marks (suc others) = suc others

-- the lengths of the headings of endpoints, of columns' headings, of a column's cells, of the cells of a set's columns,
-- and of the cells of its endpoints
abbrev pub endpoint_headings_size : ℕ → ℕ
endpoint_headings_size arity = sum_by (λ position. length (endpoint_heading position)) (range_with_len 0 arity)

abbrev pub column_headings_size : List Column → ℕ
column_headings_size columns = sum_by (λ column. length column.heading) columns

abbrev pub column_size : ℕ → List ℕ → ℕ
column_size scale words = sum_by (λ word. length (text scale word)) words

abbrev pub columns_size : List Column → List (List ℕ) → ℕ
columns_size columns words = sum_by (λ p. column_size p.0.scale p.1) (zip columns words)

abbrev pub element_endpoints_size : ℕ → SetValue → ℕ → ℕ
element_endpoints_size arity set element = sum_by (λ position. length (text 0 (endpoint_at set element position))) (range_with_len 0 arity)

abbrev pub endpoints_size : ℕ → SetValue → ℕ
endpoints_size arity set = sum_by (element_endpoints_size arity set) (range_with_len 0 set.count)
