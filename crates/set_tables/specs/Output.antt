-- The text of a set's table: a line with its name, the header, and one line per element.
use Rattle.std.specs.Prelude.{ℕ, List, [], ◌∷◌, ◌++◌, map, slice_index, codes}
use Rattle.std.specs.List.{flat_map, join_with_byte, range_with_len, zip}
use Rattle.vocabulary.specs.declared.marks.TheConstants.{COMMA, LINE_FEED}
use Rattle.ring_words.specs.Cell.{text}
use Rattle.hypergraph.specs.SetValue.{SetValue, endpoint_at}
use Rattle.set_tables.specs.Schema.{headings}
use Rattle.set_tables.specs.declared.schema.Column.{Column}
use Rattle.set_tables.specs.declared.schema.Schema.{Schema}

-- a line of cells
abbrev pub line : List (List ℕ) → List ℕ
line cells = join_with_byte COMMA cells ++ LINE_FEED ∷ []

-- the cells of an element's endpoints by their positions: whole numbers
abbrev pub endpoint_cells : ℕ → SetValue → ℕ → List (List ℕ)
endpoint_cells arity set element = map (λ position. text 0 (endpoint_at set element position)) (range_with_len 0 arity)

-- the cells of its words, each at the scale of its column
abbrev pub word_cells : List Column → SetValue → ℕ → List (List ℕ)
word_cells columns set element = map (λ p. text p.0.scale (slice_index p.1 element)) (zip columns set.columns)

-- the cells of an element
abbrev pub element_cells : Schema → SetValue → ℕ → List (List ℕ)
element_cells schema set element = endpoint_cells schema.arity set element ++ word_cells schema.columns set element

-- the line that names a set
abbrev pub name_line : List ℕ → List ℕ
name_line name = line ((codes "set " ++ name) ∷ [])

-- the lines of the elements
abbrev pub element_lines : Schema → SetValue → List ℕ
element_lines schema set = flat_map (λ element. line (element_cells schema set element)) (range_with_len 0 set.count)

-- the text of a set's table
unfoldable pub table_text : Schema → SetValue → List ℕ
table_text schema set = name_line schema.name ++ line (headings schema) ++ element_lines schema set
