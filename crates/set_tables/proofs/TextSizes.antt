-- The length of a table's text by the lengths of its cells, row by row and column by column.
use Rattle.std.proofs.Common.{◌≡◌, ◌<◌, ◌+◌, ◌*◌, ℕ, suc, List, [], ◌∷◌, ◌++◌, length, take, get_or, refl, sym, ap, ◌∙◌, arith, length-append}
use Rattle.std.specs.Prelude.{sum_by, slice_index}
use Rattle.std.specs.List.{All, join_with_byte, range_with_len, zip}
use Rattle.std.proofs.lemmas.List.{get_or_default, length-map, take_more}
use Rattle.std.proofs.lemmas.List.Elements.{All-push}
use Rattle.std.proofs.lemmas.List.Concat.{length-flat_map}
use Rattle.std.proofs.lemmas.List.FromFn.{length-map-range_with_len}
use Rattle.std.proofs.lemmas.List.Sums.{sum_by-append, sum_by-cons, sum_by_push}
use Rattle.std.proofs.lemmas.Slice.Zip.{length-zip}
use Rattle.vocabulary.specs.declared.marks.TheConstants.{COMMA, LINE_FEED}
use Rattle.ring_words.specs.Cell.{text}
use Rattle.hypergraph.specs.SetValue.{SetValue, endpoint_at}
use Rattle.set_tables.specs.Output.{element_cells, element_lines, endpoint_cells, line, name_line, table_text, word_cells}
use Rattle.set_tables.specs.WritingSteps.{column_headings_size, column_size, columns_size, element_endpoints_size, endpoint_headings_size, endpoints_size, marks}
use Rattle.set_tables.specs.Schema.{Fits, column_headings, endpoint_heading, endpoint_headings, headings}
use Rattle.set_tables.specs.declared.schema.Column.{Column}
use Rattle.set_tables.specs.declared.schema.Schema.{Schema}
use Rattle.set_tables.proofs.Headings.{headings_width}
use Rattle.set_tables.proofs.LinesWritten.{length-range, table-parts, zipped-at}
use Rattle.set_tables.proofs.Sums.{sum-both, sum-each, sum-exchange, sum-index, sum-map, sum-same}

-- a line has the bytes of its cells, its commas and its line feed
joined-size : (cell : List ℕ) (cells : List (List ℕ)) → length (join_with_byte COMMA (cell ∷ cells)) ≡ sum_by length (cell ∷ cells) + length cells
joined-size cell [] = omega (arith, sum_by-cons length cell [])
joined-size cell (next ∷ cells) =
    length-append cell (COMMA ∷ join_with_byte COMMA (next ∷ cells)) ∙ omega (arith, joined-size next cells, sum_by-cons length cell (next ∷ cells))

line-size : (cells : List (List ℕ)) → length (line cells) ≡ sum_by length cells + marks (length cells)
line-size [] = refl
line-size (cell ∷ cells) = length-append (join_with_byte COMMA (cell ∷ cells)) (LINE_FEED ∷ []) ∙ omega (arith, joined-size cell cells)

-- a line of cells in two parts
two-parts : (xs ys : List (List ℕ)) (n : ℕ) → length (xs ++ ys) ≡ n → length (line (xs ++ ys)) ≡ (sum_by length xs + sum_by length ys) + marks n
two-parts xs ys n e = line-size (xs ++ ys) ∙ ap (λ s. s + marks (length (xs ++ ys))) (sum_by-append length xs ys) ∙ ap (λ m. (sum_by length xs + sum_by length ys) + marks m) e

header-size : (schema : Schema) → length (line (headings schema)) ≡ (endpoint_headings_size schema.arity + column_headings_size schema.columns) + marks (schema.arity + length schema.columns)
header-size schema =
    two-parts (endpoint_headings schema.arity) (column_headings schema.columns) (schema.arity + length schema.columns) (headings_width schema)
    ∙ ap (λ n. (n + sum_by length (column_headings schema.columns)) + marks (schema.arity + length schema.columns)) (sum-map length endpoint_heading (range_with_len 0 schema.arity))
    ∙ ap (λ n. (endpoint_headings_size schema.arity + n) + marks (schema.arity + length schema.columns)) (sum-map length (λ (column : Column). column.heading) schema.columns)

-- the bytes of the words of an element
abbrev words_size : List Column → List (List ℕ) → ℕ → ℕ
words_size columns words element = sum_by (λ p. length (text p.0.scale (slice_index p.1 element))) (zip columns words)

element-width : (schema : Schema) (set : SetValue) (element : ℕ) → Fits schema set → length (element_cells schema set element) ≡ schema.arity + length schema.columns
element-width schema set element fits =
    length-append (endpoint_cells schema.arity set element) (word_cells schema.columns set element)
    ∙ omega (
      arith,
      length-map-range_with_len (λ position. text 0 (endpoint_at set element position)) 0 schema.arity,
      length-map (zip schema.columns set.columns) (λ (p : Column × List ℕ). text p.0.scale (slice_index p.1 element)),
      length-zip schema.columns set.columns,
      fits.as_many,
    )

element-size : (schema : Schema) (set : SetValue) (element : ℕ) → Fits schema set
    → length (line (element_cells schema set element)) ≡ (element_endpoints_size schema.arity set element + words_size schema.columns set.columns element) + marks (schema.arity + length schema.columns)
element-size schema set element fits =
    two-parts (endpoint_cells schema.arity set element) (word_cells schema.columns set element) (schema.arity + length schema.columns) (element-width schema set element fits)
    ∙ ap (λ n. (n + sum_by length (word_cells schema.columns set element)) + marks (schema.arity + length schema.columns))
    (sum-map length (λ position. text 0 (endpoint_at set element position)) (range_with_len 0 schema.arity))
    ∙ ap (λ n. (element_endpoints_size schema.arity set element + n) + marks (schema.arity + length schema.columns))
    (sum-map length (λ (p : Column × List ℕ). text p.0.scale (slice_index p.1 element)) (zip schema.columns set.columns))

-- the words row by row are the words column by column
by-index : (columns : List Column) (words : List (List ℕ)) (count : ℕ) → All (λ ws. length ws ≡ count) words
    → sum_by (λ p. sum_by (λ e. length (text p.0.scale (slice_index p.1 e))) (range_with_len 0 count)) (zip columns words) ≡ columns_size columns words
by-index [] words count each = refl
by-index (column ∷ columns) [] count each = refl
by-index (column ∷ columns) (ws ∷ words) count each =
    sum_by-cons (λ (p : Column × List ℕ). sum_by (λ e. length (text p.0.scale (slice_index p.1 e))) (range_with_len 0 count)) (column, ws) (zip columns words)
    ∙ ap (λ n. n + sum_by (λ p. sum_by (λ e. length (text p.0.scale (slice_index p.1 e))) (range_with_len 0 count)) (zip columns words))
    (sum-index (λ w. length (text column.scale w)) ws count (each 0 ws (omega arith)))
    ∙ ap (λ n. column_size column.scale ws + n) (by-index columns words count (λ k d l. each (suc k) d (omega arith)))
    ∙ sym (sum_by-cons (λ (p : Column × List ℕ). column_size p.0.scale p.1) (column, ws) (zip columns words))

exchanged : (columns : List Column) (words : List (List ℕ)) (count : ℕ) → All (λ ws. length ws ≡ count) words
    → sum_by (words_size columns words) (range_with_len 0 count) ≡ columns_size columns words
exchanged columns words count each =
    sum-exchange (λ e (p : Column × List ℕ). length (text p.0.scale (slice_index p.1 e))) (range_with_len 0 count) (zip columns words) ∙ by-index columns words count each

lines-size : (schema : Schema) (set : SetValue) → Fits schema set → All (λ ws. length ws ≡ set.count) set.columns
    → length (element_lines schema set)
    ≡ (endpoints_size schema.arity set + columns_size schema.columns set.columns) + set.count * marks (schema.arity + length schema.columns)
lines-size schema set fits each =
    let range = range_with_len 0 set.count in
    let m = marks (schema.arity + length schema.columns) in
    let ends = element_endpoints_size schema.arity set in
    let words = words_size schema.columns set.columns in
    length-flat_map (λ e. line (element_cells schema set e)) range
    ∙ sum-same (λ e. length (line (element_cells schema set e))) (λ e. (ends e + words e) + m) range (λ e. element-size schema set e fits)
    ∙ sum-both (λ e. ends e + words e) (λ e. m) range
    ∙ ap (λ n. n + sum_by (λ e. m) range) (sum-both ends words range ∙ ap (λ n. sum_by ends range + n) (exchanged schema.columns set.columns set.count each))
    ∙ ap (λ n. (endpoints_size schema.arity set + columns_size schema.columns set.columns) + n) (sum-each m range ∙ ap (λ n. n * m) (length-range set.count))

-- another column
pub columns-more : (columns : List Column) (words : List (List ℕ)) (k : ℕ) (column : Column) (ws : List ℕ) → k < length columns → k < length words → column ≡ get_or columns k column → ws ≡ get_or words k []
    → sum_by (λ p. column_size p.0.scale p.1) (take (k + 1) (zip columns words)) ≡ sum_by (λ p. column_size p.0.scale p.1) (take k (zip columns words)) + column_size column.scale ws
columns-more columns words k column ws l m is of =
    let n : k < length (zip columns words) = omega (arith, length-zip columns words) in
    let stands : get_or (zip columns words) k (column, ws) ≡ (column, ws) = sym (zipped-at columns words k column ws l m is (of ∙ get_or_default words k [] ws m)) in
    ap (sum_by (λ (p : Column × List ℕ). column_size p.0.scale p.1)) (take_more (zip columns words) k (column, ws) n)
    ∙ sum_by_push (λ (p : Column × List ℕ). column_size p.0.scale p.1) (take k (zip columns words)) (get_or (zip columns words) k (column, ws))
    ∙ ap (λ (p : Column × List ℕ). sum_by (λ p. column_size p.0.scale p.1) (take k (zip columns words)) + column_size p.0.scale p.1) stands

pub each-more : (words : List (List ℕ)) (k count : ℕ) (ws : List ℕ) → k < length words → ws ≡ get_or words k [] → length ws ≡ count
    → All (λ w. length w ≡ count) (take k words) → All (λ w. length w ≡ count) (take (k + 1) words)
each-more words k count ws l of size each = rw (take_more words k [] l, ← of) (All-push (λ (w : List ℕ). length w ≡ count) (take k words) ws each size)

-- the whole text
pub text-size : (schema : Schema) (set : SetValue) (name marks_size header cells : ℕ) → Fits schema set → All (λ ws. length ws ≡ set.count) set.columns
    → name ≡ length (name_line schema.name)
    → marks_size ≡ (1 + set.count) * marks (schema.arity + length schema.columns)
    → header ≡ endpoint_headings_size schema.arity + column_headings_size schema.columns
    → cells ≡ endpoints_size schema.arity set + columns_size schema.columns set.columns
    → name + marks_size + header + cells ≡ length (table_text schema set)
text-size schema set name marks_size header cells fits each n k h s =
    let m = marks (schema.arity + length schema.columns) in
    let lines = line (headings schema) ++ element_lines schema set in
    let whole : length (table_text schema set) ≡ length (name_line schema.name) + (length (line (headings schema)) + length (element_lines schema set)) =
    ap length (table-parts schema set) ∙ length-append (name_line schema.name) lines ∙ ap (λ x. length (name_line schema.name) + x) (length-append (line (headings schema)) (element_lines schema set)) in
    sums name marks_size header cells m set.count (length (name_line schema.name)) (length (line (headings schema))) (length (element_lines schema set)) n k h s (header-size schema) (lines-size schema set fits each)
    ∙ sym whole
  where
    sums : {head cell : ℕ} (name marks_size header cells m count a b c : ℕ) → name ≡ a → marks_size ≡ (1 + count) * m → header ≡ head → cells ≡ cell → b ≡ head + m → c ≡ cell + count * m
        → name + marks_size + header + cells ≡ a + (b + c)
    sums name marks_size header cells m count a b c n k h s e f = omega arith
