-- The parts of a line, and of a table's text.
use Rattle.std.proofs.Common.{◌≡◌, ◌<◌, ◌+◌, ℕ, zero, suc, List, [], ◌∷◌, ◌++◌, length, map, get_or, refl, sym, ap, ◌∙◌, arith, append_assoc, append-nil, add-one}
use Rattle.std.specs.Prelude.{slice_index}
use Rattle.std.specs.Borrow.{Bor}
use Rattle.std.specs.List.{enumerate_from, flat_map, join_with_byte, range_with_len, zip}
use Rattle.std.proofs.lemmas.List.{get_or-map, length-map, map-id}
use Rattle.std.proofs.lemmas.List.FromFn.{get_or-enumerate_from, get_or-range_with_len, length-enumerate_from, length-map-range_with_len}
use Rattle.std.proofs.lemmas.Slice.Zip.{get_or-zip, length-zip}
use Rattle.vocabulary.specs.declared.marks.TheConstants.{COMMA, LINE_FEED}
use Rattle.ring_words.specs.Cell.{text}
use Rattle.hypergraph.specs.SetValue.{SetValue, endpoint_at}
use Rattle.set_tables.specs.Output.{element_cells, element_lines, line, name_line, table_text}
use Rattle.set_tables.specs.WritingSteps.{column_headings_text, endpoint_headings_text, endpoints_text, separated, separator, words_text}
use Rattle.set_tables.specs.Schema.{endpoint_heading, headings}
use Rattle.set_tables.specs.declared.schema.Column.{Column}
use Rattle.set_tables.specs.declared.schema.Schema.{Schema}

-- the cells of a line from a column on
abbrev cells_from : ℕ → List (List ℕ) → List ℕ
cells_from column cells = flat_map (λ p. separated p.0 p.1) (enumerate_from column cells)

-- a line is its cells, each after its separator, and a line feed
joined : (cell : List ℕ) (column : ℕ) (cells : List (List ℕ)) → join_with_byte COMMA (cell ∷ cells) ≡ cell ++ cells_from (column + 1) cells
joined cell column [] = sym (append-nil cell)
joined cell column (next ∷ cells) =
    let comma : separator (column + 1) ≡ COMMA ∷ [] = rw (add-one column) refl in
    ap (λ (xs : List ℕ). cell ++ (COMMA ∷ xs)) (joined next (column + 1) cells) ∙ ap (λ (xs : List ℕ). cell ++ ((xs ++ next) ++ cells_from (column + 1 + 1) cells)) (sym comma)

line-cells : (cells : List (List ℕ)) → line cells ≡ cells_from 0 cells ++ LINE_FEED ∷ []
line-cells [] = refl
line-cells (cell ∷ cells) = ap (λ (xs : List ℕ). xs ++ LINE_FEED ∷ []) (joined cell 0 cells)

-- cells in two parts, and cells that are made of other things
cells-parts : (column : ℕ) (xs ys : List (List ℕ)) → cells_from column (xs ++ ys) ≡ cells_from column xs ++ cells_from (column + length xs) ys
cells-parts column [] ys = let on : column ≡ column + 0 = omega arith in ap (λ n. cells_from n ys) on
cells-parts column (x ∷ xs) ys =
    let on : column + 1 + length xs ≡ column + suc (length xs) = omega arith in
    ap (λ (bytes : List ℕ). separated column x ++ bytes) (cells-parts (column + 1) xs ys ∙ ap (λ n. cells_from (column + 1) xs ++ cells_from n ys) on)
    ∙ sym (append_assoc (separated column x) (cells_from (column + 1) xs) (cells_from (column + suc (length xs)) ys))

cells-range : (g : ℕ → List ℕ) (a n : ℕ) → cells_from a (map g (range_with_len a n)) ≡ flat_map (λ k. separated k (g k)) (range_with_len a n)
cells-range g a zero = refl
cells-range g a (suc n) = ap (λ (bytes : List ℕ). separated a (g a) ++ bytes) (cells-range g (a + 1) n)

cells-map : {A : Type 0} (h : A → List ℕ) (column : ℕ) (ys : List A) → cells_from column (map h ys) ≡ flat_map (λ p. separated p.0 (h p.1)) (enumerate_from column ys)
cells-map h column [] = refl
cells-map h column (y ∷ ys) = ap (λ (bytes : List ℕ). separated column (h y) ++ bytes) (cells-map h (column + 1) ys)

-- a line of cells by number, and after them cells of a list
line-parts : {A : Type 0} (g : ℕ → List ℕ) (h : A → List ℕ) (n : ℕ) (ys : List A)
    → line (map g (range_with_len 0 n) ++ map h ys) ≡ flat_map (λ k. separated k (g k)) (range_with_len 0 n) ++ (flat_map (λ p. separated p.0 (h p.1)) (enumerate_from n ys) ++ LINE_FEED ∷ [])
line-parts g h n ys =
    let front = map g (range_with_len 0 n) in
    let size : 0 + length front ≡ n = omega (arith, length-map-range_with_len g 0 n) in
    line-cells (front ++ map h ys)
    ∙ ap (λ (bytes : List ℕ). bytes ++ LINE_FEED ∷ []) (cells-parts 0 front (map h ys) ∙ ap (λ m. cells_from 0 front ++ cells_from m (map h ys)) size)
    ∙ append_assoc (cells_from 0 front) (cells_from n (map h ys)) (LINE_FEED ∷ [])
    ∙ ap (λ (bytes : List ℕ). bytes ++ (cells_from n (map h ys) ++ LINE_FEED ∷ [])) (cells-range g 0 n)
    ∙ ap (λ (bytes : List ℕ). flat_map (λ k. separated k (g k)) (range_with_len 0 n) ++ (bytes ++ LINE_FEED ∷ [])) (cells-map h n ys)

-- the line of headings, and that of an element
pub header-parts : (schema : Schema) → line (headings schema) ≡ endpoint_headings_text schema.arity ++ (column_headings_text schema.arity schema.columns ++ LINE_FEED ∷ [])
header-parts schema = line-parts endpoint_heading (λ (column : Column). column.heading) schema.arity schema.columns

pub element-parts : (schema : Schema) (set : SetValue) (element : ℕ)
    → line (element_cells schema set element) ≡ endpoints_text schema.arity set element ++ (words_text schema.arity schema.columns set.columns element ++ LINE_FEED ∷ [])
element-parts schema set element =
    line-parts (λ position. text 0 (endpoint_at set element position)) (λ (p : Column × List ℕ). text p.0.scale (slice_index p.1 element)) schema.arity (zip schema.columns set.columns)

-- the text of a table
pub table-parts : (schema : Schema) (set : SetValue) → table_text schema set ≡ name_line schema.name ++ (line (headings schema) ++ element_lines schema set)
unfolding table_text
table-parts schema set = append_assoc (name_line schema.name) (line (headings schema)) (element_lines schema set)

-- the pieces of which they are made, one for each position, column or element
abbrev pub endpoint_heading_piece : ℕ → List ℕ
endpoint_heading_piece position = separated position (endpoint_heading position)

abbrev pub column_heading_piece : ℕ × Column → List ℕ
column_heading_piece p = separated p.0 p.1.heading

abbrev pub endpoint_piece : SetValue → ℕ → ℕ → List ℕ
endpoint_piece set element position = separated position (text 0 (endpoint_at set element position))

abbrev pub word_piece : ℕ → ℕ × (Column × List ℕ) → List ℕ
word_piece element p = separated p.0 (text p.1.0.scale (slice_index p.1.1 element))

abbrev pub line_piece : Schema → SetValue → ℕ → List ℕ
line_piece schema set element = line (element_cells schema set element)

-- what stands at an index of the lists that the pieces are made for
pub range-at : (n k : ℕ) → k < n → get_or (range_with_len 0 n) k k ≡ k
range-at n k l = get_or-range_with_len 0 n k k l ∙ omega arith

pub length-range : (n : ℕ) → length (range_with_len 0 n) ≡ n
length-range n = ap length (sym (map-id (range_with_len 0 n))) ∙ length-map-range_with_len (λ k. k) 0 n

pub numbered-at : {A : Type 0} (n : ℕ) (xs : List A) (k : ℕ) (x : A) → k < length xs → x ≡ get_or xs k x → get_or (enumerate_from n xs) k (n + k, x) ≡ (n + k, x)
numbered-at n xs k x l is = get_or-enumerate_from n xs k (n + k, x) l ∙ ap (λ y. (n + k, y)) (sym is)

pub zipped-at : (columns : List Column) (words : List (List ℕ)) (k : ℕ) (column : Column) (ws : List ℕ) → k < length columns → k < length words → column ≡ get_or columns k column → ws ≡ get_or words k ws
    → (column, ws) ≡ get_or (zip columns words) k (column, ws)
zipped-at columns words k column ws l m is of = sym (get_or-zip columns words k (column, ws) l m ∙ rw (← is, ← of) refl)

-- the word of a column, which is fetched among others
pub fetched-at : (arity : ℕ) (columns : List Column) (words : List (Bor (List ℕ))) (k : ℕ) (column : Column) (d : Bor (List ℕ)) → length words ≡ length columns → k < length columns
    → column ≡ get_or columns k column
    → get_or (enumerate_from arity (zip columns (map (λ w. w.now) words))) k (arity + k, (column, (get_or words k d).now)) ≡ (arity + k, (column, (get_or words k d).now))
fetched-at arity columns words k column d e l is =
    let all = map (λ (w : Bor (List ℕ)). w.now) words in
    let m : k < length all = omega (arith, length-map words (λ (w : Bor (List ℕ)). w.now)) in
    let n : k < length (zip columns all) = omega (arith, length-zip columns all) in
    let in' : k < length words = omega arith in
    numbered-at arity (zip columns all) k (column, (get_or words k d).now) n
    (zipped-at columns all k column (get_or words k d).now l m is (sym (get_or-map (λ (w : Bor (List ℕ)). w.now) words k d (get_or words k d).now in')))

pub length-fetched : (arity : ℕ) (columns : List Column) (words : List (Bor (List ℕ))) → length words ≡ length columns
    → length (enumerate_from arity (zip columns (map (λ w. w.now) words))) ≡ length columns
length-fetched arity columns words e =
    let all = map (λ (w : Bor (List ℕ)). w.now) words in
    length-enumerate_from arity (zip columns all) ∙ length-zip columns all ∙ omega (arith, length-map words (λ (w : Bor (List ℕ)). w.now))
