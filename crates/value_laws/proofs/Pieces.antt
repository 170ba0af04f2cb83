-- Pieces of one length, one after the other.
use Rattle.std.proofs.Common.{◌≡◌, ◌++◌, ℕ, zero, suc, ◌+◌, ◌*◌, ◌<◌, List, length, get_or, map, ap, ◌∙◌, arith, length-append}
use Rattle.std.specs.List.{flat_map, range_with_len}
use Rattle.std.proofs.lemmas.List.{get_or_append_left, get_or-append-add}
use Rattle.std.proofs.lemmas.List.FromFn.{get_or-map-range_with_len, length-map-range_with_len}
use Rattle.std.proofs.lemmas.List.Concat.{flat_map-cons}

pieces_from : (piece : ℕ → List ℕ) (size n a : ℕ) → ((i : ℕ) → length (piece i) ≡ size) → length (flat_map piece (range_with_len a n)) ≡ n * size
pieces_from piece size zero a each = omega arith
pieces_from piece size (suc n) a each =
    let rest : length (flat_map piece (range_with_len (a + 1) n)) ≡ n * size = pieces_from piece size n (a + 1) each in
    let first : length (piece a) ≡ size = each a in
    ap length (flat_map-cons piece a (range_with_len (a + 1) n)) ∙ length-append (piece a) (flat_map piece (range_with_len (a + 1) n)) ∙ omega (arith, rest, first)

piece_from : (piece : ℕ → List ℕ) (size n a i j : ℕ) → ((i : ℕ) → length (piece i) ≡ size) → i < n → j < size
    → get_or (flat_map piece (range_with_len a n)) (i * size + j) 0 ≡ get_or (piece (a + i)) j 0
piece_from piece size zero a i j each below within = absurd (omega arith)
piece_from piece size (suc n) a zero j each below within =
    let first : length (piece a) ≡ size = each a in
    let index : zero * size + j ≡ j = omega arith in
    let here : a ≡ a + zero = omega arith in
    ap (λ l. get_or l (zero * size + j) 0) (flat_map-cons piece a (range_with_len (a + 1) n))
    ∙ ap (λ k. get_or (piece a ++ flat_map piece (range_with_len (a + 1) n)) k 0) index
    ∙ get_or_append_left (piece a) (flat_map piece (range_with_len (a + 1) n)) 0 j (omega (arith, first))
    ∙ ap (λ k. get_or (piece k) j 0) here
piece_from piece size (suc n) a (suc i) j each below within =
    let first : length (piece a) ≡ size = each a in
    let index : suc i * size + j ≡ length (piece a) + (i * size + j) = omega (arith, first) in
    let here : a + 1 + i ≡ a + suc i = omega arith in
    ap (λ l. get_or l (suc i * size + j) 0) (flat_map-cons piece a (range_with_len (a + 1) n))
    ∙ ap (λ k. get_or (piece a ++ flat_map piece (range_with_len (a + 1) n)) k 0) index
    ∙ get_or-append-add (piece a) (flat_map piece (range_with_len (a + 1) n)) (i * size + j) 0
    ∙ piece_from piece size n (a + 1) i j each (omega arith) within
    ∙ ap (λ k. get_or (piece k) j 0) here

-- rows of columns: how many words, and the word of a row and a column
pub rows_length : (rows columns : ℕ) (f : ℕ → ℕ → ℕ) → length (flat_map (λ row. map (f row) (range_with_len 0 columns)) (range_with_len 0 rows)) ≡ rows * columns
rows_length rows columns f = pieces_from (λ row. map (f row) (range_with_len 0 columns)) columns rows 0 (λ row. length-map-range_with_len (f row) 0 columns)

pub rows_entry : (rows columns : ℕ) (f : ℕ → ℕ → ℕ) (row column : ℕ) → row < rows → column < columns
    → get_or (flat_map (λ row. map (f row) (range_with_len 0 columns)) (range_with_len 0 rows)) (row * columns + column) 0 ≡ f row column
rows_entry rows columns f row column row_in column_in =
    let here : 0 + row ≡ row = omega arith in
    piece_from (λ row. map (f row) (range_with_len 0 columns)) columns rows 0 row column (λ row. length-map-range_with_len (f row) 0 columns) row_in column_in
    ∙ ap (λ k. get_or (map (f k) (range_with_len 0 columns)) column 0) here
    ∙ get_or-map-range_with_len (f row) 0 columns column column 0 column_in (omega arith)

-- the index of a row and a column is one of the words
pub row_before : (row rows columns column : ℕ) → row < rows → column < columns → row * columns + column < rows * columns
row_before row zero columns column row_in column_in = absurd (omega arith)
row_before zero (suc rows) columns column row_in column_in = omega arith
row_before (suc row) (suc rows) columns column row_in column_in =
    let inner : row * columns + column < rows * columns = row_before row rows columns column (omega arith) column_in in omega (arith, inner)
