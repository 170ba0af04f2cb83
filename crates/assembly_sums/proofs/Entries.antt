-- How the entries of a system value stand in its words: by their rows over the whole value, then by their columns.
use Rattle.std.proofs.Common.{subst, ◌≡◌, ◌++◌, ℕ, zero, suc, ◌+◌, ◌*◌, ◌/◌, ◌%◌, ◌<◌, List, length, get_or, map, sym, ap, ◌∙◌, arith, length-append}
use Rattle.std.specs.List.{flat_map, range_with_len}
use Rattle.std.proofs.Math.Nat.{div-lt_iff_lt-mul, mod-add-div'}
use Rattle.std.proofs.lemmas.Nat.{mod_below}
use Rattle.std.proofs.lemmas.List.{ext_get_or, get_or_append_left, get_or-append-add}
use Rattle.std.proofs.lemmas.List.FromFn.{get_or-map-range_with_len, length-map-range_with_len}
use Rattle.std.proofs.lemmas.List.Concat.{flat_map-cons}
use Rattle.value_algebra.specs.Value.{row_by_row}
use Rattle.assembly_sums.proofs.Blocks.{row_before}

-- ---- pieces of one length, one after the other

pieces_from : (piece : ℕ → List ℕ) (size n a : ℕ) → ((i : ℕ) → length (piece i) ≡ size) → length (flat_map piece (range_with_len a n)) ≡ n * size
pieces_from piece size zero a each = omega arith
pieces_from piece size (suc n) a each =
    let rest : length (flat_map piece (range_with_len (a + 1) n)) ≡ n * size = pieces_from piece size n (a + 1) each in
    let first : length (piece a) ≡ size = each a in
    ap length (flat_map-cons piece a (range_with_len (a + 1) n)) ∙ length-append (piece a) (flat_map piece (range_with_len (a + 1) n)) ∙ omega (arith, rest, first)

piece_from : (piece : ℕ → List ℕ) (size n a i j : ℕ) → ((i : ℕ) → length (piece i) ≡ size) → i < n → j < size
    → get_or (flat_map piece (range_with_len a n)) (i * size + j) 0 ≡ get_or (piece (a + i)) j 0
piece_from piece size zero a i j each below within = absurd (omega arith)
piece_from piece size (suc n) a zero j each below within =
    let first : length (piece a) ≡ size = each a in
    let index : zero * size + j ≡ j = omega arith in
    let here : a ≡ a + zero = omega arith in
    ap (λ l. get_or l (zero * size + j) 0) (flat_map-cons piece a (range_with_len (a + 1) n))
    ∙ ap (λ k. get_or (piece a ++ flat_map piece (range_with_len (a + 1) n)) k 0) index
    ∙ get_or_append_left (piece a) (flat_map piece (range_with_len (a + 1) n)) 0 j (omega (arith, first))
    ∙ ap (λ k. get_or (piece k) j 0) here
piece_from piece size (suc n) a (suc i) j each below within =
    let first : length (piece a) ≡ size = each a in
    let index : suc i * size + j ≡ length (piece a) + (i * size + j) = omega (arith, first) in
    let here : a + 1 + i ≡ a + suc i = omega arith in
    ap (λ l. get_or l (suc i * size + j) 0) (flat_map-cons piece a (range_with_len (a + 1) n))
    ∙ ap (λ k. get_or (piece a ++ flat_map piece (range_with_len (a + 1) n)) k 0) index
    ∙ get_or-append-add (piece a) (flat_map piece (range_with_len (a + 1) n)) (i * size + j) 0
    ∙ piece_from piece size n (a + 1) i j each (omega arith) within
    ∙ ap (λ k. get_or (piece k) j 0) here

pieces_length : (piece : ℕ → List ℕ) (size n : ℕ) → ((i : ℕ) → length (piece i) ≡ size) → length (flat_map piece (range_with_len 0 n)) ≡ n * size
pieces_length piece size n each = pieces_from piece size n 0 each

piece_at : (piece : ℕ → List ℕ) (size n i j : ℕ) → ((i : ℕ) → length (piece i) ≡ size) → i < n → j < size
    → get_or (flat_map piece (range_with_len 0 n)) (i * size + j) 0 ≡ get_or (piece i) j 0
piece_at piece size n i j each below within =
    let here : 0 + i ≡ i = omega arith in
    piece_from piece size n 0 i j each below within ∙ ap (λ k. get_or (piece k) j 0) here

-- what holds of each number of each block holds of each number
each_number : (a b : ℕ) (P : ℕ → Type 0) → ((i j : ℕ) → i < a → j < b → P (i * b + j)) → (k : ℕ) → k < a * b → P k
each_number a zero P holds k below = absurd (omega arith)
each_number a (suc b) P holds k below =
    let some : 0 < suc b = omega arith in
    let whole : k / suc b < a = (div-lt_iff_lt-mul {k = suc b} {x = k} {y = a} some).1 below in
    let rest : k % suc b < suc b = mod_below k (suc b) some in
    let sum : k / suc b * suc b + k % suc b ≡ k = omega (arith, mod-add-div' k (suc b)) in
    subst P sum (holds (k / suc b) (k % suc b) whole rest)

-- ---- the entries of a system value, each by its row of elements, its row in the block, its column of elements and its column in
-- the block

abbrev pub Entries : Type 0
Entries = ℕ → ℕ → ℕ → ℕ → ℕ

abbrev pub row_words : ℕ → ℕ → Entries → ℕ → ℕ → List ℕ
row_words columns width entries row r = row_by_row columns width (λ column c. entries row r column c)

abbrev pub element_words : ℕ → ℕ → ℕ → Entries → ℕ → List ℕ
element_words height columns width entries row = flat_map (row_words columns width entries row) (range_with_len 0 height)

abbrev pub words_of : ℕ → ℕ → ℕ → ℕ → Entries → List ℕ
words_of rows height columns width entries = flat_map (element_words height columns width entries) (range_with_len 0 rows)

-- the index of an entry
abbrev pub index_of : ℕ → ℕ → ℕ → ℕ → ℕ → ℕ → ℕ → ℕ
index_of height columns width row r column c = (row * height + r) * (columns * width) + (column * width + c)

row_length : (columns width : ℕ) (entries : Entries) (row r : ℕ) → length (row_words columns width entries row r) ≡ columns * width
row_length columns width entries row r =
    pieces_length (λ column. map (entries row r column) (range_with_len 0 width)) width columns (λ column. length-map-range_with_len (entries row r column) 0 width)

element_length : (height columns width : ℕ) (entries : Entries) (row : ℕ) → length (element_words height columns width entries row) ≡ height * (columns * width)
element_length height columns width entries row =
    pieces_length (row_words columns width entries row) (columns * width) height (row_length columns width entries row)

pub words_length : (rows height columns width : ℕ) (entries : Entries) → length (words_of rows height columns width entries) ≡ rows * height * (columns * width)
words_length rows height columns width entries =
    pieces_length (element_words height columns width entries) (height * (columns * width)) rows (element_length height columns width entries) ∙ omega arith

-- the word at the index of an entry is the entry
pub word_is_entry : (rows height columns width : ℕ) (entries : Entries) (row r column c : ℕ) → row < rows → r < height → column < columns → c < width
    → get_or (words_of rows height columns width entries) (index_of height columns width row r column c) 0 ≡ entries row r column c
word_is_entry rows height columns width entries row r column c row_in r_in column_in c_in =
    let size : ℕ = columns * width in
    let k : ℕ = column * width + c in
    let in_row : k < size = row_before column columns width c column_in c_in in
    let in_element : r * size + k < height * size = row_before r height size k r_in in_row in
    let index : index_of height columns width row r column c ≡ row * (height * size) + (r * size + k) = omega arith in
    ap (λ i. get_or (words_of rows height columns width entries) i 0) index
    ∙ piece_at (element_words height columns width entries) (height * size) rows row (r * size + k) (element_length height columns width entries) row_in in_element
    ∙ piece_at (row_words columns width entries row) size height r k (row_length columns width entries row) r_in in_row
    ∙ piece_at (λ column. map (entries row r column) (range_with_len 0 width)) width columns column c (λ column. length-map-range_with_len (entries row r column) 0 width) column_in c_in
    ∙ get_or-map-range_with_len (entries row r column) 0 width c c 0 c_in (omega arith)

-- words that have the entry at the index of each are those words
pub words_are : (rows height columns width : ℕ) (entries : Entries) (words : List ℕ) → length words ≡ rows * height * (columns * width)
    → ((row r column c : ℕ) → row < rows → r < height → column < columns → c < width → get_or words (index_of height columns width row r column c) 0 ≡ entries row r column c)
    → words ≡ words_of rows height columns width entries
words_are rows height columns width entries words long each =
    let known : List ℕ = words_of rows height columns width entries in
    let Same : ℕ → Type 0 = λ i. get_or words i 0 ≡ get_or known i 0 in
    let at_entry : (row r column c : ℕ) → row < rows → r < height → column < columns → c < width → Same (index_of height columns width row r column c) =
    λ row r column c row_in r_in column_in c_in. each row r column c row_in r_in column_in c_in ∙ sym (word_is_entry rows height columns width entries row r column c row_in r_in column_in c_in) in
    let at_row : (R C : ℕ) → R < rows * height → C < columns * width → Same (R * (columns * width) + C) =
    λ R C R_in C_in. each_number rows height (λ R. Same (R * (columns * width) + C))
    (λ row r row_in r_in. each_number columns width (λ C. Same ((row * height + r) * (columns * width) + C)) (λ column c column_in c_in. at_entry row r column c row_in r_in column_in c_in) C C_in)
    R R_in in
    ext_get_or 0 words known (long ∙ sym (words_length rows height columns width entries))
    (λ i below. each_number (rows * height) (columns * width) Same at_row i (omega (arith, long)))
