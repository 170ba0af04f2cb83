-- What another contribution changes in assembled results.
use Rattle.std.proofs.Common.{subst, Bool, true, ◌≡◌, ◌⊎◌, inl, inr, ◌∷◌, [], ◌++◌, ℕ, zero, suc, ◌+◌, ◌-◌, ◌*◌, ◌%◌, ◌^◌, ◌<◌, ◌≤◌, List, length, map, get_or, set, replicate, refl, sym, ap, ◌∙◌, arith, eq-eqb, ne_eqb}
use Rattle.std.specs.Prelude.{◌==◌, ◌&&◌, if◌then◌else◌}
use Rattle.std.specs.List.{sum_by}
use mathlib.Core.Path.{fun_ext}
use Rattle.std.proofs.Math.Nat.{mod-add-mod, mul-le-mul_right}
use Rattle.std.proofs.lemmas.Bool.{cases_eq, cases_lt}
use Rattle.std.proofs.lemmas.List.{get_or-replicate, get_or_past, length-replicate}
use Rattle.std.proofs.lemmas.List.Sums.{sum_by_push}
use Rattle.ring_words.specs.Word.{add}
use Rattle.hypergraph.specs.SetValue.{SetValue}
use Rattle.hypergraph.specs.Sets.{set_at}
use Rattle.typed_tree.specs.declared.function.TypedResult.{TypedResult}
use Rattle.value_algebra.specs.declared.value.Value.{Value}
use Rattle.value_algebra.specs.Value.{word_at}
use Rattle.algebra_meaning.specs.declared.contribution.Contribution.{Contribution}
use Rattle.algebra_meaning.specs.Assembled.{height, width, elements_of, amount_at, entry, assembled, all_assembled}
use Rattle.assembly_sums.specs.declared.block.Region.{Region}
use Rattle.assembly_sums.specs.Added.{BlockAdded, ValueAdded, region_of}
use Rattle.assembly_sums.proofs.Blocks.{row_before}
use Rattle.assembly_sums.proofs.Entries.{Entries, words_of, index_of, words_length, word_is_entry, words_are}

-- ---- entries

abbrev where_all : Bool → Bool → Bool → ℕ → ℕ
where_all a b c n = if a && b && c then n else 0

-- what a contribution adds at its own place
amount_here : (r c : ℕ) (x : Contribution) → amount_at x.result x.row x.column r c x ≡ word_at x.block r c
amount_here r c x =
    ap (λ b. where_all b (x.row == x.row) (x.column == x.column) (word_at x.block r c)) (eq-eqb x.result x.result refl)
    ∙ ap (λ b. where_all true b (x.column == x.column) (word_at x.block r c)) (eq-eqb x.row x.row refl)
    ∙ ap (λ b. where_all true true b (word_at x.block r c)) (eq-eqb x.column x.column refl)

-- nothing elsewhere
amount_elsewhere : (result row column r c : ℕ) (x : Contribution) → (x.result ≡ result → x.row ≡ row → x.column ≡ column → ⊥) → amount_at result row column r c x ≡ 0
amount_elsewhere result row column r c x other = elim (cases_eq x.result result) [
  | inl e ↦ ap (λ b. where_all b (x.row == row) (x.column == column) (word_at x.block r c)) (eq-eqb x.result result e) ∙ elim (cases_eq x.row row) [
    | inl f ↦
        ap (λ b. where_all true b (x.column == column) (word_at x.block r c)) (eq-eqb x.row row f)
        ∙ ap (λ b. where_all true true b (word_at x.block r c)) (ne_eqb x.column column (other e f))
    | inr differs ↦ ap (λ b. where_all true b (x.column == column) (word_at x.block r c)) (ne_eqb x.row row differs)
  ]
  | inr differs ↦ ap (λ b. where_all b (x.row == row) (x.column == column) (word_at x.block r c)) (ne_eqb x.result result differs)
]

entry_grows : (contributed : List Contribution) (x : Contribution) (result row column r c : ℕ)
    → entry (contributed ++ x ∷ []) result row column r c ≡ add (entry contributed result row column r c) (amount_at result row column r c x)
unfolding entry add
entry_grows contributed x result row column r c =
    let amount : Contribution → ℕ = amount_at result row column r c in
    ap (λ n. n % 2 ^ 64) (sum_by_push amount contributed x) ∙ sym (mod-add-mod (sum_by amount contributed) (2 ^ 64) (amount x))

entry_stays : (contributed : List Contribution) (x : Contribution) (result row column r c : ℕ) → amount_at result row column r c x ≡ 0
    → entry (contributed ++ x ∷ []) result row column r c ≡ entry contributed result row column r c
unfolding entry
entry_stays contributed x result row column r c none =
    let amount : Contribution → ℕ = amount_at result row column r c in
    ap (λ n. n % 2 ^ 64) (sum_by_push amount contributed x ∙ omega (arith, none))

-- ---- values

value_is : (value : Value) (rows columns : ℕ) (words : List ℕ) → value.rows ≡ rows → value.columns ≡ columns → value.words ≡ words
    → value ≡ record { rows = rows; columns = columns; words = words }
value_is value rows columns words same_rows same_columns same_words =
    ap (λ n. record { rows = n; columns = value.columns; words = value.words }) same_rows
    ∙ ap (λ n. record { rows = rows; columns = n; words = value.words }) same_columns
    ∙ ap (λ l. record { rows = rows; columns = columns; words = l }) same_words

zero_at : (n i : ℕ) → get_or (replicate {A = ℕ} n 0) i 0 ≡ 0
zero_at n i = elim (cases_lt i n) [
  | inl below ↦ get_or-replicate n i 0 0 below
  | inr past ↦ get_or_past (replicate {A = ℕ} n 0) i 0 (omega (arith, length-replicate {A = ℕ} n 0))
]

-- a value of zeros
pub zeros_are : (sets : List SetValue) (result : TypedResult) (value : Value) → value.rows ≡ (set_at sets result.rows.set).count * height result.block
    → value.columns ≡ elements_of sets result.columns * width result.block → value.words ≡ replicate (value.rows * value.columns) 0 → value ≡ assembled sets [] 0 result
unfolding assembled entry
zeros_are sets result value same_rows same_columns words =
    let rows : ℕ = (set_at sets result.rows.set).count in
    let columns : ℕ = elements_of sets result.columns in
    let zeros : Entries = λ row r column c. entry [] 0 row column r c in
    let long : length value.words ≡ rows * height result.block * (columns * width result.block) =
    ap length words ∙ length-replicate (value.rows * value.columns) 0 ∙ ap (λ n. n * value.columns) same_rows ∙ ap (λ n. rows * height result.block * n) same_columns in
    value_is value (rows * height result.block) (columns * width result.block) (words_of rows (height result.block) columns (width result.block) zeros) same_rows same_columns
    (words_are rows (height result.block) columns (width result.block) zeros value.words long
    (λ row r column c row_in r_in column_in c_in. ap (λ l. get_or l (index_of (height result.block) columns (width result.block) row r column c) 0) words ∙ zero_at (value.rows * value.columns) (index_of (height result.block) columns (width result.block) row r column c)))

-- ---- a block in a value

-- the block of an element ends where the next begins
block_fits : (n count size : ℕ) → n < count → n * size + size ≤ count * size
block_fits n count size below = omega (arith, mul-le-mul_right size below)

-- of two elements' blocks, a place in one is in the other only where they are one
same_element : (n m i size : ℕ) → i < size → m * size ≤ n * size + i → n * size + i < m * size + size → m ≡ n
same_element n m i size within from below = elim (cases_lt n m) [
  | inl before ↦ absurd (omega (arith, block_fits n m size before))
  | inr not_before ↦ elim (cases_lt m n) [
    | inl after ↦ absurd (omega (arith, block_fits m n size after))
    | inr not_after ↦ omega arith
  ]
]

abbrev entries_of : List Contribution → ℕ → Entries
entries_of contributed result row r column c = entry contributed result row column r c

-- where a contribution's block lies
abbrev place : ℕ → ℕ → Contribution → Region
place height width x = record { top = x.row * height; bottom = x.row * height + height; left = x.column * width; right = x.column * width + width }

module _ (rows height columns width : ℕ) (contributed : List Contribution) (x : Contribution) (old new : List ℕ) (is : old ≡ words_of rows height columns width (entries_of contributed x.result)) where
  word_before : (row r column c : ℕ) → row < rows → r < height → column < columns → c < width
      → get_or old (index_of height columns width row r column c) 0 ≡ entry contributed x.result row column r c
  word_before row r column c row_in r_in column_in c_in =
      ap (λ l. get_or l (index_of height columns width row r column c) 0) is
      ∙ word_is_entry rows height columns width (entries_of contributed x.result) row r column c row_in r_in column_in c_in

  index_in : (row r column c : ℕ) → row < rows → r < height → column < columns → c < width → index_of height columns width row r column c < length old
  index_in row r column c row_in r_in column_in c_in =
      let in_row : column * width + c < columns * width = row_before column columns width c column_in c_in in
      let in_rows : row * height + r < rows * height = row_before row rows height r row_in r_in in
      let long : length old ≡ rows * height * (columns * width) = ap length is ∙ words_length rows height columns width (entries_of contributed x.result) in
      omega (arith, long, row_before (row * height + r) (rows * height) (columns * width) (column * width + c) in_rows in_row)

  -- an entry of the contribution's own place grows by the word of its block
  word_here : BlockAdded (place height width x) (columns * width) x.block.words x.block.columns old new
      → (r c : ℕ) → x.row < rows → r < height → x.column < columns → c < width
      → get_or new (index_of height columns width x.row r x.column c) 0 ≡ entry (contributed ++ x ∷ []) x.result x.row x.column r c
  word_here added r c row_in r_in column_in c_in =
      let from_top : x.row * height + r - x.row * height ≡ r = omega arith in
      let from_left : x.column * width + c - x.column * width ≡ c = omega arith in
      let before : get_or old (index_of height columns width x.row r x.column c) 0 ≡ entry contributed x.result x.row x.column r c =
      word_before x.row r x.column c row_in r_in column_in c_in in
      let amount : get_or x.block.words ((x.row * height + r - x.row * height) * x.block.columns + (x.column * width + c - x.column * width)) 0 ≡ amount_at x.result x.row x.column r c x =
      ap (λ n. get_or x.block.words (n * x.block.columns + (x.column * width + c - x.column * width)) 0) from_top
      ∙ ap (λ n. get_or x.block.words (r * x.block.columns + n) 0) from_left ∙ sym (amount_here r c x) in
      added.inside (x.row * height + r) (x.column * width + c) (record { top = omega arith; bottom = omega arith; left = omega arith; right = omega arith }) (index_in x.row r x.column c row_in r_in column_in c_in)
      ∙ ap (λ n. add n (get_or x.block.words ((x.row * height + r - x.row * height) * x.block.columns + (x.column * width + c - x.column * width)) 0)) before
      ∙ ap (λ n. add (entry contributed x.result x.row x.column r c) n) amount
      ∙ sym (entry_grows contributed x x.result x.row x.column r c)

  -- one of another place stays
  word_elsewhere : BlockAdded (place height width x) (columns * width) x.block.words x.block.columns old new
      → (row r column c : ℕ) → row < rows → r < height → column < columns → c < width → (x.row ≡ row → x.column ≡ column → ⊥)
      → get_or new (index_of height columns width row r column c) 0 ≡ entry (contributed ++ x ∷ []) x.result row column r c
  word_elsewhere added row r column c row_in r_in column_in c_in other =
      added.outside (row * height + r) (column * width + c) (row_before column columns width c column_in c_in)
      (λ inside. other (same_element row x.row r height r_in inside.top inside.bottom) (same_element column x.column c width c_in inside.left inside.right))
      ∙ word_before row r column c row_in r_in column_in c_in
      ∙ sym (entry_stays contributed x x.result row column r c (amount_elsewhere x.result row column r c x (λ _. other)))

  -- where the block's place is there, its words are added to the entries
  words_added : BlockAdded (place height width x) (columns * width) x.block.words x.block.columns old new
      → (row r column c : ℕ) → row < rows → r < height → column < columns → c < width
      → get_or new (index_of height columns width row r column c) 0 ≡ entry (contributed ++ x ∷ []) x.result row column r c
  words_added added row r column c row_in r_in column_in c_in = elim (cases_eq x.row row) [
    | inl e ↦ elim (cases_eq x.column column) [
      | inl f ↦
          let Same : ℕ → ℕ → Type 0 = λ n m. get_or new (index_of height columns width n r m c) 0 ≡ entry (contributed ++ x ∷ []) x.result n m r c in
          subst (λ n. Same n column) e (subst (λ m. Same x.row m) f (word_here added r c (subst (λ n. n < rows) (sym e) row_in) r_in (subst (λ m. m < columns) (sym f) column_in) c_in))
      | inr differs ↦ word_elsewhere added row r column c row_in r_in column_in c_in (λ _ f. differs f)
    ]
    | inr differs ↦ word_elsewhere added row r column c row_in r_in column_in c_in (λ e _. differs e)
  ]

  -- where it isn't, all entries stay
  words_stay : (rows * height < x.row * height + height) ⊎ (columns * width < x.column * width + width) → new ≡ old
      → (row r column c : ℕ) → row < rows → r < height → column < columns → c < width
      → get_or new (index_of height columns width row r column c) 0 ≡ entry (contributed ++ x ∷ []) x.result row column r c
  words_stay away same row r column c row_in r_in column_in c_in =
      let other : (x.row ≡ row → x.column ≡ column → ⊥) = λ e f. elim away [
        | inl tall ↦ let below : x.row < rows = subst (λ n. n < rows) (sym e) row_in in absurd (omega (arith, tall, block_fits x.row rows height below))
        | inr wide ↦ let below : x.column < columns = subst (λ n. n < columns) (sym f) column_in in absurd (omega (arith, wide, block_fits x.column columns width below))
      ] in
      ap (λ l. get_or l (index_of height columns width row r column c) 0) same
      ∙ word_before row r column c row_in r_in column_in c_in
      ∙ sym (entry_stays contributed x x.result row column r c (amount_elsewhere x.result row column r c x (λ _. other)))

-- a result to which a contribution's block was added is the one with that contribution
value_added : (sets : List SetValue) (contributed : List Contribution) (x : Contribution) (result : TypedResult) (new : Value)
    → ValueAdded (region_of result.block x.row x.column) x.block.words x.block.columns (assembled sets contributed x.result result) new
    → new ≡ assembled sets (contributed ++ x ∷ []) x.result result
unfolding assembled
value_added sets contributed x result new added =
    let rows : ℕ = (set_at sets result.rows.set).count in
    let columns : ℕ = elements_of sets result.columns in
    let high : ℕ = height result.block in
    let wide : ℕ = width result.block in
    let old : List ℕ = words_of rows high columns wide (entries_of contributed x.result) in
    let long : length old ≡ rows * high * (columns * wide) = words_length rows high columns wide (entries_of contributed x.result) in
    let finish = λ (same : length new.words ≡ length old) (each : (row r column c : ℕ) → row < rows → r < high → column < columns → c < wide
    → get_or new.words (index_of high columns wide row r column c) 0 ≡ entry (contributed ++ x ∷ []) x.result row column r c).
    value_is new (rows * high) (columns * wide) (words_of rows high columns wide (entries_of (contributed ++ x ∷ []) x.result)) added.same_rows added.same_columns
    (words_are rows high columns wide (entries_of (contributed ++ x ∷ []) x.result) new.words (same ∙ long) each) in
    elim (cases_lt (rows * high) (x.row * high + high)) [
      | inl tall ↦ let stays : new.words ≡ old = added.away (inl tall) in finish (ap length stays) (words_stay rows high columns wide contributed x old new.words refl (inl tall) stays)
      | inr rows_in ↦ elim (cases_lt (columns * wide) (x.column * wide + wide)) [
        | inl broad ↦ let stays : new.words ≡ old = added.away (inr broad) in finish (ap length stays) (words_stay rows high columns wide contributed x old new.words refl (inr broad) stays)
        | inr columns_in ↦
            let block : BlockAdded (place high wide x) (columns * wide) x.block.words x.block.columns old new.words = added.within rows_in columns_in in
            finish block.same_length (words_added rows high columns wide contributed x old new.words refl block)
      ]
    ]

-- ---- all results

-- a result of another number stays
assembled_stays : (sets : List SetValue) (contributed : List Contribution) (x : Contribution) (number : ℕ) (result : TypedResult) → (x.result ≡ number → ⊥)
    → assembled sets (contributed ++ x ∷ []) number result ≡ assembled sets contributed number result
unfolding assembled
assembled_stays sets contributed x number result other =
    let rows : ℕ = (set_at sets result.rows.set).count in
    let columns : ℕ = elements_of sets result.columns in
    let same : entries_of (contributed ++ x ∷ []) number ≡ entries_of contributed number =
    fun_ext (λ row. fun_ext (λ r. fun_ext (λ column. fun_ext (λ c. entry_stays contributed x number row column r c (amount_elsewhere number row column r c x (λ e _ _. other e)))))) in
    ap (λ entries. record { rows = rows * height result.block; columns = columns * width result.block; words = words_of rows (height result.block) columns (width result.block) entries }) same

all_stay : (sets : List SetValue) (contributed : List Contribution) (x : Contribution) (number : ℕ) (results : List TypedResult)
    → ((i : ℕ) → i < length results → x.result ≡ number + i → ⊥) → all_assembled sets (contributed ++ x ∷ []) number results ≡ all_assembled sets contributed number results
all_stay sets contributed x number [] none = refl
all_stay sets contributed x number (result ∷ results) none =
    ap (λ v. v ∷ all_assembled sets (contributed ++ x ∷ []) (suc number) results) (assembled_stays sets contributed x number result (λ e. none 0 (omega arith) (omega (arith, e))))
    ∙ ap (λ l. assembled sets contributed number result ∷ l) (all_stay sets contributed x (suc number) results (λ i below e. none (suc i) (omega arith) (omega (arith, e))))

one_changed : (sets : List SetValue) (contributed : List Contribution) (x : Contribution) (number : ℕ) (results : List TypedResult) (i : ℕ) (d : TypedResult)
    → x.result ≡ number + i → i < length results
    → set (all_assembled sets contributed number results) i (assembled sets (contributed ++ x ∷ []) x.result (get_or results i d)) ≡ all_assembled sets (contributed ++ x ∷ []) number results
one_changed sets contributed x number [] i d is below = absurd (omega arith)
one_changed sets contributed x number (result ∷ results) zero d is below =
    let same : x.result ≡ number = omega (arith, is) in
    ap (λ n. assembled sets (contributed ++ x ∷ []) n result ∷ all_assembled sets contributed (suc number) results) same
    ∙ ap (λ l. assembled sets (contributed ++ x ∷ []) number result ∷ l) (sym (all_stay sets contributed x (suc number) results (λ i within e. absurd (omega (arith, e, same)))))
one_changed sets contributed x number (result ∷ results) (suc i) d is below =
    ap (λ l. assembled sets contributed number result ∷ l) (one_changed sets contributed x (suc number) results i d (omega (arith, is)) (omega arith))
    ∙ ap (λ v. v ∷ all_assembled sets (contributed ++ x ∷ []) (suc number) results) (sym (assembled_stays sets contributed x number result (λ e. absurd (omega (arith, e, is)))))

assembled_at : (sets : List SetValue) (contributed : List Contribution) (number : ℕ) (results : List TypedResult) (i : ℕ) (d : TypedResult) (e : Value) → i < length results
    → get_or (all_assembled sets contributed number results) i e ≡ assembled sets contributed (number + i) (get_or results i d)
assembled_at sets contributed number [] i d e below = absurd (omega arith)
assembled_at sets contributed number (result ∷ results) zero d e below = let same : number ≡ number + zero = omega arith in ap (λ n. assembled sets contributed n result) same
assembled_at sets contributed number (result ∷ results) (suc i) d e below =
    let same : suc number + i ≡ number + suc i = omega arith in
    assembled_at sets contributed (suc number) results i d e (omega arith) ∙ ap (λ n. assembled sets contributed n (get_or results i d)) same

all_length : (sets : List SetValue) (contributed : List Contribution) (number : ℕ) (results : List TypedResult) → length (all_assembled sets contributed number results) ≡ length results
all_length sets contributed number [] = refl
all_length sets contributed number (result ∷ results) = ap suc (all_length sets contributed (suc number) results)

-- a block was added to one of the results
pub sums_added : (results : List TypedResult) (x : Contribution) (d : TypedResult) (e : Value) (old : List Value) (before new : Value) (region : Region) → x.result < length results
    → region ≡ region_of (get_or results x.result d).block x.row x.column → before ≡ get_or old x.result e → ValueAdded region x.block.words x.block.columns before new
    → (sets : List SetValue) (contributed : List Contribution) → old ≡ all_assembled sets contributed 0 results → set old x.result new ≡ all_assembled sets (contributed ++ x ∷ []) 0 results
sums_added results x d e old before new region below lies stood added sets contributed known =
    let result : TypedResult = get_or results x.result d in
    let same : 0 + x.result ≡ x.result = omega arith in
    let was : before ≡ assembled sets contributed x.result result =
    stood ∙ ap (λ l. get_or l x.result e) known ∙ assembled_at sets contributed 0 results x.result d e below ∙ ap (λ n. assembled sets contributed n result) same in
    let at_place : ValueAdded (region_of result.block x.row x.column) x.block.words x.block.columns before new = subst (λ r. ValueAdded r x.block.words x.block.columns before new) lies added in
    let after : new ≡ assembled sets (contributed ++ x ∷ []) x.result result =
    value_added sets contributed x result new (subst (λ v. ValueAdded (region_of result.block x.row x.column) x.block.words x.block.columns v new) was at_place) in
    ap (λ l. set l x.result new) known ∙ ap (λ v. set (all_assembled sets contributed 0 results) x.result v) after ∙ one_changed sets contributed x 0 results x.result d (sym same) below

-- the result isn't there
pub sums_stay : (results : List TypedResult) (x : Contribution) (old : List Value) → (length results ≤ x.result) ⊎ (length old ≤ x.result)
    → (sets : List SetValue) (contributed : List Contribution) → old ≡ all_assembled sets contributed 0 results → old ≡ all_assembled sets (contributed ++ x ∷ []) 0 results
sums_stay results x old past sets contributed known =
    let long : length old ≡ length results = ap length known ∙ all_length sets contributed 0 results in
    let beyond : length results ≤ x.result = elim past [ inl results_end ↦ results_end | inr values_end ↦ omega (arith, long) ] in
    known ∙ sym (all_stay sets contributed x 0 results (λ i below e. absurd (omega (arith, e, beyond))))

-- ---- before all contributions

-- without contributions the number of a result doesn't count
no_number : (sets : List SetValue) (number : ℕ) (result : TypedResult) → assembled sets [] 0 result ≡ assembled sets [] number result
unfolding assembled entry
no_number sets number result = refl

pub none_added : (sets : List SetValue) (number : ℕ) (results : List TypedResult) → map (assembled sets [] 0) results ≡ all_assembled sets [] number results
none_added sets number [] = refl
none_added sets number (result ∷ results) =
    ap (λ v. v ∷ map (assembled sets [] 0) results) (no_number sets number result) ∙ ap (λ l. assembled sets [] number result ∷ l) (none_added sets (suc number) results)
