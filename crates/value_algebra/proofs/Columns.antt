-- The columns before a field, cut down to a bound, and columns of one length.
use Rattle.std.proofs.Common.{◌≡◌, ℕ, suc, ◌+◌, ◌*◌, ◌<◌, List, [], ◌∷◌, ◌++◌, length, map, get_or, set, sym, ap, ◌∙◌, inl, inr, arith, length-append}
use Rattle.std.specs.Prelude.{fold, min}
use Rattle.std.specs.List.{flat_map, range_with_len, sum_by}
use mathlib.Core.Path.{fun_ext}
use Rattle.std.proofs.Math.ListN.{get_or-append}
use Rattle.std.proofs.lemmas.Bool.{cases_eq, cases_lt}
use Rattle.std.proofs.lemmas.List.{get_or_push, get_or-set_same, map-append, set_past, set-set}
use Rattle.std.proofs.lemmas.Grind.{same_number_lists}
use Rattle.std.proofs.lemmas.Simd.{map-map}
use Rattle.std.proofs.lemmas.List.Concat.{flat_map_single}
use Rattle.std.proofs.lemmas.List.FromFn.{get_or-map-range_with_len, length-map-range_with_len, map-range_with_len_more}
use Rattle.std.proofs.lemmas.List.Sums.{sum_by-cons}
use Rattle.hypergraph.specs.SetValue.{SetValue, column_at, with_column}
use Rattle.hypergraph.specs.Sets.{set_at, empty_set}
use Rattle.typed_tree.specs.Cost.{entries_in}
use Rattle.typed_tree.specs.declared.program.TypedField.{TypedField}
use Rattle.value_algebra.specs.Fields.{HaveLength, block_of, column_words, element_words, entry_of, first_column, with_columns}

cut_from : {X : Type 0} (most : ℕ) (f : X → ℕ) (before : ℕ) (xs : List X)
    → min before most ≡ before → fold (λ so_far x. min (so_far + f x) most) before xs ≡ min (before + sum_by f xs) most
cut_from most f before [] cut = sym cut ∙ ap (λ n. min n most) (omega arith)
cut_from most f before (x ∷ xs) cut =
    cut_from most f (min (before + f x) most) xs (omega arith) ∙ omega (arith, sum_by-cons f x xs)

pub cut_sum : {X : Type 0} (most : ℕ) (f : X → ℕ) (xs : List X) → fold (λ so_far x. min (so_far + f x) most) 0 xs ≡ min (sum_by f xs) most
cut_sum most f xs = cut_from most f 0 xs (omega arith) ∙ ap (λ n. min n most) (omega arith)

-- ---- columns of one length

pub no_columns : (count : ℕ) → HaveLength count []
no_columns count = record { at = λ i below. absurd (omega arith) }

-- another column of that length
pub more_columns : (count : ℕ) (columns grown : List (List ℕ)) (words : List ℕ) → HaveLength count columns → grown ≡ columns ++ words ∷ [] → length words ≡ count → HaveLength count grown
more_columns count columns grown words all more size = record {
  at = λ i below.
      let longer : length grown ≡ length columns + 1 = ap length more ∙ simp length-append (omega arith) in
      elim (cases_eq i (length columns)) [
        | inl e ↦ rw more (ap length (get_or_push columns words [] i (sym e)) ∙ size)
        | inr ne ↦ let within : i < length columns = omega arith in rw more (ap length (get_or-append columns (words ∷ []) [] i within) ∙ all.at i within)
      ];
}

-- the first column, and those after it
pub first_of : (count : ℕ) (words : List ℕ) (columns : List (List ℕ)) → HaveLength count (words ∷ columns) → length words ≡ count
first_of count words columns all = all.at 0 (omega arith)

pub rest_of : (count : ℕ) (words : List ℕ) (columns : List (List ℕ)) → HaveLength count (words ∷ columns) → HaveLength count columns
rest_of count words columns all = record { at = λ i below. all.at (suc i) (omega arith) }

-- a list of the values of f has another one
pub list_more : {A : Type 0} (f : ℕ → A) (old new : List A) (n : ℕ) (x : A) → old ≡ map f (range_with_len 0 n) → new ≡ old ++ x ∷ [] → x ≡ f n
    → new ≡ map f (range_with_len 0 (n + 1))
list_more f old new n x so_far more is =
    more ∙ ap (λ l. l ++ x ∷ []) so_far ∙ ap (λ y. map f (range_with_len 0 n) ++ y ∷ []) is ∙ sym (map-range_with_len_more f 0 n n (omega arith))

-- a column has as many words as the set has elements
pub column_length : (count size : ℕ) (all : List ℕ) (component : ℕ) (words : List ℕ) → words ≡ column_words count size all component → length words ≡ count
column_length count size all component words is =
    ap length is ∙ length-map-range_with_len (λ element. get_or all (element * size + component) 0) 0 count

-- the words of one column, element after element, are its words
pub as_they_stand : (words : List ℕ) (count : ℕ) → length words ≡ count → map (λ element. get_or words element 0) (range_with_len 0 count) ≡ words
as_they_stand words count size =
    let many : length (map (λ element. get_or words element 0) (range_with_len 0 count)) ≡ count = length-map-range_with_len (λ element. get_or words element 0) 0 count in
    same_number_lists (map (λ element. get_or words element 0) (range_with_len 0 count)) words (many ∙ sym size)
    (λ k below. get_or-map-range_with_len (λ element. get_or words element 0) 0 count k k 0 (omega (arith, many)) (omega arith))

-- a column of its own
pub one_column : (words : List ℕ) (count size : ℕ) (columns : List (List ℕ)) → size ≡ 1 → length words ≡ count → columns ≡ words ∷ []
    → columns ≡ map (column_words count size words) (range_with_len 0 size)
one_column words count size columns one many is =
    let itself : column_words count 1 words 0 ≡ words =
    ap (λ (f : ℕ → ℕ). map f (range_with_len 0 count)) (fun_ext (λ element. ap (λ n. get_or words n 0) (let same : element * 1 + 0 ≡ element = omega arith in same)))
    ∙ as_they_stand words count many in
    is ∙ ap (λ w. w ∷ []) (sym itself) ∙ ap (λ n. map (column_words count n words) (range_with_len 0 n)) (sym one)

pub one_length : (words : List ℕ) (count : ℕ) (columns : List (List ℕ)) → length words ≡ count → columns ≡ words ∷ [] → HaveLength count columns
one_length words count columns many is = more_columns count [] columns words (no_columns count) is many

-- ---- a field over a set

-- another column is looked up
pub next_column : {B : Type 0} (now : B → List ℕ) (set : SetValue) (number n : ℕ) (old new : List B) (one : B)
    → map now old ≡ map (λ component. column_at set (number + component)) (range_with_len 0 n) → new ≡ old ++ one ∷ [] → now one ≡ column_at set (number + n)
    → map now new ≡ map (λ component. column_at set (number + component)) (range_with_len 0 (n + 1))
next_column now set number n old new one so_far more is =
    let f : ℕ → List ℕ = λ component. column_at set (number + component) in
    ap (map now) more ∙ map-append now old (one ∷ []) ∙ ap (λ l. l ++ now one ∷ []) so_far
    ∙ ap (λ words. map f (range_with_len 0 n) ++ words ∷ []) is ∙ sym (map-range_with_len_more f 0 n n (omega arith))

-- words in columns are those of the elements
pub columns_read : {B : Type 0} (now : B → List ℕ) (set : SetValue) (number size count : ℕ) (columns : List B) (before : List ℕ)
    → map now columns ≡ map (λ component. column_at set (number + component)) (range_with_len 0 size) → count ≡ set.count
    → before ++ flat_map (λ element. map (λ column. get_or (now column) element 0) columns) (range_with_len 0 count)
    ≡ before ++ flat_map (λ element. map (λ component. entry_of set element (number + component)) (range_with_len 0 size)) (range_with_len 0 set.count)
columns_read now set number size count columns before are as_many =
    let each : (element : ℕ) → map (λ column. get_or (now column) element 0) columns ≡ map (λ component. entry_of set element (number + component)) (range_with_len 0 size) =
    λ element. sym (map-map (λ (words : List ℕ). get_or words element 0) now columns) ∙ ap (map (λ (words : List ℕ). get_or words element 0)) are
    ∙ map-map (λ (words : List ℕ). get_or words element 0) (λ component. column_at set (number + component)) (range_with_len 0 size) in
    ap (λ (f : ℕ → List ℕ). before ++ flat_map f (range_with_len 0 count)) (fun_ext each)
    ∙ ap (λ n. before ++ flat_map (λ element. map (λ component. entry_of set element (number + component)) (range_with_len 0 size)) (range_with_len 0 n)) as_many

-- one column whole
pub column_over : (fields : List TypedField) (set : SetValue) (field first size : ℕ) (before after words : List ℕ)
    → first_column fields field ≡ first → entries_in (block_of fields field) ≡ size → size ≡ 1 → words ≡ column_at set first → length words ≡ set.count → after ≡ before ++ words
    → after ≡ before ++ flat_map (element_words fields set field) (range_with_len 0 set.count)
column_over fields set field first size before after words begins sized one is many grown =
    let each : (element : ℕ) → element_words fields set field element ≡ get_or words element 0 ∷ [] =
    λ element. ap (λ n. map (λ component. entry_of set element (first_column fields field + component)) (range_with_len 0 n)) (sized ∙ one)
    ∙ ap (λ n. entry_of set element n ∷ []) (let same : first_column fields field + 0 ≡ first = omega (arith, begins) in same)
    ∙ ap (λ l. get_or l element 0 ∷ []) (sym is) in
    grown ∙ ap (λ l. before ++ l)
    (sym (ap (λ (f : ℕ → List ℕ). flat_map f (range_with_len 0 set.count)) (fun_ext each)
    ∙ flat_map_single (λ element. get_or words element 0) (range_with_len 0 set.count) ∙ as_they_stand words set.count many))

-- ---- columns that are replaced one after the other

-- the sets with other columns in the set of a number
abbrev pub assigned : List SetValue → ℕ → ℕ → List (List ℕ) → List SetValue
assigned sets i number columns = set sets i (with_columns (set_at sets i) number columns)

-- the first of them is
pub column_set : (sets next : List SetValue) (i number : ℕ) (words : List ℕ) (columns : List (List ℕ))
    → next ≡ set sets i (with_column (set_at sets i) number words) → assigned next i (number + 1) columns ≡ assigned sets i number (words ∷ columns)
column_set sets next i number words columns is = elim (cases_lt i (length sets)) [
  | inl there ↦
      let changed : SetValue = with_column (set_at sets i) number words in
      let same : set_at next i ≡ changed = ap (λ s. set_at s i) is ∙ get_or-set_same sets i changed empty_set there in
      ap (λ s. set next i (with_columns s (number + 1) columns)) same
      ∙ ap (λ s. set s i (with_columns changed (number + 1) columns)) is
      ∙ set-set sets i changed (with_columns changed (number + 1) columns)
  | inr past ↦
      let unchanged : next ≡ sets = is ∙ set_past sets i (with_column (set_at sets i) number words) past in
      ap (λ s. assigned s i (number + 1) columns) unchanged
      ∙ set_past sets i (with_columns (set_at sets i) (number + 1) columns) past
      ∙ sym (set_past sets i (with_columns (set_at sets i) number (words ∷ columns)) past)
]

-- a set has as many elements as before
pub same_count : (sets next : List SetValue) (i number : ℕ) (words : List ℕ)
    → next ≡ set sets i (with_column (set_at sets i) number words) → (set_at next i).count ≡ (set_at sets i).count
same_count sets next i number words is = elim (cases_lt i (length sets)) [
  | inl there ↦ ap (λ (s : SetValue). s.count) (ap (λ s. set_at s i) is ∙ get_or-set_same sets i (with_column (set_at sets i) number words) empty_set there)
  | inr past ↦ ap (λ s. (set_at s i).count) (is ∙ set_past sets i (with_column (set_at sets i) number words) past)
]
