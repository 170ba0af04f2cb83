-- Lists that grow along the numbers from 0 on.
use Rattle.std.proofs.Common.{◌≡◌, ℕ, ◌+◌, List, [], ◌∷◌, ◌++◌, map, sym, ap, ◌∙◌, arith, append_assoc, append-nil}
use Rattle.std.specs.List.{flat_map, range_with_len}
use Rattle.std.proofs.lemmas.List.{map-id, flat_map_more}
use Rattle.std.proofs.lemmas.List.FromFn.{map-range_with_len_more}

-- the next number
range_more : (n : ℕ) → range_with_len 0 (n + 1) ≡ range_with_len 0 n ++ n ∷ []
range_more n = simp map-id at (map-range_with_len_more (λ (x : ℕ). x) 0 n n (omega arith))

-- a row without an entry so far
pub row_begun : {A : Type 0} (f : ℕ → A) (before : List A) → before ≡ before ++ map f (range_with_len 0 0)
row_begun f before = sym (append-nil before)

-- one with another entry
pub row_grown : {A : Type 0} (f : ℕ → A) (before old new : List A) (n : ℕ) → old ≡ before ++ map f (range_with_len 0 n) → new ≡ old ++ f n ∷ []
    → new ≡ before ++ map f (range_with_len 0 (n + 1))
row_grown f before old new n so_far grown =
    grown ∙ ap (λ l. l ++ f n ∷ []) so_far ∙ append_assoc before (map f (range_with_len 0 n)) (f n ∷ [])
    ∙ ap (λ l. before ++ l) (sym (map-range_with_len_more f 0 n n (omega arith)))

-- no rows so far
pub rows_begun : {A : Type 0} (f : ℕ → List A) (before : List A) → before ≡ before ++ flat_map f (range_with_len 0 0)
rows_begun f before = sym (append-nil before)

-- rows with another row
pub rows_grown : {A : Type 0} (f : ℕ → List A) (before old new : List A) (n : ℕ) → old ≡ before ++ flat_map f (range_with_len 0 n) → new ≡ old ++ f n
    → new ≡ before ++ flat_map f (range_with_len 0 (n + 1))
rows_grown f before old new n so_far grown =
    grown ∙ ap (λ l. l ++ f n) so_far ∙ append_assoc before (flat_map f (range_with_len 0 n)) (f n)
    ∙ ap (λ l. before ++ l) (flat_map_more f [] (range_with_len 0 n) n ∙ ap (flat_map f) (sym (range_more n)))

-- the same where nothing stands before them
pub rows_alone : {A : Type 0} (f : ℕ → List A) (old new : List A) (n : ℕ) → old ≡ flat_map f (range_with_len 0 n) → new ≡ old ++ f n
    → new ≡ flat_map f (range_with_len 0 (n + 1))
rows_alone f old new n so_far grown = rows_grown f [] old new n so_far grown
