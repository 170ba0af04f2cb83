-- The first row of a table that passes a test is at the first index that does, where each row's number is its index.
use Rattle.std.proofs.Common.{◌≡◌, ℕ, zero, suc, ◌+◌, ◌<◌, ◌≤◌, Bool, true, false, cond, not, List, [], ◌∷◌, length, get_or, drop, map, ◌++◌, length-append, Option, Some, None, refl, sym, ap, ◌∙◌, arith, Bor, inl, inr}
use Rattle.std.specs.Prelude.{IfSome, position, find, option_map, nat_lt, nat_eq}
use Rattle.std.specs.List.{position_or_len, range_with_len, starts_with}
use Rattle.std.proofs.lemmas.List.{get_or-map}
use Rattle.std.proofs.lemmas.List.Sums.{passes_at_first}
use Rattle.std.proofs.lemmas.Slice.Eq.{starts_is}
use Rattle.std.proofs.lemmas.Bool.Decides.{Decides-eqb}
use Rattle.std.proofs.lemmas.Bool.{cases_lt, lt-ltb, le-ltb}

-- a row of a table: a spelling and a number
abbrev pub Row : Type 0
Row = Bor (List ℕ) × ℕ

abbrev pub spelling : Row → List ℕ
spelling row = row.0.now

abbrev pub number : Row → ℕ
number row = row.1

next_below : (k n : ℕ) → nat_lt (1 + k) (suc n) ≡ nat_lt k n
next_below k n =
    elim (cases_lt k n) [
      | inl lt ↦ lt-ltb (1 + k) (suc n) (omega arith) ∙ sym (lt-ltb k n lt)
      | inr le ↦ le-ltb (1 + k) (suc n) (omega arith) ∙ sym (le-ltb k n le)
    ]

next_index : (b : Bool) (k : ℕ) → cond b (Some (1 + k)) None ≡ option_map (λ i. suc i) (cond b (Some k) None)
next_index true k = ap Some (omega arith)
next_index false k = refl

position_cons : {X : Type 0} (p : X → Bool) (x : X) (xs : List X) → position p (x ∷ xs) ≡ cond (p x) (Some 0) (option_map (λ k. suc k) (position p xs))
position_cons p x xs = go (p x)
  where
    go : (b : Bool) → cond (nat_lt (cond (not b) (1 + position_or_len p xs) 0) (suc (length xs))) (Some (cond (not b) (1 + position_or_len p xs) 0)) None ≡ cond b (Some 0) (option_map (λ k. suc k) (position p xs))
    go true = ap (λ b. cond b (Some 0) None) (lt-ltb 0 (suc (length xs)) (omega arith))
    go false = ap (λ b. cond b (Some (1 + position_or_len p xs)) None) (next_below (position_or_len p xs) (length xs)) ∙ next_index (nat_lt (position_or_len p xs) (length xs)) (position_or_len p xs)

option_map_suc : {Y : Type 0} (g : ℕ → Y) (o : Option ℕ) → option_map g (option_map (λ k. suc k) o) ≡ option_map (λ k. g (suc k)) o
option_map_suc g None = refl
option_map_suc g (Some k) = refl

-- f of the first row that passes, where f of each row is g of its index
pub first_row : {Y : Type 0} (f : Row → Y) (g : ℕ → Y) (p : List ℕ → Bool) (rows : List Row) → ((k : ℕ) (d : Row) → k < length rows → f (get_or rows k d) ≡ g k)
    → option_map f (find (λ row. p (spelling row)) rows) ≡ option_map g (position p (map spelling rows))
first_row f g p [] h = refl
first_row {Y} f g p (row ∷ rows) h =
    go (p (spelling row)) (first_row f (λ k. g (suc k)) p rows (λ k d lt. h (suc k) d (omega arith))) ∙ ap (option_map g) (sym (position_cons p (spelling row) (map spelling rows)))
  where
    go : (b : Bool) → option_map f (find (λ r. p (spelling r)) rows) ≡ option_map (λ k. g (suc k)) (position p (map spelling rows))
        → option_map f (cond b (Some row) (find (λ r. p (spelling r)) rows)) ≡ option_map g (cond b (Some 0) (option_map (λ k. suc k) (position p (map spelling rows))))
    go true e = ap (λ (y : Y). Some y) (h 0 row (omega arith))
    go false e = e ∙ sym (option_map_suc g (position p (map spelling rows)))

-- the number of each row is its index
abbrev pub AreNumbered : List Row → Type 0
AreNumbered rows = map number rows ≡ range_with_len 0 (length rows)

numbers : (rows : List Row) (n : ℕ) → map number rows ≡ range_with_len n (length rows) → (k : ℕ) (d : Row) → k < length rows → number (get_or rows k d) ≡ n + k
numbers [] n e k d lt = absurd (omega arith)
numbers (row ∷ rows) n e zero d lt = let head : number row ≡ n = cc in omega (arith, head)
numbers (row ∷ rows) n e (suc k) d lt =
    let tail : map number rows ≡ range_with_len (n + 1) (length rows) = cc in
    omega (arith, numbers rows (n + 1) tail k d (omega arith))

pub first_number : (p : List ℕ → Bool) (rows : List Row) → AreNumbered rows → option_map number (find (λ row. p (spelling row)) rows) ≡ position p (map spelling rows)
first_number p rows e =
    first_row number (λ k. k) p rows (λ k d lt. omega (arith, numbers rows 0 e k d lt)) ∙ same (position p (map spelling rows))
  where
    same : (o : Option ℕ) → option_map (λ (k : ℕ). k) o ≡ o
    same None = refl
    same (Some k) = refl

-- the number and the length of a row's spelling
abbrev pub number_and_length : Row → ℕ × ℕ
number_and_length row = (number row, length (spelling row))

pub first_number_and_length : (p : List ℕ → Bool) (rows : List Row) → AreNumbered rows
    → option_map number_and_length (find (λ row. p (spelling row)) rows) ≡ option_map (λ k. (k, length (get_or (map spelling rows) k []))) (position p (map spelling rows))
first_number_and_length p rows e =
    first_row number_and_length (λ k. (k, length (get_or (map spelling rows) k []))) p rows
    (λ k d lt. let n : number (get_or rows k d) ≡ k = omega (arith, numbers rows 0 e k d lt) in
    let t : spelling (get_or rows k d) ≡ get_or (map spelling rows) k [] = sym (get_or-map spelling rows k d [] lt) in
    λ i. (n i, length (t i)))

-- a spelling with which a text begins is no longer than the text
begins_within : (text s : List ℕ) → starts_with nat_eq text s ≡ true → length s ≤ length text
begins_within text s e =
    let parts : text ≡ s ++ drop (length s) text = (starts_is Decides-eqb text s (starts_with nat_eq text s) refl).0 e in
    omega (arith, simp length-append at (ap length parts))

-- the length that is found is that of a prefix of the text
pub found_within : (text : List ℕ) (spellings : List (List ℕ)) → IfSome {T = ℕ × ℕ} (option_map (λ k. (k, length (get_or spellings k []))) (position (starts_with nat_eq text) spellings)) (λ found. found.1 ≤ length text)
found_within text spellings =
    elim (cases_lt (position_or_len (starts_with nat_eq text) spellings) (length spellings)) [
      | inl lt ↦ rw (lt-ltb _ _ lt) (begins_within text _ (passes_at_first (starts_with nat_eq text) spellings [] lt))
      | inr le ↦ rw (le-ltb _ _ le) tt
    ]
