-- Lists that grow along the numbers from 0 on.
use Rattle.std.specs.Prelude.{◌≡◌, ℕ, ◌+◌, ◌++◌, ◌∷◌, [], List, map}
use Rattle.std.specs.List.{flat_map, range_with_len}

pub record RowLaws (A : Type 0) : Type 0 where
  -- a row without an entry so far
  pub row_begun : (f : ℕ → A) (before : List A) → before ≡ before ++ map f (range_with_len 0 0)
  -- one with another entry
  pub row_grown : (f : ℕ → A) (before old new : List A) (n : ℕ) → old ≡ before ++ map f (range_with_len 0 n) → new ≡ old ++ f n ∷ []
      → new ≡ before ++ map f (range_with_len 0 (n + 1))
  -- no rows so far
  pub rows_begun : (f : ℕ → List A) (before : List A) → before ≡ before ++ flat_map f (range_with_len 0 0)
  -- rows with another row
  pub rows_grown : (f : ℕ → List A) (before old new : List A) (n : ℕ) → old ≡ before ++ flat_map f (range_with_len 0 n) → new ≡ old ++ f n
      → new ≡ before ++ flat_map f (range_with_len 0 (n + 1))
  -- the same where nothing stands before them
  pub rows_alone : (f : ℕ → List A) (old new : List A) (n : ℕ) → old ≡ flat_map f (range_with_len 0 n) → new ≡ old ++ f n
      → new ≡ flat_map f (range_with_len 0 (n + 1))
