-- The spellings in the rows of a table.
use Rattle.std.proofs.Common.{◌≡◌, ℕ, ◌<◌, ◌≤◌, List, [], length, get_or, map, Bor, arith}
use Rattle.std.proofs.lemmas.List.{get_or-map, get_or_past, length-map}

abbrev pub Row : Type 0
Row = Bor (List ℕ) × ℕ

pub row_spelling : (rows : List Row) (n : ℕ) (d : Row) → n < length rows → get_or (map (λ (row : Row). row.0.now) rows) n [] ≡ (get_or rows n d).0.now
row_spelling rows n d lt = get_or-map (λ (row : Row). row.0.now) rows n d [] lt

pub no_row : (rows : List Row) (n : ℕ) → length rows ≤ n → get_or (map (λ (row : Row). row.0.now) rows) n [] ≡ []
no_row rows n le = get_or_past (map (λ (row : Row). row.0.now) rows) n [] (omega (arith, length-map rows (λ (row : Row). row.0.now)))
