-- A cursor over a table's records, as private contracts see it.
use Rattle.std.specs.Prelude.{ℕ, List}

-- the cells of the record that was read last, and the records after it
pub record Cursor : Type 0 where
  pub row : List (List ℕ)
  pub left : List (List (List ℕ))
