-- Which calls of an object over memory fail: those whose numbers are listed, counted from 0.
use Rattle.std.specs.Prelude.{ℕ, Bool, ◌==◌, List}
use Rattle.std.specs.List.{list_any}

abbrev pub is_planned : List ℕ → ℕ → Bool
is_planned fail number = list_any (λ n. n == number) fail
