-- Loops over numbers: a word of the contracts inside this crate alone.
use Rattle.std.specs.Prelude.{ℕ, suc, List}
use Rattle.algebra_meaning.specs.Run.{Runs, count_up_to}

-- turns with the values from one up to below another, within the turns that are left
unfoldable pub counts : ℕ → ℕ → ℕ → List Runs → Runs
counts local from to body state = count_up_to (suc state.turns) local from to body state
