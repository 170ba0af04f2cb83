use Rattle.std.proofs.Common.{◌≡◌, ℕ, ◌+◌, map}
use Rattle.std.specs.Prelude.{min}
use Rattle.std.specs.List.{range_with_len}
use Rattle.hypergraph.specs.SetValue.{column_at}
use Rattle.hypergraph.specs.Sets.{set_at}
use Rattle.value_algebra.specs.declared.fields.TheConstants.{PAST_COLUMNS}
use Rattle.value_algebra.proofs.fields.columns_from.Given as goal

abbrev pub invariant-loop-component : goal.invariant-loop-component
invariant-loop-component l =
    (number : ℕ) → min number PAST_COLUMNS ≡ l.first
    → map (λ words. words.now) l.columns.items ≡ map (λ component. column_at (set_at l.sets l.set) (number + component)) (range_with_len 0 l.component)
