use Rattle.std.proofs.Common.{◌≡◌, ◌++◌, map}
use Rattle.std.specs.List.{range_with_len}
use Rattle.value_algebra.specs.Value.{word_at}
use Rattle.value_algebra.proofs.products.push_column.Given as goal

abbrev pub invariant-loop-row : goal.invariant-loop-row
invariant-loop-row l = l.words.items ≡ l.initial.words.items ++ map (λ row. word_at l.value row l.column) (range_with_len 0 l.row)
