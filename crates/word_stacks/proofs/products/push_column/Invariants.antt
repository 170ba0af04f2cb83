use Rattle.std.proofs.Common.{◌≡◌, ◌++◌, map}
use Rattle.std.specs.Prelude.{slice_range}
use Rattle.std.specs.List.{range_with_len}
use Rattle.value_algebra.specs.Value.{word_at}
use Rattle.word_stacks.specs.Stack.{sized}
use Rattle.word_stacks.proofs.products.push_column.Given as goal

abbrev pub invariant-loop-row : goal.invariant-loop-row
invariant-loop-row l = l.stack.items ≡ l.initial.stack.items ++ map (λ row. word_at (sized l.size (slice_range l.initial.stack.items l.base l.top)) row l.column) (range_with_len 0 l.row)
