use Rattle.std.proofs.Common.{◌≡◌, ◌++◌}
use Rattle.std.specs.Prelude.{slice_range}
use Rattle.std.specs.List.{flat_map, range_with_len}
use Rattle.value_algebra.specs.Value.{column_of}
use Rattle.word_stacks.specs.Stack.{sized}
use Rattle.word_stacks.proofs.products.push_transposed.Given as goal

abbrev pub invariant-loop-column : goal.invariant-loop-column
invariant-loop-column l = l.stack.items ≡ l.initial.stack.items ++ flat_map (column_of (sized l.size (slice_range l.initial.stack.items l.base l.top))) (range_with_len 0 l.column)
