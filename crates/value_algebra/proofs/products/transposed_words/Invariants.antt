use Rattle.std.proofs.Common.{◌≡◌}
use Rattle.std.specs.List.{flat_map, range_with_len}
use Rattle.value_algebra.specs.Value.{column_of}
use Rattle.value_algebra.proofs.products.transposed_words.Given as goal

abbrev pub invariant-loop-column : goal.invariant-loop-column
invariant-loop-column l = l.words.items ≡ flat_map (column_of l.value) (range_with_len 0 l.column)
