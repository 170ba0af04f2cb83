use Rattle.std.proofs.Common.{◌≡◌}
use Rattle.std.specs.List.{flat_map, range_with_len}
use Rattle.value_algebra.specs.Value.{product_row}
use Rattle.value_algebra.proofs.products.product_words.Given as goal

abbrev pub invariant-loop-row : goal.invariant-loop-row
invariant-loop-row l = l.words.items ≡ flat_map (product_row l.left l.right) (range_with_len 0 l.row)
