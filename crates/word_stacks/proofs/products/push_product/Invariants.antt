use Rattle.std.proofs.Common.{◌≡◌, ◌++◌}
use Rattle.std.specs.List.{flat_map, range_with_len}
use Rattle.value_algebra.specs.Value.{product_row}
use Rattle.word_stacks.specs.Stack.{left_in, right_in}
use Rattle.word_stacks.proofs.products.push_product.Given as goal

abbrev pub invariant-loop-row : goal.invariant-loop-row
invariant-loop-row l = l.stack.items ≡ l.initial.stack.items ++ flat_map (product_row (left_in l.pair l.initial.stack.items) (right_in l.pair l.initial.stack.items)) (range_with_len 0 l.row)
