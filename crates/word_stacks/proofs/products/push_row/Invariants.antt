use Rattle.std.proofs.Common.{◌≡◌, ◌++◌, map}
use Rattle.std.specs.Prelude.{pos}
use Rattle.std.specs.List.{range_with_len}
use Rattle.ring_words.specs.Word.{word}
use Rattle.value_algebra.specs.Value.{row_times_column}
use Rattle.word_stacks.specs.Stack.{left_in, right_in}
use Rattle.word_stacks.proofs.products.push_row.Given as goal

abbrev pub invariant-loop-column : goal.invariant-loop-column
invariant-loop-column l =
    l.stack.items ≡ l.initial.stack.items ++ map (λ column. word (pos (row_times_column (left_in l.pair l.initial.stack.items) (right_in l.pair l.initial.stack.items) l.row column))) (range_with_len 0 l.column)
