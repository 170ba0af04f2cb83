use Rattle.std.proofs.Common.{◌≡◌, ◌++◌, map}
use Rattle.std.specs.Prelude.{pos}
use Rattle.std.specs.List.{range_with_len}
use Rattle.ring_words.specs.Word.{word}
use Rattle.value_algebra.specs.Value.{row_times_column}
use Rattle.value_algebra.proofs.products.push_row.Given as goal

abbrev pub invariant-loop-column : goal.invariant-loop-column
invariant-loop-column l = l.words.items ≡ l.initial.words.items ++ map (λ column. word (pos (row_times_column l.left l.right l.row column))) (range_with_len 0 l.column)
