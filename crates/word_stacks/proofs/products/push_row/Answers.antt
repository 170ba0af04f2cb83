use Rattle.std.proofs.Common.{◌≡◌}
use Rattle.std.specs.Prelude.{pos}
use Rattle.ring_words.specs.Word.{word}
use Rattle.value_algebra.specs.Value.{row_times_column}
use Rattle.word_stacks.specs.Stack.{IsIn, left_in, right_in}
use Rattle.word_stacks.proofs.Pushed.{product_grown}
use Rattle.word_stacks.proofs.products.push_row.Goals as goal

pub loop-column-preserved : goal.loop-column-preserved
loop-column-preserved c =
    let there : IsIn c.args.pair c.args.stack.now.items = c.requires in
    let is : c.product_entry-word.result ≡ word (pos (row_times_column (left_in c.args.pair c.loop-column.stack.items) (right_in c.args.pair c.loop-column.stack.items) c.args.row c.loop-column.column)) =
    rw c.deref.ensures.value at c.product_entry-word.ensures in
    product_grown c.row_laws.ensures c.args.pair c.args.stack.now.items c.loop-column.stack.items c.push.new.stack.items c.args.row c.loop-column.column c.product_entry-word.result
    there c.loop-column.invariant is c.in_ok-push.ensures
