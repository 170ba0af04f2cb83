use Rattle.std.proofs.Common.{◌≡◌, ◌≤◌, length, arith}
use Rattle.std.specs.Prelude.{slice_range}
use Rattle.value_algebra.specs.Value.{word_at}
use Rattle.word_stacks.specs.Stack.{sized}
use Rattle.word_stacks.proofs.Pushed.{column_grown}
use Rattle.word_stacks.proofs.products.push_column.Goals as goal

pub loop-row-preserved : goal.loop-row-preserved
loop-row-preserved c =
    let within : c.args.top ≤ length c.args.stack.now.items = omega arith in
    let is : c.word_in-word.result ≡ word_at (sized c.args.size (slice_range c.loop-row.stack.items c.args.base c.args.top)) c.loop-row.row c.args.column =
    rw c.deref.ensures.value at c.word_in-word.ensures in
    column_grown c.row_laws.ensures c.args.size c.args.stack.now.items c.loop-row.stack.items c.push.new.stack.items c.args.base c.args.top c.args.column c.loop-row.row c.word_in-word.result
    c.requires.order within c.loop-row.invariant is c.in_ok-push.ensures
