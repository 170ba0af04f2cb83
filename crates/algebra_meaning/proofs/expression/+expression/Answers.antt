use Rattle.std.proofs.Common.{◌≡◌, Ok, ◌++◌, map}
use Rattle.typed_tree.specs.declared.expression.TypedRow.{out-TypedRow}
use Rattle.value_algebra.specs.Value.{word_of}
use Rattle.algebra_meaning.specs.Expression.{entries, hosted, meanings, row_of}
use Rattle.algebra_meaning.proofs.expression.+expression.Goals as goal

pub entries-loop-row-preserved : goal.entries-loop-row-preserved
entries-loop-row-preserved g t c =
    let scope = hosted g.H.HostMeaning.answer c.args.scope.now in
    let row = c.row-item.result in
    let values = c.in_ok-values.values in
    let meant : meanings scope (out-TypedRow row).entries ≡ Ok values = rw c.as_slice.ensures at c.in_ok-values.ensures in
    let more : c.push_words.new.words ≡ c.loop-row.words ++ map word_of values = rw c.items.ensures at c.in_ok-push_words.ensures in
    c.expression_laws.ensures.row_taken scope c.loop-row.words c.push_words.new.words values (entries (map (row_of scope) c.args.rows.now)) c.args.rows.now c.loop-row.row-index row
    c.loop-row-test.true c.row-item.is meant more c.loop-row.invariant
