use Rattle.std.proofs.Common.{◌≡◌, length}
use Rattle.value_algebra.specs.Fields.{column_words}
use Rattle.value_algebra.proofs.Columns.{column_length, list_more, more_columns}
use Rattle.value_algebra.proofs.fields.columns_of.Goals as goal

pub loop-component-preserved : goal.loop-component-preserved
loop-component-preserved c =
    let words = c.of.result in
    let is : words ≡ column_words c.args.count c.args.size c.args.words.now c.loop-component.component = cc (c.of.ensures, c.in_ok-column.ensures) in
    let size : length words ≡ c.args.count = column_length c.args.count c.args.size c.args.words.now c.loop-component.component words is in
    record {
      columns = list_more (column_words c.args.count c.args.size c.args.words.now) c.loop-component.columns.items c.push.new.self.items c.loop-component.component words c.loop-component.invariant.columns c.in_ok-push.ensures.items is;
      lengths = more_columns c.args.count c.loop-component.columns.items c.push.new.self.items words c.loop-component.invariant.lengths c.in_ok-push.ensures.items size;
    }
