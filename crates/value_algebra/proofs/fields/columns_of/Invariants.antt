use Rattle.std.proofs.Common.{◌≡◌, map}
use Rattle.std.specs.List.{range_with_len}
use Rattle.value_algebra.specs.Fields.{HaveLength, column_words}
use Rattle.value_algebra.proofs.fields.columns_of.Given as goal

abbrev pub invariant-loop-component : goal.invariant-loop-component
invariant-loop-component l = record {
  columns : l.columns.items ≡ map (column_words l.count l.size l.words) (range_with_len 0 l.component);
  lengths : HaveLength l.count l.columns.items;
}
