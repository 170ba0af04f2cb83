use Rattle.std.proofs.Common.{◌≡◌, ℕ, ◌+◌, ◌≤◌, length, slice_set}
use Rattle.std.specs.Prelude.{min}
use Rattle.std.specs.Vec.Iter.{into_iter_items}
use Rattle.hypergraph.specs.Sets.{set_at}
use Rattle.value_algebra.specs.declared.fields.TheConstants.{PAST_COLUMNS}
use Rattle.value_algebra.specs.Fields.{HaveLength, with_columns}
use Rattle.value_algebra.proofs.fields.set_columns.Given as goal

-- the columns that are left give what all give
abbrev pub invariant-loop-words : goal.invariant-loop-words
invariant-loop-words l = record {
  bound : l.column ≤ PAST_COLUMNS;
  lengths : HaveLength (set_at l.sets l.set).count (into_iter_items l.words-iterator);
  column : (number : ℕ) → min number PAST_COLUMNS ≡ l.initial.column → min (number + length l.yielded) PAST_COLUMNS ≡ l.column;
  left : (number : ℕ) → min number PAST_COLUMNS ≡ l.initial.column
      → slice_set l.sets l.set (with_columns (set_at l.sets l.set) (number + length l.yielded) (into_iter_items l.words-iterator))
      ≡ slice_set l.initial.sets l.set (with_columns (set_at l.initial.sets l.set) number l.fn.columns.items);
}
