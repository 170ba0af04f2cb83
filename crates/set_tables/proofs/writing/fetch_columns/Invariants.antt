use Rattle.std.proofs.Common.{◌≡◌, ◌≤◌, length}
use Rattle.vocabulary.specs.declared.limits.TheConstants.{MOST_COLUMNS}
use Rattle.hypergraph.specs.Sets.{set_at}
use Rattle.set_tables.proofs.ColumnsFetched.{AreFetched}
use Rattle.set_tables.proofs.writing.fetch_columns.Given as goal

abbrev pub invariant-loop-column : goal.invariant-loop-column
invariant-loop-column l = record {
  fetched : AreFetched (set_at l.sets l.set) l.words l.column;
  few : length (set_at l.sets l.set).columns ≤ MOST_COLUMNS;
  slots : length l.words ≡ MOST_COLUMNS;
}
