use Rattle.std.proofs.Common.{◌≡◌, ◌≤◌, ◌*◌, All, length, take}
use Rattle.std.specs.Prelude.{sum_by}
use Rattle.std.specs.List.{zip}
use Rattle.vocabulary.specs.declared.limits.TheConstants.{MOST_ELEMENTS}
use Rattle.hypergraph.specs.Sets.{set_at}
use Rattle.set_tables.specs.WritingSteps.{column_size}
use Rattle.set_tables.proofs.lengths.columns_len.Given as goal

abbrev pub invariant-loop-column : goal.invariant-loop-column
invariant-loop-column l = record {
  value : l.total ≡ sum_by (λ p. column_size p.0.scale p.1) (take l.column (zip l.columns (set_at l.sets l.set).columns));
  one_each : All (λ words. length words ≡ (set_at l.sets l.set).count) (take l.column (set_at l.sets l.set).columns);
  bound : l.total ≤ l.column * (MOST_ELEMENTS * 21);
}
