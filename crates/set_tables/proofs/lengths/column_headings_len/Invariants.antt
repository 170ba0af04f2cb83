use Rattle.std.proofs.Common.{◌≡◌, ◌≤◌, ◌*◌, ◌^◌, take}
use Rattle.set_tables.specs.WritingSteps.{column_headings_size}
use Rattle.set_tables.proofs.lengths.column_headings_len.Given as goal

abbrev pub invariant-loop-column : goal.invariant-loop-column
invariant-loop-column l = record {
  value : l.total ≡ column_headings_size (take l.column-index l.columns);
  bound : l.total ≤ l.column-index * 2 ^ 32;
}
