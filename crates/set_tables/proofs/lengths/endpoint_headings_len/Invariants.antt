use Rattle.std.proofs.Common.{◌≡◌, ◌≤◌, ◌*◌}
use Rattle.set_tables.specs.WritingSteps.{endpoint_headings_size}
use Rattle.set_tables.proofs.lengths.endpoint_headings_len.Given as goal

abbrev pub invariant-loop-position : goal.invariant-loop-position
invariant-loop-position l = record {
  value : l.total ≡ endpoint_headings_size l.position;
  bound : l.total ≤ l.position * 41;
}
