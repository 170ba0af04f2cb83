use Rattle.std.proofs.Common.{◌≡◌, ◌≤◌, ◌*◌}
use Rattle.hypergraph.specs.Sets.{set_at}
use Rattle.set_tables.specs.WritingSteps.{element_endpoints_size}
use Rattle.set_tables.proofs.lengths.element_endpoints_len.Given as goal

abbrev pub invariant-loop-position : goal.invariant-loop-position
invariant-loop-position l = record {
  value : l.total ≡ element_endpoints_size l.position (set_at l.sets l.set) l.element;
  bound : l.total ≤ l.position * 21;
}
