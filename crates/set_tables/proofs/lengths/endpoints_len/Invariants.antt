use Rattle.std.proofs.Common.{◌≡◌, ◌≤◌, ◌*◌}
use Rattle.std.specs.Prelude.{sum_by}
use Rattle.std.specs.List.{range_with_len}
use Rattle.vocabulary.specs.declared.limits.TheConstants.{MOST_ENDPOINTS}
use Rattle.hypergraph.specs.Sets.{set_at}
use Rattle.set_tables.specs.WritingSteps.{element_endpoints_size}
use Rattle.set_tables.proofs.lengths.endpoints_len.Given as goal

abbrev pub invariant-loop-element : goal.invariant-loop-element
invariant-loop-element l = record {
  value : l.total ≡ sum_by (element_endpoints_size l.arity (set_at l.sets l.set)) (range_with_len 0 l.element);
  bound : l.total ≤ l.element * (MOST_ENDPOINTS * 21);
}
