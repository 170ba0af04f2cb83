use Rattle.std.proofs.Common.{◌≡◌}
use Rattle.std.specs.Prelude.{filter}
use Rattle.std.specs.List.{range_with_len}
use Rattle.hypergraph.specs.Incident.{has_endpoint}
use Rattle.hypergraph.proofs.set_data.SetData.incident.Given as goal

abbrev pub invariant-loop-element : goal.invariant-loop-element
invariant-loop-element l = l.elements.items ≡ filter (has_endpoint l.fn.self l.vertex) (range_with_len 0 l.element)
