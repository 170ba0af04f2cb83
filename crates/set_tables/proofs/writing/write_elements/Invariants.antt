use Rattle.std.proofs.Common.{take}
use Rattle.std.specs.List.{flat_map, range_with_len}
use Rattle.vocabulary.specs.Buffer.{Appends}
use Rattle.hypergraph.specs.Sets.{set_at}
use Rattle.set_tables.specs.Output.{element_cells, line}
use Rattle.set_tables.proofs.writing.write_elements.Given as goal

abbrev pub invariant-loop-element : goal.invariant-loop-element
invariant-loop-element l =
    Appends l.initial.to l.to (flat_map (λ element. line (element_cells l.schema (set_at l.sets l.set) element)) (take l.element (range_with_len 0 (set_at l.sets l.set).count)))
