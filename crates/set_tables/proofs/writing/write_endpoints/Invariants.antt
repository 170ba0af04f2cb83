use Rattle.std.proofs.Common.{take}
use Rattle.std.specs.List.{flat_map, range_with_len}
use Rattle.vocabulary.specs.Buffer.{Appends}
use Rattle.hypergraph.specs.SetValue.{endpoint_at}
use Rattle.hypergraph.specs.Sets.{set_at}
use Rattle.ring_words.specs.Cell.{text}
use Rattle.set_tables.specs.WritingSteps.{separated}
use Rattle.set_tables.proofs.writing.write_endpoints.Given as goal

abbrev pub invariant-loop-position : goal.invariant-loop-position
invariant-loop-position l =
    Appends l.initial.to l.to (flat_map (λ position. separated position (text 0 (endpoint_at (set_at l.sets l.set) l.element position))) (take l.position (range_with_len 0 l.arity)))
