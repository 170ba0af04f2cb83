use Rattle.std.proofs.Common.{take}
use Rattle.std.specs.List.{flat_map, range_with_len}
use Rattle.vocabulary.specs.Buffer.{Appends}
use Rattle.set_tables.specs.Schema.{endpoint_heading}
use Rattle.set_tables.specs.WritingSteps.{separated}
use Rattle.set_tables.proofs.writing.write_endpoint_headings.Given as goal

abbrev pub invariant-loop-position : goal.invariant-loop-position
invariant-loop-position l = Appends l.initial.to l.to (flat_map (λ position. separated position (endpoint_heading position)) (take l.position (range_with_len 0 l.arity)))
