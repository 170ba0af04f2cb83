use Rattle.std.proofs.Common.{map, take}
use Rattle.std.specs.Prelude.{slice_index}
use Rattle.std.specs.List.{enumerate_from, flat_map, zip}
use Rattle.vocabulary.specs.Buffer.{Appends}
use Rattle.ring_words.specs.Cell.{text}
use Rattle.set_tables.specs.WritingSteps.{separated}
use Rattle.set_tables.proofs.writing.write_words.Given as goal

abbrev pub invariant-loop-k : goal.invariant-loop-k
invariant-loop-k l =
    Appends l.initial.to l.to (flat_map (λ p. separated p.0 (text p.1.0.scale (slice_index p.1.1 l.element))) (take l.k (enumerate_from l.arity (zip l.columns (map (λ column. column.now) l.words)))))
