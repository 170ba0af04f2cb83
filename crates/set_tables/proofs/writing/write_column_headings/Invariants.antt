use Rattle.std.proofs.Common.{take}
use Rattle.std.specs.List.{enumerate_from, flat_map}
use Rattle.vocabulary.specs.Buffer.{Appends}
use Rattle.set_tables.specs.WritingSteps.{separated}
use Rattle.set_tables.proofs.writing.write_column_headings.Given as goal

abbrev pub invariant-loop-k : goal.invariant-loop-k
invariant-loop-k l = Appends l.initial.to l.to (flat_map (λ p. separated p.0 p.1.heading) (take l.k (enumerate_from l.arity l.columns)))
