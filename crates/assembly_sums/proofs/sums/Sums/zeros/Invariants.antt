use Rattle.std.proofs.Common.{◌≡◌, [], map, take}
use Rattle.algebra_meaning.specs.Assembled.{assembled}
use Rattle.assembly_sums.proofs.sums.Sums.zeros.Given as goal

abbrev pub invariant-loop-typed : goal.invariant-loop-typed
invariant-loop-typed l = l.values.items ≡ map (assembled l.sets [] 0) (take l.typed-index l.results)
