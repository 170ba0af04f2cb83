use Rattle.std.proofs.Common.{◌≡◌, ◌++◌, drop}
use Rattle.typed_tree.specs.Declarations.{typed_results}
use Rattle.typed_measures.proofs.writes.typed_results.Given as goal

-- the results so far and those that are left are all results
abbrev pub invariant-loop-value_type : goal.invariant-loop-value_type
invariant-loop-value_type l = l.results ++ typed_results l.body l.number (drop l.value_type-index l.types) ≡ typed_results l.body 0 l.types
