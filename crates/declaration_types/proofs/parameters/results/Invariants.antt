use Rattle.std.proofs.Common.{◌≡◌, drop}
use Rattle.vocabulary.specs.Answers.{fold_result}
use Rattle.typed_tree.specs.Declarations.{with_result}
use Rattle.declaration_types.proofs.parameters.results.Given as goal

-- the results so far and those that are left give what all give
abbrev pub invariant-loop-one : goal.invariant-loop-one
invariant-loop-one l = fold_result with_result (l.types, l.walk) (drop l.one-index l.declared) ≡ fold_result with_result (l.initial.types, l.initial.walk) l.declared
