use Rattle.std.proofs.Common.{◌≡◌, drop, map}
use Rattle.vocabulary.specs.Answers.{fold_result}
use Rattle.typed_tree.specs.Functions.{statement}
use Rattle.typed_tree.specs.Steps.{several, with_step}
use Rattle.function_types.proofs.statements.+statement.Given as goal

-- the statements so far and those that are left give all
abbrev pub invariant-all-loop-tree : goal.invariant-all-loop-tree
invariant-all-loop-tree l =
    fold_result with_step (l.typed, l.walk) (map statement (drop l.tree-index l.body)) ≡ several (map statement l.body) l.initial.walk
