use Rattle.std.proofs.Common.{◌≡◌, drop, map}
use Rattle.vocabulary.specs.Answers.{fold_result}
use Rattle.typed_tree.specs.Steps.{several, with_step}
use Rattle.typed_tree.specs.MainProcedure.{main_statement}
use Rattle.main_types.proofs.statements.+main.Given as goal

-- the statements so far and those that are left give all
abbrev pub invariant-several-loop-tree : goal.invariant-several-loop-tree
invariant-several-loop-tree l =
    fold_result with_step (l.statements, l.walk) (map main_statement (drop l.tree-index l.body)) ≡ several (map main_statement l.body) l.initial.walk
