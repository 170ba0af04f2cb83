use Rattle.std.proofs.Common.{◌≡◌, drop, map}
use Rattle.vocabulary.specs.Answers.{fold_result}
use Rattle.typed_tree.specs.Expressions.{comparison}
use Rattle.typed_tree.specs.Steps.{several, with_step}
use Rattle.expression_types.proofs.conditions.comparisons.Given as goal

-- the comparisons so far and those that are left give all
abbrev pub invariant-loop-cmp : goal.invariant-loop-cmp
invariant-loop-cmp l =
    fold_result with_step (l.typed, l.next) (map (comparison l.environment) (drop l.cmp-index l.cmps)) ≡ several (map (comparison l.environment) l.cmps) l.initial.next
