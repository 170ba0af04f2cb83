use Rattle.std.proofs.Common.{◌≡◌, drop, map}
use Rattle.vocabulary.specs.Answers.{fold_result}
use Rattle.typed_tree.specs.Expressions.{conjunction}
use Rattle.typed_tree.specs.Steps.{several, with_step}
use Rattle.expression_types.proofs.conditions.conjunctions.Given as goal

-- the conjunctions so far and those that are left give all
abbrev pub invariant-loop-part : goal.invariant-loop-part
invariant-loop-part l =
    fold_result with_step (l.typed, l.next) (map (conjunction l.environment) (drop l.part-index l.parts)) ≡ several (map (conjunction l.environment) l.parts) l.initial.next
