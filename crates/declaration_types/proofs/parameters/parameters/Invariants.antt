use Rattle.std.proofs.Common.{◌≡◌, map, drop}
use Rattle.vocabulary.specs.Answers.{fold_result}
use Rattle.typed_tree.specs.Declarations.{parameter_step}
use Rattle.typed_tree.specs.Steps.{several, with_step}
use Rattle.declaration_types.proofs.parameters.parameters.Given as goal

-- the parameters so far and those that are left give what all give
abbrev pub invariant-loop-param : goal.invariant-loop-param
invariant-loop-param l = fold_result with_step (l.types, l.walk) (map parameter_step (drop l.param-index l.params)) ≡ several (map parameter_step l.params) l.initial.walk
