use Rattle.std.proofs.Common.{◌≡◌, drop, map, true}
use Rattle.vocabulary.specs.Answers.{fold_result}
use Rattle.algebra_meaning.specs.Expression.{and_also, comparison, hosted}
use Rattle.algebra_meaning.proofs.conditions.conjunction.Given as goal

-- the comparisons so far and those that are left give all
abbrev pub invariant-loop-cmp : goal.invariant-loop-cmp
invariant-loop-cmp g l =
    fold_result and_also l.all (map (comparison (hosted g.H.HostMeaning.answer l.scope)) (drop l.cmp-index l.cmp-items)) ≡ fold_result and_also true (map (comparison (hosted g.H.HostMeaning.answer l.scope)) l.conjunction.parts)
