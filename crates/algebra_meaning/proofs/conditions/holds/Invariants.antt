use Rattle.std.proofs.Common.{◌≡◌, drop, false, map}
use Rattle.vocabulary.specs.Answers.{fold_result}
use Rattle.algebra_meaning.specs.Expression.{conjunction, or_else, hosted}
use Rattle.algebra_meaning.proofs.conditions.holds.Given as goal

-- the parts so far and those that are left give all
abbrev pub invariant-loop-part : goal.invariant-loop-part
invariant-loop-part g l =
    fold_result or_else l.any (map (conjunction (hosted g.H.HostMeaning.answer l.scope)) (drop l.part-index l.part-items)) ≡ fold_result or_else false (map (conjunction (hosted g.H.HostMeaning.answer l.scope)) l.cond.parts)
