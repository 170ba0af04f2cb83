use Rattle.std.proofs.Common.{◌≡◌, drop, map, true}
use Rattle.vocabulary.specs.Answers.{fold_result}
use Rattle.algebra_meaning.specs.Expression.{and_also, comparison, hosted}
use Rattle.element_words.proofs.conditions.conjunction.Given as goal

-- the comparisons so far and those that are left give all
abbrev pub invariant-loop-cmp : goal.invariant-loop-cmp
invariant-loop-cmp g l = record {
  folded : fold_result and_also l.all (map (comparison (hosted g.H.HostMeaning.answer l.scope)) (drop l.cmp-index l.cmp-items)) ≡ fold_result and_also true (map (comparison (hosted g.H.HostMeaning.answer l.scope)) l.conjunction.parts);
  kept : l.stack.items ≡ l.initial.stack.items;
}
