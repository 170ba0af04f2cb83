use Rattle.std.proofs.Common.{◌≡◌, suc, ◌+◌, ◌≤◌, drop}
use Rattle.std.specs.List.{sum_by}
use Rattle.vocabulary.specs.declared.limits.TheConstants.{MOST_FUNCTION_COST}
use Rattle.typed_tree.specs.Cost as spec
use Rattle.typed_measures.specs.Limited.{limited}
use Rattle.typed_measures.proofs.cost.condition_cost.Given as goal

-- the conjunctions so far and those that are left cost as much as all
abbrev pub invariant-loop-conjunction : goal.invariant-loop-conjunction
invariant-loop-conjunction l = record {
  small : l.total ≤ suc MOST_FUNCTION_COST;
  left : limited (l.total + sum_by spec.conjunction_cost (drop l.conjunction-index l.conjunction-items)) ≡ limited (sum_by spec.conjunction_cost l.conjunction-items);
}
