use Rattle.std.proofs.Common.{◌≡◌, suc, ◌+◌, ◌≤◌, drop}
use Rattle.std.specs.List.{sum_by}
use Rattle.vocabulary.specs.declared.limits.TheConstants.{MOST_FUNCTION_COST}
use Rattle.typed_tree.specs.Cost as spec
use Rattle.typed_measures.specs.Limited.{limited}
use Rattle.typed_measures.proofs.cost.conjunction_cost.Given as goal

-- the comparisons so far and those that are left cost as much as all
abbrev pub invariant-loop-comparison : goal.invariant-loop-comparison
invariant-loop-comparison l = record {
  small : l.total ≤ suc MOST_FUNCTION_COST;
  left : limited (l.total + sum_by spec.comparison_cost (drop l.comparison-index l.comparison-items)) ≡ limited (sum_by spec.comparison_cost l.comparison-items);
}
