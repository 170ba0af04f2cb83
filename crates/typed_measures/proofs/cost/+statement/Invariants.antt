use Rattle.std.proofs.Common.{◌≡◌, suc, ◌+◌, ◌≤◌, map, drop}
use Rattle.std.specs.List.{sum_by}
use Rattle.vocabulary.specs.declared.limits.TheConstants.{MOST_FUNCTION_COST}
use Rattle.typed_tree.specs.Cost as spec
use Rattle.typed_measures.specs.Limited.{limited}
use Rattle.typed_measures.proofs.cost.+statement.Given as goal

-- the statements so far and those that are left cost as much as all
abbrev pub invariant-statements_cost-loop-statement : goal.invariant-statements_cost-loop-statement
invariant-statements_cost-loop-statement l = record {
  small : l.total ≤ suc MOST_FUNCTION_COST;
  left : limited (l.total + sum_by (λ cost. cost) (map spec.statement_cost (drop l.statement-index l.statements))) ≡ limited (sum_by (λ cost. cost) (map spec.statement_cost l.statements));
}
