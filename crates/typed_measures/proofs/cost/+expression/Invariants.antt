use Rattle.std.proofs.Common.{◌≡◌, suc, ◌+◌, ◌≤◌, map, drop}
use Rattle.std.specs.List.{sum_by}
use Rattle.vocabulary.specs.declared.limits.TheConstants.{MOST_FUNCTION_COST}
use Rattle.typed_tree.specs.Cost as spec
use Rattle.typed_measures.specs.Costs as costs
use Rattle.typed_measures.specs.Limited.{limited}
use Rattle.typed_measures.proofs.cost.+expression.Given as goal

-- the expressions so far and those that are left cost as much as all
abbrev pub invariant-all_cost-loop-expression : goal.invariant-all_cost-loop-expression
invariant-all_cost-loop-expression l = record {
  small : l.total ≤ suc MOST_FUNCTION_COST;
  left : limited (l.total + spec.cost_of_all (map costs.expression (drop l.expression-index l.expressions))) ≡ limited (spec.cost_of_all (map costs.expression l.expressions));
}

-- the rows so far and those that are left cost as much as all
abbrev pub invariant-rows_cost-loop-row : goal.invariant-rows_cost-loop-row
invariant-rows_cost-loop-row l = record {
  small : l.total ≤ suc MOST_FUNCTION_COST;
  left : limited (l.total + sum_by (λ row. row) (map costs.row (drop l.row-index l.rows))) ≡ limited (sum_by (λ row. row) (map costs.row l.rows));
}

-- the terms so far and those that are left cost as much as all
abbrev pub invariant-terms_cost-loop-term : goal.invariant-terms_cost-loop-term
invariant-terms_cost-loop-term l = record {
  small : l.total ≤ suc MOST_FUNCTION_COST;
  left : limited (l.total + costs.terms_from l.is_first (map costs.term (drop l.term-index l.terms))) ≡ limited (spec.terms_cost (map costs.term l.terms));
}

-- the factors so far and those that are left cost as much as all
abbrev pub invariant-factors_cost-loop-factor : goal.invariant-factors_cost-loop-factor
invariant-factors_cost-loop-factor l = record {
  small : l.total ≤ suc MOST_FUNCTION_COST;
  left : limited (l.total + costs.factors_from l.left (map costs.factor (drop l.factor-index l.factors))) ≡ limited (spec.factors_cost (map costs.factor l.factors));
}
