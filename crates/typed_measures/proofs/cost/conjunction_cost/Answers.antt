use Rattle.std.proofs.Common.{refl, ap, ◌∙◌, arith}
use Rattle.std.proofs.lemmas.List.Sums.{sum_by-cons}
use Rattle.std.specs.List.{sum_by}
use Rattle.typed_tree.specs.Cost as spec
use Rattle.typed_measures.specs.Limited.{limited}
use Rattle.typed_measures.proofs.Limits.{part_more, part_none, within_limit}
use Rattle.typed_measures.proofs.cost.conjunction_cost.Goals as goal

pub loop-comparison-preserved : goal.loop-comparison-preserved
loop-comparison-preserved c = record {
  small = within_limit _ _ c.plus-total.ensures;
  left =
      part_more (sum_by spec.comparison_cost) (sum_by spec.comparison_cost) _ c.loop-comparison.comparison-index c.comparison-item.result
      (spec.comparison_cost c.comparison-item.result) c.loop-comparison.total c.plus-total.result c.comparison_cost-part.result _
      (sum_by-cons spec.comparison_cost c.comparison-item.result)
      c.loop-comparison-test.true c.comparison-item.is c.plus-total.ensures c.comparison_cost-part.ensures c.loop-comparison.invariant.left;
}

pub returns : goal.returns
returns c =
    part_none (sum_by spec.comparison_cost) _ c.loop-comparison.comparison-index c.loop-comparison.total _
    refl (omega arith) c.loop-comparison.invariant.small c.loop-comparison.invariant.left
    ∙ ap (λ xs. limited (sum_by spec.comparison_cost xs)) c.as_slice-comparison-items.ensures
