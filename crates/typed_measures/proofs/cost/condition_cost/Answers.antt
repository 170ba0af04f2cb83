use Rattle.std.proofs.Common.{refl, ap, ◌∙◌, arith}
use Rattle.std.proofs.lemmas.List.Sums.{sum_by-cons}
use Rattle.std.specs.List.{sum_by}
use Rattle.typed_tree.specs.Cost as spec
use Rattle.typed_measures.specs.Limited.{limited}
use Rattle.typed_measures.proofs.Limits.{part_more, part_none, within_limit}
use Rattle.typed_measures.proofs.cost.condition_cost.Goals as goal

pub loop-conjunction-preserved : goal.loop-conjunction-preserved
loop-conjunction-preserved c = record {
  small = within_limit _ _ c.plus-total.ensures;
  left =
      part_more (sum_by spec.conjunction_cost) (sum_by spec.conjunction_cost) _ c.loop-conjunction.conjunction-index c.conjunction-item.result
      (spec.conjunction_cost c.conjunction-item.result) c.loop-conjunction.total c.plus-total.result c.conjunction_cost-part.result _
      (sum_by-cons spec.conjunction_cost c.conjunction-item.result)
      c.loop-conjunction-test.true c.conjunction-item.is c.plus-total.ensures c.conjunction_cost-part.ensures c.loop-conjunction.invariant.left;
}

pub returns : goal.returns
returns c =
    part_none (sum_by spec.conjunction_cost) _ c.loop-conjunction.conjunction-index c.loop-conjunction.total _
    refl (omega arith) c.loop-conjunction.invariant.small c.loop-conjunction.invariant.left
    ∙ ap (λ xs. limited (sum_by spec.conjunction_cost xs)) c.as_slice-conjunction-items.ensures
