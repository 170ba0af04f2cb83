use Rattle.std.proofs.Common.{map, Some, refl, ap, ◌∙◌, arith}
use Rattle.std.proofs.lemmas.List.Sums.{sum_by-cons}
use Rattle.std.specs.List.{sum_by}
use Rattle.typed_tree.specs.declared.expression.TypedRow.{out-TypedRow}
use Rattle.typed_tree.specs.Cost as spec
use Rattle.typed_measures.specs.Costs as costs
use Rattle.typed_measures.specs.Limited.{limited}
use Rattle.typed_measures.proofs.Limits.{part_more, part_none, within_limit, all_terms, all_factors, term_splits, factor_splits, row_splits}
use Rattle.typed_measures.proofs.cost.+expression.Goals as goal

pub all_cost-loop-expression-preserved : goal.all_cost-loop-expression-preserved
all_cost-loop-expression-preserved t c = record {
  small = within_limit _ _ c.plus-total.ensures;
  left =
      part_more (λ es. spec.cost_of_all (map costs.expression es)) (λ es. spec.cost_of_all (map costs.expression es)) c.args.expressions.now c.loop-expression.expression-index c.expression-item.result
      (spec.expression_cost c.expression-item.result) c.loop-expression.total c.plus-total.result c.expression_cost-part.result _
      (λ rest. sum_by-cons (λ part. part.cost) (costs.expression c.expression-item.result) (map costs.expression rest))
      c.loop-expression-test.true c.expression-item.is c.plus-total.ensures c.expression_cost-part.ensures c.loop-expression.invariant.left;
}

pub all_cost-returns : goal.all_cost-returns
all_cost-returns t c =
    part_none (λ es. spec.cost_of_all (map costs.expression es)) c.args.expressions.now c.loop-expression.expression-index c.loop-expression.total _
    refl (omega arith) c.loop-expression.invariant.small c.loop-expression.invariant.left

pub rows_cost-loop-row-preserved : goal.rows_cost-loop-row-preserved
rows_cost-loop-row-preserved t c = record {
  small = within_limit _ _ c.plus-total.ensures;
  left =
      part_more (λ rows. sum_by (λ row. row) (map costs.row rows)) (λ rows. sum_by (λ row. row) (map costs.row rows)) c.args.rows.now c.loop-row.row-index c.row-item.result
      (spec.cost_of_all (map costs.expression (out-TypedRow c.row-item.result).entries)) c.loop-row.total c.plus-total.result c.all_cost-part.result _
      (row_splits c.row-item.result)
      c.loop-row-test.true c.row-item.is c.plus-total.ensures (c.all_cost-part.ensures ∙ ap (λ entries. limited (spec.cost_of_all (map costs.expression entries))) c.as_slice.ensures) c.loop-row.invariant.left;
}

pub rows_cost-returns : goal.rows_cost-returns
rows_cost-returns t c =
    part_none (λ rows. sum_by (λ row. row) (map costs.row rows)) c.args.rows.now c.loop-row.row-index c.loop-row.total _
    refl (omega arith) c.loop-row.invariant.small c.loop-row.invariant.left

pub terms_cost-loop-term-init : goal.terms_cost-loop-term-init
terms_cost-loop-term-init t c = record { small = omega arith; left = let all = all_terms (map costs.term c.args.terms.now) in rw all (ap limited (omega arith)) }

pub terms_cost-loop-term-preserved : goal.terms_cost-loop-term-preserved
terms_cost-loop-term-preserved t c = record {
  small = within_limit _ _ c.plus-total.ensures;
  left =
      part_more (λ terms. costs.terms_from c.loop-term.is_first (map costs.term terms)) (λ terms. costs.terms_from _ (map costs.term terms)) c.args.terms.now c.loop-term.term-index c.term-item.result
      (costs.term_cost c.loop-term.is_first c.term-item.result) c.loop-term.total c.plus-total.result c.term_cost-part.result _
      (term_splits c.loop-term.is_first c.term-item.result)
      c.loop-term-test.true c.term-item.is c.plus-total.ensures c.term_cost-part.ensures c.loop-term.invariant.left;
}

pub terms_cost-returns : goal.terms_cost-returns
terms_cost-returns t c =
    part_none (λ terms. costs.terms_from c.loop-term.is_first (map costs.term terms)) c.args.terms.now c.loop-term.term-index c.loop-term.total _
    refl (omega arith) c.loop-term.invariant.small c.loop-term.invariant.left

pub factors_cost-loop-factor-init : goal.factors_cost-loop-factor-init
factors_cost-loop-factor-init t c = record { small = omega arith; left = let all = all_factors (map costs.factor c.args.factors.now) in rw all (ap limited (omega arith)) }

pub factors_cost-loop-factor-preserved : goal.factors_cost-loop-factor-preserved
factors_cost-loop-factor-preserved t c = record {
  small = within_limit _ _ c.plus-total.ensures;
  left =
      part_more (λ factors. costs.factors_from c.loop-factor.left (map costs.factor factors)) (λ factors. costs.factors_from (Some _) (map costs.factor factors)) c.args.factors.now c.loop-factor.factor-index c.factor-item.result
      (costs.factor_cost c.loop-factor.left c.factor-item.result) c.loop-factor.total c.plus-total.result c.factor_cost-part.result _
      (factor_splits c.loop-factor.left c.factor-item.result)
      c.loop-factor-test.true c.factor-item.is c.plus-total.ensures c.factor_cost-part.ensures c.loop-factor.invariant.left;
}

pub factors_cost-returns : goal.factors_cost-returns
factors_cost-returns t c =
    part_none (λ factors. costs.factors_from c.loop-factor.left (map costs.factor factors)) c.args.factors.now c.loop-factor.factor-index c.loop-factor.total _
    refl (omega arith) c.loop-factor.invariant.small c.loop-factor.invariant.left
