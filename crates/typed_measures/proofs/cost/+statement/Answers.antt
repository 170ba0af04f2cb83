use Rattle.std.proofs.Common.{map, refl, arith}
use Rattle.std.proofs.lemmas.List.Sums.{sum_by-cons}
use Rattle.std.specs.List.{sum_by}
use Rattle.typed_tree.specs.Cost as spec
use Rattle.typed_measures.proofs.Limits.{part_more, part_none, within_limit}
use Rattle.typed_measures.proofs.cost.+statement.Goals as goal

pub statements_cost-loop-statement-preserved : goal.statements_cost-loop-statement-preserved
statements_cost-loop-statement-preserved t c = record {
  small = within_limit _ _ c.plus-total.ensures;
  left =
      part_more (λ ss. sum_by (λ cost. cost) (map spec.statement_cost ss)) (λ ss. sum_by (λ cost. cost) (map spec.statement_cost ss)) c.args.statements.now c.loop-statement.statement-index c.statement-item.result
      (spec.statement_cost c.statement-item.result) c.loop-statement.total c.plus-total.result c.statement_cost-part.result _
      (λ rest. sum_by-cons (λ cost. cost) (spec.statement_cost c.statement-item.result) (map spec.statement_cost rest))
      c.loop-statement-test.true c.statement-item.is c.plus-total.ensures c.statement_cost-part.ensures c.loop-statement.invariant.left;
}

pub statements_cost-returns : goal.statements_cost-returns
statements_cost-returns t c =
    part_none (λ ss. sum_by (λ cost. cost) (map spec.statement_cost ss)) c.args.statements.now c.loop-statement.statement-index c.loop-statement.total _
    refl (omega arith) c.loop-statement.invariant.small c.loop-statement.invariant.left
