use Rattle.std.proofs.Common.{arith}
use Rattle.hypergraph.specs.Sets.{set_at}
use Rattle.set_tables.specs.WritingSteps.{element_endpoints_size}
use Rattle.set_tables.proofs.Sums.{sum-more}
use Rattle.set_tables.proofs.lengths.endpoints_len.Goals as goal

pub loop-element-preserved : goal.loop-element-preserved
loop-element-preserved c = record {
  value = omega (arith, c.loop-element.invariant.value, c.element_endpoints_len-total.ensures.value, sum-more (element_endpoints_size c.args.arity (set_at c.args.sets.now c.args.set)) c.loop-element.element);
  bound = omega (arith, c.element_endpoints_len-total.ensures.bound);
}
