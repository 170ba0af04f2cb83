use Rattle.std.proofs.Common.{arith, length}
use Rattle.set_tables.specs.Schema.{endpoint_heading}
use Rattle.set_tables.proofs.Sums.{sum-more}
use Rattle.set_tables.proofs.lengths.endpoint_headings_len.Goals as goal

pub loop-position-preserved : goal.loop-position-preserved
loop-position-preserved c = record {
  value = omega (arith, c.loop-position.invariant.value, c.endpoint_heading_len-total.ensures.value, sum-more (λ position. length (endpoint_heading position)) c.loop-position.position);
  bound = omega (arith, c.endpoint_heading_len-total.ensures.bound);
}
