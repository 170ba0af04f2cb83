use Rattle.std.proofs.Common.{◌≡◌, arith, length}
use Rattle.hypergraph.specs.SetValue.{endpoint_at}
use Rattle.hypergraph.specs.Sets.{set_at}
use Rattle.ring_words.specs.Cell.{text}
use Rattle.set_tables.proofs.Sums.{sum-more}
use Rattle.set_tables.proofs.lengths.element_endpoints_len.Goals as goal

pub loop-position-preserved : goal.loop-position-preserved
loop-position-preserved c =
    let value = set_at c.args.sets.now c.args.set in
    let is : c.from.result ≡ endpoint_at value c.args.element c.loop-position.position = cc (c.from.ensures, c.end.ensures.value) in
    let cell = rw is at c.cell_len-total.ensures.value in
    record {
      value = omega (arith, c.loop-position.invariant.value, cell, sum-more (λ position. length (text 0 (endpoint_at value c.args.element position))) c.loop-position.position);
      bound = omega (arith, c.cell_len-total.ensures.bound.1);
    }
