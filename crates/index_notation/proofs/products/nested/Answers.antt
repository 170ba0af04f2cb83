use Rattle.std.proofs.Common.{arith, length, ap, ◌∙◌}
use Rattle.std.proofs.lemmas.List.{length_push}
use Rattle.chain_forms.specs.Lowering.{nested}
use Rattle.index_notation.proofs.Factors.{one_nested, all_nested}
use Rattle.index_notation.proofs.products.nested.Goals as goal

pub loop-preserved : goal.loop-preserved
loop-preserved c = record {
  value =
      one_nested c.args.line (nested c.args.line c.args.factors) c.loop.value c.in_ok-value.value c.in-Some-pop.e c.loop.left c.pop-in-loop.new.self
      c.in-Some-pop.ensures c.in_ok-value.ensures c.loop.invariant.value;
  count = omega (arith, ap length c.in-Some-pop.ensures ∙ length_push c.pop-in-loop.new.self c.in-Some-pop.e, c.loop.invariant.count);
}

pub returns : goal.returns
returns c = all_nested c.args.line (nested c.args.line c.args.factors) c.loop.value c.loop.left (omega (arith, c.loop.invariant.count)) c.loop.invariant.value
