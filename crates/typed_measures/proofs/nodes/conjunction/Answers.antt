use Rattle.std.proofs.Common.{map, refl, subst, arith}
use Rattle.typed_tree.specs.Nodes as spec
use Rattle.typed_measures.specs.Longer.{Longer}
use Rattle.typed_measures.proofs.Growing.{part_more, part_none}
use Rattle.typed_measures.proofs.nodes.conjunction.Goals as goal

pub loop-part-preserved : goal.loop-part-preserved
loop-part-preserved c =
    part_more (λ xs. spec.joined (map spec.comparison_nodes xs)) (λ xs. spec.joined (map spec.comparison_nodes xs)) _ c.loop-part.part-index c.part-item.result (spec.comparison_nodes c.part-item.result) c.args.nodes.now c.loop-part.nodes c.comparison.new.nodes _
    (λ rest. refl) c.loop-part-test.true c.part-item.is c.in_ok-comparison.ensures c.loop-part.invariant

pub returns : goal.returns
returns c =
    subst (λ parts. Longer c.args.nodes.now c.loop-part.nodes (spec.joined (map spec.comparison_nodes parts))) c.as_slice-part-items.ensures
    (part_none (λ xs. spec.joined (map spec.comparison_nodes xs)) _ c.loop-part.part-index c.args.nodes.now c.loop-part.nodes _ refl (omega arith) c.loop-part.invariant)
