use Rattle.std.proofs.Common.{map, refl, subst, arith}
use Rattle.typed_tree.specs.Nodes as spec
use Rattle.typed_measures.specs.Longer.{Longer}
use Rattle.typed_measures.proofs.Growing.{part_more, part_none}
use Rattle.typed_measures.proofs.nodes.functions.Goals as goal

pub loop-function-preserved : goal.loop-function-preserved
loop-function-preserved c =
    part_more (λ xs. spec.joined (map spec.body_nodes xs)) (λ xs. spec.joined (map spec.body_nodes xs)) c.args.functions.now c.loop-function.function-index c.function-item.result (spec.body_nodes c.function-item.result) c.args.nodes.now c.loop-function.nodes c.function_statements.new.nodes _
    (λ rest. refl) c.loop-function-test.true c.function-item.is (subst (λ statements. Longer c.loop-function.nodes c.function_statements.new.nodes (spec.joined (map spec.function_nodes statements))) c.as_slice.ensures c.in_ok-function_statements.ensures) c.loop-function.invariant

pub returns : goal.returns
returns c =
    part_none (λ xs. spec.joined (map spec.body_nodes xs)) c.args.functions.now c.loop-function.function-index c.args.nodes.now c.loop-function.nodes _ refl (omega arith) c.loop-function.invariant
