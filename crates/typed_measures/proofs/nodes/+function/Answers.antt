use Rattle.std.proofs.Common.{map, refl, arith}
use Rattle.typed_tree.specs.Nodes as spec
use Rattle.typed_measures.proofs.Growing.{part_more, part_none}
use Rattle.typed_measures.proofs.nodes.+function.Goals as goal

pub function_statements-loop-statement-preserved : goal.function_statements-loop-statement-preserved
function_statements-loop-statement-preserved t c =
    part_more (λ xs. spec.joined (map spec.function_nodes xs)) (λ xs. spec.joined (map spec.function_nodes xs)) c.args.statements.now c.loop-statement.statement-index c.statement-item.result (spec.function_nodes c.statement-item.result) c.args.nodes.now c.loop-statement.nodes c.function_statement.new.nodes _
    (λ rest. refl) c.loop-statement-test.true c.statement-item.is c.in_ok-function_statement.ensures c.loop-statement.invariant

pub function_statements-returns : goal.function_statements-returns
function_statements-returns t c =
    part_none (λ xs. spec.joined (map spec.function_nodes xs)) c.args.statements.now c.loop-statement.statement-index c.args.nodes.now c.loop-statement.nodes _ refl (omega arith) c.loop-statement.invariant
